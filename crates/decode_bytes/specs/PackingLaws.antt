-- A byte more of a run.
use Rattle.std.specs.Prelude.{◌≡◌, refl, List, ℕ, ◌+◌, ◌-◌, ◌*◌, ◌/◌, ◌%◌, ◌<◌, ◌≤◌, ◌^◌, length, get_or, take, drop, set, Float}
use Rattle.std.proofs.Common.{sym, ◌∙◌, ap, length-drop, get_or-drop}
use native.Mathlib.Omega.{arith}
use Rattle.std.proofs.Math.Nat.{zero-add}
use Rattle.std.specs.Float.{nan}
use Rattle.trellis.specs.Lists.{upto, laid}
use Rattle.trellis.specs.Code.{state_at}
use Rattle.isdbs_combination.specs.declared.Combination.{Combination}
use Rattle.isdbs_combination.specs.declared.Combination.TheVariants.{Tc8psk2_3}
use Rattle.isdbs_combination.specs.declared.Modulation.{Modulation}
use Rattle.isdbs_combination.specs.declared.Modulation.TheVariants.{Bpsk, Qpsk}
use Rattle.isdbs_combination.specs.Combinations.{modulation_of}
use Rattle.isdbs_plan.specs.declared.Run.{Run}
use Rattle.isdbs_points.specs.declared.Mapping.{Mapping}
use Rattle.isdbs_points.specs.Layout.{byte_of, segment_of}
use Rattle.isdbs_points.specs.Pieces.{piece}
use Rattle.isdbs_points.specs.Frame.{label_at}
use Rattle.isdbs_metrics.specs.Reading.{bit_by, bit_in, received}
use Rattle.trellis.specs.LaidLaws.{laid_upto, upto_cong, length_laid_upto}
use Rattle.isdbs_points.specs.StateLaws.{state_shift, label_shift}
use Rattle.isdbs_metrics.specs.Steps.{Bits, piece_bit}
use Rattle.isdbs_metrics.specs.FrameRunLaws.{tail_is}
use Rattle.isdbs_metrics.specs.DigitLaws.{byte_cong}
use Rattle.decode_bytes.specs.Bytes.{received_with}
use Rattle.decode_bytes.specs.PartLaws.{bit_part}

-- the state after n more inputs
pub state_more : (s : ℕ) (us : List ℕ) (a n b x y : ℕ) → b ≡ a + n → x ≡ state_at 32 s us a → y ≡ state_at 32 x (drop a us) n → y ≡ state_at 32 s us b
state_more s us a n b x y e p q =
    q ∙ ap (λ (z : ℕ). state_at 32 z (drop a us) n) p ∙ sym (state_shift 32 s us a (drop a us) n (λ i l. sym (get_or-drop a us i 0))) ∙ ap (λ (z : ℕ). state_at 32 s us z) (sym e)

-- byte j is written after those before it
pub byte_more : (f : ℕ → ℕ) (j v : ℕ) (bytes bytes₀ : List ℕ) → j < length bytes₀ → bytes ≡ laid (upto f j) bytes₀ → v ≡ f j → set bytes j v ≡ laid (upto f (j + 1)) bytes₀
byte_more f j v bytes bytes₀ h e q = ap (λ (z : List ℕ). set z j v) e ∙ laid_upto f j bytes₀ v h q

pub plain_is : (us : List ℕ) (j v : ℕ) → v ≡ byte_of (λ i. get_or (drop (8 * j) us) i 0) → v ≡ byte_of (λ i. get_or us (8 * j + i) 0)
plain_is us j v e = e ∙ byte_cong (λ i. get_or (drop (8 * j) us) i 0) (λ i. get_or us (8 * j + i) 0) (λ i l. get_or-drop (8 * j) us i 0)

-- 4 steps from step 4 j on, as a run by themselves
abbrev from : ℕ → Run
from j =
    record {
      combination = Tc8psk2_3;
      slot_start = 0;
      slot_end = 0;
      valid_slots = 0;
      symbol_start = 4 * j;
      symbol_end = 0;
    }

module _ (re im : List Float) (m : Mapping) (s : ℕ) (us : List ℕ) (j : ℕ) where
  shifted : (i : ℕ) → bit_in (received_with re im m (λ c. nan)) (label_at s us) us (segment_of (from j) (4 * j) 0) i ≡ piece_bit Tc8psk2_3 re im m s us (8 * j + i)
  unfolding bit_by
  shifted i =
      let e : (8 * j + i) % 2 ≡ i % 2 = omega arith in
      let q : (8 * j + i) / 2 ≡ 4 * j + i / 2 = omega arith in
      rw (e, q, zero-add (4 * j + i / 2))

  pub tc8psk_is : (x v : ℕ) → x ≡ state_at 32 s us (4 * j) → v ≡ byte_of (piece_bit Tc8psk2_3 (drop (4 * j) re) (drop (4 * j) im) m x (drop (4 * j) us))
      → v ≡ byte_of (λ i. piece_bit Tc8psk2_3 re im m s us (8 * j + i))
  tc8psk_is x v e q =
      q ∙ byte_cong (piece_bit Tc8psk2_3 (drop (4 * j) re) (drop (4 * j) im) m x (drop (4 * j) us)) (λ i. piece_bit Tc8psk2_3 re im m s us (8 * j + i))
      (λ i l. bit_part re im m (λ c. nan) (from j) (4 * j) 0 x (label_at s us) us i
      (λ o. ap (λ (z : ℕ). label_at z (drop (4 * j) us) (i / 2)) e ∙ sym (label_shift s us (4 * j) (drop (4 * j) us) 4 (λ h g. sym (get_or-drop (4 * j) us h 0)) (i / 2) (omega arith)))
      ∙ shifted i)

-- ---- the bytes of a run of TC8PSK
-- byte j of the run
abbrev pub tc8psk_byte : List Float → List Float → Mapping → ℕ → List ℕ → ℕ → ℕ
tc8psk_byte re im m s us j = byte_of (λ i. piece_bit Tc8psk2_3 re im m s us (8 * j + i))

-- the first j bytes are written, and there is room for n
pub record Packing (re im : List Float) (m : Mapping) (us : List ℕ) (n s : ℕ) (bytes₀ bytes : List ℕ) (state j : ℕ) : Type 0 where
  pub few : n < 2 ^ 16
  pub re_fits : 4 * n ≤ length re
  pub im_fits : 4 * n ≤ length im
  pub bits_fit : 4 * n ≤ length us
  pub bits : Bits us (4 * n)
  pub bytes_fit : n ≤ length bytes₀
  pub done : j ≤ n
  pub small : state < 64
  pub state_is : state ≡ state_at 32 s us (4 * j)
  pub same : length bytes ≡ length bytes₀
  pub bytes_are : bytes ≡ laid (upto (tc8psk_byte re im m s us) j) bytes₀

-- the bounds that writing byte j asks
pub record PackingBounds (re im : List Float) (us bytes : List ℕ) (j : ℕ) : Type 0 where
  pub from_small : 4 * j < 2 ^ 64
  pub scaled_small : 4 * j * 8 < 2 ^ 64
  pub next_small : j + 1 < 2 ^ 64
  pub re_start : 4 * j ≤ length re
  pub im_start : 4 * j ≤ length im
  pub bits_start : 4 * j ≤ length us
  pub within : j < length bytes

module _ {re im : List Float} {m : Mapping} {us : List ℕ} {n s : ℕ} {bytes₀ : List ℕ} where
  pub packing_first : s < 64 → n < 2 ^ 16 → 4 * n ≤ length re → 4 * n ≤ length im → 4 * n ≤ length us → Bits us (4 * n) → n ≤ length bytes₀ → Packing re im m us n s bytes₀ bytes₀ s 0
  unfolding upto state_at
  packing_first hs few gr gi gu b gb =
      record {
        few = few;
        re_fits = gr;
        im_fits = gi;
        bits_fit = gu;
        bits = b;
        bytes_fit = gb;
        done = omega arith;
        small = hs;
        state_is = refl;
        same = refl;
        bytes_are = refl;
      }

  pub packing_bounds : {bytes : List ℕ} {state j : ℕ} → Packing re im m us n s bytes₀ bytes state j → j < n → PackingBounds re im us bytes j
  packing_bounds w h =
      let few = w.few in
      let gr = w.re_fits in
      let gi = w.im_fits in
      let gu = w.bits_fit in
      let gb = w.bytes_fit in
      let e = w.same in
      record {
        from_small = omega arith;
        scaled_small = omega arith;
        next_small = omega arith;
        re_start = omega arith;
        im_start = omega arith;
        bits_start = omega arith;
        within = omega arith;
      }

  -- what a byte's packing asks of the parts from its first symbol and step on
  pub packing_asks : {bytes : List ℕ} {state j : ℕ} → Packing re im m us n s bytes₀ bytes state j → j < n
      → (state < 64) × (4 ≤ length (take (length re - 4 * j) (drop (4 * j) re))) × (4 ≤ length (take (length im - 4 * j) (drop (4 * j) im))) × (4 ≤ length (take (length us - 4 * j) (drop (4 * j) us)))
      × Bits (take (length us - 4 * j) (drop (4 * j) us)) 4
  packing_asks {j = j} w h =
      let gr = w.re_fits in
      let gi = w.im_fits in
      let gu = w.bits_fit in
      let er = length-drop (4 * j) re in
      let ei = length-drop (4 * j) im in
      let eu = length-drop (4 * j) us in
      rw (tail_is (4 * j) us, tail_is (4 * j) re, tail_is (4 * j) im)
      (w.small, omega arith, omega arith, omega arith, λ i l. rw (get_or-drop (4 * j) us i 0) (w.bits (4 * j + i) (omega arith)))

  pub packing_next : {bytes : List ℕ} {state j v x : ℕ} → Packing re im m us n s bytes₀ bytes state j → j < n
      → v ≡ byte_of (piece_bit Tc8psk2_3 (take (length re - 4 * j) (drop (4 * j) re)) (take (length im - 4 * j) (drop (4 * j) im)) m state (take (length us - 4 * j) (drop (4 * j) us)))
      → x ≡ state_at 32 state (take (length us - 4 * j) (drop (4 * j) us)) 4 → x < 64 → Packing re im m us n s bytes₀ (set bytes j v) x (j + 1)
  packing_next {bytes} {state} {j} {v} {x} w h ev ex small =
      let gb = w.bytes_fit in
      let v' = rw (tail_is (4 * j) us, tail_is (4 * j) re, tail_is (4 * j) im) at ev in
      let x' = rw (tail_is (4 * j) us) at ex in
      let all : set bytes j v ≡ laid (upto (tc8psk_byte re im m s us) (j + 1)) bytes₀ =
      byte_more (tc8psk_byte re im m s us) j v bytes bytes₀ (omega arith) w.bytes_are (tc8psk_is re im m s us j state v w.state_is v') in
      record {
        few = w.few;
        re_fits = w.re_fits;
        im_fits = w.im_fits;
        bits_fit = w.bits_fit;
        bits = w.bits;
        bytes_fit = gb;
        done = omega arith;
        small = small;
        state_is = state_more s us (4 * j) 4 (4 * (j + 1)) state x (omega arith) w.state_is x';
        same = ap length all ∙ length_laid_upto (tc8psk_byte re im m s us) (j + 1) bytes₀ (omega arith);
        bytes_are = all;
      }

  pub packing_last : {bytes : List ℕ} {state j : ℕ} → Packing re im m us n s bytes₀ bytes state j → n ≤ j
      → (bytes ≡ laid (upto (tc8psk_byte re im m s us) n) bytes₀) × (state ≡ state_at 32 s us (4 * n)) × (state < 64)
  packing_last {j = j} w h =
      let d = w.done in
      let e : j ≡ n = omega arith in
      (rw e at w.bytes_are, rw e at w.state_is, w.small)

-- ---- a run by its modulation
bit_of_lem : (c : Combination) (o : Modulation) (re im : List Float) (m : Mapping) (s : ℕ) (us : List ℕ) (i : ℕ) → modulation_of c ≡ o
    → bit_by o (received re im m nan) (label_at s us) us (piece c 0) i ≡ get_or us i 0
    → piece_bit c re im m s us i ≡ get_or us i 0
bit_of_lem c o re im m s us i e q = ap (λ (z : Modulation). bit_by z (received re im m nan) (label_at s us) us (piece c 0) i) e ∙ q

bpsk_bit : (c : Combination) (re im : List Float) (m : Mapping) (s : ℕ) (us : List ℕ) (i : ℕ) → modulation_of c ≡ Bpsk → piece_bit c re im m s us i ≡ get_or us i 0
unfolding bit_by
bpsk_bit c re im m s us i e = bit_of_lem c Bpsk re im m s us i e (rw (zero-add i))

qpsk_bit : (c : Combination) (re im : List Float) (m : Mapping) (s : ℕ) (us : List ℕ) (i : ℕ) → modulation_of c ≡ Qpsk → piece_bit c re im m s us i ≡ get_or us i 0
unfolding bit_by
qpsk_bit c re im m s us i e = bit_of_lem c Qpsk re im m s us i e (rw (zero-add i))

plain_bytes_lem : (c : Combination) (re im : List Float) (m : Mapping) (s : ℕ) (us : List ℕ) (n : ℕ) → ((i : ℕ) → piece_bit c re im m s us i ≡ get_or us i 0)
    → upto (λ j. byte_of (λ i. get_or us (8 * j + i) 0)) n ≡ upto (λ j. byte_of (λ i. piece_bit c re im m s us (8 * j + i))) n
plain_bytes_lem c re im m s us n h =
    upto_cong (λ j. byte_of (λ i. get_or us (8 * j + i) 0)) (λ j. byte_of (λ i. piece_bit c re im m s us (8 * j + i))) n
    (λ j l. byte_cong (λ i. get_or us (8 * j + i) 0) (λ i. piece_bit c re im m s us (8 * j + i)) (λ i g. sym (h (8 * j + i))))

pub bpsk_bytes : (c : Combination) (re im : List Float) (m : Mapping) (s : ℕ) (us : List ℕ) (n : ℕ) → modulation_of c ≡ Bpsk
    → upto (λ j. byte_of (λ i. get_or us (8 * j + i) 0)) n ≡ upto (λ j. byte_of (λ i. piece_bit c re im m s us (8 * j + i))) n
bpsk_bytes c re im m s us n e = plain_bytes_lem c re im m s us n (λ i. bpsk_bit c re im m s us i e)

pub qpsk_bytes : (c : Combination) (re im : List Float) (m : Mapping) (s : ℕ) (us : List ℕ) (n : ℕ) → modulation_of c ≡ Qpsk
    → upto (λ j. byte_of (λ i. get_or us (8 * j + i) 0)) n ≡ upto (λ j. byte_of (λ i. piece_bit c re im m s us (8 * j + i))) n
qpsk_bytes c re im m s us n e = plain_bytes_lem c re im m s us n (λ i. qpsk_bit c re im m s us i e)
