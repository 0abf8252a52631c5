-- A run's points, written one after the other while the encoder's state goes on.
use Rattle.std.specs.Prelude.{◌≡◌, refl, List, [], ◌∷◌, ◌++◌, ℕ, zero, suc, ◌+◌, ◌-◌, ◌*◌, ◌/◌, ◌%◌, ◌<◌, ◌≤◌, Float, length, get_or, take, drop, set}
use Rattle.std.proofs.Common.{sym, ◌∙◌, ap, append-nil, zero-add, add-one, length-set, length-drop, drop_of_length-le, take_all}
use native.Mathlib.Omega.{arith}
use Rattle.std.specs.Float.{nan}
use Rattle.std.specs.Float.Ieee.{neg}
use Rattle.trellis.specs.Lists.{upto, laid}
use Rattle.trellis.specs.Code.{label, moved, state_at, isdb}
use Rattle.trellis.specs.Step.{term}
use Rattle.isdbs_combination.specs.declared.Combination.{Combination}
use Rattle.isdbs_combination.specs.declared.Combination.TheVariants.{Bpsk1_2, Qpsk1_2, Qpsk2_3, Qpsk3_4, Qpsk5_6, Qpsk7_8, Tc8psk2_3}
use Rattle.isdbs_combination.specs.declared.Modulation.TheVariants.{Bpsk, Tc8psk}
use Rattle.isdbs_combination.specs.Combinations.{modulation_of}
use Rattle.isdbs_points.specs.declared.Mapping.{Mapping}
use Rattle.isdbs_points.specs.Points.{one64, bpsk_of, psk8_of, subset}
use Rattle.isdbs_points.specs.Layout.{load_bit}
use Rattle.isdbs_points.specs.Frame.{coded, input_in, label_at, point_by}
use Rattle.isdbs_points.specs.Pieces.{piece, piece_inputs, piece_label, piece_symbols, mapped}
use Rattle.encode_run.specs.Encoded.{piece_point, PieceEncoded, register_at}
use Rattle.isdbs_points.specs.StateLaws.{Follow, state_shift, label_shift}
use Rattle.trellis.specs.LaidLaws.{upto_cong, laid_upto, laid_part, length_laid_upto}
use Rattle.trellis.specs.ListLaws.{get_d_upto}
use Rattle.trellis.specs.Isdb
use Rattle.trellis.proofs.RunLaws.{output_bit_lem}

-- a part from a on, written at its front and put back
pub tail_back : {A : Type 0} (a : ℕ) (l f : List A) {p : List A} → a ≤ length l → p ≡ laid f (take (length l - a) (drop a l))
    → take a l ++ (p ++ drop (length l - a) (drop a l)) ≡ take a l ++ laid f (drop a l)
tail_back {A} a l f {p} h e =
    let n : length (drop a l) ≤ length l - a = rw (length-drop a l) (omega arith) in
    rw (drop_of_length-le (drop a l) {i = length l - a} n, append-nil p, e, take_all (length l - a) (drop a l) n)

-- the first j values of f and g have been written over the lent parts
pub record Put (f g : ℕ → Float) (re₀ im₀ re im : List Float) (j : ℕ) : Type 0 where
  pub re_is : re ≡ laid (upto f j) re₀
  pub im_is : im ≡ laid (upto g j) im₀
  pub re_length : length re ≡ length re₀
  pub im_length : length im ≡ length im₀

pub put_none : (f g : ℕ → Float) (re im : List Float) → Put f g re im re im 0
unfolding upto
put_none f g re im = record { re_is = refl; im_is = refl; re_length = refl; im_length = refl }

module _ {f g : ℕ → Float} {re₀ im₀ re im : List Float} {j : ℕ} where
  -- one point more
  pub put_one : Put f g re₀ im₀ re im j → (v w : Float) → j < length re → j < length im → v ≡ f j → w ≡ g j → Put f g re₀ im₀ (set re j v) (set im j w) (j + 1)
  put_one r v w hv hw ev ew =
      record {
        re_is = ap (λ (x : List Float). set x j v) r.re_is ∙ laid_upto f j re₀ v (rw r.re_length at hv) ev;
        im_is = ap (λ (x : List Float). set x j w) r.im_is ∙ laid_upto g j im₀ w (rw r.im_length at hw) ew;
        re_length = length-set re j v ∙ r.re_length;
        im_length = length-set im j w ∙ r.im_length;
      }

  -- n points more, written over the part from j on
  pub put_part : Put f g re₀ im₀ re im j → (f' g' : ℕ → Float) (n : ℕ) (re' im' : List Float) → j + n ≤ length re₀ → j + n ≤ length im₀
      → re' ≡ take j re ++ laid (upto f' n) (drop j re) → im' ≡ take j im ++ laid (upto g' n) (drop j im)
      → ((i : ℕ) → i < n → f' i ≡ f (j + i)) → ((i : ℕ) → i < n → g' i ≡ g (j + i)) → Put f g re₀ im₀ re' im' (j + n)
  put_part r f' g' n re' im' hr hi er ei ef eg =
      let a : re' ≡ laid (upto f (j + n)) re₀ =
      er ∙ ap (λ (x : List Float). take j x ++ laid (upto f' n) (drop j x)) r.re_is ∙ laid_part f f' j n re₀ ef in
      let b : im' ≡ laid (upto g (j + n)) im₀ =
      ei ∙ ap (λ (x : List Float). take j x ++ laid (upto g' n) (drop j x)) r.im_is ∙ laid_part g g' j n im₀ eg in
      record {
        re_is = a;
        im_is = b;
        re_length = ap length a ∙ length_laid_upto f (j + n) re₀ hr;
        im_length = ap length b ∙ length_laid_upto g (j + n) im₀ hi;
      }

-- k of the inputs us have been encoded from the state s
pub record Going (us : List ℕ) (s : ℕ) (f g : ℕ → Float) (re₀ im₀ re im : List Float) (state k j : ℕ) : Type 0 where
  pub small : state < 64
  pub state_is : state ≡ state_at 32 s us k
  pub points : Put f g re₀ im₀ re im j

pub going_start : (us : List ℕ) (s : ℕ) (f g : ℕ → Float) (re im : List Float) → s < 64 → Going us s f g re im re im s 0 0
unfolding state_at
going_start us s f g re im h = record { small = h; state_is = refl; points = put_none f g re im }

module _ {us : List ℕ} {s : ℕ} {f g : ℕ → Float} {re₀ im₀ re im : List Float} {state k j : ℕ} where
  -- a step of the encoder
  pub going_step : Going us s f g re₀ im₀ re im state k j → (next : ℕ) → next < 64 → next ≡ moved 32 (get_or us k 0) state → Going us s f g re₀ im₀ re im next (k + 1) j
  unfolding state_at
  going_step r next h e = record { small = h; state_is = rw (add-one k, e, r.state_is); points = r.points }

  -- a point
  pub going_put : Going us s f g re₀ im₀ re im state k j → (v w : Float) → j < length re → j < length im → v ≡ f j → w ≡ g j
      → Going us s f g re₀ im₀ (set re j v) (set im j w) state k (j + 1)
  going_put r v w hv hw ev ew = record { small = r.small; state_is = r.state_is; points = put_one r.points v w hv hw ev ew }

  pub going_as : {j' : ℕ} → Going us s f g re₀ im₀ re im state k j → j ≡ j' → Going us s f g re₀ im₀ re im state k j'
  going_as r e = rw (← e) r

-- the same points by other functions
pub put_cong : {f g f' g' : ℕ → Float} {re₀ im₀ re im : List Float} {j : ℕ} → Put f g re₀ im₀ re im j
    → ((i : ℕ) → i < j → f i ≡ f' i) → ((i : ℕ) → i < j → g i ≡ g' i) → Put f' g' re₀ im₀ re im j
put_cong {f} {g} {f'} {g'} {re₀} {im₀} {re} {im} {j} r ef eg =
    record {
      re_is = r.re_is ∙ ap (λ (x : List Float). laid x re₀) (upto_cong f f' j ef);
      im_is = r.im_is ∙ ap (λ (x : List Float). laid x im₀) (upto_cong g g' j eg);
      re_length = r.re_length;
      im_length = r.im_length;
    }

pub going_cong : {us : List ℕ} {s : ℕ} {f g f' g' : ℕ → Float} {re₀ im₀ re im : List Float} {state k j : ℕ} → Going us s f g re₀ im₀ re im state k j
    → ((i : ℕ) → i < j → f i ≡ f' i) → ((i : ℕ) → i < j → g i ≡ g' i) → Going us s f' g' re₀ im₀ re im state k j
going_cong r ef eg = record { small = r.small; state_is = r.state_is; points = put_cong r.points ef eg }

-- more steps, of the inputs vs, and n points more, written over the part from j on
module _ {us : List ℕ} {s : ℕ} {f g : ℕ → Float} {re₀ im₀ re im : List Float} {state k j : ℕ} (r : Going us s f g re₀ im₀ re im state k j) (vs : List ℕ) (p : ℕ) (w : Follow us k vs p) where
  pub label_more : (i : ℕ) → i < p → label_at state vs i ≡ label_at s us (k + i)
  label_more i l = ap (λ (x : ℕ). label_at x vs i) r.state_is ∙ sym (label_shift s us k vs p w i l)

  pub register_more : (i : ℕ) → i < p → register_at state vs i ≡ register_at s us (k + i)
  register_more i l =
      ap (λ (x : ℕ). register_at x vs i) r.state_is
      ∙ sym (rw (w i l, state_shift 32 s us k vs i (λ o q. w o (omega arith))))

  pub going_part : (next : ℕ) → next < 64 → next ≡ state_at 32 state vs p
      → (f' g' : ℕ → Float) (n : ℕ) (re' im' : List Float) → j + n ≤ length re₀ → j + n ≤ length im₀
      → re' ≡ take j re ++ laid (upto f' n) (drop j re) → im' ≡ take j im ++ laid (upto g' n) (drop j im)
      → ((i : ℕ) → i < n → f' i ≡ f (j + i)) → ((i : ℕ) → i < n → g' i ≡ g (j + i)) → Going us s f g re₀ im₀ re' im' next (k + p) (j + n)
  going_part next h e f' g' n re' im' hr hi er ei ef eg =
      record {
        small = h;
        state_is = e ∙ ap (λ (x : ℕ). state_at 32 x vs p) r.state_is ∙ sym (state_shift 32 s us k vs p w);
        points = put_part r.points f' g' n re' im' hr hi er ei ef eg;
      }

-- all of a run
module _ (c : Combination) (m : Mapping) (load : List ℕ) (bit n s : ℕ) {re₀ im₀ re im : List Float} {state k j : ℕ} where
  pub going_end : Going (piece_inputs c load bit n) s (λ j. (piece_point c m load bit n s j).re) (λ j. (piece_point c m load bit n s j).im) re₀ im₀ re im state k j
      → k ≡ n → j ≡ piece_symbols c n → PieceEncoded c m load bit n s state re₀ re im₀ im
  going_end r e d =
      record { small = r.small; state_is = rw e at r.state_is; re_is = rw d at r.points.re_is; im_is = rw d at r.points.im_is }

-- ---- the inputs and labels of a run
module _ (c : Combination) (load : List ℕ) (bit n s k : ℕ) (h : k < n) where
  abbrev at_k : ℕ
  at_k = load_bit load (bit + coded (modulation_of c) k)

  pub piece_input : get_or (piece_inputs c load bit n) k 0 ≡ at_k
  piece_input = get_d_upto (input_in load (piece c bit)) 0 n k h

  pub piece_label_lem : (l state : ℕ) → state ≡ state_at 32 s (piece_inputs c load bit n) k → l ≡ Isdb.labels at_k state → l ≡ piece_label c load bit n s k
  piece_label_lem l state e d = rw (piece_input, ← e) d

pub label_small : (s : ℕ) (us : List ℕ) (k : ℕ) → label_at s us k < 4
unfolding label
label_small s us k =
    let u = get_or us k 0 in
    let t = state_at 32 s us k in
    omega (arith, output_bit_lem isdb 0o171 u t, output_bit_lem isdb 0o133 u t)

-- ---- the points of BPSK and TC8PSK
module _ (m : Mapping) (load : List ℕ) (bit n s k : ℕ) where
  pub bpsk_x : piece_point Bpsk1_2 m load bit n s (2 * k) ≡ mapped m (bpsk_of (piece_label Bpsk1_2 load bit n s k / 2))
  unfolding piece_point point_by
  bpsk_x =
      let e1 : 2 * k % 2 ≡ 0 = omega arith in
      let e2 : 0 + (2 * k / 2 * 1 + 0) ≡ k = omega arith in
      rw (e1, e2)

  pub bpsk_y : piece_point Bpsk1_2 m load bit n s (2 * k + 1) ≡ mapped m (bpsk_of (piece_label Bpsk1_2 load bit n s k % 2))
  unfolding piece_point point_by
  bpsk_y =
      let e1 : (2 * k + 1) % 2 ≡ 1 = omega arith in
      let e2 : 0 + ((2 * k + 1) / 2 * 1 + 0) ≡ k = omega arith in
      rw (e1, e2)

  pub tc8psk_point : piece_point Tc8psk2_3 m load bit n s k
      ≡ mapped m (psk8_of (4 * load_bit load (bit + 2 * k) + subset m.tc8psk_c1_is_y (piece_label Tc8psk2_3 load bit n s k)))
  unfolding piece_point point_by
  tc8psk_point = rw (zero-add k)

-- the sign of a BPSK point
pub sign_at : (b : ℕ) → b < 2 → get_or (one64 ∷ neg one64 ∷ []) b nan ≡ term b one64
sign_at zero h = refl
sign_at (suc zero) h = refl
sign_at (suc (suc b)) h = absurd (omega arith)

-- ---- the one combination of a modulation
pub is_bpsk_lem : (c : Combination) → modulation_of c ≡ Bpsk → c ≡ Bpsk1_2
is_bpsk_lem Bpsk1_2 e = refl
is_bpsk_lem Qpsk1_2 e = cc
is_bpsk_lem Qpsk2_3 e = cc
is_bpsk_lem Qpsk3_4 e = cc
is_bpsk_lem Qpsk5_6 e = cc
is_bpsk_lem Qpsk7_8 e = cc
is_bpsk_lem Tc8psk2_3 e = cc
