-- The bytes of a frame run by run.
use Rattle.std.specs.Prelude.{◌≡◌, refl, List, [], ◌++◌, ℕ, zero, suc, ◌+◌, ◌-◌, ◌*◌, ◌/◌, ◌<◌, ◌≤◌, ◌^◌, length, get_or, take, drop, Float}
use Rattle.std.proofs.Common.{sym, ◌∙◌, ap, append-nil, arith, zero-add, length-drop, drop_of_length-le, get_or-drop}
use Rattle.std.specs.Float.{nan}
use borrow.Rule.Slice.PartMut.{mid_of, put_mid}
use Rattle.trellis.specs.Lists.{upto, laid}
use Rattle.trellis.specs.Code.{state_at}
use Rattle.isdbs_combination.specs.declared.Combination.{Combination}
use Rattle.isdbs_combination.specs.declared.Combination.TheVariants.{Bpsk1_2, Qpsk1_2, Qpsk2_3, Qpsk3_4, Qpsk5_6, Qpsk7_8, Tc8psk2_3}
use Rattle.isdbs_plan.specs.declared.Run.{Run}
use Rattle.isdbs_tables.specs.declared.Table.{Table}
use Rattle.isdbs_combination.specs.Combinations.{slot_steps, slot_bits, slot_symbols}
use Rattle.isdbs_plan.specs.RunsOf.{steps_of, steps_in, valid_in, frame_steps, load_bytes, no_run}
use Rattle.isdbs_points.specs.declared.Mapping.{Mapping}
use Rattle.isdbs_points.specs.Layout.{byte_of, segments_from, among}
use Rattle.isdbs_points.specs.Frame.{label_at}
use Rattle.isdbs_metrics.specs.Reading.{Received, bit_in}
use Rattle.trellis.specs.LaidLaws.{laid_part, length_laid_upto}
use Rattle.isdbs_points.specs.StateLaws.{label_shift}
use Rattle.isdbs_metrics.specs.Steps.{piece_bit, Covers, Bits, PackRoom, steps_of_bytes}
use Rattle.decode_bytes.specs.Bytes.{received_with, byte_at}
use Rattle.isdbs_metrics.specs.DigitLaws.{byte_cong}
use Rattle.isdbs_points.specs.AmongLaws.{steps_to, valid_to, among_bit}
use Rattle.decode_bytes.specs.PartLaws.{bit_part}
use Rattle.decode_bytes.specs.PackingLaws.{state_more}
use Rattle.isdbs_metrics.specs.FrameRunLaws.{RunList, RunAt, Listed, tail_is, all_valid, part_covers, next_valid, valid_fit, run_first, run_next}
use Rattle.isdbs_frame.specs.Frame.{main_symbols, slot_bytes}

-- byte j of a list of runs
abbrev pub list_byte : List Run → Received → ℕ → List ℕ → ℕ → ℕ
list_byte rs r s us j = byte_of (λ i. among (λ g. g.bit) (λ g. g.bits) 0 (bit_in r (label_at s us) us) (segments_from rs 0 0) (8 * j + i))

-- a slice whose tail was lent, and written at its front
pub written_tail : {A : Type 0} (a : ℕ) (l p f : List A) → a ≤ length l → p ≡ laid f (mid_of a (length l - a) l) → put_mid a (length l - a) l p ≡ take a l ++ laid f (drop a l)
written_tail {A} a l p f h e =
    let none : drop (length l - a) (drop a l) ≡ [] = drop_of_length-le (drop a l) {i = length l - a} (rw (length-drop a l) (omega arith)) in
    ap (λ (x : List A). take a l ++ (p ++ x)) none ∙ ap (λ (x : List A). take a l ++ x) (append-nil p ∙ e ∙ ap (λ (x : List A). laid f x) (tail_is a l))

-- the steps that a run's bytes take
pub bytes_steps : (c : Combination) (v : ℕ) → steps_of_bytes c (slot_bytes * v) ≡ slot_steps c * v
bytes_steps Bpsk1_2 v = omega arith
bytes_steps Qpsk1_2 v = omega arith
bytes_steps Qpsk2_3 v = omega arith
bytes_steps Qpsk3_4 v = omega arith
bytes_steps Qpsk5_6 v = omega arith
bytes_steps Qpsk7_8 v = omega arith
bytes_steps Tc8psk2_3 v = omega arith

all_below : (n len : ℕ) → ((k : ℕ) → k < n → k < len) → n ≤ len
all_below zero len h = omega arith
all_below (suc n) len h = let l = h n (omega arith) in omega arith

pub pack_room : (c : Combination) (v re im len : ℕ) (us : List ℕ) → Covers c (slot_steps c * v) re → Covers c (slot_steps c * v) im → slot_steps c * v ≤ len → Bits us (slot_steps c * v)
    → PackRoom c (slot_bytes * v) re im len us
pack_room Bpsk1_2 v re im len us p q l b = (omega arith, λ i h. b i (omega arith))
pack_room Qpsk1_2 v re im len us p q l b = (omega arith, λ i h. b i (omega arith))
pack_room Qpsk2_3 v re im len us p q l b = (omega arith, λ i h. b i (omega arith))
pack_room Qpsk3_4 v re im len us p q l b = (omega arith, λ i h. b i (omega arith))
pack_room Qpsk5_6 v re im len us p q l b = (omega arith, λ i h. b i (omega arith))
pack_room Qpsk7_8 v re im len us p q l b = (omega arith, λ i h. b i (omega arith))
pack_room Tc8psk2_3 v re im len us p q l b =
    let x = all_below (slot_symbols * v) re p in
    let y = all_below (slot_symbols * v) im q in
    (omega arith, omega arith, omega arith, λ i h. b i (omega arith))

-- byte j of run i by itself, from the state x before it
abbrev pub run_byte : List Run → ℕ → List Float → List Float → Mapping → List ℕ → ℕ → ℕ → ℕ → ℕ
run_byte list i re im m us step x j =
    let r = get_or list i no_run in
    byte_of (λ k. piece_bit r.combination (take (length re - r.symbol_start) (drop r.symbol_start re)) (take (length im - r.symbol_start) (drop r.symbol_start im)) m x (take (length us - step) (drop step us)) (8 * j + k))

module _ (count : ℕ) (list : List Run) (l : RunList count list) (i : ℕ) (h : i < count) (re im : List Float) (m : Mapping) (s : ℕ) (us : List ℕ) (step : ℕ) where
  abbrev r : Run
  r = get_or list i no_run

  abbrev rs : List Run
  rs = take count list

  -- what a run's packing asks
  pub run_room : main_symbols ≤ length re → main_symbols ≤ length im → step + steps_of r ≤ length us → Bits us (step + steps_of r)
      → PackRoom r.combination (slot_bytes * r.valid_slots) (length (take (length re - r.symbol_start) (drop r.symbol_start re))) (length (take (length im - r.symbol_start) (drop r.symbol_start im)))
      (length (take (length us - step) (drop step us))) (take (length us - step) (drop step us))
  run_room gr gi gu b =
      let d = length-drop step us in
      rw (tail_is step us)
      (pack_room r.combination r.valid_slots _ _ (length (drop step us)) (drop step us) (part_covers count list l i re _ gr refl) (part_covers count list l i im _ gi refl) (omega arith)
      (λ k g. rw (get_or-drop step us k 0) (b (step + k) (omega arith))))

  -- the state after a run
  run_state_lem : (x y : ℕ) → x ≡ state_at 32 s us step → y ≡ state_at 32 x (take (length us - step) (drop step us)) (steps_of_bytes r.combination (slot_bytes * r.valid_slots))
      → y ≡ state_at 32 s us (step + steps_of r)
  run_state_lem x y ex ey =
      state_more s us step (steps_of r) (step + steps_of r) x y refl ex (rw (tail_is step us, bytes_steps r.combination r.valid_slots) at ey)

  -- its bytes are the frame's
  run_byte_lem : (scales : Combination → Float) (done x : ℕ) → step ≡ steps_to rs i → done ≡ slot_bytes * valid_to rs i → x ≡ state_at 32 s us step → (j : ℕ) → j < slot_bytes * r.valid_slots
      → run_byte list i re im m us step x j ≡ list_byte rs (received_with re im m scales) s us (done + j)
  run_byte_lem scales done x es ed ex j g =
      rw (tail_is r.symbol_start re, tail_is r.symbol_start im, tail_is step us)
      (byte_cong (λ k. piece_bit r.combination (drop r.symbol_start re) (drop r.symbol_start im) m x (drop step us) (8 * j + k))
      (λ k. among (λ g. g.bit) (λ g. g.bits) 0 (bit_in (received_with re im m scales) (label_at s us) us) (segments_from rs 0 0) (8 * (done + j) + k)) each)
    where
      each : (k : ℕ) → k < 8 → piece_bit r.combination (drop r.symbol_start re) (drop r.symbol_start im) m x (drop step us) (8 * j + k)
          ≡ among (λ g. g.bit) (λ g. g.bits) 0 (bit_in (received_with re im m scales) (label_at s us) us) (segments_from rs 0 0) (8 * (done + j) + k)
      each k q =
          let c = l.counted in
          let n : i < length rs = omega arith in
          let e1 : get_or rs i no_run ≡ r = sym (l.at i) in
          let a = among_bit 0 (bit_in (received_with re im m scales) (label_at s us) us) rs 0 0 i (8 * j + k) (8 * (done + j) + k) n (rw e1 (omega arith)) (omega arith) in
          let z : step ≡ 0 + steps_to rs i = es ∙ sym (zero-add (steps_to rs i)) in
          bit_part re im m scales r step (0 + slot_bits * valid_to rs i) x (label_at s us) us (8 * j + k)
          (λ o. ap (λ (y : ℕ). label_at y (drop step us) ((8 * j + k) / 2)) ex
          ∙ sym (label_shift s us step (drop step us) ((8 * j + k) / 2 + 1) (λ a g. sym (get_or-drop step us a 0)) ((8 * j + k) / 2) (omega arith)))
          ∙ sym (rw (e1, ← z) at a)

-- the bounds that writing a run asks
pub record Bounds (us bytes : List ℕ) (r : Run) (step done : ℕ) : Type 0 where
  pub bits_start : step ≤ length us
  pub bytes_start : done ≤ length bytes
  pub few : slot_bytes * r.valid_slots < 2 ^ 16
  pub bytes_small : slot_bytes * r.valid_slots < 2 ^ 64
  pub done_small : done + slot_bytes * r.valid_slots < 2 ^ 64
  pub room : slot_bytes * r.valid_slots ≤ length (take (length bytes - done) (drop done bytes))

-- the bytes of the first i runs are written, and run i has room
pub record Written (m : Mapping) (s : ℕ) (re im : List Float) (us bytes₀ : List ℕ) (count : ℕ) (list : List Run) (bytes : List ℕ) (state step done i : ℕ) : Type 0 where
  pub run : RunAt count list i step
  pub re_fits : main_symbols ≤ length re
  pub im_fits : main_symbols ≤ length im
  pub bits_fit : steps_in (take count list) ≤ length us
  pub bits : Bits us (steps_in (take count list))
  pub load_fits : slot_bytes * valid_in (take count list) ≤ length bytes₀
  pub same : length bytes ≡ length bytes₀
  pub bytes_fit : done + slot_bytes * (get_or list i no_run).valid_slots ≤ slot_bytes * valid_in (take count list)
  pub done_is : done ≡ slot_bytes * valid_to (take count list) i
  pub small : state < 64
  pub state_is : state ≡ state_at 32 s us step
  pub bytes_are : (scales : Combination → Float) → bytes ≡ laid (upto (list_byte (take count list) (received_with re im m scales) s us) done) bytes₀

module _ {m : Mapping} {s : ℕ} {re im : List Float} {us bytes₀ : List ℕ} {count : ℕ} {list : List Run} where
  pub written_first : {t : Table} → Listed t count list → s < 64 → main_symbols ≤ length re → main_symbols ≤ length im → frame_steps t ≤ length us → Bits us (frame_steps t) → load_bytes t ≤ length bytes₀
      → Written m s re im us bytes₀ count list bytes₀ s 0 0 0
  unfolding steps_in valid_in state_at upto
  written_first l small gr gi gu b gb =
      let v = valid_fit count list l.runs 0 in
      record {
        run = run_first l.runs;
        re_fits = gr;
        im_fits = gi;
        bits_fit = rw l.listed gu;
        bits = rw l.listed b;
        load_fits = rw l.listed gb;
        same = refl;
        bytes_fit = omega arith;
        done_is = refl;
        small = small;
        state_is = refl;
        bytes_are = λ scales. refl;
      }

  pub written_bounds : {bytes : List ℕ} {state step done i : ℕ} → Written m s re im us bytes₀ count list bytes state step done i → Bounds us bytes (get_or list i no_run) step done
  written_bounds {bytes} {done = done} w =
      let f = w.run.steps_fit in
      let gu = w.bits_fit in
      let valid = w.run.runs.valid in
      let gb = w.load_fits in
      let e = w.same in
      let n = w.bytes_fit in
      let d = length-drop done bytes in
      record {
        bits_start = omega arith;
        bytes_start = omega arith;
        few = omega arith;
        bytes_small = omega arith;
        done_small = omega arith;
        room = rw (tail_is done bytes) (omega arith);
      }

  -- what packing run i asks
  pub written_room : {bytes : List ℕ} {state step done i : ℕ} → Written m s re im us bytes₀ count list bytes state step done i → i < count
      → PackRoom (get_or list i no_run).combination (slot_bytes * (get_or list i no_run).valid_slots) (length (take (length re - (get_or list i no_run).symbol_start) (drop (get_or list i no_run).symbol_start re)))
      (length (take (length im - (get_or list i no_run).symbol_start) (drop (get_or list i no_run).symbol_start im))) (length (take (length us - step) (drop step us))) (take (length us - step) (drop step us))
  written_room {step = step} {i = i} w h =
      let f = w.run.steps_fit in
      let g = w.bits_fit in
      run_room count list w.run.runs i h re im m s us step w.re_fits w.im_fits (omega arith) (λ k q. w.bits k (omega arith))

  pub written_next : {bytes p : List ℕ} {state step done i n x : ℕ} → Written m s re im us bytes₀ count list bytes state step done i → i < count → n ≡ steps_of (get_or list i no_run)
      → x < 64 → x ≡ state_at 32 state (take (length us - step) (drop step us)) (steps_of_bytes (get_or list i no_run).combination (slot_bytes * (get_or list i no_run).valid_slots))
      → p ≡ laid (upto (run_byte list i re im m us step state) (slot_bytes * (get_or list i no_run).valid_slots)) (mid_of done (length bytes - done) bytes)
      → Written m s re im us bytes₀ count list (put_mid done (length bytes - done) bytes p) x (step + n) (done + slot_bytes * (get_or list i no_run).valid_slots) (i + 1)
  written_next {bytes} {p} {state} {step} {done} {i} {n} {x} w h en small ex ep =
      let r = get_or list i no_run in
      let l = w.run.runs in
      let v = valid_fit count list l (i + 1) in
      let nv = next_valid count list l i in
      let d = w.done_is in
      let f = w.bytes_fit in
      let lf = w.load_fits in
      let ew = w.same in
      let all : (scales : Combination → Float) → put_mid done (length bytes - done) bytes p ≡ laid (upto (list_byte (take count list) (received_with re im m scales) s us) (done + slot_bytes * r.valid_slots)) bytes₀ =
      λ scales.
      written_tail done bytes p (upto (run_byte list i re im m us step state) (slot_bytes * r.valid_slots)) (omega arith) ep
      ∙ ap (λ (z : List ℕ). take done z ++ laid (upto (run_byte list i re im m us step state) (slot_bytes * r.valid_slots)) (drop done z)) (w.bytes_are scales)
      ∙ laid_part (list_byte (take count list) (received_with re im m scales) s us) (run_byte list i re im m us step state) done (slot_bytes * r.valid_slots) bytes₀
      (run_byte_lem count list l i h re im m s us step scales done state w.run.step_is d w.state_is) in
      record {
        run = run_next w.run h en;
        re_fits = w.re_fits;
        im_fits = w.im_fits;
        bits_fit = w.bits_fit;
        bits = w.bits;
        load_fits = lf;
        same = ap length (all (λ c. nan)) ∙ length_laid_upto (list_byte (take count list) (received_with re im m (λ c. nan)) s us) (done + slot_bytes * r.valid_slots) bytes₀ (omega arith);
        bytes_fit = omega arith;
        done_is = omega arith;
        small = small;
        state_is = rw en (run_state_lem count list l i h re im m s us step state x w.state_is ex);
        bytes_are = all;
      }

  -- all runs are written
  pub written_last : {t : Table} {bytes : List ℕ} {state step done i : ℕ} → Listed t count list → Written m s re im us bytes₀ count list bytes state step done i → count ≤ i
      → (scales : Combination → Float) → bytes ≡ laid (upto (byte_at t (received_with re im m scales) s us) (load_bytes t)) bytes₀
  written_last {i = i} l w h =
      let d = w.run.done in
      let e : i ≡ count = omega arith in
      let ed = (rw e at w.done_is) ∙ ap (λ (z : ℕ). slot_bytes * z) (all_valid l) in
      λ scales. rw (ed, l.listed) at (w.bytes_are scales)
