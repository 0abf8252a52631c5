-- The runs of a frame read one after the other: each run's bits are the frame's.
use mathlib.Core.Path.{◌≡◌, refl, sym, ◌∙◌, ap}
use mathlib.Core.Bool.{cond}
use mathlib.Core.List.{List, ◌++◌}
use Prim.Native.Nat.{ℕ, zero, suc, ◌+◌, ◌-◌, ◌*◌, ◌/◌, ◌%◌, ◌<◌, ◌≤◌}
use native.Mathlib.Nat.{add-zero, add-suc, mod-lt}
use native.Mathlib.Numerals.{add-one}
use native.Mathlib.Omega.{arith}
use lib.Dec.{eqb, lit<}
use lib.ListN.{get_or, length, take, drop}
use lib.Ieee.{Float}
use borrow.Rule.Slice.PartMut.{mid_of, put_mid}
use Rattle.trellis.specs.Lists.{upto, laid}
use Rattle.trellis.specs.Code.{moved}
use Rattle.isdbs_combination.specs.declared.Combination.{Combination}
use Rattle.isdbs_combination.specs.declared.Combination.TheVariants.{Bpsk1_2, Qpsk1_2, Qpsk2_3, Qpsk3_4, Qpsk5_6, Qpsk7_8, Tc8psk2_3}
use Rattle.isdbs_combination.specs.declared.Modulation.{Modulation}
use Rattle.isdbs_combination.specs.declared.Modulation.TheVariants.{Bpsk, Qpsk, Tc8psk}
use Rattle.isdbs_plan.specs.declared.Plan.{Plan}
use Rattle.isdbs_plan.specs.declared.Run.{Run}
use Rattle.isdbs_tables.specs.declared.Table.{Table}
use Rattle.isdbs_combination.specs.Combinations.{modulation_of, slot_steps}
use Rattle.isdbs_frame.specs.Frame.{main_symbols}
use Rattle.isdbs_plan.specs.RunsOf.{runs_of, steps_of, steps_in, valid_in, load_bytes, no_run}
use Rattle.isdbs_points.specs.declared.Cplx.{Cplx}
use Rattle.isdbs_points.specs.declared.Mapping.{Mapping}
use Rattle.isdbs_points.specs.Layout.{Segment, segment_of, byte_of}
use Rattle.trellis.specs.LaidLaws.{laid_part, length_laid_upto}
use Rattle.isdbs_points.specs.AmongLaws.{steps_to, valid_to, steps_more, valid_more, among_step, among_bit}
use Rattle.isdbs_metrics.specs.DigitLaws.{byte_cong}
use Rattle.decode_bytes.specs.FrameByteLaws.{written_tail}
use Rattle.isdbs_metrics.specs.FrameRunLaws.{Listed, run_covers, valid_fit, all_valid}
use Rattle.wanted_read.specs.ReadOff.{shown, psk8_label, input_from, read_state, read_input, read_by, read_bit}
use Rattle.wanted_read.specs.Pieces.{run_at, step_by, step_of, InFrame, BytesIn, bit_from, state_from, next_bit, next_state, run_state, run_bit, run_byte, frame_byte}

-- bit n of v valid slots is read at one of their steps
step_in : (c : Combination) (v n : ℕ) → n < 1624 * v → step_of c n < slot_steps c * v
step_in Bpsk1_2 v n h = omega arith
step_in Qpsk1_2 v n h = omega arith
step_in Qpsk2_3 v n h = omega arith
step_in Qpsk3_4 v n h = omega arith
step_in Qpsk5_6 v n h = omega arith
step_in Qpsk7_8 v n h = omega arith
step_in Tc8psk2_3 v n h = omega arith

step_all : (c : Combination) (v : ℕ) → step_of c (1624 * v) ≡ slot_steps c * v
step_all Bpsk1_2 v = refl
step_all Qpsk1_2 v = refl
step_all Qpsk2_3 v = refl
step_all Qpsk3_4 v = refl
step_all Qpsk5_6 v = refl
step_all Qpsk7_8 v = refl
step_all Tc8psk2_3 v = omega arith

step_zero : (c : Combination) → step_of c 0 ≡ 0
step_zero Bpsk1_2 = refl
step_zero Qpsk1_2 = refl
step_zero Qpsk2_3 = refl
step_zero Qpsk3_4 = refl
step_zero Qpsk5_6 = refl
step_zero Qpsk7_8 = refl
step_zero Tc8psk2_3 = refl

-- ---- run i of a table, from the state s before the frame
module _ (t : Table) (m : Mapping) (z : ℕ → Cplx) (s i : ℕ) (h : i < length (runs_of t)) where
  abbrev rs : List Run
  rs = runs_of t

  abbrev r : Run
  r = get_or rs i no_run

  abbrev c : Combination
  c = r.combination

  -- its first step of the frame
  abbrev pub first : ℕ
  first = 0 + steps_to rs i

  abbrev g : Segment
  g = run_at c r.symbol_start

  abbrev R : ℕ → ℕ
  R = read_state m z t s

  input_in_lem : (k : ℕ) → k < steps_of r → read_input m z t s (first + k) ≡ input_from m z (R (first + k)) g k
  input_in_lem k l = among_step 0 (input_from m z (R (first + k))) rs 0 0 i k (first + k) h l refl

  next_in : (k : ℕ) → k < steps_of r → moved 32 (input_from m z (R (first + k)) g k) (R (first + k)) ≡ R (first + suc k)
  unfolding read_state
  next_in k l = rw (add-suc first k) (ap (λ (x : ℕ). moved 32 x (R (first + k))) (sym (input_in_lem k l)))

  -- bit by bit: the state, and the bit
  module _ (n : ℕ) (l : n < 1624 * r.valid_slots) where
    state_by : (md : Modulation) → modulation_of c ≡ md → state_from m z md (R (first + step_by md n)) g n ≡ R (first + step_by md (suc n))
    unfolding state_from
    state_by Bpsk e = next_in n (rw e at (step_in c r.valid_slots n l))
    state_by Qpsk e = next_in n (rw e at (step_in c r.valid_slots n l))
    state_by Tc8psk e = go (n % 2) refl (mod-lt n (lit< tt))
      where
        q : n / 2 < steps_of r
        q = rw e at (step_in c r.valid_slots n l)

        go : (x : ℕ) → n % 2 ≡ x → x < 2 → cond (eqb x 0) (R (first + n / 2)) (moved 32 (input_from m z (R (first + n / 2)) g (n / 2)) (R (first + n / 2))) ≡ R (first + suc n / 2)
        go zero p b = let y : suc n / 2 ≡ n / 2 = omega arith in rw y
        go (suc zero) p b = let y : suc n / 2 ≡ suc (n / 2) = omega arith in rw y (next_in (n / 2) q)
        go (suc (suc x)) p b = absurd (omega arith)

    bit_by_lem : (md : Modulation) → modulation_of c ≡ md → bit_from m z md (R (first + step_by md n)) g n ≡ read_by m z t s md (segment_of r first (0 + 1624 * valid_to rs i)) n
    unfolding bit_from read_by
    bit_by_lem Bpsk e = sym (input_in_lem n (rw e at (step_in c r.valid_slots n l)))
    bit_by_lem Qpsk e = sym (input_in_lem n (rw e at (step_in c r.valid_slots n l)))
    bit_by_lem Tc8psk e = ap (λ (x : ℕ). cond (eqb (n % 2) 0) (psk8_label (z (g.symbol + n / 2)) / 4) x) (sym (input_in_lem (n / 2) (rw e at (step_in c r.valid_slots n l))))

  state_in : (n : ℕ) → n ≤ 1624 * r.valid_slots → run_state m z g (R first) n ≡ R (first + step_of c n)
  unfolding run_state
  state_in zero l = rw (step_zero c, add-zero first)
  state_in (suc n) l = ap (λ (x : ℕ). next_state m z g x n) (state_in n (omega arith)) ∙ state_by n (omega arith) (modulation_of c) refl

  bit_in : (n : ℕ) → n < 1624 * r.valid_slots → run_bit m z g (R first) n ≡ read_by m z t s (modulation_of c) (segment_of r first (0 + 1624 * valid_to rs i)) n
  bit_in n l = ap (λ (x : ℕ). next_bit m z g x n) (state_in n (omega arith)) ∙ bit_by_lem n l (modulation_of c) refl

  -- the run's bytes are the frame's, and so is the state after them
  pub byte_in_lem : (done j : ℕ) → done ≡ 203 * valid_to rs i → j < 203 * r.valid_slots
      → run_byte m z g (R first) j ≡ byte_of (λ k. read_bit m z t s (8 * (done + j) + k))
  byte_in_lem done j e l =
      byte_cong (λ k. run_bit m z g (R first) (8 * j + k)) (λ k. read_bit m z t s (8 * (done + j) + k))
      (λ k q. bit_in (8 * j + k) (omega arith)
      ∙ sym (among_bit 0 (λ g i. read_by m z t s (modulation_of g.combination) g i) rs 0 0 i (8 * j + k) (8 * (done + j) + k) h (omega arith) (omega arith)))

  pub state_out : run_state m z g (R first) (8 * (203 * r.valid_slots)) ≡ R (0 + steps_to rs (i + 1))
  state_out =
      let n : 8 * (203 * r.valid_slots) ≡ 1624 * r.valid_slots = omega arith in
      let e : first + slot_steps c * r.valid_slots ≡ 0 + steps_to rs (i + 1) = rw (add-one i, steps_more rs i) (omega arith) in
      ap (run_state m z g (R first)) n ∙ state_in (1624 * r.valid_slots) (omega arith) ∙ ap (λ (x : ℕ). R (first + x)) (step_all c r.valid_slots) ∙ ap R e

-- ---- the loop over the runs
-- the bytes of the first i runs are laid, and run i has room
pub record LoadRead (p : Plan) (m : Mapping) (s : ℕ) (re im : List Float) (bytes₀ : List ℕ) (count : ℕ) (bytes : List ℕ) (state done i : ℕ) : Type 0 where
  pub listed : Listed p.table count p.runs
  pub runs_done : i ≤ count
  pub re_fits : 38976 ≤ length re
  pub im_fits : 38976 ≤ length im
  pub load_fits : load_bytes p.table ≤ length bytes₀
  pub same : length bytes ≡ length bytes₀
  pub starts : (get_or p.runs i no_run).symbol_start ≤ 38976
  pub few : (get_or p.runs i no_run).valid_slots ≤ 48
  pub load_few : load_bytes p.table ≤ 9744
  pub bytes_fit : done + 203 * (get_or p.runs i no_run).valid_slots ≤ load_bytes p.table
  pub done_is : done ≡ 203 * valid_to (runs_of p.table) i
  pub small : state < 64
  pub state_is : state ≡ read_state m (shown m re im) p.table s (0 + steps_to (runs_of p.table) i)
  pub bytes_are : bytes ≡ laid (upto (frame_byte p.table m re im s) done) bytes₀

module _ {p : Plan} {m : Mapping} {s : ℕ} {re im : List Float} {bytes₀ : List ℕ} {count : ℕ} where
  pub load_first : Listed p.table count p.runs → s < 64 → 38976 ≤ length re → 38976 ≤ length im → load_bytes p.table ≤ length bytes₀ → LoadRead p m s re im bytes₀ count bytes₀ s 0 0
  unfolding steps_in valid_in read_state upto
  load_first l b gr gi gb =
      let v = rw l.listed at (valid_fit count p.runs l.runs 0) in
      let n = rw l.listed at l.runs.valid in
      let f = l.runs.fits 0 in
      let fs = f.starts in
      let fe = f.ends in
      record {
        listed = l;
        runs_done = omega arith;
        re_fits = gr;
        im_fits = gi;
        load_fits = gb;
        same = refl;
        starts = omega arith;
        few = omega arith;
        load_few = omega arith;
        bytes_fit = omega arith;
        done_is = refl;
        small = b;
        state_is = refl;
        bytes_are = refl;
      }

  -- what reading run i asks
  pub load_room : {bytes : List ℕ} {state done i : ℕ} → LoadRead p m s re im bytes₀ count bytes state done i
      → BytesIn (get_or p.runs i no_run).combination (get_or p.runs i no_run).symbol_start (203 * (get_or p.runs i no_run).valid_slots)
  load_room {i = i} w k l =
      let r = get_or p.runs i no_run in
      let f = w.listed.runs.fits i in
      let fe = f.ends in
      (w.starts, run_covers r (main_symbols - r.symbol_start) (w.listed.runs.whole i) f (omega arith) (step_of r.combination k) (step_in r.combination r.valid_slots k (omega arith)))

  pub load_next : {bytes q : List ℕ} {state done i x : ℕ} → LoadRead p m s re im bytes₀ count bytes state done i → i < count → x < 64
      → x ≡ run_state m (shown m re im) (run_at (get_or p.runs i no_run).combination (get_or p.runs i no_run).symbol_start) state (8 * (203 * (get_or p.runs i no_run).valid_slots))
      → q ≡ laid (upto (run_byte m (shown m re im) (run_at (get_or p.runs i no_run).combination (get_or p.runs i no_run).symbol_start) state) (203 * (get_or p.runs i no_run).valid_slots)) (mid_of done (length bytes - done) bytes)
      → LoadRead p m s re im bytes₀ count (put_mid done (length bytes - done) bytes q) x (done + 203 * (get_or p.runs i no_run).valid_slots) (i + 1)
  load_next {bytes} {q} {state} {done} {i} {x} w h small ex eq =
      let t = p.table in
      let r = get_or p.runs i no_run in
      let z = shown m re im in
      let l = w.listed in
      let at : r ≡ get_or (runs_of t) i no_run = l.runs.at i ∙ ap (λ (y : List Run). get_or y i no_run) l.listed in
      let c = rw l.listed at l.runs.counted in
      let hi : i < length (runs_of t) = omega arith in
      let f = l.runs.fits (i + 1) in
      let fs = f.starts in
      let fe = f.ends in
      let v = rw l.listed at (valid_fit count p.runs l.runs (i + 1)) in
      let n48 = rw l.listed at l.runs.valid in
      let nv : valid_to (runs_of t) (i + 1) ≡ valid_to (runs_of t) i + r.valid_slots = rw (add-one i, at) (valid_more (runs_of t) i) in
      let d = w.done_is in
      let bf = w.bytes_fit in
      let lf = w.load_fits in
      let ew = w.same in
      let es = w.state_is in
      let B = upto (run_byte m z (run_at r.combination r.symbol_start) state) (203 * r.valid_slots) in
      let all : put_mid done (length bytes - done) bytes q ≡ laid (upto (frame_byte t m re im s) (done + 203 * r.valid_slots)) bytes₀ =
      written_tail done bytes q B (omega arith) eq
      ∙ ap (λ (y : List ℕ). take done y ++ laid B (drop done y)) w.bytes_are
      ∙ laid_part (frame_byte t m re im s) (run_byte m z (run_at r.combination r.symbol_start) state) done (203 * r.valid_slots) bytes₀
      (λ j g. rw (es, at) (byte_in_lem t m z s i hi done j d (rw at at g))) in
      record {
        listed = l;
        runs_done = omega arith;
        re_fits = w.re_fits;
        im_fits = w.im_fits;
        load_fits = lf;
        same = ap length all ∙ length_laid_upto (frame_byte t m re im s) (done + 203 * r.valid_slots) bytes₀ (omega arith);
        starts = omega arith;
        few = omega arith;
        load_few = w.load_few;
        bytes_fit = omega arith;
        done_is = omega arith;
        small = small;
        state_is = ex ∙ rw (es, at) (state_out t m z s i hi);
        bytes_are = all;
      }

  pub load_last : {bytes : List ℕ} {state done i : ℕ} → LoadRead p m s re im bytes₀ count bytes state done i → count ≤ i → bytes ≡ laid (upto (frame_byte p.table m re im s) (load_bytes p.table)) bytes₀
  load_last {done = done} {i = i} w h =
      let l = w.listed in
      let e : i ≡ count = omega (arith, w.runs_done) in
      let ed : done ≡ load_bytes p.table = rw e at w.done_is ∙ ap (λ (y : ℕ). 203 * y) (rw l.listed at (all_valid l)) in
      rw (← ed) w.bytes_are
