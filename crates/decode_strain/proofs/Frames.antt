-- The strain of a frame run by run.
use mathlib.Core.Path.{◌≡◌, refl, sym, ◌∙◌, ap}
use mathlib.Core.Bool.{true, false}
use mathlib.Core.List.{List, [], ◌∷◌, ◌++◌}
use Prim.Native.Nat.{ℕ, zero, suc, ◌+◌, ◌-◌, ◌*◌, ◌/◌, ◌<◌, ◌≤◌, ◌^◌}
use native.Mathlib.Omega.{arith}
use native.Mathlib.Nat.{not-suc-le-zero, le_of_suc-le-suc, zero-add}
use lib.Dec.{ltb}
use lib.ListN.{length, get_or, take, drop, length-drop}
use lib.Seq.{get_or-drop}
use borrow.Author.Tests.{lt-ltb, le-ltb}
use borrow.Rule.Slice.PartMut.{mid_of, put_mid}
use Rattle.trellis.specs.Lists.{upto, laid}
use Rattle.trellis.specs.Code.{state_at}
use Rattle.isdbs_combination.specs.declared.Combination.{Combination}
use Rattle.isdbs_combination.specs.declared.Combination.TheVariants.{Bpsk1_2, Qpsk1_2, Qpsk2_3, Qpsk3_4, Qpsk5_6, Qpsk7_8, Tc8psk2_3}
use Rattle.isdbs_plan.specs.declared.Run.{Run}
use Rattle.isdbs_tables.specs.declared.Table.{Table}
use Rattle.isdbs_combination.specs.Combinations.{slot_steps}
use Rattle.isdbs_plan.specs.RunsOf.{steps_of, steps_in, valid_in, valid_total, frame_steps, no_run}
use Rattle.isdbs_points.specs.Layout.{Segment, segment_of, segments_from, among}
use Rattle.trellis.specs.LaidLaws.{laid_part, length_laid_upto}
use Rattle.isdbs_points.specs.StateLaws.{label_shift}
use Rattle.isdbs_metrics.specs.Steps.{Bits}
use Rattle.isdbs_points.specs.AmongLaws.{steps_to, valid_to}
use Rattle.decode_bytes.specs.PackingLaws.{state_more}
use Rattle.decode_bytes.specs.FrameByteLaws.{written_tail}
use Rattle.isdbs_metrics.specs.FrameRunLaws.{RunList, RunAt, Listed, tail_is, next_valid, valid_fit, run_first, run_next}
use Rattle.strain_marks.specs.Counts.{summed}
use Rattle.strain_marks.specs.CountsLaws.{summed_same, summed_append}
use Rattle.strain_marks.specs.Slots.{slot_of, slots_of, over_slot}
use Rattle.strain_marks.specs.Marks.{marked}
use Rattle.decode_strain.specs.declared.RunCount.{RunCount}
use Rattle.decode_strain.specs.Pieces.{run_strain, RunCounted}
use Rattle.decode_strain.proofs.Slots as slots
use Rattle.decode_strain.proofs.Slots.{from}

-- the strain of slot j of a list of runs
abbrev pub list_strain : List Run → List ℕ → ℕ → List ℕ → ℕ → ℕ
list_strain rs ms s us = among slot_of slots_of 0 (over_slot (marked ms s us)) (segments_from rs 0 0)

-- slot x of the frame is slot v of run i
module _ {A : Type 0} (none : A) (f : Segment → ℕ → A) where
  among_slot : (rs : List Run) (s b q i v x : ℕ) → b ≡ 1624 * q → i < length rs → v < (get_or rs i no_run).valid_slots → x ≡ q + valid_to rs i + v
      → among slot_of slots_of none f (segments_from rs s b) x ≡ f (segment_of (get_or rs i no_run) (s + steps_to rs i) (b + 1624 * valid_to rs i)) v
  unfolding among segments_from steps_in valid_in
  among_slot [] s b q i v x eb h l e = absurd (not-suc-le-zero h)
  among_slot (r ∷ rs) s b q zero v x eb h l e =
      let t : ltb x (b / 1624 + 1624 * r.valid_slots / 1624) ≡ true = lt-ltb x (b / 1624 + 1624 * r.valid_slots / 1624) (omega (arith, eb)) in
      let ek : x - b / 1624 ≡ v = omega (arith, eb) in
      let es : s + 0 ≡ s = omega arith in
      let ez : b + 1624 * 0 ≡ b = omega arith in
      rw (t, ek, es, ez)
  among_slot (r ∷ rs) s b q (suc i) v x eb h l e =
      let n = r.valid_slots in
      let t : ltb x (b / 1624 + 1624 * n / 1624) ≡ false = le-ltb x (b / 1624 + 1624 * n / 1624) (omega (arith, eb)) in
      let es : s + (steps_of r + steps_to rs i) ≡ s + steps_of r + steps_to rs i = omega arith in
      let ez : b + 1624 * (n + valid_to rs i) ≡ b + 1624 * n + 1624 * valid_to rs i = omega arith in
      rw (t, es, ez) (among_slot rs (s + steps_of r) (b + 1624 * n) (q + n) i v x (omega (arith, eb)) (le_of_suc-le-suc h) l (omega arith))

-- "812 steps to a TC8PSK slot, 1,624 to another"
pub slot_steps_few : (c : Combination) → slot_steps c ≤ 1624
slot_steps_few Bpsk1_2 = omega arith
slot_steps_few Qpsk1_2 = omega arith
slot_steps_few Qpsk2_3 = omega arith
slot_steps_few Qpsk3_4 = omega arith
slot_steps_few Qpsk5_6 = omega arith
slot_steps_few Qpsk7_8 = omega arith
slot_steps_few Tc8psk2_3 = omega arith

module _ (count : ℕ) (list : List Run) (l : RunList count list) (i : ℕ) (h : i < count) (s : ℕ) (ms us : List ℕ) (step : ℕ) where
  abbrev r : Run
  r = get_or list i no_run

  abbrev rs : List Run
  rs = take count list

  -- the strain of a run's slot is the frame's
  pub run_slot : (done x : ℕ) → step ≡ steps_to rs i → done ≡ valid_to rs i → x ≡ state_at 32 s us step → (v : ℕ) → v < r.valid_slots
      → run_strain (slot_steps r.combination) (from step ms) x (from step us) v ≡ list_strain rs ms s us (done + v)
  run_slot done x es ed ex v g =
      let c = l.counted in
      let n : i < length rs = omega arith in
      let e1 : get_or rs i no_run ≡ r = sym (l.at i) in
      let w = slot_steps r.combination in
      let a = among_slot 0 (over_slot (marked ms s us)) rs 0 0 0 i v (done + v) refl n (rw e1 g) (omega arith) in
      let z : step ≡ 0 + steps_to rs i = es ∙ sym (zero-add (steps_to rs i)) in
      rw (tail_is step ms, tail_is step us)
      (summed_same (λ j. marked (drop step ms) x (drop step us) (w * v + j)) (λ j. marked ms s us (step + (w * v + j))) w (λ j q. each (w * v + j))
      ∙ sym (rw (e1, ← z) at a))
    where
      each : (k : ℕ) → marked (drop step ms) x (drop step us) k ≡ marked ms s us (step + k)
      each k = rw (get_or-drop step ms k 0, ex, ← label_shift s us step (drop step us) (k + 1) (λ a o. sym (get_or-drop step us a 0)) k (omega arith))

-- the bounds that counting a run asks
pub record Bounds (ms us counts : List ℕ) (r : Run) (step done : ℕ) : Type 0 where
  pub marks_start : step ≤ length ms
  pub bits_start : step ≤ length us
  pub counts_start : done ≤ length counts
  pub scaled_small : done * 4 < 2 ^ 64
  pub next_small : done + r.valid_slots < 2 ^ 64
  pub room : r.valid_slots ≤ length (take (length counts - done) (drop done counts))

-- the first i runs are counted, and run i has room
pub record Done (s : ℕ) (ms us counts₀ : List ℕ) (count : ℕ) (list : List Run) (counts : List ℕ) (state step done sum i : ℕ) : Type 0 where
  pub run : RunAt count list i step
  pub marks_fit : steps_in (take count list) ≤ length ms
  pub bits_fit : steps_in (take count list) ≤ length us
  pub bits : Bits us (steps_in (take count list))
  pub counts_fit : valid_in (take count list) ≤ length counts₀
  pub same : length counts ≡ length counts₀
  pub done_fit : done + (get_or list i no_run).valid_slots ≤ valid_in (take count list)
  pub done_is : done ≡ valid_to (take count list) i
  pub small : state < 64
  pub state_is : state ≡ state_at 32 s us step
  pub few : sum ≤ step
  pub sum_is : sum ≡ summed (list_strain (take count list) ms s us) done
  pub counts_are : counts ≡ laid (upto (list_strain (take count list) ms s us) done) counts₀

module _ {s : ℕ} {ms us counts₀ : List ℕ} {count : ℕ} {list : List Run} where
  pub done_first : {t : Table} → Listed t count list → s < 64 → frame_steps t ≤ length ms → frame_steps t ≤ length us → Bits us (frame_steps t) → valid_total t ≤ length counts₀
      → Done s ms us counts₀ count list counts₀ s 0 0 0 0
  unfolding steps_in valid_in state_at upto summed
  done_first l small gm gu b gc =
      let v = valid_fit count list l.runs 0 in
      record {
        run = run_first l.runs;
        marks_fit = rw l.listed gm;
        bits_fit = rw l.listed gu;
        bits = rw l.listed b;
        counts_fit = rw l.listed gc;
        same = refl;
        done_fit = omega arith;
        done_is = refl;
        small = small;
        state_is = refl;
        few = omega arith;
        sum_is = refl;
        counts_are = refl;
      }

  -- what counting run i asks
  pub done_room : {counts : List ℕ} {state step done sum i : ℕ} → Done s ms us counts₀ count list counts state step done sum i
      → ((get_or list i no_run).valid_slots ≤ 48) × (steps_of (get_or list i no_run) ≤ length (from step ms)) × (steps_of (get_or list i no_run) ≤ length (from step us)) × Bits (from step us) (steps_of (get_or list i no_run))
  done_room {step = step} {i = i} w =
      let l = w.run.runs in
      let f = w.run.steps_fit in
      let gm = w.marks_fit in
      let gu = w.bits_fit in
      let v = w.done_fit in
      let lv = l.valid in
      let dm = length-drop step ms in
      let du = length-drop step us in
      rw (tail_is step ms, tail_is step us) (
        omega arith,
        omega arith,
        omega arith,
        λ k q. rw (get_or-drop step us k 0) (w.bits (step + k) (omega arith)),
      )

  -- the bounds that counting run i asks
  pub done_bounds : {counts : List ℕ} {state step done sum i : ℕ} → Done s ms us counts₀ count list counts state step done sum i → Bounds ms us counts (get_or list i no_run) step done
  done_bounds {counts} {done = done} w =
      let f = w.run.steps_fit in
      let gm = w.marks_fit in
      let gu = w.bits_fit in
      let gc = w.counts_fit in
      let e = w.same in
      let v = w.done_fit in
      let most = w.run.runs.valid in
      let d = length-drop done counts in
      record {
        marks_start = omega arith;
        bits_start = omega arith;
        counts_start = omega arith;
        scaled_small = omega arith;
        next_small = omega arith;
        room = rw (tail_is done counts) (omega arith);
      }

  -- the sums stay small
  pub done_small : {counts p q : List ℕ} {state step done sum i : ℕ} {x : RunCount} → Done s ms us counts₀ count list counts state step done sum i
      → {ns vs : List ℕ} → RunCounted (slot_steps (get_or list i no_run).combination) ns vs state (get_or list i no_run).valid_slots x q p → sum + x.sum < 2 ^ 32
  done_small {p = p} {q = q} {state = state} {i = i} {x = x} w {ns} {vs} k =
      let fx = slots.run_few (slot_steps (get_or list i no_run).combination) ns vs state q (get_or list i no_run).valid_slots x p k in
      let fw = w.few in
      let f = w.run.steps_fit in
      let ls = w.run.runs.steps in
      omega arith

  pub done_next : {counts p : List ℕ} {state step done sum i n : ℕ} {x : RunCount} → Done s ms us counts₀ count list counts state step done sum i → i < count → n ≡ steps_of (get_or list i no_run)
      → RunCounted (slot_steps (get_or list i no_run).combination) (from step ms) (from step us) state (get_or list i no_run).valid_slots x (mid_of done (length counts - done) counts) p
      → Done s ms us counts₀ count list (put_mid done (length counts - done) counts p) x.state (step + n) (done + (get_or list i no_run).valid_slots) (sum + x.sum) (i + 1)
  done_next {counts} {p} {state} {step} {done} {sum} {i} {n} {x} w h en k =
      let r = get_or list i no_run in
      let l = w.run.runs in
      let v = valid_fit count list l (i + 1) in
      let nv = next_valid count list l i in
      let d = w.done_is in
      let f = w.done_fit in
      let lf = w.counts_fit in
      let ew = w.same in
      let all = list_strain (take count list) ms s us in
      let own = run_strain (slot_steps r.combination) (from step ms) state (from step us) in
      let each = run_slot count list l i h s ms us step done state w.run.step_is d w.state_is in
      let laid-now : put_mid done (length counts - done) counts p ≡ laid (upto all (done + r.valid_slots)) counts₀ =
      written_tail done counts p (upto own r.valid_slots) (omega arith) k.counts_are
      ∙ ap (λ (z : List ℕ). take done z ++ laid (upto own r.valid_slots) (drop done z)) w.counts_are
      ∙ laid_part all own done r.valid_slots counts₀ each in
      let sn : sum + x.sum ≡ summed all (done + r.valid_slots) =
      rw (summed_append all done r.valid_slots, k.sum_is, summed_same own (λ j. all (done + j)) r.valid_slots each, w.sum_is) in
      let fx = slots.run_few (slot_steps r.combination) (from step ms) (from step us) state (mid_of done (length counts - done) counts) r.valid_slots x p k in
      let fw = w.few in
      record {
        run = run_next w.run h en;
        marks_fit = w.marks_fit;
        bits_fit = w.bits_fit;
        bits = w.bits;
        counts_fit = lf;
        same = ap length laid-now ∙ length_laid_upto all (done + r.valid_slots) counts₀ (omega arith);
        done_fit = omega arith;
        done_is = omega arith;
        small = k.small;
        state_is = rw en (state_more s us step (steps_of r) (step + steps_of r) state x.state refl w.state_is (rw (tail_is step us) at k.state_is));
        few = omega (arith, en);
        sum_is = sn;
        counts_are = laid-now;
      }
