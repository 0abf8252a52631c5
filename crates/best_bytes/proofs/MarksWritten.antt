-- The marks of a frame run by run.
use mathlib.Core.Path.{◌≡◌, refl, sym, ◌∙◌, ap}
use mathlib.Core.List.{List, [], ◌∷◌}
use Prim.Native.Nat.{ℕ, zero, suc, ◌+◌, ◌-◌, ◌*◌, ◌<◌, ◌≤◌}
use native.Mathlib.Omega.{arith}
use native.Mathlib.Nat.{not-suc-le-zero}
use lib.ListN.{length, get_or, take, set}
use borrow.Rule.Slice.PartMut.{mid_of, put_mid}
use Rattle.trellis.specs.Lists.{upto, laid}
use Rattle.trellis.specs.LaidLaws.{laid_upto}
use Rattle.isdbs_combination.specs.declared.Combination.{Combination}
use Rattle.isdbs_combination.specs.declared.Combination.TheVariants.{Bpsk1_2, Qpsk1_2, Qpsk2_3, Qpsk3_4, Qpsk5_6, Qpsk7_8, Tc8psk2_3}
use Rattle.isdbs_combination.specs.Combinations.{slot_steps}
use Rattle.isdbs_plan.specs.declared.Run.{Run}
use Rattle.isdbs_tables.specs.declared.Table.{Table}
use Rattle.isdbs_plan.specs.RunsOf.{runs_of, steps_of, steps_in, frame_steps, valid_in, valid_total, no_run}
use Rattle.isdbs_points.specs.AmongLaws.{steps_to, valid_to}
use Rattle.isdbs_metrics.specs.FrameRunLaws.{RunAt, Listed, run_first, run_next, run_last, next_valid, valid_fit, all_valid}
use Rattle.best_sides.specs.Filled.{Filled, filled_none, filled_more}
use Rattle.best_loads.specs.Marks.{mark_in, mark_at, frame_marks}
use Rattle.best_loads.proofs.MarkLaws.{mark_own, mark_later, mark_last}

-- the slots of run i begin each a slot's steps after the other
mark_run : (rs : List Run) (i k : ℕ) → i < length rs → k < (get_or rs i no_run).valid_slots → mark_in rs (valid_to rs i + k) ≡ steps_to rs i + slot_steps (get_or rs i no_run).combination * k
unfolding valid_in steps_in
mark_run [] i k h l = absurd (not-suc-le-zero h)
mark_run (r ∷ rs) zero k h l = let e : 0 + k ≡ k = omega arith in ap (mark_in (r ∷ rs)) e ∙ mark_own r rs k l ∙ omega arith
mark_run (r ∷ rs) (suc i) k h l =
    let e : r.valid_slots + valid_to rs i + k - r.valid_slots ≡ valid_to rs i + k = omega arith in
    let q = mark_run rs i k (omega arith) l in
    mark_later r rs (r.valid_slots + valid_to rs i + k) (omega arith) ∙ ap (λ (x : ℕ). steps_of r + mark_in rs x) e ∙ omega arith

-- the marks of the runs before run i are written
pub record Written (xs₀ : List ℕ) (count : ℕ) (list : List Run) (xs : List ℕ) (step done i : ℕ) : Type 0 where
  pub run : RunAt count list i step
  pub done_is : done ≡ valid_to (take count list) i
  pub some : done + (get_or list i no_run).valid_slots ≤ valid_in (take count list)
  pub fits : valid_in (take count list) < length xs₀
  pub filled : Filled (mark_in (take count list)) xs₀ xs done

module _ {xs₀ : List ℕ} {count : ℕ} {list : List Run} where
  pub written_first : {t : Table} → Listed t count list → valid_total t < length xs₀ → Written xs₀ count list xs₀ 0 0 0
  unfolding valid_in
  written_first l g = let v = valid_fit count list l.runs 0 in record { run = run_first l.runs; done_is = refl; some = v; fits = rw l.listed g; filled = filled_none (mark_in (take count list)) xs₀ }

  pub written_next : {xs p : List ℕ} {step done i steps n : ℕ} → Written xs₀ count list xs step done i → i < count → steps ≡ slot_steps (get_or list i no_run).combination → n ≡ (get_or list i no_run).valid_slots
      → p ≡ laid (upto (λ k. step + steps * k) n) (mid_of done (length xs - done) xs)
      → Written xs₀ count list (put_mid done (length xs - done) xs p) (step + steps * n) (done + n) (i + 1)
  written_next {xs} {p} {step} {done} {i} {steps} {n} w h es en ep =
      let a = w.run in
      let g = w.fits in
      let s = w.some in
      let d = w.done_is in
      let rs = take count list in
      let c = a.runs.counted in
      let at = a.runs.at i in
      let own : ℕ → ℕ = λ k. step + steps * k in
      let inside : (k : ℕ) → k < n → own k ≡ mark_in rs (done + k) = λ k l.
      let m = mark_run rs i k (omega arith) (rw (en, at) at l) in
      rw (es, a.step_is, at, d) (sym m) in
      let v = next_valid count list a.runs i in
      let more : done + n ≡ valid_to rs (i + 1) = omega arith in
      let v2 = valid_fit count list a.runs (i + 1) in
      record {
        run = run_next a h (rw (es, en) refl);
        done_is = more;
        some = rw more v2;
        fits = g;
        filled = filled_more (mark_in rs) xs₀ w.filled (omega arith) own inside ep;
      }

  pub written_last : {t : Table} {xs : List ℕ} {step done i : ℕ} → Listed t count list → Written xs₀ count list xs step done i → count ≤ i
      → set xs done step ≡ laid (frame_marks t) xs₀
  written_last {t} {xs} {step} {done} {i} l w h =
      let c : i ≡ count = omega (arith, w.run.done) in
      let e : step ≡ frame_steps t = run_last l w.run h in
      let d : done ≡ valid_total t = w.done_is ∙ ap (λ (x : ℕ). valid_to (take count list) x) c ∙ all_valid l in
      let g = rw l.listed at w.fits in
      ap (λ (z : List ℕ). set z done step) w.filled.are
      ∙ ap (λ (rs : List Run). set (laid (upto (mark_in rs) done) xs₀) done step) l.listed
      ∙ laid_upto (mark_at t) done xs₀ step (omega arith) (e ∙ sym (mark_last (runs_of t)) ∙ ap (mark_at t) (sym d))
      ∙ ap (λ (n : ℕ). laid (upto (mark_at t) (n + 1)) xs₀) d

pub slot_few : (c : Combination) (x : ℕ) → x ≡ slot_steps c → x ≤ 1624
slot_few Bpsk1_2 x e = omega arith
slot_few Qpsk1_2 x e = omega arith
slot_few Qpsk2_3 x e = omega arith
slot_few Qpsk3_4 x e = omega arith
slot_few Qpsk5_6 x e = omega arith
slot_few Qpsk7_8 x e = omega arith
slot_few Tc8psk2_3 x e = omega arith
