-- The bytes of a frame run by run.
use mathlib.Core.Path.{◌≡◌, refl, ◌∙◌, ap}
use mathlib.Core.List.{List}
use Prim.Native.Nat.{ℕ, ◌+◌, ◌-◌, ◌*◌, ◌<◌, ◌≤◌}
use native.Mathlib.Omega.{arith}
use lib.ListN.{length, get_or, take, drop}
use borrow.Rule.Slice.PartMut.{mid_of, put_mid}
use Rattle.trellis.specs.Lists.{upto, laid}
use Rattle.isdbs_plan.specs.declared.Run.{Run}
use Rattle.isdbs_tables.specs.declared.Table.{Table}
use Rattle.isdbs_plan.specs.RunsOf.{steps_of, steps_in, frame_steps, valid_in, load_bytes, no_run}
use Rattle.isdbs_points.specs.Layout.{byte_of}
use Rattle.isdbs_points.specs.AmongLaws.{valid_to}
use Rattle.isdbs_metrics.specs.FrameRunLaws.{RunAt, Listed, run_first, run_next, next_valid, valid_fit, all_valid}
use Rattle.best_sides.specs.Filled.{Filled, filled_none, filled_more}
use Rattle.best_loads.specs.Held.{load_of}
use Rattle.best_bytes.specs.Packed.{held_with, listed_byte, byte_is}

-- the bytes of the runs before run i are written
pub record Written (us zs xs₀ : List ℕ) (count : ℕ) (list : List Run) (xs : List ℕ) (step done i : ℕ) : Type 0 where
  pub run : RunAt count list i step
  pub done_is : done ≡ 203 * valid_to (take count list) i
  pub some : done + 203 * (get_or list i no_run).valid_slots ≤ 203 * valid_in (take count list)
  pub fits : 203 * valid_in (take count list) ≤ length xs₀
  pub read : steps_in (take count list) ≤ length us
  pub beside : steps_in (take count list) ≤ length zs
  pub filled : Filled (listed_byte (take count list) us zs) xs₀ xs done

module _ {us zs xs₀ : List ℕ} {count : ℕ} {list : List Run} where
  pub written_first : {t : Table} → Listed t count list → frame_steps t ≤ length us → frame_steps t ≤ length zs → load_bytes t ≤ length xs₀ → Written us zs xs₀ count list xs₀ 0 0 0
  unfolding valid_in
  written_first l g h j =
      let v = valid_fit count list l.runs 0 in
      record { run = run_first l.runs; done_is = refl; some = omega arith; fits = rw l.listed j; read = rw l.listed g; beside = rw l.listed h; filled = filled_none (listed_byte (take count list) us zs) xs₀ }

  pub written_next : {xs p : List ℕ} {step done i n m : ℕ} → Written us zs xs₀ count list xs step done i → i < count → m ≡ steps_of (get_or list i no_run) → n ≡ 203 * (get_or list i no_run).valid_slots
      → p ≡ laid (upto (λ j. byte_of (λ b. held_with (get_or list i no_run).combination (take (length us - step) (drop step us)) (take (length zs - step) (drop step zs)) (8 * j + b))) n) (mid_of done (length xs - done) xs)
      → Written us zs xs₀ count list (put_mid done (length xs - done) xs p) (step + m) (done + n) (i + 1)
  written_next {xs} {p} {step} {done} {i} {n} {m} w h em en ep =
      let a = w.run in
      let g = w.fits in
      let s = w.some in
      let d = w.done_is in
      let r = get_or list i no_run in
      let rs = take count list in
      let own : ℕ → ℕ = λ j. byte_of (λ b. held_with r.combination (take (length us - step) (drop step us)) (take (length zs - step) (drop step zs)) (8 * j + b)) in
      let v = next_valid count list a.runs i in
      let more : done + n ≡ 203 * valid_to rs (i + 1) = omega arith in
      let v2 = valid_fit count list a.runs (i + 1) in
      record {
        run = run_next a h em;
        done_is = more;
        some = omega arith;
        fits = g;
        read = w.read;
        beside = w.beside;
        filled = filled_more (listed_byte rs us zs) xs₀ w.filled (omega arith) own (λ j l. byte_is count list a.runs i us zs step done n j h a.step_is d en l) ep;
      }

  pub written_last : {t : Table} {xs : List ℕ} {step done i : ℕ} → Listed t count list → Written us zs xs₀ count list xs step done i → count ≤ i → xs ≡ laid (load_of t us zs) xs₀
  unfolding load_of
  written_last {t} {xs} {step} {done} {i} l w h =
      let c : i ≡ count = omega (arith, w.run.done) in
      let d : done ≡ load_bytes t = w.done_is ∙ ap (λ (x : ℕ). 203 * valid_to (take count list) x) c ∙ ap (λ (x : ℕ). 203 * x) (all_valid l) in
      rw (d, l.listed) at w.filled.are
