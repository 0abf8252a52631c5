-- The runs of an accepted table as the code walks them: each within the frame, its points enough for its steps.
use Rattle.std.specs.Prelude.{◌≡◌, refl, List, [], ◌∷◌, ◌++◌, ℕ, zero, suc, ◌+◌, ◌-◌, ◌*◌, ◌<◌, ◌≤◌, ◌^◌, length, get_or, take, drop, replicate, Float}
use Rattle.std.proofs.Common.{sym, ◌∙◌, ap, arith, add-one, length-drop, take_at, take_all}
use Rattle.std.proofs.Math.Seq.{take-length}
use Rattle.std.proofs.lemmas.List.{take-take}
use Rattle.std.proofs.Common.{le_refl}
use Rattle.isdbs_combination.specs.declared.Combination.{Combination}
use Rattle.isdbs_combination.specs.declared.Combination.TheVariants.{Bpsk1_2, Qpsk1_2, Qpsk2_3, Qpsk3_4, Qpsk5_6, Qpsk7_8, Tc8psk2_3}
use Rattle.isdbs_plan.specs.declared.Run.{Run}
use Rattle.isdbs_plan.specs.declared.Plan.{Plan}
use Rattle.isdbs_tables.specs.declared.Table.{Table}
use Rattle.trellis.specs.Lists.{padded, Each}
use Rattle.isdbs_combination.specs.Combinations.{modulation_of, puncture_of, period_steps, period_symbols, slot_steps}
use Rattle.isdbs_plan.specs.PlanLaws.{table_laid}
use Rattle.isdbs_plan.specs.RunsOf.{runs_of, Planned, steps_of, steps_in, frame_steps, valid_in, valid_total, no_run, RunFits}
use Rattle.isdbs_plan.specs.RunLaws.{Whole, run_whole}
use Rattle.isdbs_points.specs.Layout.{sent_order}
use Rattle.isdbs_metrics.specs.Steps.{Covers}
use Rattle.isdbs_points.specs.AmongLaws.{steps_to, valid_to, steps_more, valid_more, steps_within, valid_within}
use Rattle.isdbs_frame.specs.Frame.{main_symbols}
use Rattle.trellis.specs.Isdb.{longest_frame}

-- the first `count` of a list are runs within a frame, and past them stands the empty run
pub record RunList (count : ℕ) (list : List Run) : Type 0 where
  pub few : count ≤ 4
  pub steps : steps_in (take count list) ≤ longest_frame
  pub valid : valid_in (take count list) ≤ 48
  pub counted : length (take count list) ≡ count
  pub at : (i : ℕ) → get_or list i no_run ≡ get_or (take count list) i no_run
  pub whole : (i : ℕ) → Whole (get_or list i no_run)
  pub fits : (i : ℕ) → RunFits (get_or list i no_run)

-- the runs of a table as its plan has them
pub record Listed (t : Table) (count : ℕ) (list : List Run) : Type 0 where
  pub runs : RunList count list
  pub listed : take count list ≡ runs_of t

filler : {A : Type 0} (m : ℕ) (d : A) (i : ℕ) → get_or (replicate m d) i d ≡ d
filler zero d i = refl
filler (suc m) d zero = refl
filler (suc m) d (suc i) = filler m d i

-- a list and its filler
padded_any : {A : Type 0} (l : List A) (m : ℕ) (d : A) (i : ℕ) → get_or (l ++ replicate m d) i d ≡ get_or l i d
padded_any [] m d i = filler m d i
padded_any (x ∷ l) m d zero = refl
padded_any (x ∷ l) m d (suc i) = padded_any l m d i

each_any : (P : Run → Type 0) (rs : List Run) (i : ℕ) → P no_run → Each P rs → P (get_or rs i no_run)
each_any P [] i z h = z
each_any P (r ∷ rs) zero z h = h.0
each_any P (r ∷ rs) (suc i) z h = each_any P rs i z h.1

pub listed_runs : (p : Plan) → Planned p → Listed p.table p.count p.runs
listed_runs p h =
    let t = p.table in
    let rs = runs_of t in
    let ec : p.count ≡ length rs = ap (λ (z : Plan). z.count) h.is in
    let el : p.runs ≡ padded 4 no_run rs = ap (λ (z : Plan). z.runs) h.is in
    let l = table_laid t h.accepted in
    let er : take p.count p.runs ≡ rs = ap (λ (z : List Run). take p.count z) el ∙ take_at rs (replicate (4 - length rs) no_run) p.count (sym ec) in
    let at : (i : ℕ) → get_or p.runs i no_run ≡ get_or rs i no_run = λ i. ap (λ (z : List Run). get_or z i no_run) el ∙ padded_any rs (4 - length rs) no_run i in
    record {
      listed = er;
      runs = record {
        few = h.few;
        steps = rw er l.steps;
        valid = rw er l.valid;
        counted = rw er (sym ec);
        at = λ i. rw er (at i);
        whole = λ i. rw (at i) (each_any Whole rs i (run_whole Bpsk1_2 0 0 0 refl) l.whole);
        fits = λ i. rw (at i) (each_any RunFits rs i (record { slots = omega arith; starts = omega arith; ends = omega arith }) l.fit);
      };
    }

-- the runs that the code walks: those before `count`
taken_runs : {t : Table} {count : ℕ} {list : List Run} → Listed t count list → Listed t count (take count list)
taken_runs {t} {count} {list} l =
    let r = l.runs in
    let e : take count (take count list) ≡ take count list = take-take count count list (le_refl count) in
    record {
      listed = e ∙ l.listed;
      runs = record {
        few = r.few;
        steps = rw e r.steps;
        valid = rw e r.valid;
        counted = rw e r.counted;
        at = λ i. rw e refl;
        whole = λ i. rw (← r.at i) (r.whole i);
        fits = λ i. rw (← r.at i) (r.fits i);
      };
    }

pub walked_runs : (p : Plan) → Planned p → Listed p.table p.count (take p.count p.runs)
walked_runs p h = taken_runs (listed_runs p h)

pub walked_count : (p : Plan) → Planned p → length (take p.count p.runs) ≡ p.count
walked_count p h = (listed_runs p h).runs.counted

-- the points of a run are enough for its steps
covers_by : (c : Combination) (steps symbols periods n : ℕ) → steps ≡ periods * period_steps (puncture_of c) → symbols ≡ periods * period_symbols (puncture_of c) (modulation_of c)
    → symbols ≤ n → Covers c steps n
unfolding sent_order
covers_by Bpsk1_2 steps symbols periods n p q h k l = omega arith
covers_by Qpsk1_2 steps symbols periods n p q h k l = omega arith
covers_by Qpsk2_3 steps symbols periods n p q h k l = omega arith
covers_by Qpsk3_4 steps symbols periods n p q h k l = omega arith
covers_by Qpsk5_6 steps symbols periods n p q h k l = omega arith
covers_by Qpsk7_8 steps symbols periods n p q h k l = omega arith
covers_by Tc8psk2_3 steps symbols periods n p q h k l = omega arith

pub run_covers : (r : Run) (n : ℕ) → Whole r → RunFits r → r.symbol_end ≤ r.symbol_start + n → Covers r.combination (steps_of r) n
run_covers r n w f h =
    let s = w.sent in
    covers_by r.combination (steps_of r) (w.periods * period_symbols (puncture_of r.combination) (modulation_of r.combination)) w.periods n w.steps refl (omega arith)

-- the part of a slice from a place on
pub tail_is : {A : Type 0} (a : ℕ) (xs : List A) → take (length xs - a) (drop a xs) ≡ drop a xs
tail_is a xs = take_all (length xs - a) (drop a xs) (rw (length-drop a xs) (omega arith))

pub steps_by_lem : (r : Run) (x : ℕ) → x ≡ slot_steps r.combination → x * r.valid_slots ≡ steps_of r
steps_by_lem r x e = rw e

module _ (count : ℕ) (list : List Run) (l : RunList count list) (i : ℕ) where
  abbrev run : Run
  run = get_or list i no_run

  abbrev rs : List Run
  rs = take count list

  next_steps : steps_to rs (i + 1) ≡ steps_to rs i + steps_of run
  next_steps = rw (add-one i, l.at i) (steps_more rs i)

  pub next_valid : valid_to rs (i + 1) ≡ valid_to rs i + run.valid_slots
  next_valid = rw (add-one i, l.at i) (valid_more rs i)

  steps_fit : steps_to rs i + steps_of run ≤ steps_in rs
  steps_fit = rw (← next_steps) (steps_within rs (i + 1))

  -- within the frame's valid slots
  pub valid_fit : valid_to rs i + run.valid_slots ≤ valid_in rs
  valid_fit = rw (← next_valid) (valid_within rs (i + 1))

  -- the parts from the run's first symbol on are enough
  pub part_covers : (xs : List Float) (n : ℕ) → main_symbols ≤ length xs → n ≡ steps_of run → Covers run.combination n (length (take (length xs - run.symbol_start) (drop run.symbol_start xs)))
  part_covers xs n g e =
      let f = l.fits i in
      let fe = f.ends in
      let d = length-drop run.symbol_start xs in
      rw (e, tail_is run.symbol_start xs) (run_covers run (length (drop run.symbol_start xs)) (l.whole i) f (omega arith))

-- before run i: its points start within the frame, and its steps are within the frame's
pub record RunAt (count : ℕ) (list : List Run) (i step : ℕ) : Type 0 where
  pub runs : RunList count list
  pub done : i ≤ count
  pub starts : (get_or list i no_run).symbol_start ≤ main_symbols
  pub steps_fit : step + steps_of (get_or list i no_run) ≤ steps_in (take count list)
  pub step_is : step ≡ steps_to (take count list) i

run_at : (count : ℕ) (list : List Run) (i step : ℕ) → RunList count list → i ≤ count → step ≡ steps_to (take count list) i → RunAt count list i step
run_at count list i step l h e =
    let f = l.fits i in
    let s = steps_fit count list l i in
    record { runs = l; done = h; starts = omega arith; steps_fit = omega arith; step_is = e }

pub run_first : {count : ℕ} {list : List Run} → RunList count list → RunAt count list 0 0
unfolding steps_in
run_first {count} {list} l = run_at count list 0 0 l (omega arith) refl

pub run_next : {count : ℕ} {list : List Run} {i step n : ℕ} → RunAt count list i step → i < count → n ≡ steps_of (get_or list i no_run) → RunAt count list (i + 1) (step + n)
run_next {count} {list} {i} {step} {n} a h e =
    let es = a.step_is in
    let q = next_steps count list a.runs i in
    run_at count list (i + 1) (step + n) a.runs (omega arith) (omega arith)

-- a turn more of a loop that counts
pub fewer : {i n : ℕ} → i < n → n - (i + 1) < n - i
fewer h = omega arith

-- the numbers of run i are small: its own, where it starts, its steps
module _ {count : ℕ} {list : List Run} {i step : ℕ} (a : RunAt count list i step) where
  pub run_number_lem : i < count → (i < 4) × (i * 48 < 2 ^ 64) × (i + 1 < 2 ^ 64)
  run_number_lem h = let f = a.runs.few in (omega arith, omega arith, omega arith)

  pub run_start : (xs : List Float) → main_symbols ≤ length xs → (get_or list i no_run).symbol_start ≤ length xs
  run_start xs h = let s = a.starts in omega arith

  pub start_small : (get_or list i no_run).symbol_start * 8 < 2 ^ 64
  start_small = let s = a.starts in omega arith

  pub run_steps_lem : {x : ℕ} → x ≡ slot_steps (get_or list i no_run).combination → (x * (get_or list i no_run).valid_slots < 2 ^ 64) × (step + x * (get_or list i no_run).valid_slots < 2 ^ 64)
  run_steps_lem {x} h =
      let e = steps_by_lem (get_or list i no_run) x h in
      let f = a.steps_fit in
      let most = a.runs.steps in
      (omega arith, omega arith)

-- all runs are done
pub run_last : {t : Table} {count : ℕ} {list : List Run} {i step : ℕ} → Listed t count list → RunAt count list i step → count ≤ i → step ≡ frame_steps t
run_last {t} {i = i} l a h =
    let e : i ≡ length (runs_of t) = omega (arith, a.done, rw l.listed at l.runs.counted) in
    rw (l.listed, e, take-length (runs_of t)) at a.step_is

pub all_valid : {t : Table} {count : ℕ} {list : List Run} → Listed t count list → valid_to (take count list) count ≡ valid_total t
all_valid {t} {count} l =
    let e : count ≡ length (runs_of t) = omega (arith, rw l.listed at l.runs.counted) in
    rw (l.listed, e, take-length (runs_of t))

-- what was written over the front of a slice
pub front_is : {A : Type 0} (b us w : List A) (n : ℕ) → b ≡ us ++ drop (length us) w → n ≡ length us → take n b ≡ us
front_is {A} b us w n e q = ap (λ (z : List A). take n z) e ∙ take_at us (drop (length us) w) n (sym q)
