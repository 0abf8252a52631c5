-- A call over two lists as a call over each, one after the other. Known bits may be cut anywhere; soft values and metrics after n steps with n % 64 = 0, since each call
-- counts its steps anew, and where subtracting the maximum changes nothing there, since a call subtracts it at its end.
use Rattle.std.specs.Prelude.{◌≡◌, Bool, true, false, leb, length, get_or, take, drop, Float}
use Rattle.std.proofs.Math.Path.{refl, ap}
use Rattle.std.proofs.Common.{sym, ◌∙◌, add-zero, add-suc, length-append, get_or-append-add, leb-true, leb-false}
use mathlib.Core.List.{List, [], ◌++◌, append-nil, append_assoc}
use Prim.Native.Nat.{ℕ, zero, suc, ◌+◌, ◌-◌, ◌*◌, ◌/◌, ◌%◌, ◌<◌, ◌≤◌}
use native.Mathlib.Omega.{arith}
use Rattle.std.proofs.Math.ListN.{get_or-append}
use Rattle.std.specs.Float.{nan}
use Rattle.trellis.specs.Step.{Step, Tie, pair, four, known, nexts, best, renormalised, traced}
use Rattle.trellis.specs.Run.{Decoder, block, settled, stepped, after, closed, pushed, pair_steps, four_steps, known_steps}
use Rattle.viterbi_core.specs.StepLaws.{grown, unreleased, releasing}
use Rattle.viterbi_core.specs.HoldingLaws.{bare}

-- a second call after a first: its state and words, and the bits of both
abbrev pub then : Decoder → Decoder → Decoder
then first second = record { values = second.values; words = second.words; bits = first.bits ++ second.bits }

-- a value of the first list, and of the second
front_at : (xs ys : List Float) (i : ℕ) → i < length xs → get_or (xs ++ ys) i nan ≡ get_or xs i nan
front_at xs ys = get_or-append xs ys nan

back_at_lem : (xs ys : List Float) (i j : ℕ) → i ≡ length xs + j → get_or (xs ++ ys) i nan ≡ get_or ys j nan
back_at_lem xs ys i j e = rw e (get_or-append-add xs ys j nan)

module _ (half : ℕ) (label : ℕ → ℕ → ℕ) (rule : Tie) where
  -- ---- calls as functions of a decoder: of known bits, of soft values, of metrics
  abbrev known_call : ℕ → List ℕ → Decoder → Decoder
  known_call tb bits d = after half label rule tb (known_steps bits) d (length bits)

  abbrev pair_call : ℕ → List Float → Decoder → Decoder
  pair_call tb pairs d = pushed half label rule tb (pair_steps pairs) d (length pairs / 2)

  abbrev four_call : ℕ → List Float → Decoder → Decoder
  four_call tb metrics d = pushed half label rule tb (four_steps metrics) d (length metrics / 4)

  -- ---- steps
  -- a step puts its bits after those of an earlier call
  step_then : (tb i : ℕ) (x : Step) (a d : Decoder) → stepped half label rule tb i x (then a d) ≡ then a (stepped half label rule tb i x d)
  step_then tb i x a d = by_case (leb (block + tb) (length d.words + 1)) refl
    where
      by_case : (t : Bool) → leb (block + tb) (length d.words + 1) ≡ t → stepped half label rule tb i x (then a d) ≡ then a (stepped half label rule tb i x d)
      by_case false e =
          let g = leb-false (block + tb) (length d.words + 1) e in
          unreleased half label rule tb i x (then a d) g ∙ ap (λ (y : Decoder). then a y) (sym (unreleased half label rule tb i x d g))
      by_case true e =
          let g = leb-true (block + tb) (length d.words + 1) e in
          let ws = grown half label rule d.values d.words x in
          let pm = settled half label rule i x (nexts half label rule d.values x) in
          releasing half label rule tb i x (then a d) g
          ∙ ap (λ (y : List ℕ). record { values = pm; words = drop block ws; bits = y }) (append_assoc a.bits d.bits (take block (traced half ws (best rule pm (2 * half - 1)))))
          ∙ ap (λ (y : Decoder). then a y) (sym (releasing half label rule tb i x d g))

  -- where the maximum is subtracted alike, two indices in a call make no difference
  same_step : (tb i j : ℕ) (x : Step) (d : Decoder) → ((pm : List Float) → settled half label rule i x pm ≡ settled half label rule j x pm) → stepped half label rule tb i x d ≡ stepped half label rule tb j x d
  unfolding stepped
  same_step tb i j x d e = rw (e (nexts half label rule d.values x)) refl

  -- n steps, and m more that subtract the maximum where the first m steps of a call do
  module _ (tb : ℕ) (xs ys zs : ℕ → Step) (d : Decoder) (n : ℕ) (front : (k : ℕ) → k < n → zs k ≡ xs k) where
    steps_front : (k : ℕ) → k ≤ n → after half label rule tb zs d k ≡ after half label rule tb xs d k
    unfolding after
    steps_front zero h = refl
    steps_front (suc k) h = rw (front k h) (ap (λ (y : Decoder). stepped half label rule tb k (xs k) y) (steps_front k (omega arith)))

    module _ (same : (k : ℕ) (pm : List Float) → settled half label rule (n + k) (ys k) pm ≡ settled half label rule k (ys k) pm) where
      steps_then : (m : ℕ) → ((k : ℕ) → k < m → zs (n + k) ≡ ys k) → after half label rule tb zs d (n + m) ≡ then (after half label rule tb xs d n) (after half label rule tb ys (bare (after half label rule tb xs d n)) m)
      unfolding after
      steps_then zero back =
          let first = after half label rule tb xs d n in
          rw (add-zero n) (steps_front n (omega arith) ∙ ap (λ (y : List ℕ). record { values = first.values; words = first.words; bits = y }) (sym (append-nil first.bits)))
      steps_then (suc m) back =
          let first = after half label rule tb xs d n in
          let second = after half label rule tb ys (bare first) m in
          rw (add-suc n m, back m (omega arith)) (
          ap (λ (y : Decoder). stepped half label rule tb (n + m) (ys m) y) (steps_then m (λ k h. back k (omega arith)))
          ∙ same_step tb (n + m) m (ys m) (then first second) (same m)
          ∙ step_then tb m (ys m) first second
          )

  -- ---- known bits
  -- each known bit subtracts the maximum, wherever it stands
  known_same : (i j b : ℕ) (pm : List Float) → settled half label rule i (known b) pm ≡ settled half label rule j (known b) pm
  unfolding settled
  known_same i j b pm = refl

  pub known_run : (tb : ℕ) (bs cs : List ℕ) (d : Decoder) → known_call tb (bs ++ cs) d ≡ then (known_call tb bs d) (known_call tb cs (bare (known_call tb bs d)))
  known_run tb bs cs d =
      rw (length-append bs cs)
      (steps_then tb (known_steps bs) (known_steps cs) (known_steps (bs ++ cs)) d (length bs) (λ k h. ap known (get_or-append bs cs 0 k h))
      (λ k pm. known_same (length bs + k) k (get_or cs k 0) pm)
      (length cs) (λ k h. ap known (get_or-append-add bs cs k 0)))

  -- ---- soft values and metrics
  -- a multiple of 64 steps before makes no difference
  same_count : (n k : ℕ) (x : Step) (pm : List Float) → n % 64 ≡ 0 → settled half label rule (n + k) x pm ≡ settled half label rule k x pm
  unfolding settled
  same_count n k (pair lx ly) pm h = let e : (n + k) % 64 ≡ k % 64 = omega arith in rw e refl
  same_count n k (four m) pm h = let e : (n + k) % 64 ≡ k % 64 = omega arith in rw e refl
  same_count n k (known b) pm h = refl

  -- a call cut after n steps
  module _ (tb : ℕ) (xs ys zs : ℕ → Step) (d : Decoder) (n m : ℕ) (front : (k : ℕ) → k < n → zs k ≡ xs k) (back : (k : ℕ) → k < m → zs (n + k) ≡ ys k)
      (whole : n % 64 ≡ 0) (normalised : renormalised half (after half label rule tb xs d n).values ≡ (after half label rule tb xs d n).values) where
    call_then : pushed half label rule tb zs d (n + m) ≡ then (pushed half label rule tb xs d n) (pushed half label rule tb ys (bare (pushed half label rule tb xs d n)) m)
    call_then =
        let first = after half label rule tb xs d n in
        ap (closed half label rule) (steps_then tb xs ys zs d n front (λ k pm. same_count n k (ys k) pm whole) m back)
        ∙ ap (λ (pm : List Float). then first (pushed half label rule tb ys (record { values = pm; words = first.words; bits = [] }) m)) (sym normalised)

  pub pair_run : (tb : ℕ) (ps qs : List Float) (d : Decoder) (n : ℕ) → length ps ≡ 2 * n → n % 64 ≡ 0
      → renormalised half (after half label rule tb (pair_steps ps) d n).values ≡ (after half label rule tb (pair_steps ps) d n).values
      → pair_call tb (ps ++ qs) d ≡ then (pair_call tb ps d) (pair_call tb qs (bare (pair_call tb ps d)))
  pair_run tb ps qs d n e whole normalised =
      let all : length (ps ++ qs) / 2 ≡ n + length qs / 2 = ap (λ (k : ℕ). k / 2) (length-append ps qs) ∙ omega arith in
      let part : length ps / 2 ≡ n = omega arith in
      rw (all, part)
      (call_then tb (pair_steps ps) (pair_steps qs) (pair_steps (ps ++ qs)) d n (length qs / 2)
      (λ k h. rw (front_at ps qs (2 * k) (omega arith), front_at ps qs (2 * k + 1) (omega arith)) refl)
      (λ k h. rw (back_at_lem ps qs (2 * (n + k)) (2 * k) (omega arith), back_at_lem ps qs (2 * (n + k) + 1) (2 * k + 1) (omega arith)) refl)
      whole normalised)

  pub four_run : (tb : ℕ) (ms ns : List Float) (d : Decoder) (n : ℕ) → length ms ≡ 4 * n → n % 64 ≡ 0
      → renormalised half (after half label rule tb (four_steps ms) d n).values ≡ (after half label rule tb (four_steps ms) d n).values
      → four_call tb (ms ++ ns) d ≡ then (four_call tb ms d) (four_call tb ns (bare (four_call tb ms d)))
  four_run tb ms ns d n e whole normalised =
      let all : length (ms ++ ns) / 4 ≡ n + length ns / 4 = ap (λ (k : ℕ). k / 4) (length-append ms ns) ∙ omega arith in
      let part : length ms / 4 ≡ n = omega arith in
      rw (all, part)
      (call_then tb (four_steps ms) (four_steps ns) (four_steps (ms ++ ns)) d n (length ns / 4)
      (λ k h. rw (front_at ms ns (4 * k) (omega arith), front_at ms ns (4 * k + 1) (omega arith), front_at ms ns (4 * k + 2) (omega arith), front_at ms ns (4 * k + 3) (omega arith)) refl)
      (λ k h. rw (
        back_at_lem ms ns (4 * (n + k)) (4 * k) (omega arith),
        back_at_lem ms ns (4 * (n + k) + 1) (4 * k + 1) (omega arith),
        back_at_lem ms ns (4 * (n + k) + 2) (4 * k + 2) (omega arith),
        back_at_lem ms ns (4 * (n + k) + 3) (4 * k + 3) (omega arith),
      ) refl)
      whole normalised)
