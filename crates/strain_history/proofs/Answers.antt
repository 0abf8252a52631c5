-- What the next push of a run answers: no state and no kept sum that the pushes left is refused, so only the pushed sum and the lent slice count.
use Rattle.std.specs.Prelude.{◌≡◌, refl, Bool, true, false, not, ◌||◌, List, [], ◌∷◌, ℕ, ◌+◌, ◌<◌, min, ltb, length}
use Rattle.std.proofs.Common.{◌∙◌, ap, arith, eq-or-lt_of_le, mod-lt, mod-eq_of_lt, ⊎_elim, le-ltb, eq-eqb, ne_eqb, take-append-drop}
use Rattle.std.proofs.lemmas.Bool.{lt-leb}
use Rattle.std.specs.Prelude.{Ok}
use Rattle.refusal.specs.Rows.{first_row, Window, Space}
use Rattle.refusal.specs.RowLaws.{replaced}
use Rattle.strain_window.specs.declared.WindowState.{WindowState}
use Rattle.strain_window.specs.declared.Pushed.{Pushed}
use Rattle.strain_window.specs.Rows.{most_sum, sum_above, bad_state, kept_sums, push_rows}
use Rattle.strain_window.specs.Calls.{pushed_state, push_place, Called}
use Rattle.strain_window.specs.WindowLaws.{Sound}
use Rattle.strain_window.proofs.After.{next_below, fill_within}
use Rattle.strain_history.specs.History as history
use Rattle.strain_history.specs.History.{Run}
use Rattle.strain_history.proofs.HistoryLaws.{call_allowed, held}

-- row 14 allows the numbers of a sound state
allows : (v : WindowState) → Sound v → bad_state v ≡ false
allows v s =
    let one = s.least in
    rw (ne_eqb v.window 0 (λ e. omega arith), le-ltb 256 v.window s.most, le-ltb v.window v.fill s.filled, lt-leb v.window v.next s.below)
    (⊎_elim
    (λ e. rw (eq-eqb v.fill v.window e) refl)
    (λ g. rw (ne_eqb v.fill v.window (λ e. omega arith), eq-eqb v.next v.fill (s.level g)) refl)
    (eq-or-lt_of_le s.filled))

-- an accepted push leaves a sound state
level_after : (clear : Bool) (v : WindowState) → Sound v → (pushed_state clear v).fill < v.window → (pushed_state clear v).next ≡ (pushed_state clear v).fill
level_after true v s h = mod-eq_of_lt {n = 1} {m = v.window} h
level_after false v s h =
    let g : v.fill + 1 < v.window = omega arith in
    let e : min (v.fill + 1) v.window ≡ v.fill + 1 = omega arith in
    rw (e, s.level (omega arith)) (mod-eq_of_lt {n = v.fill + 1} {m = v.window} g)

sound_after : (clear : Bool) (v : WindowState) → Sound v → Sound (pushed_state clear v)
sound_after clear v s =
    record { least = s.least; most = s.most; filled = fill_within clear v s; below = mod-lt (push_place clear v + 1) s.least; level = level_after clear v s }

-- what the pushes of a run leave
pub record Passed (v : WindowState) (kept : List ℕ) : Type 0 where
  pub state_sound : Sound v
  pub kept_below : sum_above (kept_sums v kept) ≡ false

passed_after : (clear : Bool) (v : WindowState) (sum : ℕ) (lent kept : List ℕ) (r : Pushed) → Called v clear sum lent (Ok r) kept → Passed r.state kept
passed_after clear v sum lent kept r c =
    let p = c.leaves in
    let a = call_allowed c in
    rw (p.state_is, p.kept_is) (record { state_sound = sound_after clear v a.state_sound; kept_below = next_below clear v sum lent a })

pub passed : {w : ℕ} {v : WindowState} {kept h : List ℕ} {last : Pushed} → Run w v kept h last → Passed v kept
passed (history.first {v = v} {clear = clear} {sum = sum} {lent = lent} {kept = kept} {r = r} e st c) = passed_after clear v sum lent kept r c
passed (history.accepted {v = v} {clear = clear} {sum = sum} {lent = lent} {kept = kept} {r = r} run same c) = passed_after clear v sum lent kept r c
passed (history.refused n memory run same c) =
    let i = passed run in
    rw (c.leaves, take-append-drop n memory) (record { state_sound = i.state_sound; kept_below = rw same i.kept_below })

pub next_answer : {w : ℕ} {v : WindowState} {left h : List ℕ} {last : Pushed} → Run w v left h last → (sum : ℕ) (lent : List ℕ) → kept_sums v lent ≡ kept_sums v left
    → first_row (push_rows v sum lent) ≡ first_row ((Window, ltb most_sum sum) ∷ (Space, ltb (length lent) w) ∷ [])
next_answer {w} {v} run sum lent same =
    let i = passed run in
    let below : sum_above (kept_sums v lent) ≡ false = rw same i.kept_below in
    ap (λ (b : Bool). first_row (replaced Window b (push_rows v sum lent))) (sum_alone (ltb most_sum sum) (allows v i.state_sound) below)
    ∙ ap (λ (n : ℕ). first_row (replaced Window (ltb most_sum sum) (replaced Space (ltb (length lent) n) (push_rows v sum lent)))) (held run).window_is
  where
    sum_alone : (t : Bool) → bad_state v ≡ false → sum_above (kept_sums v lent) ≡ false → (bad_state v || t || sum_above (kept_sums v lent)) ≡ t
    sum_alone true e f = rw e refl
    sum_alone false e f = rw (e, f) refl
