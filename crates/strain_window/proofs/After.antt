-- The kept sums after an accepted push, by cases: the first of its window, one more of a window that is not full, one in place of the oldest.
use Rattle.std.specs.Prelude.{◌≡◌, refl, Bool, true, false, ◌||◌, List, [], ◌∷◌, ◌++◌, ℕ, zero, suc, ◌+◌, ◌≤◌, ◌<◌, min, ltb, length, take, set}
use Rattle.std.proofs.Common.{⊎_elim, arith, eq-or-lt_of_le, length-set, take-suc-set, length-take-le}
use Rattle.std.proofs.Math.Seq.{take-set-lt}
use Rattle.refusal.proofs.RowLaws.{neither}
use Rattle.strain_window.specs.declared.WindowState.{WindowState}
use Rattle.strain_window.specs.Rows.{most_sum, sum_above, bad_state, kept_sums, bad_window}
use Rattle.strain_window.specs.Calls.{push_place, fill_after}
use Rattle.strain_window.specs.WindowLaws.{Sound}
use Rattle.strain_window.proofs.WindowLaws.{sound}
use Rattle.strain_window.specs.After.{Allowed, Written, next_sums}

pub allowed : (v : WindowState) (sum : ℕ) (kept : List ℕ) → bad_window v sum kept ≡ false → v.window ≤ length kept → Allowed v sum kept
allowed v sum kept e h =
    let a = neither (bad_state v || ltb most_sum sum) (sum_above (kept_sums v kept)) e in
    let b = neither (bad_state v) (ltb most_sum sum) a.0 in
    record { state_sound = sound v b.0; sum_below = b.1; kept_below = a.1; room = h }

-- ---- the three cases
module _ (v : WindowState) (sum : ℕ) (kept : List ℕ) (s : Sound v) (room : v.window ≤ length kept) where
  pub after_clear : next_sums true v sum kept ≡ sum ∷ []
  after_clear = let h = s.least in take-suc-set kept 0 sum (omega arith)

  pub after_room : v.fill < v.window → next_sums false v sum kept ≡ kept_sums v kept ++ (sum ∷ [])
  after_room h =
      let e : min (v.fill + 1) v.window ≡ suc v.fill = omega arith in
      rw (e, s.level h) (take-suc-set kept v.fill sum (omega arith))

  pub after_full : v.fill ≡ v.window → next_sums false v sum kept ≡ set (kept_sums v kept) v.next sum
  after_full h =
      let e : min (v.fill + 1) v.window ≡ v.fill = omega arith in
      let b = s.below in
      rw e (take-set-lt v.fill kept v.next sum (omega arith))

-- ---- no sum is above the most
above_append : (xs ys : List ℕ) → sum_above xs ≡ false → sum_above ys ≡ false → sum_above (xs ++ ys) ≡ false
unfolding sum_above
above_append [] ys e f = f
above_append (x ∷ xs) ys e f =
    let n = neither (ltb most_sum x) (sum_above xs) e in
    rw n.0 (above_append xs ys n.1 f)

above_one : (x : ℕ) → ltb most_sum x ≡ false → sum_above (x ∷ []) ≡ false
unfolding sum_above
above_one x e = rw e refl

above_set : (xs : List ℕ) (i x : ℕ) → sum_above xs ≡ false → ltb most_sum x ≡ false → sum_above (set xs i x) ≡ false
unfolding sum_above
above_set [] i x e f = refl
above_set (y ∷ xs) zero x e f = rw f (neither (ltb most_sum y) (sum_above xs) e).1
above_set (y ∷ xs) (suc i) x e f =
    let n = neither (ltb most_sum y) (sum_above xs) e in
    rw n.0 (above_set xs i x n.1 f)

pub next_below : (clear : Bool) (v : WindowState) (sum : ℕ) (kept : List ℕ) → Allowed v sum kept → sum_above (next_sums clear v sum kept) ≡ false
next_below true v sum kept a = rw (after_clear v sum kept a.state_sound a.room) (above_one sum a.sum_below)
next_below false v sum kept a =
    ⊎_elim
    (λ h. rw (after_full v sum kept a.state_sound a.room h) (above_set (kept_sums v kept) v.next sum a.kept_below a.sum_below))
    (λ h. rw (after_room v sum kept a.state_sound a.room h) (above_append (kept_sums v kept) (sum ∷ []) a.kept_below (above_one sum a.sum_below)))
    (eq-or-lt_of_le a.state_sound.filled)

-- ---- the numbers of the next state
pub place_below : (clear : Bool) (v : WindowState) → Sound v → push_place clear v < v.window
place_below true v s = s.least
place_below false v s = s.below

pub fill_within : (clear : Bool) (v : WindowState) → Sound v → fill_after clear v ≤ v.window
fill_within true v s = s.least
fill_within false v s = omega arith

pub written : {v : WindowState} {sum : ℕ} {kept : List ℕ} {p n : ℕ} (clear : Bool) → Allowed v sum kept → p ≡ push_place clear v → n ≡ fill_after clear v → Written clear v sum kept p n
written {v} {sum} {kept} {p} {n} clear ok place_is fill_is =
    let place = place_below clear v ok.state_sound in
    let fill = fill_within clear v ok.state_sound in
    let most = ok.state_sound.most in
    let room = ok.room in
    let size = length-set kept p sum in
    let inside : n ≤ length (set kept p sum) = omega arith in
    let front = length-take-le n (set kept p sum) inside in
    let is : take n (set kept p sum) ≡ next_sums clear v sum kept = rw (place_is, fill_is) refl in
    record {
      place_in = omega arith;
      front_in = inside;
      front_length = front;
      front_most = omega arith;
      front_is = is;
      front_below = rw is (next_below clear v sum kept ok);
    }
