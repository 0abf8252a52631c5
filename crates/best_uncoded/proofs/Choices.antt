-- The uncoded bits of a path as the code works them out.
use mathlib.Core.Path.{◌≡◌, refl, ap, ◌∙◌}
use mathlib.Core.List.{List}
use Prim.Native.Nat.{ℕ, ◌+◌, ◌*◌, ◌/◌, ◌%◌, ◌^◌, ◌≤◌, ◌<◌}
use native.Mathlib.Omega.{arith}
use native.Mathlib.Numerals.{add-one}
use lib.ListN.{get_or}
use Rattle.trellis.specs.Code.{state_at}
use Rattle.trellis.specs.Isdb
use borrow.Author.Tests.{lt-leb, le-leb}
use Rattle.best_grid.specs.Sides.{chosen_at, chosen}

pub coded : (side l : ℕ) → side < 16 → chosen_at side l ≡ 0
coded side l h = rw (lt-leb 16 side h) refl

pub uncoded : (side l : ℕ) → 16 ≤ side → chosen_at side l ≡ side / 2 ^ l % 2
uncoded side l h = rw (le-leb 16 side h) refl

-- the bit of one step more
pub chosen_is : (sides bits : List ℕ) (s t st l z : ℕ) → get_or bits t 0 < 2 → st < 64 → st ≡ state_at 32 s bits t → l ≡ Isdb.labels (get_or bits t 0 % 2) (st % 64) → z ≡ chosen_at (get_or sides t 0) l → z ≡ chosen sides bits s t
chosen_is sides bits s t st l z hb hs e is-l is-z =
    let a : get_or bits t 0 % 2 ≡ get_or bits t 0 = omega arith in
    let b : st % 64 ≡ st = omega arith in
    is-z ∙ ap (chosen_at (get_or sides t 0)) (is-l ∙ rw (a, b) (ap (Isdb.labels (get_or bits t 0)) e))

pub state_more : (bits : List ℕ) (s t st : ℕ) → st ≡ state_at 32 s bits t → 32 * get_or bits t 0 + st / 2 ≡ state_at 32 s bits (t + 1)
unfolding state_at
state_more bits s t st e = rw (e, add-one t) refl
