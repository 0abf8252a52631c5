-- `viterbi_core::few_places` meets its contract.
use mathlib.Core.Path.{◌≡◌, refl, sym, ◌∙◌}
use Prim.Native.Nat.{ℕ, ◌+◌, ◌-◌, ◌*◌, ◌/◌, ◌%◌, ◌≤◌}
use native.Mathlib.Omega.{arith}
use borrow.Author.Rules.{rules}
use mathlib.Core.Bool.{Bool, true, false, cond}
use lib.Dec.{ltb}
use borrow.Author.Tests.{ltb-true, ltb-false, lt-ltb, le-ltb}
use Rattle.trellis.specs.Run.{releases}
use borrow.Author.Rules.{rules}
use Rattle.viterbi_core.proofs.few_places.Goals as goal

-- the number of releases, worked out with no sum that could be too large
releases_is : (tb h n : ℕ) (t : Bool) → tb ≤ 1024 → ltb (h + n) (4096 + tb) ≡ t → cond t 0 ((h + n - tb) / 4096) ≡ n / 4096 + (n % 4096 + h + (4096 - tb)) / 4096 - 1
releases_is tb h n true g e = omega (arith, ltb-true)
releases_is tb h n false g e = omega (arith, ltb-false)

-- whole blocks: too few of them, and too few places
fewer : (space r : ℕ) (t : Bool) → ltb (space / 4096) r ≡ t → t ≡ ltb space (4096 * r)
fewer space r true e = sym (lt-ltb space (4096 * r) (omega (arith, ltb-true)))
fewer space r false e = sym (le-ltb space (4096 * r) (omega (arith, ltb-false)))

pub returns-then-blocks-le1 : goal.returns-then-blocks-le1
returns-then-blocks-le1 c =
    let a = c.args in
    let e : releases a.traceback a.held a.n ≡ 0 =
    releases_is a.traceback a.held a.n (ltb (a.held + a.n) (4096 + a.traceback)) (search rules) refl ∙ omega arith in
    rw e (sym (le-ltb a.space 0 (search rules)))

pub returns-else-blocks-le1 : goal.returns-else-blocks-le1
returns-else-blocks-le1 c =
    let a = c.args in
    let e : releases a.traceback a.held a.n ≡ a.n / 4096 + (a.n % 4096 + a.held + (4096 - a.traceback)) / 4096 - 1 =
    releases_is a.traceback a.held a.n (ltb (a.held + a.n) (4096 + a.traceback)) (search rules) refl in
    let r = a.n / 4096 + (a.n % 4096 + a.held + (4096 - a.traceback)) / 4096 - 1 in
    rw e (fewer a.space r (ltb (a.space / 4096) r) refl)
