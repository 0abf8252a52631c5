-- `short_rows::few` meets its contract.
use mathlib.Core.Path.{◌≡◌, refl}
use mathlib.Core.Bool.{Bool, true, false}
use Prim.Native.Nat.{ℕ, ◌*◌, ◌/◌}
use native.Mathlib.Omega.{arith}
use borrow.Author.Tests.{ltb-true, ltb-false, lt-ltb, le-ltb}
use lib.Dec.{ltb}
use Rattle.short_rows.proofs.few.Goals as goal

-- too few places, by a quotient
few_is : (space n : ℕ) (t : Bool) → ltb space (2 * n) ≡ t → ltb (space / 2) n ≡ t
few_is space n true e = lt-ltb (space / 2) n (let h = ltb-true space (2 * n) e in omega arith)
few_is space n false e = le-ltb (space / 2) n (let h = ltb-false space (2 * n) e in omega arith)

pub returns : goal.returns
returns c = few_is c.args.space c.args.n (ltb c.args.space (2 * c.args.n)) refl
