-- `first_beyond` meets its contract.
use mathlib.Core.Path.{◌≡◌, sym, ◌∙◌, ap}
use mathlib.Core.List.{List}
use Prim.Native.Nat.{ℕ, ◌-◌}
use native.Mathlib.Omega.{arith}
use lib.ListN.{take}
use lib.Seq.{take_all}
use lib.Ieee.{Float}
use Rattle.viterbi_rows.specs.Values.{some_beyond, path_limit}
use Rattle.short_rows.proofs.first_beyond.Goals as goal

pub returns-then-pm-n : goal.returns-then-pm-n
returns-then-pm-n c =
    let a = c.args in
    c.some_beyond.ensures ∙ ap (λ (l : List Float). some_beyond path_limit l) (sym (take_all a.n a.pm.now (omega arith)))

pub returns-else-pm-n : goal.returns-else-pm-n
returns-else-pm-n c =
    let a = c.args in
    let e : a.n - 0 ≡ a.n = omega arith in
    c.some_beyond-else-pm-n.ensures ∙ ap (λ (k : ℕ). some_beyond path_limit (take k a.pm.now)) e
