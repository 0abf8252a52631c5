-- `no_sides` meets its contract.
use mathlib.Core.Path.{◌≡◌, refl, sym, ◌∙◌}
use Prim.Native.Nat.{ℕ}
use native.Mathlib.Omega.{arith}
use lib.ListN.{length, take, replicate}
use lib.Seq.{length-take-le}
use Rattle.std.proofs.lemmas.List.{length-replicate, get_or-replicate}
use Rattle.std.proofs.lemmas.Grind.{same_number_lists}
use Rattle.trellis.specs.Lists.{upto}
use Rattle.trellis.specs.ListLaws.{get_d_upto, length_upto}
use Rattle.best_sides.proofs.no_sides.Goals as goal

abbrev none : ℕ → ℕ
none k = 0

zeros : (n : ℕ) → replicate n 0 ≡ upto none n
zeros n =
    let l : length (replicate n 0) ≡ n = length-replicate n 0 in
    same_number_lists (replicate n 0) (upto none n) (l ∙ sym (length_upto none n)) (λ k h. get_or-replicate n k 0 0 (omega (arith, l)) ∙ sym (get_d_upto none 0 n k (omega (arith, l))))

pub returns : goal.returns
returns c =
    let n = c.args.n in
    let l : length (take n c.args.sides.now) ≡ n = length-take-le n c.args.sides.now (omega arith) in
    rw (c.fill.ensures.after (λ y e. e), l, zeros n, length_upto none n) refl
