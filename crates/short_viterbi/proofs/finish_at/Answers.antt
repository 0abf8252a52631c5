-- `short_viterbi::finish_at` meets its contract.
use mathlib.Core.Path.{◌≡◌, refl, ◌∙◌, ap}
use Prim.Native.Nat.{ℕ, ◌+◌, ◌-◌, ◌≤◌}
use borrow.Author.Rules.{rules}
use mathlib.Core.List.{List, ◌++◌}
use lib.ListN.{length, take, drop}
use lib.Seq.{length-take-le}
use borrow.Rule.Slice.PartMut.{mid_of, put_mid}
use Rattle.trellis.specs.Lists.{laid}
use Rattle.trellis.specs.Step.{traced}
use Rattle.viterbi_core.specs.TracedLaws.{all_traced}
use Rattle.viterbi_core.specs.PartLaws.{written_tail}
use borrow.Author.Rules.{rules}
use Rattle.short_viterbi.proofs.finish_at.Goals as goal

-- the bits after the first `count` places
put_out : (h : ℕ) (out p d : List ℕ) (count held s : ℕ) → count ≤ length out → held ≤ length d
    → p ≡ laid (take held (traced h (take held d) s)) (mid_of count (length out - count) out)
    → put_mid count (length out - count) out p ≡ take count out ++ laid (traced h (take held d) s) (drop count out)
put_out h out p d count held s i g ep =
    let all : take held (traced h (take held d) s) ≡ traced h (take held d) s = all_traced h (take held d) s held (length-take-le held d g) in
    written_tail count out p (traced h (take held d) s) i (ep ∙ ap (λ (x : List ℕ). laid x (mid_of count (length out - count) out)) all)

pub returns : goal.returns
returns c =
    let cleared = c in
    let traced-back = cleared in
    let a = traced-back.args in (
      refl,
      cleared.clear.ensures,
      put_out a.h a.out.now traced-back.trace.new.out a.decisions.now a.at.count a.at.held a.state
          (search rules) (search rules) traced-back.trace.ensures,
    )
