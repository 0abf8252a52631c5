-- `short_viterbi::release` meets its contract.
use mathlib.Core.Path.{◌∙◌, ap}
use Prim.Native.Nat.{ℕ, ◌+◌}
use borrow.Author.Rules.{rules}
use lib.ListN.{take}
use Rattle.trellis.specs.Lists.{laid}
use Rattle.trellis.specs.Step.{traced}
use Rattle.viterbi_core.specs.PartLaws.{shifted}
use borrow.Author.Rules.{rules}
use Rattle.short_viterbi.proofs.release.Goals as goal

pub returns : goal.returns
returns c =
    let cleared = c in
    let moved = cleared in
    let traced-back = moved in
    let best = traced-back in
    let a = best.args in (
      traced-back.trace.ensures ∙ ap (λ (s : ℕ). laid (take 4096 (traced a.h (take (4096 + a.traceback) a.decisions.now) s)) a.out.now) best.best_state-s.ensures.1,
      shifted a.decisions.now moved.move_down.new.decisions cleared.clear.new.decisions 4096 a.traceback (search rules) moved.move_down.ensures cleared.clear.ensures,
    )
