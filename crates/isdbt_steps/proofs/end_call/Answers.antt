-- `isdbt_steps::end_call` meets its contract: three calls in a row.
use mathlib.Core.Path.{◌∙◌, ap}
use mathlib.Core.List.{List, ◌++◌}
use Prim.Native.Nat.{ℕ, ◌+◌}
use lib.ListN.{take, drop, replicate}
use lib.Ieee.{Float}
use Rattle.trellis.specs.Lists.{laid}
use Rattle.viterbi_core.specs.Calls.{best_state, traced}
use Rattle.isdbt_steps.proofs.end_call.Goals as goal

pub returns : goal.returns
returns c =
    let zeroed = c in
    let ended = zeroed in
    let low = ended in
    let a = low.args in
    let f = ended.finish-bits.ensures in (
      f.0,
      zeroed.clear.ensures ∙ ap (λ (l : List ℕ). laid (replicate (4096 + a.traceback) 0) l) f.1,
      f.2 ∙ ap (λ (y : List Float). take a.at.count a.out.now ++ laid (traced (take a.at.held a.decisions.now) (best_state y)) (drop a.at.count a.out.now)) low.renormalise.ensures,
    )
