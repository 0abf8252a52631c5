-- `short_fec::soft_run` meets its contract.
use Rattle.trellis.specs.Isdb.{rule}
use Rattle.trellis.specs.Run.{holding}
use Rattle.viterbi_core.specs.HoldingLaws.{holds_closed}
use Rattle.short_viterbi.specs.Soft.{soft_steps}
use Rattle.short_code.specs.Codes.{labels}
use Rattle.short_fec.proofs.soft_run.Goals as goal

pub returns : goal.returns
returns c =
    let soft-steps = c in
    let start = soft-steps in
    let a = start.args in
    let all = soft-steps.soft_steps-end in
    holds_closed a.s.h (labels a.s.code) rule a.s.traceback (soft_steps a.per a.values.now) (holding a.pm.now a.at.held a.decisions.now) a.n a.decisions.now a.out.now
    all.new.pm c.renormalise.new.pm all.result.held all.result.count _ _ all.ensures c.renormalise.ensures
