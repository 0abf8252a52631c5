-- `isdb_push_metrics` meets its contract: the library's call on a copy of the state, handed back.
use mathlib.Core.Path.{◌≡◌}
use Prim.Native.Nat.{◌/◌}
use lib.ListN.{length, take}
use Rattle.trellis.specs.Lists.{first_place}
use Rattle.isdb_fec.specs.declared.conv.ViterbiDecoder.{ViterbiDecoder}
use Rattle.isdb_fec.specs.Rows.{handed_rows, push_metrics_rows}
use Rattle.isdb_fec.specs.Calls.{call, handed}
use Rattle.trellis.specs.Run.{four_steps}
use Rattle.c_decoder.specs.Decoders.{decoder_of}
use Rattle.c_answers.proofs.LengthLaws.{not_states, until_refuses}
use Rattle.c_decoder.specs.StoredLaws.{unstored}
use Rattle.c_fec.proofs.Decoders.{pushed}
use Rattle.c_fec.proofs.isdb_push_metrics.Goals as goal

pub returns-then-pm-ne-STATES : goal.returns-then-pm-ne-STATES
unfolding first_place
returns-then-pm-ne-STATES c =
    let start = c in
    let a = start.args in
    let w : ViterbiDecoder = decoder_of a.pm.now a.held.now a.traceback in
    let f : ViterbiDecoder = decoder_of (take 64 a.pm.now) a.held.now a.traceback in
    let n = c.not_states.result in
    let h = until_refuses (handed_rows f) tt n c.not_states.ensures in
    record {
      answers = not_states a.pm.now (push_metrics_rows f a.metrics.now (length a.decisions.now) (length a.out.now)) n c.if-pm-ne-STATES.true c.not_states.ensures;
      leaves = unstored n a.traceback (call a.traceback (four_steps a.metrics.now) (handed w a.decisions.now) (length a.metrics.now / 4)) a.pm.now a.held.now a.count.now a.decisions.now a.out.now h;
    }

pub returns : goal.returns
returns c =
    let s = c in
    let p = s in
    let d = p in
    let if1 = d in
    let start = if1 in
    let a = start.args in
    let v = d.decoder_of-v.result in
    let w : ViterbiDecoder = decoder_of a.pm.now a.held.now a.traceback in
    let e : v ≡ w = d.decoder_of-v.ensures in
    let both = pushed v w e (λ v. push_metrics_rows v a.metrics.now (length a.decisions.now) (length a.out.now)) p.push_metrics-r.result s.store.result s.store.new.pm s.store.new.held a.count.now s.store.new.count a.decisions.now p.push_metrics-r.new.decisions a.out.now p.push_metrics-r.new.out if1.if-pm-ne-STATES.false s.store.ensures.answers s.store.ensures.places p.push_metrics-r.ensures.answers (λ v. call v.traceback (four_steps a.metrics.now) (handed v a.decisions.now) (length a.metrics.now / 4)) p.push_metrics-r.ensures.leaves in
    record { answers = both.0; leaves = both.1 }
