-- `isdb_flush` meets its contract: the library's call on a copy of the state, handed back.
use mathlib.Core.Path.{◌≡◌}
use lib.ListN.{length, take}
use Rattle.trellis.specs.Lists.{first_place}
use Rattle.isdb_fec.specs.declared.conv.ViterbiDecoder.{ViterbiDecoder}
use Rattle.isdb_fec.specs.Calls.{flush, handed}
use Rattle.isdb_fec.specs.Rows.{handed_rows, flush_rows}
use Rattle.c_decoder.specs.Decoders.{decoder_of}
use Rattle.c_answers.proofs.LengthLaws.{not_states, until_refuses}
use Rattle.c_decoder.specs.StoredLaws.{unflushed}
use Rattle.c_fec.proofs.Decoders.{flush_done}
use Rattle.c_fec.proofs.isdb_flush.Goals as goal

pub returns-then-pm-ne-STATES : goal.returns-then-pm-ne-STATES
unfolding first_place
returns-then-pm-ne-STATES c =
    let a = c.args in
    let w : ViterbiDecoder = decoder_of a.pm.now a.held.now a.traceback in
    let f : ViterbiDecoder = decoder_of (take 64 a.pm.now) a.held.now a.traceback in
    let n = c.not_states.result in
    let h = until_refuses (handed_rows f) tt n c.not_states.ensures in
    record {
      answers = not_states a.pm.now (flush_rows f (length a.decisions.now) (length a.out.now)) n c.if-pm-ne-STATES.true c.not_states.ensures;
      leaves = unflushed (flush (handed w a.decisions.now)).bits n w a.count.now a.decisions.now a.out.now h;
    }

pub returns : goal.returns
returns c =
    let s = c in
    let p = s in
    let d = p in
    let if1 = d in
    let start = if1 in
    let a = start.args in
    let v = d.decoder_of-v.result in
    let w : ViterbiDecoder = decoder_of a.pm.now a.held.now a.traceback in
    let e : v ≡ w = d.decoder_of-v.ensures in
    let both = flush_done v w e (λ v. flush_rows v (length a.decisions.now) (length a.out.now)) p.flush-r.result s.store.result s.store.new.pm s.store.new.held a.count.now s.store.new.count a.decisions.now p.flush-r.new.decisions a.out.now p.flush-r.new.out if1.if-pm-ne-STATES.false s.store.ensures.answers s.store.ensures.places p.flush-r.ensures.answers (λ v. (flush (handed v a.decisions.now)).bits) p.flush-r.ensures.leaves in
    record { answers = both.0; leaves = both.1 }
