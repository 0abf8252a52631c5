-- `isdb_code_flush_at` meets its contract.
use mathlib.Core.Path.{◌≡◌}
use lib.ListN.{length, take}
use Rattle.trellis.specs.Lists.{first_place}
use Rattle.isdb_fec.specs.declared.conv.ViterbiDecoder.{ViterbiDecoder}
use Rattle.short_fec.specs.Rows.{handed_rows, flush_rows}
use Rattle.short_fec.specs.Calls.{end_of}
use Rattle.c_decoder.specs.Decoders.{decoder_of}
use Rattle.c_decoder.specs.StoredLaws.{unflushed}
use Rattle.trellis.specs.Step.{traced}
use Rattle.short_code.specs.Codes.{half_of}
use Rattle.c_short.specs.Stored.{code_from}
use Rattle.c_answers.proofs.LengthLaws.{not_states, until_refuses}
use Rattle.c_short.proofs.Laws.{flushed}
use Rattle.c_short.proofs.isdb_code_flush_at.Goals as goal

pub returns-then-pm-ne-STATES : goal.returns-then-pm-ne-STATES
unfolding first_place
returns-then-pm-ne-STATES c =
    let code-from = c in
    let start = code-from in
    let a = start.args in
    let k = code_from a.constraint a.g1 a.g2 in
    let w : ViterbiDecoder = decoder_of a.pm.now a.held.now a.traceback in
    let n = c.not_states.result in
    let e = rw code-from.code_from-code.ensures at c.not_states.ensures in
    let h = until_refuses (handed_rows k w) tt n e in record { answers = not_states a.pm.now (flush_rows k w (length a.decisions.now) (length a.out.now)) n c.if-pm-ne-STATES.true e; leaves = unflushed (traced (half_of k) (take w.held a.decisions.now) (end_of k a.end)) n w a.count.now a.decisions.now a.out.now h }

pub returns : goal.returns
returns c =
    let s = c in
    let p = s in
    let d = p in
    let if1 = d in
    let start = if1 in
    let a = start.args in
    let code = if1.code_from-code in
    let v = d.decoder_of-v.result in
    let w : ViterbiDecoder = decoder_of a.pm.now a.held.now a.traceback in
    let e : v ≡ w = d.decoder_of-v.ensures in
    let t = flushed code.result (code_from a.constraint a.g1 a.g2) code.ensures v w e (λ k v. flush_rows k v (length a.decisions.now) (length a.out.now)) p.flush_at-r.result s.store.result s.store.new.pm s.store.new.held a.count.now s.store.new.count a.decisions.now p.flush_at-r.new.decisions a.out.now p.flush_at-r.new.out if1.if-pm-ne-STATES.false s.store.ensures.answers s.store.ensures.places p.flush_at-r.ensures.answers (λ k v. end_of k a.end) p.flush_at-r.ensures.leaves in
    record { answers = t.0; leaves = t.1 }
