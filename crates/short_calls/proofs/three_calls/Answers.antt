-- `three_calls` meets its contract: it is what the calls promise, and `three_calls` of it.
use Rattle.std.proofs.Common.{ap, ◌∙◌}
use Rattle.isdb_fec.specs.declared.conv.ViterbiDecoder.{ViterbiDecoder}
use Rattle.range_calls.specs.Handed.{decoder_after}
use Rattle.short_calls.specs.Three.{made_is, three_calls, unmade}
use Rattle.short_calls.proofs.three_calls.Goals as goal

pub returns : goal.returns
returns c =
    let a = c.args in
    let s = c.started-made.ensures in
    let p = rw c.made_or_zeros-dec.ensures at c.push_metrics-pushed.ensures in
    let after = c.decoder_after.ensures ∙ ap (λ (v : ViterbiDecoder). decoder_after v c.push_metrics-pushed.result) c.made_or_zeros-dec.ensures in
    let f = rw after at c.flush-flushed.ensures in
    record {
      answers = s.answers;
      made = s.made;
      leaves = record { words = c.push_metrics-pushed.new.decisions; sent = c.push_metrics-pushed.new.out; push_answers = p.answers; push_leaves = p.leaves; flush_answers = f.answers; flush_leaves = f.leaves };
      unmade = unmade a.code a.metrics.now c.started-made.result c.push_metrics-pushed.result c.flush-flushed.result a.decisions.now c.push_metrics-pushed.new.decisions c.flush-flushed.new.decisions a.out.now c.push_metrics-pushed.new.out c.flush-flushed.new.out p.answers p.leaves f.answers f.leaves;
      reads = record {
        reads = λ n m good count few quads hd ho.
            let e = made_is a.code a.start a.metrics.now n m good count few quads c.started-made.result s.answers s.made in
            let pe = rw e at p in
            let fe = rw e at f in
            let t = three_calls a.code a.start a.metrics.now n m good count few quads c.push_metrics-pushed.result c.flush-flushed.result a.decisions.now c.push_metrics-pushed.new.decisions c.flush-flushed.new.decisions a.out.now c.push_metrics-pushed.new.out c.flush-flushed.new.out hd ho pe.answers pe.leaves fe.answers fe.leaves in
            (_, e, t.0, t.1, t.2, t.3, t.4, t.5, t.6);
      };
    }
