-- `decode_strained` meets its contract.
use Rattle.isdbs_metrics.specs.Scales.{received_by}
use Rattle.decode_main.proofs.Whole.{strain_laid}
use Rattle.decode_main.proofs.decode_strained.Goals as goal

pub returns : goal.returns
returns c =
    let decode-marked = c in
    let st = decode-marked in
    let p = st.args.f.plan in
    let rx = received_by st.args.re.now st.args.im.now st.args.f.options.mapping st.args.f.options.scales in
    let k = decode-marked.decode_marked.ensures in
    record { read = k.read; strain = strain_laid p.table rx st.args.f.options.known_start st.args.f.first st.requires.0.accepted _ _ _ _ k.counted }
