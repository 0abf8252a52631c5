-- `bpsk_softs` meets its contract.
use mathlib.Core.Path.{◌∙◌}
use Prim.Native.Nat.{◌*◌}
use Rattle.decode_parts.specs.FilledLaws.{soft_tail}
use Rattle.decode_parts.proofs.bpsk_softs.Goals as goal

pub returns : goal.returns
returns c =
    let a = c.args in
    c.soft_block.ensures ∙ soft_tail a.re.now a.scale (2 * a.k0) (2 * a.n) a.pairs.now
