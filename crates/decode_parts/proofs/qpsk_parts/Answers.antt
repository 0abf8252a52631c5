-- `qpsk_parts` meets its contract.
use mathlib.Core.Path.{◌∙◌}
use Prim.Native.Nat.{◌-◌}
use Rattle.decode_parts.specs.FilledLaws.{real_first, imaginary_first}
use Rattle.decode_parts.proofs.qpsk_parts.Goals as goal

pub returns-then-m : goal.returns-then-m
returns-then-m c =
    let if1 = c in
    let start = if1 in
    let a = start.args in
    c.by_turns.ensures ∙ imaginary_first a.re.now a.im.now a.m a.from a.n a.parts.now if1.if-m.true

pub returns-else-m : goal.returns-else-m
returns-else-m c =
    let if1 = c in
    let start = if1 in
    let a = start.args in
    c.by_turns-else-m.ensures ∙ real_first a.re.now a.im.now a.m a.from a.n a.parts.now if1.if-m.false
