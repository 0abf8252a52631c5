-- `encode_qpsk` meets its contract.
use Prim.Native.Nat.{◌-◌}
use Rattle.encode_run.proofs.EncodeQpsk.{Encoding}
use Rattle.encode_run.proofs.encode_qpsk.Given as goal

abbrev pub invariant-loop-q : goal.invariant-loop-q
invariant-loop-q l = Encoding l.bytes l.bit l.n l.start l.initial.re l.initial.im l.period l.count l.s1 l.s0 l.xs l.ys l.periods l.re l.im l.state l.done l.j l.q

abbrev pub decreases-loop-q : goal.decreases-loop-q
decreases-loop-q l = l.periods - l.q
