-- `sent_bit` meets its contract.
use mathlib.Core.Path.{subst}
use Prim.Native.Nat.{◌+◌, ◌/◌, ◌<◌}
use native.Mathlib.Omega.{arith}
use Rattle.isdbs_combination.specs.declared.Modulation.{Modulation}
use Rattle.wanted_read.specs.ReadOff.{bit_as}
use Rattle.wanted_read.specs.Pieces.{SentIn}
use Rattle.wanted_read.proofs.sent_bit.Goals as goal

pub overflow_add-start : goal.overflow_add-start
overflow_add-start c =
    let a = c in
    let h : a.args.start + a.args.n < 38976 = subst (λ (x : Modulation). SentIn x a.args.start a.args.n a.args.k) c.in-Bpsk.is a.requires.0 in
    record { fits = omega arith }

pub bpsk_bit-requires : goal.bpsk_bit-requires
bpsk_bit-requires c =
    let a = c in
    let h : a.args.start + a.args.n < 38976 = subst (λ (x : Modulation). SentIn x a.args.start a.args.n a.args.k) c.in-Bpsk.is a.requires.0 in
    omega arith

pub qpsk_bit-requires : goal.qpsk_bit-requires
qpsk_bit-requires c =
    let a = c in
    let h : a.args.start + a.args.n / 2 < 38976 = subst (λ (x : Modulation). SentIn x a.args.start a.args.n a.args.k) c.in-Qpsk.is a.requires.0 in
    (omega arith, omega arith)

pub overflow_add-start-in-Tc8psk : goal.overflow_add-start-in-Tc8psk
overflow_add-start-in-Tc8psk c =
    let a = c in
    let h : a.args.start + a.args.k < 38976 = subst (λ (x : Modulation). SentIn x a.args.start a.args.n a.args.k) c.in-Tc8psk.is a.requires.0 in
    record { fits = omega arith }

pub label_at-l-requires : goal.label_at-l-requires
label_at-l-requires c =
    let a = c in
    let h : a.args.start + a.args.k < 38976 = subst (λ (x : Modulation). SentIn x a.args.start a.args.n a.args.k) c.in-Tc8psk.is a.requires.0 in
    (omega arith, omega arith)

pub coded_bit-requires : goal.coded_bit-requires
coded_bit-requires c = c.subset_of.ensures.1

pub returns-in-Bpsk : goal.returns-in-Bpsk
unfolding bit_as
returns-in-Bpsk c = rw c.in-Bpsk.is c.bpsk_bit.ensures

pub returns-in-Qpsk : goal.returns-in-Qpsk
unfolding bit_as
returns-in-Qpsk c = rw c.in-Qpsk.is c.qpsk_bit.ensures

pub returns-in-Tc8psk : goal.returns-in-Tc8psk
unfolding bit_as
returns-in-Tc8psk c = rw c.in-Tc8psk.is (rw (c.subset_of.ensures.0, c.label_at-l.ensures.0) at c.coded_bit.ensures)
