-- `pack_run` meets its contract.
use Rattle.decode_bytes.specs.PackingLaws.{bpsk_bytes, qpsk_bytes}
use Rattle.trellis.specs.Lists.{laid}
use Prim.Native.Nat.{ℕ}
use mathlib.Core.List.{List}
use mathlib.Core.Path.{sym, ◌∙◌, ap}
use Rattle.isdbs_combination.specs.CombinationLaws.{tc8psk_only}
use Rattle.decode_bytes.proofs.pack_run.Goals as goal

pub pack_plain-requires : goal.pack_plain-requires
pack_plain-requires c =
    let st = c in
    let e = sym c.modulation-modulation.ensures ∙ c.in-Bpsk.is in
    let p = rw e at st.requires.2 in
    (st.requires.0, st.requires.1, p.0, p.1, st.requires.3)

pub pack_plain-requires-in-Qpsk : goal.pack_plain-requires-in-Qpsk
pack_plain-requires-in-Qpsk c =
    let st = c in
    let e = sym c.modulation-modulation.ensures ∙ c.in-Qpsk.is in
    let p = rw e at st.requires.2 in
    (st.requires.0, st.requires.1, p.0, p.1, st.requires.3)

pub pack_tc8psk-requires : goal.pack_tc8psk-requires
pack_tc8psk-requires c =
    let st = c in
    let e = sym c.modulation-modulation.ensures ∙ c.in-Tc8psk.is in
    let p = rw e at st.requires.2 in
    (st.requires.0, st.requires.1, p.0, p.1, p.2, p.3, st.requires.3)

pub returns-in-Bpsk : goal.returns-in-Bpsk
returns-in-Bpsk c =
    let at-enum-told = c in
    let modulation = at-enum-told in
    let st = modulation in
    let e = sym modulation.modulation-modulation.ensures ∙ at-enum-told.in-Bpsk.is in
    let n = c.pack_plain.ensures in
    (n.0 ∙ ap (λ (z : List ℕ). laid z st.args.bytes.now) (bpsk_bytes st.args.c st.args.re.now st.args.im.now st.args.m st.args.start st.args.bits.now st.args.n e), rw e n.1, n.2)

pub returns-in-Qpsk : goal.returns-in-Qpsk
returns-in-Qpsk c =
    let enum-told2 = c in
    let modulation = enum-told2 in
    let st = modulation in
    let e = sym modulation.modulation-modulation.ensures ∙ enum-told2.in-Qpsk.is in
    let n = c.pack_plain-in-Qpsk.ensures in
    (n.0 ∙ ap (λ (z : List ℕ). laid z st.args.bytes.now) (qpsk_bytes st.args.c st.args.re.now st.args.im.now st.args.m st.args.start st.args.bits.now st.args.n e), rw e n.1, n.2)

pub returns-in-Tc8psk : goal.returns-in-Tc8psk
returns-in-Tc8psk c =
    let enum-told3 = c in
    let modulation = enum-told3 in
    let st = modulation in
    let e = sym modulation.modulation-modulation.ensures ∙ enum-told3.in-Tc8psk.is in
    rw (tc8psk_only st.args.c e) c.pack_tc8psk.ensures
