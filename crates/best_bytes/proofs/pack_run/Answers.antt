-- `pack_run` meets its contract.
use mathlib.Core.Path.{sym, ◌∙◌, ap}
use mathlib.Core.List.{List}
use Prim.Native.Nat.{ℕ}
use Rattle.trellis.specs.Lists.{laid}
use Rattle.best_bytes.specs.Packed.{bpsk_held, qpsk_held, tc8psk_held}
use Rattle.best_bytes.proofs.pack_run.Goals as goal

pub pack_plain-requires : goal.pack_plain-requires
pack_plain-requires c = let st = c in
    let e = sym c.modulation-modulation.ensures ∙ c.in-Bpsk.is in
    let p = rw e at st.requires.1 in (st.requires.0, p, st.requires.2, st.requires.4)

pub pack_plain-requires-in-Qpsk : goal.pack_plain-requires-in-Qpsk
pack_plain-requires-in-Qpsk c = let st = c in
    let e = sym c.modulation-modulation.ensures ∙ c.in-Qpsk.is in
    let p = rw e at st.requires.1 in (st.requires.0, p, st.requires.2, st.requires.4)

pub pack_pairs-requires : goal.pack_pairs-requires
pack_pairs-requires c = let st = c in
    let e = sym c.modulation-modulation.ensures ∙ c.in-Tc8psk.is in
    let p = rw e at st.requires.1 in (st.requires.0, p.0, p.1, st.requires.2, st.requires.3, st.requires.4)

pub returns-in-Bpsk : goal.returns-in-Bpsk
returns-in-Bpsk c =
    let at-enum-told = c in
    let modulation = at-enum-told in
    let st = modulation in
    let e = sym modulation.modulation-modulation.ensures ∙ at-enum-told.in-Bpsk.is in
    c.pack_plain.ensures ∙ ap (λ (z : List ℕ). laid z st.args.bytes.now) (bpsk_held st.args.c st.args.bits.now st.args.uncoded.now st.args.n e)

pub returns-in-Qpsk : goal.returns-in-Qpsk
returns-in-Qpsk c =
    let enum-told2 = c in
    let modulation = enum-told2 in
    let st = modulation in
    let e = sym modulation.modulation-modulation.ensures ∙ enum-told2.in-Qpsk.is in
    c.pack_plain-in-Qpsk.ensures ∙ ap (λ (z : List ℕ). laid z st.args.bytes.now) (qpsk_held st.args.c st.args.bits.now st.args.uncoded.now st.args.n e)

pub returns-in-Tc8psk : goal.returns-in-Tc8psk
returns-in-Tc8psk c =
    let enum-told3 = c in
    let modulation = enum-told3 in
    let st = modulation in
    let e = sym modulation.modulation-modulation.ensures ∙ enum-told3.in-Tc8psk.is in
    c.pack_pairs.ensures ∙ ap (λ (z : List ℕ). laid z st.args.bytes.now) (tc8psk_held st.args.c st.args.bits.now st.args.uncoded.now st.args.n e)
