-- `run_sides` meets its contract.
use mathlib.Core.Path.{sym, ◌∙◌, ap}
use mathlib.Core.List.{List}
use Prim.Native.Nat.{ℕ}
use Rattle.trellis.specs.Lists.{laid}
use Rattle.best_sides.specs.RunSides.{plain_one, plain_two, with_side}
use Rattle.best_sides.proofs.run_sides.Goals as goal

pub tc8psk_sides-requires : goal.tc8psk_sides-requires
tc8psk_sides-requires c = let st = c in
    let e = sym c.modulation-modulation.ensures ∙ c.in-Tc8psk.is in
    let p = rw e at st.requires.0 in (p.0, p.1, st.requires.1)

pub returns-in-Bpsk : goal.returns-in-Bpsk
returns-in-Bpsk c =
    let at-enum-told = c in
    let modulation = at-enum-told in
    let st = modulation in
    let e = sym modulation.modulation-modulation.ensures ∙ at-enum-told.in-Bpsk.is in
    c.no_sides.ensures ∙ ap (λ (z : List ℕ). laid z st.args.sides.now) (plain_one st.args.c st.args.re.now st.args.im.now st.args.m st.args.n e)

pub returns-in-Qpsk : goal.returns-in-Qpsk
returns-in-Qpsk c =
    let enum-told2 = c in
    let modulation = enum-told2 in
    let st = modulation in
    let e = sym modulation.modulation-modulation.ensures ∙ enum-told2.in-Qpsk.is in
    c.no_sides-in-Qpsk.ensures ∙ ap (λ (z : List ℕ). laid z st.args.sides.now) (plain_two st.args.c st.args.re.now st.args.im.now st.args.m st.args.n e)

pub returns-in-Tc8psk : goal.returns-in-Tc8psk
returns-in-Tc8psk c =
    let enum-told3 = c in
    let modulation = enum-told3 in
    let st = modulation in
    let e = sym modulation.modulation-modulation.ensures ∙ enum-told3.in-Tc8psk.is in
    c.tc8psk_sides.ensures ∙ ap (λ (z : List ℕ). laid z st.args.sides.now) (with_side st.args.c st.args.re.now st.args.im.now st.args.m st.args.n e)
