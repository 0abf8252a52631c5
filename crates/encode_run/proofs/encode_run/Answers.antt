-- `encode_run` meets its contract.
use mathlib.Core.Path.{◌≡◌, sym, ◌∙◌}
use native.Mathlib.Omega.{arith}
use Rattle.isdbs_combination.specs.declared.Modulation.TheVariants.{Qpsk}
use Rattle.isdbs_combination.specs.Combinations.{modulation_of}
use Rattle.encode_run.specs.PieceLaws.{is_bpsk_lem}
use Rattle.isdbs_combination.specs.CombinationLaws.{tc8psk_only}
use Rattle.encode_run.proofs.encode_run.Goals as goal

pub encode_bpsk-requires : goal.encode_bpsk-requires
encode_bpsk-requires c =
    let modulation = c in
    let start = modulation in
    let e = is_bpsk_lem start.args.c (sym modulation.modulation-modulation.ensures ∙ c.in-Bpsk.is) in
    (start.requires.0, omega (arith, start.requires), rw e at start.requires.3, rw e at start.requires.4)

pub encode_qpsk-requires : goal.encode_qpsk-requires
encode_qpsk-requires c =
    let modulation = c in
    let start = modulation in
    let e : modulation_of start.args.c ≡ Qpsk = sym modulation.modulation-modulation.ensures ∙ c.in-Qpsk.is in
    (e, start.requires.0, omega (arith, start.requires), start.requires.2, start.requires.3, start.requires.4)

pub encode_tc8psk-requires : goal.encode_tc8psk-requires
encode_tc8psk-requires c =
    let modulation = c in
    let start = modulation in
    let e = tc8psk_only start.args.c (sym modulation.modulation-modulation.ensures ∙ c.in-Tc8psk.is) in
    (start.requires.0, start.requires.1, rw e at start.requires.3, rw e at start.requires.4, start.requires.5, start.requires.6)

pub returns-in-Bpsk : goal.returns-in-Bpsk
returns-in-Bpsk c =
    let encode-bpsk = c in
    let at-enum-told = encode-bpsk in
    let modulation = at-enum-told in
    let start = modulation in
    let e = is_bpsk_lem start.args.c (sym modulation.modulation-modulation.ensures ∙ at-enum-told.in-Bpsk.is) in
    rw e encode-bpsk.encode_bpsk.ensures

pub returns-in-Tc8psk : goal.returns-in-Tc8psk
returns-in-Tc8psk c =
    let encode-tc8psk = c in
    let enum-told3 = encode-tc8psk in
    let modulation = enum-told3 in
    let start = modulation in
    let e = tc8psk_only start.args.c (sym modulation.modulation-modulation.ensures ∙ enum-told3.in-Tc8psk.is) in
    rw e encode-tc8psk.encode_tc8psk.ensures
