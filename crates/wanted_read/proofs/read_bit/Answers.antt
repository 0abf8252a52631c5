-- `read_bit` meets its contract.
use mathlib.Core.Path.{sym, ◌∙◌, ap, subst}
use Prim.Native.Nat.{ℕ, ◌/◌}
use native.Mathlib.Omega.{arith}
use Rattle.isdbs_combination.specs.declared.Modulation.{Modulation}
use Rattle.isdbs_combination.specs.declared.Modulation.TheVariants.{Bpsk, Qpsk, Tc8psk}
use Rattle.wanted_read.specs.ReadOff.{shown}
use Rattle.wanted_read.specs.Pieces.{run_at, InFrame, bit_from, state_from}
use Rattle.wanted_read.proofs.Steps.{step_plain, tc_in, even_bit, even_state, odd_bit, odd_state}
use Rattle.wanted_read.proofs.read_bit.Goals as goal

pub read_coded-requires : goal.read_coded-requires
read_coded-requires c =
    let a = c in
    let co = a.args.layout.combination in
    let e = sym a.requires.0.modulation ∙ c.in-Bpsk.is in
    (a.requires.0, a.requires.1, a.requires.2, subst (λ (x : ℕ). InFrame co a.args.start x) (step_plain co Bpsk a.args.i e) a.requires.3, a.requires.4, a.requires.5)

pub read_coded-requires-in-Qpsk : goal.read_coded-requires-in-Qpsk
read_coded-requires-in-Qpsk c =
    let a = c in
    let co = a.args.layout.combination in
    let e = sym a.requires.0.modulation ∙ c.in-Qpsk.is in
    (a.requires.0, a.requires.1, a.requires.2, subst (λ (x : ℕ). InFrame co a.args.start x) (step_plain co Qpsk a.args.i e) a.requires.3, a.requires.4, a.requires.5)

pub label_at-l-requires : goal.label_at-l-requires
label_at-l-requires c =
    let a = c in
    let e = sym a.requires.0.modulation ∙ c.in-Tc8psk.is in
    let l = tc_in a.args.layout.combination a.args.start a.args.i e a.requires.3 in
    (omega arith, omega arith)

pub read_coded-requires-else-i-eq0 : goal.read_coded-requires-else-i-eq0
read_coded-requires-else-i-eq0 c =
    let a = c in
    let co = a.args.layout.combination in
    let e = sym a.requires.0.modulation ∙ c.in-Tc8psk.is in
    let l = a.requires.1 in
    (a.requires.0, omega arith, a.requires.2, subst (λ (x : ℕ). InFrame co a.args.start x) (step_plain co Tc8psk a.args.i e) a.requires.3, a.requires.4, a.requires.5)

pub returns-in-Bpsk : goal.returns-in-Bpsk
unfolding bit_from state_from
returns-in-Bpsk c =
    let a = c in
    let z = shown a.args.m a.args.re.now a.args.im.now in
    let g = run_at a.args.layout.combination a.args.start in
    let e = sym a.requires.0.modulation ∙ c.in-Bpsk.is in
    let en = c.read_coded.ensures in
    (en.0 ∙ ap (λ (x : Modulation). bit_from a.args.m z x a.args.state g a.args.i) (sym e), en.1 ∙ ap (λ (x : Modulation). state_from a.args.m z x a.args.state g a.args.i) (sym e), en.2, en.3)

pub returns-in-Qpsk : goal.returns-in-Qpsk
unfolding bit_from state_from
returns-in-Qpsk c =
    let a = c in
    let z = shown a.args.m a.args.re.now a.args.im.now in
    let g = run_at a.args.layout.combination a.args.start in
    let e = sym a.requires.0.modulation ∙ c.in-Qpsk.is in
    let en = c.read_coded-in-Qpsk.ensures in
    (en.0 ∙ ap (λ (x : Modulation). bit_from a.args.m z x a.args.state g a.args.i) (sym e), en.1 ∙ ap (λ (x : Modulation). state_from a.args.m z x a.args.state g a.args.i) (sym e), en.2, en.3)

pub returns-then-i-eq0 : goal.returns-then-i-eq0
returns-then-i-eq0 c =
    let a = c in
    let m = a.args.m in
    let s = a.args.state in
    let i = a.args.i in
    let z = shown m a.args.re.now a.args.im.now in
    let g = run_at a.args.layout.combination a.args.start in
    let e = sym a.requires.0.modulation ∙ c.in-Tc8psk.is in
    let en = c.label_at-l.ensures in
    let l = en.1 in (
      ap (λ (x : ℕ). x / 4) en.0 ∙ even_bit m z s g i c.if-i-eq0.true ∙ ap (λ (x : Modulation). bit_from m z x s g i) (sym e),
      even_state m z s g i c.if-i-eq0.true ∙ ap (λ (x : Modulation). state_from m z x s g i) (sym e),
      omega arith,
      a.requires.2,
    )

pub returns-else-i-eq0 : goal.returns-else-i-eq0
returns-else-i-eq0 c =
    let a = c in
    let m = a.args.m in
    let s = a.args.state in
    let i = a.args.i in
    let z = shown m a.args.re.now a.args.im.now in
    let g = run_at a.args.layout.combination a.args.start in
    let e = sym a.requires.0.modulation ∙ c.in-Tc8psk.is in
    let en = c.read_coded-else-i-eq0.ensures in (
      en.0 ∙ odd_bit m z s g i c.if-i-eq0.false ∙ ap (λ (x : Modulation). bit_from m z x s g i) (sym e),
      en.1 ∙ odd_state m z s g i c.if-i-eq0.false ∙ ap (λ (x : Modulation). state_from m z x s g i) (sym e),
      en.2,
      en.3,
    )
