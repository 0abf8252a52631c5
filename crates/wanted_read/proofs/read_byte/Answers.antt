use mathlib.Core.Path.{◌≡◌, refl, sym, ◌∙◌, ap}
use Prim.Native.Nat.{ℕ, ◌+◌, ◌-◌}
use native.Mathlib.Numerals.{add-one}
use native.Mathlib.Omega.{arith}
use borrow.Author.Rules.{rules}
use Rattle.isdbs_combination.specs.Combinations.{modulation_of}
use Rattle.isdbs_metrics.specs.Steps.{digits}
use Rattle.isdbs_metrics.specs.DigitLaws.{digits_seven, byte_digits}
use Rattle.wanted_read.specs.ReadOff.{shown}
use Rattle.wanted_read.specs.Pieces.{run_at, next_bit, next_state, state_after, bit_after}
use Rattle.wanted_read.proofs.Steps.{bit_small}
use Rattle.wanted_read.proofs.read_byte.Goals as goal

pub loop-i-init : goal.loop-i-init
unfolding digits state_after
loop-i-init c = (search rules, refl, refl, search rules)

pub read_bit-b-requires : goal.read_bit-b-requires
read_bit-b-requires c =
    let a = c in
    let at = c.loop-i in
    (a.requires.0, omega arith, at.invariant.3, a.requires.3 at.i (omega arith), a.requires.4, a.requires.5)

pub overflow_mul-byte : goal.overflow_mul-byte
overflow_mul-byte c =
    let a = c in
    let at = c.loop-i in
    let z = shown a.args.m a.args.re.now a.args.im.now in
    let g = run_at a.args.layout.combination a.args.start in
    let d = digits_seven (bit_after a.args.m z g a.args.prior a.args.from) at.i (omega arith) (λ j l. bit_small a.args.m z (state_after a.args.m z g a.args.prior a.args.from j) g (a.args.from + j) (modulation_of a.args.layout.combination)) in
    let e = at.invariant.1 in
    record { fits = omega arith }

pub overflow_add-byte : goal.overflow_add-byte
overflow_add-byte c =
    let a = c in
    let at = c.loop-i in
    let z = shown a.args.m a.args.re.now a.args.im.now in
    let g = run_at a.args.layout.combination a.args.start in
    let d = digits_seven (bit_after a.args.m z g a.args.prior a.args.from) at.i (omega arith) (λ j l. bit_small a.args.m z (state_after a.args.m z g a.args.prior a.args.from j) g (a.args.from + j) (modulation_of a.args.layout.combination)) in
    let e = at.invariant.1 in
    let b = c.read_bit-b.ensures.2 in
    record { fits = omega arith }

pub loop-i-preserved : goal.loop-i-preserved
unfolding digits state_after
loop-i-preserved c =
    let a = c in
    let at = c.loop-i in
    let m = a.args.m in
    let z = shown m a.args.re.now a.args.im.now in
    let g = run_at a.args.layout.combination a.args.start in
    let h = at.invariant in
    let en = c.read_bit-b.ensures in
    let bit = en.0 ∙ ap (λ (x : ℕ). next_bit m z g x (a.args.from + at.i)) h.2 in
    let state = en.1 ∙ ap (λ (x : ℕ). next_state m z g x (a.args.from + at.i)) h.2 in (
      omega arith,
      rw (add-one at.i) (rw (h.1, bit)),
      rw (add-one at.i) state,
      en.3,
    )

pub returns : goal.returns
returns c =
    let a = c in
    let e : c.loop-i.i ≡ 8 = omega arith in
    let h = rw e at c.loop-i.invariant in
    (h.1 ∙ sym (byte_digits (bit_after a.args.m (shown a.args.m a.args.re.now a.args.im.now) (run_at a.args.layout.combination a.args.start) a.args.prior a.args.from)), h.2, h.3)
