use mathlib.Core.Path.{◌≡◌, refl, sym, ◌∙◌, ap, subst}
use Prim.Native.Nat.{◌+◌, ◌-◌, ◌*◌}
use native.Mathlib.Omega.{arith}
use lib.ListN.{length}
use borrow.Author.Rules.{rules}
use Rattle.trellis.specs.Lists.{upto}
use Rattle.isdbs_combination.specs.declared.Combination.{Combination}
use Rattle.trellis.specs.LaidLaws.{length_laid_upto}
use Rattle.decode_bytes.specs.PackingLaws.{byte_more}
use Rattle.wanted_read.specs.ReadOff.{shown}
use Rattle.wanted_read.specs.Pieces.{run_at, step_of, InFrame, run_state, run_byte}
use Rattle.wanted_read.proofs.Bits.{byte_on, state_next}
use Rattle.wanted_read.proofs.read_run.Goals as goal

pub loop-j-init : goal.loop-j-init
unfolding upto run_state
loop-j-init c = (search rules, search rules, refl, refl, refl)

pub read_byte-b-requires : goal.read_byte-b-requires
read_byte-b-requires c =
    let a = c in
    let co = c.layout_of-layout in
    let at = c.loop-j in
    (co.ensures.1, omega arith, at.invariant.1, (λ i l. subst (λ (x : Combination). InFrame x a.args.start (step_of x (8 * at.j + i))) (sym co.ensures.0) (a.requires.2 (8 * at.j + i) (omega arith))), a.requires.3, a.requires.4)

pub bounds-bytes-j : goal.bounds-bytes-j
bounds-bytes-j c = let e = c.loop-j.invariant.4 in omega arith

pub loop-j-preserved : goal.loop-j-preserved
loop-j-preserved c =
    let a = c in
    let co = c.layout_of-layout in
    let at = c.loop-j in
    let m = a.args.m in
    let z = shown m a.args.re.now a.args.im.now in
    let g = run_at co.result.combination a.args.start in
    let h = at.invariant in
    let en = c.read_byte-b.ensures in
    let b = byte_more (run_byte m z g a.args.prior) at.j _ _ a.args.bytes.now (omega arith) h.3 (byte_on m z g a.args.prior at.j at.state _ h.2 en.0) in (
      omega arith,
      en.2,
      state_next m z g a.args.prior at.j at.state _ h.2 en.1,
      b,
      ap length b ∙ length_laid_upto (run_byte m z g a.args.prior) (at.j + 1) a.args.bytes.now (omega arith),
    )

pub shape_of-bytes : goal.shape_of-bytes
shape_of-bytes c = c.loop-j.invariant.4

pub returns : goal.returns
returns c =
    let e : c.loop-j.j ≡ c.args.n = omega arith in
    let h = rw (e, c.layout_of-layout.ensures.0) at c.loop-j.invariant in
    (h.3, h.2, h.1)
