use mathlib.Core.Path.{◌≡◌, refl, ◌∙◌, ap}
use Prim.Native.Nat.{◌-◌}
use native.Mathlib.Omega.{arith}
use lib.ListN.{length}
use borrow.Author.Rules.{rules}
use Rattle.quality_sums.specs.Adding.{block_added}
use Rattle.quality_sums.specs.AddingLaws.{seven_terms, block_more}
use Rattle.quality_sums.proofs.add_block.Goals as goal

pub loop-i-init : goal.loop-i-init
unfolding block_added
loop-i-init c = (omega arith, refl, refl)

pub add_terms-requires : goal.add_terms-requires
add_terms-requires c =
    let at = c in
    let st = at in
    (ap length c.terms_of-terms.ensures ∙ seven_terms _ _ _ _, omega (arith, at.loop-i.invariant.1, st.requires.0, st.requires.5))

pub loop-i-preserved : goal.loop-i-preserved
loop-i-preserved c =
    let terms-of = c in
    let imaginary2 = terms-of in
    let imaginary = imaginary2 in
    let loop-at = imaginary in
    let start = loop-at in
    let a = start.args in
    let at = loop-at.loop-i in
    let e = c.add_terms.ensures in
    let zy = imaginary.imaginary-zy.ensures in
    let cy = imaginary2.imaginary-cy.ensures in
    let terms = terms-of.terms_of-terms.ensures in
    (omega arith, search rules, block_more a.bpsk a.re.now a.im.now a.from a.xs.now a.ys.now a.out.now at.i at.out _ _ _ _ at.invariant.2 zy cy terms e)

pub returns : goal.returns
returns c =
    let e : c.loop-i.i ≡ c.args.n = omega arith in
    rw e at c.loop-i.invariant.2
