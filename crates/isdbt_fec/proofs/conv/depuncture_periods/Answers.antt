use lib.Ieee.{Float}
use mathlib.Core.Path.{◌≡◌, ◌∙◌, ap}
use mathlib.Core.List.{List}
use Prim.Native.Nat.{◌-◌, ◌*◌, ◌/◌}
use native.Mathlib.Omega.{arith}
use borrow.Author.Rules.{rules}
use lib.ListN.{length}
use Rattle.isdbt_table.specs.NumberLaws.{numbers}
use Rattle.trellis.specs.LaidLaws.{upto_cong}
use Rattle.isdbt_fec.proofs.Decode.{soft_is}
use Rattle.trellis.specs.Lists.{laid}
use Rattle.isdbt_table.specs.Table.{period, sent}
use Rattle.isdbt_table.specs.Puncture.{depunctured}
use Rattle.isdbt_fec.proofs.Turns.{readable, mother_bits}
use Rattle.isdbt_table.specs.WrittenLaws.{written_none, written_next}
use Rattle.isdbt_fec.proofs.conv.depuncture_periods.Goals as goal

pub nonzero_div-count : goal.nonzero_div-count
nonzero_div-count c =
    let r = (numbers c.args.rate _ c.new-p.ensures).ranges in
    omega arith

pub overflow_mul-count : goal.overflow_mul-count
overflow_mul-count c =
    let r = (numbers c.args.rate _ c.new-p.ensures).ranges in
    omega arith

pub overflow_mul-count-2 : goal.overflow_mul-count-2
overflow_mul-count-2 c =
    let start = c in
    let count = mother_bits start.args.rate _ (length start.args.llrs.now) c.new-p.ensures in
    let room = start.requires in
    omega arith

pub loop-k-init : goal.loop-k-init
loop-k-init c =
    let start = c in
    let e = c.new-p.ensures in
    let rate = start.args.rate in
    (search rules, rw (mother_bits rate _ _ e) start.requires, readable rate _ _ e, written_none _ _)

pub soft_at-requires : goal.soft_at-requires
soft_at-requires c =
    let r = c.loop-k.invariant.2 in
    (r.eight, r.in_order, r.least, r.most, r.there _ c.loop-k-test.true)

pub loop-k-preserved : goal.loop-k-preserved
loop-k-preserved c =
    let at = c.loop-k in
    (omega arith, at.invariant.1, at.invariant.2, written_next _ _ _ _ _ at.invariant.3 (omega arith) c.soft_at.ensures)

pub shape_of-out : goal.shape_of-out
shape_of-out c = c.loop-k.invariant.3.long

pub returns : goal.returns
unfolding depunctured
returns c =
    let a = c.args in
    let e = c.new-p.ensures in
    let count = mother_bits a.rate _ (length a.llrs.now) e in
    let end : c.loop-k.k ≡ length a.llrs.now / sent a.rate * (2 * period a.rate) = omega arith in
    (count, rw end at c.loop-k.invariant.3.front ∙ ap (λ (l : List Float). laid l a.out.now) (upto_cong _ _ _ (λ k h. soft_is a.rate _ _ k e)))
