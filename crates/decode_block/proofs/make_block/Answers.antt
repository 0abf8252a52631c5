-- `make_block` meets its contract.
use mathlib.Core.Path.{◌∙◌}
use Prim.Native.Nat.{ℕ, ◌+◌}
use native.Mathlib.Omega.{arith}
use Rattle.isdbs_metrics.specs.Steps.{piece_metrics}
use Rattle.strain_marks.proofs.MarksLaws.{mark_few}
use Rattle.decode_block.specs.Blocks.{plan_mark}
use Rattle.decode_block.proofs.Laws.{laid_long, wide_few, narrowed}
use Rattle.decode_block.proofs.ByModulation.{steps_few}
use Rattle.decode_block.proofs.make_block.Goals as goal

pub narrow-requires : goal.narrow-requires
narrow-requires c =
    let laid = c in
    let st = laid in
    let a = st.args in
    let p = a.plan in
    let few = steps_few p.layout.combination p.count st.requires.0.few in
    let room = st.requires.5 in
    let f : ℕ → ℕ = λ i. plan_mark p a.re.now a.im.now (p.from + i) in
    let marked = laid.lay_block.ensures.marked in
    let same = laid_long f p.count _ a.wide.now marked (omega arith) in
    (omega arith, st.requires.7, wide_few f p.count _ a.wide.now (λ i. mark_few (piece_metrics p.layout.combination a.re.now a.im.now p.mapping p.scale (p.from + i))) marked)

pub returns : goal.returns
returns c =
    let laid = c in
    let st = laid in
    let a = st.args in
    let p = a.plan in
    let f : ℕ → ℕ = λ i. plan_mark p a.re.now a.im.now (p.from + i) in
    let lay = laid.lay_block.ensures in
    record { made = lay.made; marked = c.narrow.ensures ∙ narrowed f p.count _ a.wide.now a.marks.now lay.marked }
