-- `write_block` meets its contract.
use mathlib.Core.Path.{◌∙◌, ap}
use mathlib.Core.List.{List}
use Prim.Native.Nat.{◌+◌, ◌*◌}
use native.Mathlib.Omega.{arith}
use lib.Dec.{lit≤}
use lib.Ieee.{Float}
use Rattle.trellis.specs.Lists.{laid}
use Rattle.trellis.specs.LaidLaws.{upto_cong}
use Rattle.isdbs_metrics.specs.Steps.{piece_metrics}
use Rattle.decode_block.specs.Blocks.{fours}
use Rattle.decode_block.specs.PeriodLaws.{short}
use Rattle.best_metrics.specs.Floats.{floats}
use Rattle.best_metrics.proofs.Blocks.{block_fours}
use Rattle.best_metrics.proofs.write_block.Goals as goal

pub make_block-requires : goal.make_block-requires
make_block-requires c =
    let st = c in
    let p = st.requires in
    let s = short st.args.layout.combination in
    (record { layout = p.0; start = p.1; whole = p.2; few = p.3; under = p.4 }, p.5, p.6, lit≤ tt, lit≤ tt, lit≤ tt, lit≤ tt, omega (arith, p.3, s.1))

pub take_block-requires : goal.take_block-requires
take_block-requires c =
    let make-block = c in
    let st = make-block in
    (make-block.make_block.ensures.made.long, st.requires.7)

pub returns : goal.returns
returns c =
    let make-block = c in
    let st = make-block in
    let a = st.args in
    let ms = piece_metrics a.layout.combination a.re.now a.im.now a.m a.scale in
    let made = make-block.make_block in
    let block = made.new.block in
    c.take_block.ensures
    ∙ ap (λ (x : List Float). laid x a.out.now) (upto_cong (floats block) (λ i. fours ms (4 * a.k + i)) (4 * a.n) (λ i h. block_fours ms a.k a.n block made.ensures.made i h))
