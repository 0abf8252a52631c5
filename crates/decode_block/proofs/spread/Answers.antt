use borrow.Author.Rules.{rules}
use mathlib.Core.Path.{◌≡◌, refl, sym, ◌∙◌, ap}
use mathlib.Core.List.{List, ◌++◌}
use Prim.Native.Nat.{ℕ, ◌+◌, ◌-◌, ◌*◌, ◌<◌}
use native.Mathlib.Nat.{zero-mul}
use native.Mathlib.Omega.{arith}
use lib.ListN.{length, take, drop, length-take, length-drop}
use lib.Ieee.{Float}
use Rattle.trellis.specs.Lists.{upto, laid}
use Rattle.isdbs_points.specs.Layout.{order_of, steps_per_period}
use Rattle.trellis.specs.LaidLaws.{laid_part, length_laid_upto}
use Rattle.decode_bytes.specs.FrameByteLaws.{written_tail}
use Rattle.decode_block.specs.Blocks.{period_soft, spread_soft}
use Rattle.decode_block.specs.PeriodLaws.{one_more, spread_at}
use Rattle.decode_block.proofs.spread.Goals as goal

pub loop-t-init : goal.loop-t-init
unfolding upto
loop-t-init c = (search rules, search rules, search rules, sym (zero-mul _), sym (zero-mul _), refl, refl)

pub spread_period-requires : goal.spread_period-requires
spread_period-requires c =
    let st = c in
    let at = c.loop-t in
    let inside = c.loop-t-test.true in
    let lp = at.invariant.5 in
    let en = st.requires.0.count in
    let ep = st.requires.0.period in
    (st.requires.1, simp (length-take, length-drop) (omega arith), simp (length-take, length-drop) (omega arith))

pub loop-t-preserved : goal.loop-t-preserved
loop-t-preserved c =
    let spread-period = c in
    let tested = spread-period in
    let looped = tested in
    let st = looped in
    let at = looped.loop-t in
    let inside = tested.loop-t-test.true in
    let h = at.invariant in
    let lp = h.5 in
    let layout = st.args.layout in
    let co = layout.combination in
    let softs = st.args.softs.now in
    let most = st.requires.4 in
    let en = st.requires.0.count in
    let ep = st.requires.0.period in
    let ef = h.3 in
    let et = h.4 in
    let more = one_more co at.t in
    let mf = more.0 in
    let mt = more.1 in
    let bits = 2 * steps_per_period co in
    let f = spread_soft co softs in
    let g = period_soft co (take (length softs - at.from) (drop at.from softs)) in
    let same : (a : ℕ) → a < bits → g a ≡ f (at.to + a) = λ a l. spread_at co softs at.from at.to at.t a ef et l in
    let spread = written_tail at.to at.pairs _ (upto g bits) (omega arith) spread-period.spread_period.ensures
    ∙ ap (λ (l : List Float). take at.to l ++ laid (upto g bits) (drop at.to l)) h.6
    ∙ laid_part f g at.to bits st.args.pairs.now same in
    let ends : at.to + bits ≡ at.to + 2 * layout.period = ap (λ (x : ℕ). at.to + 2 * x) (sym ep) in (
      omega arith,
      omega arith,
      omega arith,
      ap (λ (x : ℕ). at.from + x) en ∙ ap (λ (x : ℕ). x + length (order_of co)) ef ∙ mf,
      ap (λ (x : ℕ). at.to + 2 * x) ep ∙ ap (λ (x : ℕ). x + 2 * steps_per_period co) et ∙ mt,
      ap length spread ∙ length_laid_upto f (at.to + bits) st.args.pairs.now (omega arith),
      spread ∙ ap (λ (x : ℕ). laid (upto f x) st.args.pairs.now) ends,
    )

pub returns : goal.returns
returns c =
    let e : c.loop-t.t ≡ c.args.n = omega arith in
    let h = c.loop-t.invariant in
    rw (h.4, e) at h.6
