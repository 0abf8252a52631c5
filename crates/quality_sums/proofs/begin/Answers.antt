-- `begin` meets its contract.
use Rattle.std.proofs.Common.{◌≡◌, refl, ◌∙◌, sym, length, take, length-take-le}
use Rattle.trellis.specs.Lists.{upto}
use Rattle.trellis.specs.ListLaws.{length_upto}
use Rattle.isdbs_points.specs.Points.{zero64}
use Rattle.quality_sums.specs.AddingLaws.{filled}
use Rattle.quality_sums.proofs.begin.Goals as goal

pub returns : goal.returns
returns c =
    let out = c.args.out.now in
    let n : length (take 336 out) ≡ 336 = length-take-le 336 out c.requires in
    let e : c.fill.new.self ≡ upto (λ _. zero64) 336 = c.fill.ensures.after (λ y h. h) ∙ rw n (filled zero64 336) in
    rw (e, length_upto (λ _. zero64) 336) refl
