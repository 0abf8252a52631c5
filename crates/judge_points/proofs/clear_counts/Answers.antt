-- `clear_counts` meets its contract.
use Rattle.std.proofs.Common.{◌≡◌, ℕ, refl, ◌∙◌, sym, length, take, length-take-le}
use Rattle.trellis.specs.Lists.{upto}
use Rattle.trellis.specs.ListLaws.{length_upto}
use Rattle.judge_points.proofs.Counting.{filled}
use Rattle.judge_points.proofs.clear_counts.Goals as goal

pub returns : goal.returns
returns c =
    let counts = c.args.counts.now in
    let n : length (take c.args.slots counts) ≡ c.args.slots = length-take-le c.args.slots counts c.requires in
    let e : c.fill.new.self ≡ upto {A = ℕ} (λ _. 0) c.args.slots = c.fill.ensures.after (λ y h. h) ∙ rw n (filled 0 c.args.slots) in
    rw (e, length_upto {A = ℕ} (λ _. 0) c.args.slots) refl
