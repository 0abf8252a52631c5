-- `range_calls::push_fresh` meets its contract: that of `push` on the fresh decoder, whose rows 3 and 4 do not hold.
use mathlib.Core.Path.{◌≡◌, refl, ap, ◌∙◌}
use mathlib.Core.List.{List}
use Prim.Native.Nat.{ℕ, ◌/◌}
use lib.ListN.{length}
use lib.Ieee.{Float}
use Rattle.std.specs.Prelude.{Result, Ok, Err, MatchResult}
use Rattle.refusal.specs.declared.Refusal.{Refusal}
use Rattle.trellis.specs.Run.{pair_steps}
use Rattle.isdb_fec.specs.declared.conv.ViterbiDecoder.{ViterbiDecoder}
use Rattle.isdb_fec.specs.declared.conv.Released.{Released}
use Rattle.isdb_fec.specs.Calls.{call, handed, Leaves, Unchanged}
use Rattle.range_calls.specs.Finished.{fresh}
use Rattle.range_calls.specs.Handed.{fresh_reached}
use Rattle.range_calls.specs.Turned.{turned}
use Rattle.range_calls.specs.TurnedLaws.{same_row}
use Rattle.range_calls.proofs.Answers.{stream_answer}
use Rattle.range_calls.proofs.push_fresh.Goals as goal

leaves : (state : ℕ) (xs : List Float) (r : Result Released Refusal) (dec₀ dec₁ out₀ out₁ : List ℕ)
    → MatchResult r (λ x. Leaves 128 (call 128 (pair_steps xs) (handed (fresh state) dec₀) (length xs / 2)) x dec₀ dec₁ out₀ out₁) (λ _. Unchanged dec₀ dec₁ out₀ out₁)
    → MatchResult (turned (fresh state) r)
    (λ x. Leaves 128 (call 128 (pair_steps xs) (handed (fresh state) dec₀) (length xs / 2)) x dec₀ dec₁ out₀ out₁)
    (λ t. (t.dec ≡ fresh state) × Unchanged dec₀ dec₁ out₀ out₁)
leaves state xs (Ok x) dec₀ dec₁ out₀ out₁ l = l
leaves state xs (Err row) dec₀ dec₁ out₀ out₁ l = (refl, l)

pub returns : goal.returns
returns c =
    let a = c.args in
    let p = rw c.started-dec.ensures at c.push.ensures in
    let is = c.turned.ensures ∙ ap (λ (v : ViterbiDecoder). turned v c.push.result) c.started-dec.ensures in
    rw is (record {
      answers = same_row (fresh a.state) c.push.result ∙ p.answers ∙ stream_answer (fresh_reached a.state) 2 a.pairs.now (length a.decisions.now) (length a.out.now);
      leaves = leaves a.state a.pairs.now c.push.result a.decisions.now c.push.new.decisions a.out.now c.push.new.out p.leaves;
    })
