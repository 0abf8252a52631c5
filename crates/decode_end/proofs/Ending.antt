-- Known bits close the decoder.
use mathlib.Core.Path.{◌≡◌, sym, ◌∙◌, ap}
use mathlib.Core.List.{List, ◌++◌}
use Prim.Native.Nat.{ℕ, ◌<◌}
use native.Mathlib.Omega.{arith}
use native.Mathlib.Nat.{zero-add}
use lib.ListN.{length, take, drop, replicate, length-replicate}
use lib.Ieee.{Float}
use Rattle.trellis.specs.Isdb.{closed}
use Rattle.trellis.specs.Lists.{upto, laid}
use Rattle.trellis.specs.ListLaws.{get_d_upto}
use Rattle.trellis.specs.Step as step
use Rattle.trellis.specs.Step.{renormalised}
use Rattle.trellis.specs.Run.{Decoder, after, known_steps}
use Rattle.viterbi_core.specs.declared.At.{At}
use Rattle.viterbi_core.specs.Calls.{steps, steps_from, traced, best_state, Holds, Carried}
use Rattle.viterbi_core.specs.BlockLaws.{from_steps}
use Rattle.viterbi_core.specs.HoldingLaws.{holding_is, cleared}
use Rattle.trellis.specs.LaidLaws.{laid_after, laid_laid}
use Rattle.isdbs_frame.specs.Frame.{w1}
use Rattle.isdbs_points.specs.Layout.{word_bit}
use Rattle.isdbs_metrics.specs.Reading.{known_bits}
use Rattle.decode_end.specs.End.{Ended}

-- the bits of W1 as known bits
known_at : (known : List ℕ) (j : ℕ) → known ≡ upto (word_bit w1) 16 → j < 16 → known_steps known j ≡ known_bits j
known_at known j e h = ap (λ (l : List ℕ). known_steps l j) e ∙ ap step.known (get_d_upto (word_bit w1) 0 16 j h)

pub ended : (at r : At) (pm pm₁ pm₂ : List Float) (known dec out dec₂ out₂ dec₃ out₃ dec₄ : List ℕ)
    → pm₁ ≡ renormalised 32 pm
    → known ≡ upto (word_bit w1) 16
    → Carried 128 (known_steps known) 0 16 pm₁ at dec out r pm₂ dec₂ out₂
    → dec₃ ≡ laid (replicate r.held 0) dec₂
    → out₃ ≡ take r.count out₂ ++ laid (traced (take r.held dec₂) (best_state pm₂)) (drop r.count out₂)
    → dec₄ ≡ laid (replicate 4224 0) dec₃
    → Ended pm at dec out dec₄ out₃
unfolding after
ended at r pm pm₁ pm₂ known dec out dec₂ out₂ dec₃ out₃ dec₄ en ek kc ed eo ec = record {
  ends = λ d dec₀ out₀ fits h.
      let shut : Holds 128 dec₀ out₀ (closed d) pm₁ at.held at.count dec out =
      record { values = en ∙ ap (λ (y : List Float). renormalised 32 y) h.values; held_is = h.held_is; count_is = h.count_is; words = h.words; bits = h.bits } in
      let e = steps 128 known_bits (closed d) 16 in
      let same : e ≡ steps_from 128 0 (known_steps known) (closed d) 16 =
      from_steps 128 known_bits (known_steps known) (closed d) 0 16 (λ j l. ap known_bits (zero-add j) ∙ sym (known_at known j ek l)) in
      let k = rw (sym same) at (kc.carries (closed d) dec₀ out₀ shut) in
      let b = holding_is 128 e dec₀ out₀ pm₂ r.held r.count dec₂ out₂ k in
      let ws : take r.held dec₂ ≡ e.words = ap (λ (z : Decoder). z.words) b in
      let kh = k.held_is in
      let kf = kc.few in
      let lr : length (replicate {A = ℕ} r.held 0) ≡ r.held = length-replicate r.held 0 in
      let lz : length (replicate {A = ℕ} 4224 0) ≡ 4224 = length-replicate {A = ℕ} 4224 0 in (
        eo ∙ ap (λ (y : List ℕ). take r.count out₂ ++ laid (traced y (best_state pm₂)) (drop r.count out₂)) ws
            ∙ ap (λ (y : List Float). take r.count out₂ ++ laid (traced e.words (best_state y)) (drop r.count out₂)) k.values
            ∙ ap (λ (y : List ℕ). take r.count y ++ laid (traced e.words (best_state e.values)) (drop r.count y)) k.bits
            ∙ ap (λ (n : ℕ). take n (laid e.bits out₀) ++ laid (traced e.words (best_state e.values)) (drop n (laid e.bits out₀))) k.count_is
            ∙ laid_after e.bits (traced e.words (best_state e.values)) out₀,
        ec ∙ ap (λ (y : List ℕ). laid (replicate 4224 0) y) ed
            ∙ laid_laid (replicate r.held 0) (replicate 4224 0) dec₂ (omega arith)
            ∙ ap (λ (y : List ℕ). laid (replicate 4224 0) y) k.words
            ∙ cleared 128 e.words e.bits dec₀ (omega arith),
      );
}
