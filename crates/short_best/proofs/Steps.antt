-- The steps of a reading put together, over half of the states.
use mathlib.Core.Path.{◌≡◌, ap, ◌∙◌}
use mathlib.Core.List.{List, ◌++◌}
use Prim.Native.Nat.{ℕ, ◌+◌, ◌-◌, ◌*◌, ◌/◌, ◌<◌}
use native.Mathlib.Omega.{arith}
use lib.Dec.{lit<, lit≤}
use lib.ListN.{length, take, drop, replicate}
use lib.Ieee.{Float}
use Rattle.trellis.specs.Isdb.{rule}
use Rattle.trellis.specs.Lists.{laid}
use Rattle.trellis.specs.Step.{best, traced, renormalised}
use Rattle.trellis.specs.Run.{Decoder, after, pushed, flushed, decisions_after, four_steps, fresh_from}
use Rattle.viterbi_core.specs.Calls.{Holds}
use Rattle.viterbi_core.specs.CountLaws.{counted}
use Rattle.viterbi_core.specs.HoldingLaws.{holds_closed, holds_flushed}
use Rattle.short_code.specs.declared.Code.{Code}
use Rattle.short_code.specs.Codes.{labels, half_of, states_of, Fits}
use Rattle.short_code.specs.CodeLaws.{states_are}
use Rattle.path_greatest.specs.declared.Start.{Start}
use Rattle.path_greatest.specs.Fresh.{start_values}
use Rattle.short_best.specs.Readings.{read, Finished}

module _ (c : Code) (h : ℕ) (f : Fits c h) (start : Start) (xs : List Float) (dec₀ out₀ : List ℕ) where
  abbrev pub n : ℕ
  n = length xs / 4

  -- all steps, from the path values pm
  abbrev pub stepped : List Float → Decoder
  stepped pm = after h (labels c) rule 128 (four_steps xs) (fresh_from pm) n

  -- bits and held words together are as many as the steps
  pub all_counted : (pm : List Float) → (length (stepped pm).words < 4224) × (length (stepped pm).bits + length (stepped pm).words ≡ n)
  all_counted pm =
      let k = counted h (labels c) rule 128 (four_steps xs) (fresh_from pm) (lit≤ tt) (lit≤ tt) (lit< tt) n in
      let w = k.words_left in
      let b = k.bits_out in
      (k.few, omega arith)

  at_half : (pm : List Float) → pm ≡ start_values (2 * h) start → pushed h (labels c) rule 128 (four_steps xs) (fresh_from pm) n ≡ read c start xs
  at_half pm e =
      ap (λ (y : List Float). pushed h (labels c) rule 128 (four_steps xs) (fresh_from y) n) (e ∙ ap (λ (k : ℕ). start_values k start) (states_are c h f))
      ∙ ap (λ (k : ℕ). pushed k (labels c) rule 128 (four_steps xs) (fresh_from (start_values (states_of c) start)) n) f.half_is

  pub finished : (pm₀ pm low : List Float) (held count s r : ℕ) (dec dec' out out' : List ℕ) → pm₀ ≡ start_values (2 * h) start
      → Holds 128 dec₀ out₀ (stepped pm₀) pm held count dec out → low ≡ renormalised h pm → s ≡ best rule low (2 * h - 1)
      → r ≡ count + held → dec' ≡ laid (replicate held 0) dec → out' ≡ take count out ++ laid (traced h (take held dec) s) (drop count out)
      → Finished c start xs r dec₀ dec' out₀ out'
  finished pm₀ pm low held count s r dec dec' out out' e k l b er ed eo =
      let d = pushed h (labels c) rule 128 (four_steps xs) (fresh_from pm₀) n in
      let j = holds_closed h (labels c) rule 128 (four_steps xs) (fresh_from pm₀) n dec₀ out₀ pm low held count dec out k l in
      let last = holds_flushed h (labels c) rule 128 d dec₀ out₀ low held count dec out out' r j er (eo ∙ ap (λ (z : ℕ). take count out ++ laid (traced h (take held dec) z) (drop count out)) b) in
      let same = at_half pm₀ e in
      let sum = (all_counted pm₀).1 in
      let eh = k.held_is in
      let ec = k.count_is in
      record {
        count_is = omega arith;
        words = ed ∙ ap (λ (z : ℕ). laid (replicate z 0) dec) j.held_is ∙ ap (λ (z : List ℕ). laid (replicate (length d.words) 0) z) j.words
            ∙ ap (λ (y : Decoder). laid (replicate (length y.words) 0) (decisions_after 128 y.words y.bits dec₀)) same;
        bits = last.1 ∙ ap (λ (k : ℕ). laid (flushed k (labels c) rule d).bits out₀) f.half_is ∙ ap (λ (y : Decoder). laid (flushed (half_of c) (labels c) rule y).bits out₀) same;
      }
