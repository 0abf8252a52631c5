-- What the path values, the counts and the lent slices hold after the steps of a block, and at its end.
use mathlib.Core.Path.{◌≡◌, refl, sym, ◌∙◌, ap}
use mathlib.Core.Bool.{Bool, true, false, cond}
use mathlib.Core.Logic.{inl, inr}
use mathlib.Core.List.{List, [], ◌∷◌, ◌++◌}
use Prim.Native.Nat.{ℕ, ◌+◌, ◌-◌, ◌*◌, ◌%◌, ◌<◌, ◌≤◌}
use native.Mathlib.Omega.{arith}
use lib.Dec.{leb, ltb}
use lib.ListN.{length, take, drop, replicate, length-append, length-drop}
use lib.Seq.{length-take-le}
use lib.Ieee.{Float}
use borrow.Author.Tests.{le-leb, lt-leb}
use Rattle.trellis.specs.Lists.{laid}
use Rattle.trellis.specs.Step.{Step, renormalised}
use Rattle.trellis.specs.Run as run
use Rattle.trellis.specs.Run.{Decoder, block, decisions_after}
use Rattle.trellis.specs.Isdb.{best_state, traced, released}
use Rattle.viterbi_steps.specs.Runs.{run_values, run_words}
use Rattle.viterbi_steps.specs.declared.Kind.{Kind}
use Rattle.viterbi_core.specs.declared.At.{At}
use Rattle.viterbi_core.specs.Calls.{Holds, Ended, due, block_end}
use Rattle.trellis.specs.LaidLaws.{laid_after}
use Rattle.viterbi_core.specs.TracedLaws.{length_traced}
use Rattle.viterbi_core.specs.HoldingLaws.{holding_is, over_full}
use Rattle.viterbi_core.specs.BlockLaws.{ran, length_ran}

module _ (tb : ℕ) (dec₀ out₀ : List ℕ) (d : Decoder) (pm : List Float) (held count : ℕ) (dec out : List ℕ) (h : Holds tb dec₀ out₀ d pm held count dec out) where
  -- the words of n steps are laid after those that are held
  pub holds_ran : (ys : ℕ → Step) (n : ℕ) (pm' : List Float) (dec' : List ℕ) → pm' ≡ run_values ys pm n → dec' ≡ take held dec ++ laid (run_words ys pm n) (drop held dec)
      → Holds tb dec₀ out₀ (ran ys d n) pm' (held + n) count dec' out
  holds_ran ys n pm' dec' ev ed =
      let under = cond (ltb 0 (length d.bits)) (laid (replicate (block + tb) 0) dec₀) dec₀ in
      let ws = run_words ys d.values n in
      record {
        values = ev ∙ ap (λ (v : List Float). run_values ys v n) h.values;
        held_is = ap (λ (k : ℕ). k + n) h.held_is ∙ sym (length_ran ys d n);
        count_is = h.count_is;
        words =
            ed ∙ ap (λ (v : List Float). take held dec ++ laid (run_words ys v n) (drop held dec)) h.values
            ∙ ap (λ (y : List ℕ). take held y ++ laid ws (drop held y)) h.words
            ∙ ap (λ (k : ℕ). take k (laid d.words under) ++ laid ws (drop k (laid d.words under))) h.held_is
            ∙ laid_after d.words ws under;
        bits = h.bits;
      }

  module _ (kind : Kind) (i : ℕ) (pm' : List Float) (settled : pm' ≡ cond (due kind i) (renormalised 32 pm) pm) where
    values_end : pm' ≡ cond (due kind i) (renormalised 32 d.values) d.values
    values_end = settled ∙ ap (λ (v : List Float). cond (due kind i) (renormalised 32 v) v) h.values

    -- the end of a block that releases nothing
    pub holds_kept : held < 4096 + tb → Holds tb dec₀ out₀ (block_end tb kind i d) pm' held count dec out
    unfolding run.released
    holds_kept g =
        let eh = h.held_is in
        rw (lt-leb (4096 + tb) (length d.words) (omega arith)) (record { values = values_end; held_is = h.held_is; count_is = h.count_is; words = h.words; bits = h.bits })

    -- and of one that does
    pub holds_let_go : (dec' out' : List ℕ) → held ≡ 4096 + tb
        → dec' ≡ laid (drop 4096 (take (4096 + tb) dec)) (laid (replicate (4096 + tb) 0) dec)
        → out' ≡ take count out ++ laid (take 4096 (traced (take (4096 + tb) dec) (best_state pm'))) (drop count out)
        → Holds tb dec₀ out₀ (block_end tb kind i d) pm' tb (count + 4096) dec' out'
    unfolding run.released
    holds_let_go dec' out' full ed eo =
        let ws = d.words in
        let end = cond (due kind i) (renormalised 32 d.values) d.values in
        let new = take 4096 (traced ws (best_state end)) in
        let eh = h.held_is in
        let front : take (4096 + tb) dec ≡ ws = ap (λ (k : ℕ). take k dec) (sym full) ∙ ap (λ (y : Decoder). y.words) (holding_is tb d dec₀ out₀ pm held count dec out h) in
        let lt : length (traced ws (best_state end)) ≡ length ws = length_traced 32 ws (best_state end) in
        let ln : length new ≡ 4096 = length-take-le 4096 (traced ws (best_state end)) (omega arith) in
        let one : ltb 0 (length new) ≡ true = ap (λ (k : ℕ). ltb 0 k) ln in
        rw (le-leb (4096 + tb) (length ws) (omega arith)) (record {
          values = values_end;
          held_is = sym (length-drop 4096 ws ∙ omega arith);
          count_is = ap (λ (k : ℕ). k + 4096) h.count_is ∙ ap (λ (k : ℕ). length d.bits + k) (sym ln) ∙ sym (length-append d.bits new);
          words =
              ed ∙ ap (λ (y : List ℕ). laid (drop 4096 y) (laid (replicate (4096 + tb) 0) dec)) front
              ∙ ap (λ (t : Bool). laid (drop 4096 ws) (cond t (laid (replicate (4096 + tb) 0) dec) dec)) (sym one)
              ∙ ap (λ (y : List ℕ). decisions_after tb (drop 4096 ws) new y) h.words
              ∙ over_full tb ws (drop 4096 ws) d.bits new dec₀ (omega arith) (omega arith);
          bits =
              eo ∙ ap (λ (y : List ℕ). take count out ++ laid (take 4096 (traced y (best_state pm'))) (drop count out)) front
              ∙ ap (λ (v : List Float). take count out ++ laid (take 4096 (traced ws (best_state v))) (drop count out)) values_end
              ∙ ap (λ (y : List ℕ). take count y ++ laid new (drop count y)) h.bits
              ∙ ap (λ (k : ℕ). take k (laid d.bits out₀) ++ laid new (drop k (laid d.bits out₀))) h.count_is
              ∙ laid_after d.bits new out₀;
        })

module _ (tb : ℕ) (kind : Kind) (i : ℕ) (pm : List Float) (at : At) (dec out : List ℕ) (pm' : List Float) (settled : pm' ≡ cond (due kind i) (renormalised 32 pm) pm) where
  pub kept_end : at.held < 4096 + tb → Ended tb kind i pm at dec out (record { held = at.held; count = at.count }) pm' dec out
  kept_end g = record { counts = inl (g, refl, refl); ends = λ d dec₀ out₀ h. holds_kept tb dec₀ out₀ d pm at.held at.count dec out h kind i pm' settled g }

  pub let_go_end : (dec' out' : List ℕ) → at.held ≡ 4096 + tb
      → dec' ≡ laid (drop 4096 (take (4096 + tb) dec)) (laid (replicate (4096 + tb) 0) dec)
      → out' ≡ take at.count out ++ laid (take 4096 (traced (take (4096 + tb) dec) (best_state pm'))) (drop at.count out)
      → Ended tb kind i pm at dec out (record { held = tb; count = at.count + 4096 }) pm' dec' out'
  let_go_end dec' out' full ed eo =
      record { counts = inr (full, refl, refl); ends = λ d dec₀ out₀ h. holds_let_go tb dec₀ out₀ d pm at.held at.count dec out h kind i pm' settled dec' out' full ed eo }
