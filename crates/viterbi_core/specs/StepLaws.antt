-- One step of a call, with and without a release, as the lent slices show it.
use Rattle.std.specs.Prelude.{◌≡◌, cond, List, [], ◌∷◌, ◌++◌, ℕ, ◌+◌, ◌-◌, ◌*◌, ◌<◌, ◌≤◌, ltb, length, take, drop, set, replicate, Float}
use Rattle.std.proofs.Math.Path.{refl}
use Rattle.std.proofs.Common.{sym, ◌∙◌, ap, arith, add-one, length-append, length-drop, take-append-drop, length-take-le, take-suc-set, drop-set-lt, le-leb}
use Rattle.std.proofs.lemmas.List.{length-replicate}
use Rattle.std.proofs.lemmas.Bool.{lt-leb}
use Rattle.trellis.specs.Lists.{laid}
use Rattle.trellis.specs.Step.{Step, Tie, nexts, word, best, traced}
use Rattle.trellis.specs.Run.{Decoder, block, settled, stepped, released, holding}
use Rattle.viterbi_core.specs.Calls.{Stepped}
use Rattle.trellis.specs.LaidLaws.{laid_more}
use Rattle.viterbi_core.specs.TracedLaws.{length_traced}

module _ (half : ℕ) (label : ℕ → ℕ → ℕ) (rule : Tie) where
  -- the words after step x: one more
  abbrev pub grown : List Float → List ℕ → Step → List ℕ
  grown pm ws x = ws ++ (word half label rule pm x ∷ [])

  -- a step that releases nothing
  pub unreleased : (tb i : ℕ) (x : Step) (d : Decoder) → length d.words + 1 < block + tb
      → stepped half label rule tb i x d ≡ record { values = settled half label rule i x (nexts half label rule d.values x); words = grown d.values d.words x; bits = d.bits }
  unfolding stepped released
  unreleased tb i x d h =
      rw (lt-leb (block + tb) (length (grown d.values d.words x)) (rw (length-append d.words (word half label rule d.values x ∷ [])) h)) refl

  -- a step that releases
  pub releasing : (tb i : ℕ) (x : Step) (d : Decoder) → block + tb ≤ length d.words + 1
      → stepped half label rule tb i x d
      ≡ record {
        values = settled half label rule i x (nexts half label rule d.values x);
        words = drop block (grown d.values d.words x);
        bits = d.bits ++ take block (traced half (grown d.values d.words x) (best rule (settled half label rule i x (nexts half label rule d.values x)) (2 * half - 1)));
      }
  unfolding stepped released
  releasing tb i x d h =
      rw (le-leb (block + tb) (length (grown d.values d.words x)) (rw (length-append d.words (word half label rule d.values x ∷ [])) h)) refl

  module _ (tb i : ℕ) (x : Step) (pm pm' : List Float) (held count w : ℕ) (dec out : List ℕ) (inside : held < length dec)
      (values-are : pm' ≡ settled half label rule i x (nexts half label rule pm x)) (word-is : w ≡ word half label rule pm x) where
    -- the word is laid after those that are held
    pub word_laid : set dec held w ≡ laid (grown pm (take held dec) x) dec
    word_laid =
        let l : length (take held dec) ≡ held = length-take-le held dec (omega arith) in
        let whole : laid (take held dec) dec ≡ dec = ap (λ (k : ℕ). take held dec ++ drop k dec) l ∙ take-append-drop held dec in
        rw (sym word-is) (
        ap (λ (k : ℕ). set dec k w) (sym l) ∙ ap (λ (y : List ℕ). set y (length (take held dec)) w) (sym whole)
        ∙ laid_more (take held dec) dec w (omega arith)
        )

    pub kept_step : held + 1 < block + tb → Stepped tb (stepped half label rule tb i x (holding pm held dec)) count (record { held = held + 1; count = count }) pm' dec (set dec held w) out out
    kept_step h =
        let l : length (take held dec) ≡ held = length-take-le held dec (omega arith) in
        rw (unreleased tb i x (holding pm held dec) (rw l h)) (record {
          values = values-are;
          held_is = rw (length-append (take held dec) (word half label rule pm x ∷ []), l) refl;
          count_is = omega arith;
          words = word_laid;
          bits = sym (take-append-drop count out);
        })

    pub released_step : (dec' out' : List ℕ) → held + 1 ≡ block + tb
        → dec' ≡ laid (drop block (take (block + tb) (set dec held w))) (laid (replicate (block + tb) 0) (set dec held w))
        → out' ≡ take count out ++ laid (take block (traced half (take (block + tb) (set dec held w)) (best rule pm' (2 * half - 1)))) (drop count out)
        → Stepped tb (stepped half label rule tb i x (holding pm held dec)) count (record { held = tb; count = count + block }) pm' dec dec' out out'
    released_step dec' out' full edec eout =
        let l : length (take held dec) ≡ held = length-take-le held dec (omega arith) in
        let ws = grown pm (take held dec) x in
        let lw : length ws ≡ block + tb = length-append (take held dec) (word half label rule pm x ∷ []) ∙ omega arith in
        let taken : take (block + tb) (set dec held w) ≡ ws =
        ap (λ (k : ℕ). take k (set dec held w)) (sym full ∙ add-one held) ∙ take-suc-set dec held w inside
        ∙ ap (λ (y : ℕ). take held dec ++ (y ∷ [])) word-is in
        let zeros : length (replicate {A = ℕ} (block + tb) 0) ≡ block + tb = length-replicate (block + tb) 0 in
        let under : laid (replicate (block + tb) 0) (set dec held w) ≡ laid (replicate (block + tb) 0) dec =
        ap (λ (k : ℕ). replicate (block + tb) 0 ++ drop k (set dec held w)) zeros
        ∙ ap (λ (y : List ℕ). replicate (block + tb) 0 ++ y) (drop-set-lt (block + tb) dec held w (omega arith))
        ∙ ap (λ (k : ℕ). replicate (block + tb) 0 ++ drop k dec) (sym zeros) in
        let bs = take block (traced half ws (best rule (settled half label rule i x (nexts half label rule pm x)) (2 * half - 1))) in
        let lb : length bs ≡ block = length-take-le block (traced half ws (best rule (settled half label rule i x (nexts half label rule pm x)) (2 * half - 1))) (rw (length_traced half ws (best rule (settled half label rule i x (nexts half label rule pm x)) (2 * half - 1))) (omega arith)) in
        rw (releasing tb i x (holding pm held dec) (rw l (omega arith))) (record {
          values = values-are;
          held_is = sym (length-drop block ws ∙ omega arith);
          count_is = sym (ap (λ (k : ℕ). count + k) lb);
          words =
              edec ∙ ap (λ (y : List ℕ). laid (drop block y) (laid (replicate (block + tb) 0) (set dec held w))) taken
              ∙ ap (λ (y : List ℕ). laid (drop block ws) y) under
              ∙ ap (λ (k : ℕ). laid (drop block ws) (cond (ltb 0 k) (laid (replicate (block + tb) 0) dec) dec)) (sym lb);
          bits =
              eout ∙ ap (λ (y : List ℕ). take count out ++ laid (take block (traced half y (best rule pm' (2 * half - 1)))) (drop count out)) taken
              ∙ ap (λ (y : List Float). take count out ++ laid (take block (traced half ws (best rule y (2 * half - 1)))) (drop count out)) values-are;
        })
