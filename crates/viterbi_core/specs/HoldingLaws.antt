-- The path values, the counts and the lent slices follow the decoder through the steps of a call.
use Rattle.std.specs.Prelude.{◌≡◌, refl, Bool, true, false, cond, List, [], ◌∷◌, ◌++◌, ℕ, ◌+◌, ◌-◌, ◌*◌, ◌<◌, ◌≤◌, leb, ltb, length, take, drop, replicate, Float}
use Rattle.std.proofs.Common.{sym, ◌∙◌, ap, arith, add-one, length-append, take-append-drop, length-take-le, leb-true, leb-false, lt-ltb}
use Rattle.std.proofs.lemmas.List.{length-replicate}
use Rattle.trellis.specs.Lists.{laid}
use Rattle.trellis.specs.Step.{Step, Tie, nexts, word, best, renormalised, traced}
use Rattle.trellis.specs.Run.{Decoder, block, settled, stepped, after, pushed, flushed, decisions_after, traceback_limit, releases, holding}
use Rattle.viterbi_core.specs.declared.At.{At}
use Rattle.viterbi_core.specs.Calls.{Holds, Stepped, Room}
use Rattle.trellis.specs.LaidLaws.{laid_laid, take_laid, length_laid, laid_after}
use Rattle.viterbi_core.specs.TracedLaws.{length_traced}
use Rattle.viterbi_core.specs.StepLaws.{grown, unreleased, releasing}
use Rattle.viterbi_core.specs.CountLaws.{counted, room, releases_is}

-- the decoder of the same path values and words that has put out nothing
abbrev pub bare : Decoder → Decoder
bare d = record { values = d.values; words = d.words; bits = [] }

-- "held words move down and freed words become 0": the decisions after a step without a release, and after one with it
pub over_kept : (tb : ℕ) (ws more bs dec : List ℕ) → length ws ≤ length more → decisions_after tb more [] (decisions_after tb ws bs dec) ≡ decisions_after tb more bs dec
over_kept tb ws more bs dec h = laid_laid ws more (cond (ltb 0 (length bs)) (laid (replicate (block + tb) 0) dec) dec) h

zeroed : (tb : ℕ) (ws dec : List ℕ) (t : Bool) → length ws ≤ block + tb
    → laid (replicate (block + tb) 0) (laid ws (cond t (laid (replicate (block + tb) 0) dec) dec)) ≡ laid (replicate (block + tb) 0) dec
zeroed tb ws dec t h =
    let l : length (replicate {A = ℕ} (block + tb) 0) ≡ block + tb = length-replicate (block + tb) 0 in
    laid_laid ws (replicate (block + tb) 0) (cond t (laid (replicate (block + tb) 0) dec) dec) (omega arith) ∙ both t
  where
    both : (t : Bool) → laid (replicate (block + tb) 0) (cond t (laid (replicate (block + tb) 0) dec) dec) ≡ laid (replicate (block + tb) 0) dec
    both true = laid_laid (replicate (block + tb) 0) (replicate (block + tb) 0) dec (omega arith)
    both false = refl

-- the decisions are cleared whatever was held
pub cleared : (tb : ℕ) (ws bs dec : List ℕ) → length ws < block + tb → laid (replicate (block + tb) 0) (decisions_after tb ws bs dec) ≡ laid (replicate (block + tb) 0) dec
cleared tb ws bs dec h = zeroed tb ws dec (ltb 0 (length bs)) (omega arith)

-- as many words as there can be
pub over_full : (tb : ℕ) (ws more bs new dec : List ℕ) → length ws ≤ block + tb → 0 < length new
    → decisions_after tb more new (decisions_after tb ws bs dec) ≡ decisions_after tb more (bs ++ new) dec
over_full tb ws more bs new dec h p =
    let one : ltb 0 (length new) ≡ true = lt-ltb 0 (length new) p in
    let all : ltb 0 (length (bs ++ new)) ≡ true = lt-ltb 0 (length (bs ++ new)) (rw (length-append bs new) (omega arith)) in
    rw (one, all) (ap (λ (x : List ℕ). laid more x) (zeroed tb ws dec (ltb 0 (length bs)) h))

pub over_released : (tb : ℕ) (ws more bs new dec : List ℕ) → length ws < block + tb → 0 < length new
    → decisions_after tb more new (decisions_after tb ws bs dec) ≡ decisions_after tb more (bs ++ new) dec
over_released tb ws more bs new dec h p = over_full tb ws more bs new dec (omega arith) p

-- before the first step of a call
pub holds_start : (tb : ℕ) (pm : List Float) (held : ℕ) (dec out : List ℕ) → held ≤ length dec → Holds tb dec out (holding pm held dec) pm held 0 dec out
holds_start tb pm held dec out h =
    let l : length (take held dec) ≡ held = length-take-le held dec h in
    record {
      values = refl;
      held_is = sym l;
      count_is = refl;
      words = sym (ap (λ (k : ℕ). take held dec ++ drop k dec) l ∙ take-append-drop held dec);
      bits = refl;
    }

-- the lent decisions hold the words
pub holding_is : (tb : ℕ) (d : Decoder) (dec₀ out₀ : List ℕ) (pm : List Float) (held count : ℕ) (dec out : List ℕ)
    → Holds tb dec₀ out₀ d pm held count dec out → holding pm held dec ≡ bare d
holding_is tb d dec₀ out₀ pm held count dec out h =
    let front : take held dec ≡ d.words =
    ap (λ (k : ℕ). take k dec) h.held_is ∙ ap (λ (y : List ℕ). take (length d.words) y) h.words
    ∙ take_laid d.words (cond (ltb 0 (length d.bits)) (laid (replicate (block + tb) 0) dec₀) dec₀) in
    ap (λ (y : List Float). holding y held dec) h.values ∙ ap (λ (y : List ℕ). record { values = d.values; words = y; bits = [] }) front

-- the lent slices keep their lengths
pub holds_lengths : (tb : ℕ) (d : Decoder) (dec₀ out₀ : List ℕ) (pm : List Float) (held count : ℕ) (dec out : List ℕ)
    → length d.words < block + tb → block + tb ≤ length dec₀ → length d.bits ≤ length out₀
    → Holds tb dec₀ out₀ d pm held count dec out → (length dec ≡ length dec₀) × (length out ≡ length out₀)
holds_lengths tb d dec₀ out₀ pm held count dec out few fits room h =
    (ap length h.words ∙ under (ltb 0 (length d.bits)), ap length h.bits ∙ length_laid d.bits out₀ room)
  where
    zeros : length (replicate {A = ℕ} (block + tb) 0) ≡ block + tb
    zeros = length-replicate (block + tb) 0

    base : (t : Bool) → length (cond t (laid (replicate (block + tb) 0) dec₀) dec₀) ≡ length dec₀
    base true = length_laid (replicate (block + tb) 0) dec₀ (rw zeros fits)
    base false = refl

    under : (t : Bool) → length (laid d.words (cond t (laid (replicate (block + tb) 0) dec₀) dec₀)) ≡ length dec₀
    under t = length_laid d.words (cond t (laid (replicate (block + tb) 0) dec₀) dec₀) (let b = base t in omega arith) ∙ base t

module _ (half : ℕ) (label : ℕ → ℕ → ℕ) (rule : Tie) where
  module _ (tb i : ℕ) (x : Step) (d : Decoder) (dec₀ out₀ : List ℕ) where
    -- a step adds its bits to those put out before
    after_kept : (r : At) (pm pm' : List Float) (count : ℕ) (dec dec' out out' : List ℕ) → length d.words + 1 < block + tb
        → count ≡ length d.bits
        → dec ≡ decisions_after tb d.words d.bits dec₀ → out ≡ laid d.bits out₀
        → Stepped tb (stepped half label rule tb i x (bare d)) count r pm' dec dec' out out' → Holds tb dec₀ out₀ (stepped half label rule tb i x d) pm' r.held r.count dec' out'
    after_kept r pm pm' count dec dec' out out' g ec ed eo s =
        let s' = rw (unreleased half label rule tb i x (bare d) g) at s in
        let l : length (grown half label rule d.values d.words x) ≡ length d.words + 1 = length-append d.words (word half label rule d.values x ∷ []) in
        rw (unreleased half label rule tb i x d g) (record {
          values = s'.values;
          held_is = s'.held_is;
          count_is = s'.count_is ∙ omega arith;
          words = s'.words ∙ ap (λ (y : List ℕ). decisions_after tb (grown half label rule d.values d.words x) [] y) ed ∙ over_kept tb d.words (grown half label rule d.values d.words x) d.bits dec₀ (omega arith);
          bits = s'.bits ∙ take-append-drop count out ∙ eo;
        })

    after_released : (r : At) (pm pm' : List Float) (count : ℕ) (dec dec' out out' : List ℕ) → length d.words < block + tb → block + tb ≤ length d.words + 1
        → count ≡ length d.bits
        → dec ≡ decisions_after tb d.words d.bits dec₀ → out ≡ laid d.bits out₀
        → Stepped tb (stepped half label rule tb i x (bare d)) count r pm' dec dec' out out' → Holds tb dec₀ out₀ (stepped half label rule tb i x d) pm' r.held r.count dec' out'
    after_released r pm pm' count dec dec' out out' h g ec ed eo s =
        let s' = rw (releasing half label rule tb i x (bare d) g) at s in
        let ws = grown half label rule d.values d.words x in
        let b = best rule (settled half label rule i x (nexts half label rule d.values x)) (2 * half - 1) in
        let new = take block (traced half ws b) in
        let l : length ws ≡ length d.words + 1 = length-append d.words (word half label rule d.values x ∷ []) in
        let lt : length (traced half ws b) ≡ length ws = length_traced half ws b in
        let ln : length new ≡ block = length-take-le block (traced half ws b) (omega arith) in
        rw (releasing half label rule tb i x d g) (record {
          values = s'.values;
          held_is = s'.held_is;
          count_is = s'.count_is ∙ ap (λ (k : ℕ). k + length new) ec ∙ sym (length-append d.bits new);
          words = s'.words ∙ ap (λ (y : List ℕ). decisions_after tb (drop block ws) new y) ed ∙ over_released tb d.words (drop block ws) d.bits new dec₀ h (omega arith);
          bits = s'.bits ∙ ap (λ (y : List ℕ). take count y ++ laid new (drop count y)) eo
              ∙ ap (λ (k : ℕ). take k (laid d.bits out₀) ++ laid new (drop k (laid d.bits out₀))) ec ∙ laid_after d.bits new out₀;
        })

  -- one step of a call
  pub holds_next : (tb i : ℕ) (x : Step) (d : Decoder) (dec₀ out₀ : List ℕ) (r : At) (pm pm' : List Float) (held count : ℕ) (dec dec' out out' : List ℕ)
      → length d.words < block + tb
      → Holds tb dec₀ out₀ d pm held count dec out
      → Stepped tb (stepped half label rule tb i x (holding pm held dec)) count r pm' dec dec' out out'
      → Holds tb dec₀ out₀ (stepped half label rule tb i x d) pm' r.held r.count dec' out'
  holds_next tb i x d dec₀ out₀ r pm pm' held count dec dec' out out' few h s =
      by_case (leb (block + tb) (length d.words + 1)) refl (rw (holding_is tb d dec₀ out₀ pm held count dec out h) at s)
    where
      by_case : (t : Bool) → leb (block + tb) (length d.words + 1) ≡ t → Stepped tb (stepped half label rule tb i x (bare d)) count r pm' dec dec' out out'
          → Holds tb dec₀ out₀ (stepped half label rule tb i x d) pm' r.held r.count dec' out'
      by_case false e b =
          after_kept tb i x d dec₀ out₀ r pm pm' count dec dec' out out' (leb-false (block + tb) (length d.words + 1) e) h.count_is h.words h.bits b
      by_case true e b =
          after_released tb i x d dec₀ out₀ r pm pm' count dec dec' out out' few (leb-true (block + tb) (length d.words + 1) e) h.count_is h.words h.bits b

  -- The steps xs of a call, from a decoder d of few words, where there is space for all the bits of n steps
  module _ (tb : ℕ) (xs : ℕ → Step) (d : Decoder) (dec₀ out₀ : List ℕ) (n : ℕ) (least : 1 ≤ tb) (most : tb ≤ traceback_limit) (few : length d.words < block + tb)
      (fits : block + tb ≤ length dec₀) (space : length d.bits + block * releases tb (length d.words) n ≤ length out₀) where
    module _ (pm : List Float) (held count : ℕ) (dec out : List ℕ) (i : ℕ) (h : Holds tb dec₀ out₀ (after half label rule tb xs d i) pm held count dec out) where
      pub steps_lengths : i ≤ n → (length dec ≡ length dec₀) × (length out ≡ length out₀)
      steps_lengths g =
          let c = counted half label rule tb xs d least most few i in
          let b = c.bits_out in
          let ri = releases_is tb (length d.words) i most in
          let rn = releases_is tb (length d.words) n most in
          holds_lengths tb (after half label rule tb xs d i) dec₀ out₀ pm held count dec out c.few fits (omega arith) h

      -- what step i asks
      pub steps_ready : i < n → (1 ≤ tb) × (tb ≤ traceback_limit) × (held < block + tb) × (block + tb ≤ length dec) × (count ≤ length out) × Room tb held count (length out)
      steps_ready g =
          let c = counted half label rule tb xs d least most few i in
          let b = c.bits_out in
          let f = c.few in
          let ri = releases_is tb (length d.words) i most in
          let rn = releases_is tb (length d.words) n most in
          let l = steps_lengths (omega arith) in
          let eh = h.held_is in
          let ec = h.count_is in (
            least,
            most,
            omega arith,
            omega arith,
            omega arith,
            (λ full. let r = room half label rule tb xs d least most few i n (length out₀) g space (omega arith) in omega arith),
          )

      -- and what it leaves
      pub steps_next : (r : At) (pm' : List Float) (dec' out' : List ℕ) → Stepped tb (stepped half label rule tb i (xs i) (holding pm held dec)) count r pm' dec dec' out out'
          → Holds tb dec₀ out₀ (after half label rule tb xs d (i + 1)) pm' r.held r.count dec' out'
      unfolding after
      steps_next r pm' dec' out' s =
          rw (add-one i)
          (holds_next tb i (xs i) (after half label rule tb xs d i) dec₀ out₀ r pm pm' held count dec dec' out out' (counted half label rule tb xs d least most few i).few h s)

  -- the maximum is subtracted at the end of a call of soft values or metrics
  pub holds_closed : (tb : ℕ) (xs : ℕ → Step) (d : Decoder) (n : ℕ) (dec₀ out₀ : List ℕ) (pm low : List Float) (held count : ℕ) (dec out : List ℕ)
      → Holds tb dec₀ out₀ (after half label rule tb xs d n) pm held count dec out → low ≡ renormalised half pm
      → Holds tb dec₀ out₀ (pushed half label rule tb xs d n) low held count dec out
  holds_closed tb xs d n dec₀ out₀ pm low held count dec out h e =
      record {
        values = e ∙ ap (λ (y : List Float). renormalised half y) h.values;
        held_is = h.held_is;
        count_is = h.count_is;
        words = h.words;
        bits = h.bits;
      }

  -- after `finish`: the bits of the flush, and how many they are
  pub holds_flushed : (tb : ℕ) (d : Decoder) (dec₀ out₀ : List ℕ) (pm : List Float) (held count : ℕ) (dec out out' : List ℕ) (r : ℕ)
      → Holds tb dec₀ out₀ d pm held count dec out
      → r ≡ count + held
      → out' ≡ take count out ++ laid (traced half (take held dec) (best rule pm (2 * half - 1))) (drop count out)
      → (r ≡ length (flushed half label rule d).bits) × (out' ≡ laid (flushed half label rule d).bits out₀)
  holds_flushed tb d dec₀ out₀ pm held count dec out out' r h er eo =
      let same = holding_is tb d dec₀ out₀ pm held count dec out h in
      let new = traced half d.words (best rule d.values (2 * half - 1)) in
      let bits_are : traced half (take held dec) (best rule pm (2 * half - 1)) ≡ new = ap (λ (y : Decoder). traced half y.words (best rule y.values (2 * half - 1))) same in
      let el : length (d.bits ++ new) ≡ length d.bits + length new = length-append d.bits new in
      let en : length new ≡ length d.words = length_traced half d.words (best rule d.values (2 * half - 1)) in
      let eh = h.held_is in
      let ec = h.count_is in (
        er ∙ omega arith,
        eo ∙ ap (λ (y : List ℕ). take count out ++ laid y (drop count out)) bits_are
            ∙ ap (λ (y : List ℕ). take count y ++ laid new (drop count y)) h.bits
            ∙ ap (λ (k : ℕ). take k (laid d.bits out₀) ++ laid new (drop k (laid d.bits out₀))) ec
            ∙ laid_after d.bits new out₀,
      )
