-- One block more of a run of steps.
use mathlib.Core.Path.{◌≡◌, refl, sym, ◌∙◌, ap}
use mathlib.Core.Logic.{⊎_elim}
use mathlib.Core.List.{List, [], ◌∷◌, ◌++◌}
use Prim.Native.Nat.{ℕ, ◌+◌, ◌-◌, ◌*◌, ◌/◌, ◌%◌, ◌<◌, ◌≤◌}
use native.Mathlib.Omega.{arith}
use lib.ListN.{length, take, drop}
use borrow.Rule.Slice.PartMut.{mid_of, put_mid, same_len_mid, mid_len}
use lib.Ieee.{Float}
use Rattle.trellis.specs.Lists.{laid}
use Rattle.trellis.specs.ListLaws.{length_upto}
use Rattle.trellis.specs.Step.{Step}
use Rattle.trellis.specs.Run.{Decoder, releases}
use Rattle.viterbi_steps.specs.Runs.{run_word, run_values, run_words}
use Rattle.viterbi_steps.specs.declared.Kind.{Kind}
use Rattle.viterbi_core.specs.declared.At.{At}
use Rattle.viterbi_core.specs.Calls.{steps_from, Carried, Ended, Holds, block_end}
use Rattle.viterbi_core.specs.CountLaws.{releases_is}
use Rattle.trellis.specs.LaidLaws.{length_laid}
use Rattle.viterbi_core.specs.BlockLaws.{Settles, ran, block_is, from_more}
use Rattle.viterbi_core.proofs.Ends.{holds_ran}

-- ---- the words of a block
pub length_words : (ys : ℕ → Step) (pm : List Float) (n : ℕ) → length (run_words ys pm n) ≡ n
length_words ys pm n = length_upto (run_word ys pm) n

-- the decisions keep their length as n words are laid from place a on
pub length_put : (a n : ℕ) (ys : ℕ → Step) (pm : List Float) (l p : List ℕ) → a + n ≤ length l → p ≡ laid (run_words ys pm n) (mid_of a (length l - a) l) → length (put_mid a (length l - a) l p) ≡ length l
length_put a n ys pm l p h e =
    let m = mid_of a (length l - a) l in
    let lm : length m ≡ length l - a = mid_len a (length l) l (omega arith) in
    let lf = length_words ys pm n in
    same_len_mid a (length l - a) l p (ap length e ∙ length_laid (run_words ys pm n) m (omega arith))

-- ---- how many words and bits
-- a block that releases nothing, and one that does
same_releases : (tb h k len l : ℕ) → tb ≤ 1024 → l + 4096 * releases tb h k ≡ h + k → l + len < 4096 + tb → releases tb h (k + len) ≡ releases tb h k
same_releases tb h k len l most e f = let a = releases_is tb h k most in let b = releases_is tb h (k + len) most in omega arith

one_release : (tb h k len l : ℕ) → tb ≤ 1024 → l + 4096 * releases tb h k ≡ h + k → l + len ≡ 4096 + tb → releases tb h (k + len) ≡ releases tb h k + 1
one_release tb h k len l most e f = let a = releases_is tb h k most in let b = releases_is tb h (k + len) most in omega arith

-- ---- the decoder
module _ (tb : ℕ) (most : tb ≤ 1024) (ys : ℕ → Step) (i : ℕ) (pm₀ : List Float) (at₀ : At) (dec₀ out₀ : List ℕ) where
  pub carried_none : at₀.held < 4096 + tb → Carried tb ys i 0 pm₀ at₀ dec₀ out₀ at₀ pm₀ dec₀ out₀
  unfolding steps_from
  carried_none h =
      let r = releases_is tb at₀.held 0 most in
      record { few = h; left = omega arith; gone = omega arith; carries = λ d dec out z. z }

  module _ (kind : Kind) (of : Settles kind ys) (k len : ℕ) (at : At) (pm : List Float) (dec out : List ℕ) (z : Carried tb ys i k pm₀ at₀ dec₀ out₀ at pm dec out)
      (some : 0 < len) (inside : (i + k) % 64 + len ≤ 64) (fits : at.held + len ≤ 4096 + tb) where
    -- where the block ends with a release, there is room if there is for the releases of all steps
    pub block_room : (n space : ℕ) → k + len ≤ n → at₀.count + 4096 * releases tb at₀.held n ≤ space → at.held + len ≡ 4096 + tb → at.count + 4096 ≤ space
    block_room n space h g full =
        let a = z.left in
        let b = z.gone in
        let r = one_release tb at₀.held k len at.held most z.left full in
        let p = releases_is tb at₀.held (k + len) most in
        let q = releases_is tb at₀.held n most in
        omega arith

    pub block_count : (n space : ℕ) → k ≤ n → at₀.count + 4096 * releases tb at₀.held n ≤ space → at.count ≤ space
    block_count n space h g =
        let b = z.gone in
        let p = releases_is tb at₀.held k most in
        let q = releases_is tb at₀.held n most in
        omega arith

    pub carried_more : (pm₁ pm' : List Float) (dec₁ dec' out' : List ℕ) (r : At)
        → pm₁ ≡ run_values (λ j. ys (k + j)) pm len → dec₁ ≡ take at.held dec ++ laid (run_words (λ j. ys (k + j)) pm len) (drop at.held dec)
        → Ended tb kind (i + (k + len)) pm₁ (record { held = at.held + len; count = at.count }) dec₁ out r pm' dec' out'
        → Carried tb ys i (k + len) pm₀ at₀ dec₀ out₀ r pm' dec' out'
    carried_more pm₁ pm' dec₁ dec' out' r ev ed e =
        let a = z.left in
        let b = z.gone in
        let next : ℕ → Step = λ j. ys (k + j) in
        let lands : (d : Decoder) (decs outs : List ℕ) → Holds tb decs outs d pm₀ at₀.held at₀.count dec₀ out₀
        → Holds tb decs outs (steps_from tb i ys d (k + len)) pm' r.held r.count dec' out' = λ d decs outs h.
        let before = z.carries d decs outs h in
        let here = steps_from tb i ys d k in
        let eh = before.held_is in
        let there : i + k + len ≡ i + (k + len) = omega arith in
        let on = e.ends (ran next here len) decs outs (holds_ran tb decs outs here pm at.held at.count dec out before next len pm₁ dec₁ ev ed) in
        rw (from_more tb i ys d k len, block_is tb (i + k) kind next (λ j m v. of j (k + m) v) here len some inside (omega arith), there) on in
        ⊎_elim
        (λ kept.
        let s = same_releases tb at₀.held k len at.held most z.left kept.0 in
        record { few = omega arith; left = omega arith; gone = omega arith; carries = lands })
        (λ full.
        let s = one_release tb at₀.held k len at.held most z.left full.0 in
        record { few = omega arith; left = omega arith; gone = omega arith; carries = lands })
        e.counts
