-- How many words are held and how many bits have left after n steps of a call.
use Rattle.std.specs.Prelude.{◌≡◌, Bool, true, false, cond, [], ◌∷◌, ◌++◌, leb, ltb, length, take, drop}
use Rattle.std.proofs.Math.Path.{refl}
use Rattle.std.proofs.Common.{sym, ◌∙◌, ap, add-one, length-append, length-drop, length-take-le, ltb-true, ltb-false, leb-true, leb-false}
use Prim.Native.Nat.{ℕ, zero, suc, ◌+◌, ◌-◌, ◌*◌, ◌/◌, ◌<◌, ◌≤◌}
use native.Mathlib.Omega.{arith}
use Rattle.trellis.specs.Step.{Step, Tie, nexts, word, best, traced}
use Rattle.trellis.specs.Run.{Decoder, block, settled, stepped, after, traceback_limit, releases}
use Rattle.viterbi_core.specs.TracedLaws.{length_traced}
use Rattle.viterbi_core.specs.StepLaws.{grown, unreleased, releasing}

-- the number of releases with no case
by_case : (tb h n : ℕ) (t : Bool) → tb ≤ traceback_limit → ltb (h + n) (block + tb) ≡ t → cond t 0 ((h + n - tb) / block) ≡ (h + n + (block - tb)) / block - 1
by_case tb h n true g e = omega (arith, ltb-true)
by_case tb h n false g e = omega (arith, ltb-false)

pub releases_is : (tb h n : ℕ) → tb ≤ traceback_limit → releases tb h n ≡ (h + n + (block - tb)) / block - 1
releases_is tb h n g = by_case tb h n (ltb (h + n) (block + tb)) g refl

-- the counts of a step
pub record Counts (tb : ℕ) (before after : Decoder) : Type 0 where
  pub few : length after.words < block + tb
  pub sum : length after.words + length after.bits ≡ length before.words + length before.bits + 1
  pub which : (length before.words + 1 < block + tb → length after.bits ≡ length before.bits) × (block + tb ≤ length before.words + 1 → length after.bits ≡ length before.bits + block)

-- after n steps from h held words and b bits: "At 4,096 + traceback held decisions .. 4,096 bits leave"
pub record Counted (tb h b n : ℕ) (d : Decoder) : Type 0 where
  pub few : length d.words < block + tb
  pub words_left : length d.words + block * releases tb h n ≡ h + n
  pub bits_out : length d.bits ≡ b + block * releases tb h n

-- a step that releases is one release more, any other none
same_number : (tb h n l r q : ℕ) → tb ≤ traceback_limit → l + block * r ≡ h + n → l + 1 < block + tb → r ≡ (h + n + (block - tb)) / block - 1 → q ≡ (h + (n + 1) + (block - tb)) / block - 1 → q ≡ r
same_number tb h n l r q g e f er eq = omega arith

next_number : (tb h n l r q : ℕ) → tb ≤ traceback_limit → l + block * r ≡ h + n → l + 1 ≡ block + tb → q ≡ (h + (n + 1) + (block - tb)) / block - 1 → q ≡ r + 1
next_number tb h n l r q g e f eq = omega arith

-- no more bits leave than there are
pub releases_le : (tb h n : ℕ) → tb ≤ traceback_limit → block * releases tb h n ≤ h + n
releases_le tb h n most = let r = releases_is tb h n most in omega arith

module _ (half : ℕ) (label : ℕ → ℕ → ℕ) (rule : Tie) where
  step_case : (tb i : ℕ) (x : Step) (d : Decoder) (t : Bool) → 1 ≤ tb → length d.words < block + tb → leb (block + tb) (length d.words + 1) ≡ t → Counts tb d (stepped half label rule tb i x d)
  step_case tb i x d false p h e =
      let g : length d.words + 1 < block + tb = leb-false (block + tb) (length d.words + 1) e in
      let l : length (grown half label rule d.values d.words x) ≡ length d.words + 1 = length-append d.words (word half label rule d.values x ∷ []) in
      rw (unreleased half label rule tb i x d g) (record { few = omega arith; sum = omega arith; which = ((λ a. refl), (λ a. omega arith)) })
  step_case tb i x d true p h e =
      let g : block + tb ≤ length d.words + 1 = leb-true (block + tb) (length d.words + 1) e in
      let ws = grown half label rule d.values d.words x in
      let s = best rule (settled half label rule i x (nexts half label rule d.values x)) (2 * half - 1) in
      let l : length ws ≡ length d.words + 1 = length-append d.words (word half label rule d.values x ∷ []) in
      let lw : length (drop block ws) ≡ length ws - block = length-drop block ws in
      let lt : length (traced half ws s) ≡ length ws = length_traced half ws s in
      let lb : length (d.bits ++ take block (traced half ws s)) ≡ length d.bits + block =
      length-append d.bits (take block (traced half ws s)) ∙ ap (λ (k : ℕ). length d.bits + k) (length-take-le block (traced half ws s) (omega arith)) in
      rw (releasing half label rule tb i x d g) (record { few = omega arith; sum = omega arith; which = ((λ a. omega arith), (λ a. lb)) })

  pub step_counts : (tb i : ℕ) (x : Step) (d : Decoder) → 1 ≤ tb → length d.words < block + tb → Counts tb d (stepped half label rule tb i x d)
  step_counts tb i x d p h = step_case tb i x d (leb (block + tb) (length d.words + 1)) p h refl

  module _ (tb : ℕ) (xs : ℕ → Step) (d : Decoder) (least : 1 ≤ tb) (most : tb ≤ traceback_limit) (few₀ : length d.words < block + tb) where
    more_case : (n : ℕ) (t : Bool) → leb (block + tb) (length (after half label rule tb xs d n).words + 1) ≡ t
        → Counted tb (length d.words) (length d.bits) n (after half label rule tb xs d n)
        → Counts tb (after half label rule tb xs d n) (stepped half label rule tb n (xs n) (after half label rule tb xs d n))
        → Counted tb (length d.words) (length d.bits) (n + 1) (stepped half label rule tb n (xs n) (after half label rule tb xs d n))
    more_case n false e c s =
        let h = length d.words in
        let g : length (after half label rule tb xs d n).words + 1 < block + tb = leb-false (block + tb) (length (after half label rule tb xs d n).words + 1) e in
        let same : releases tb h (n + 1) ≡ releases tb h n =
        same_number tb h n (length (after half label rule tb xs d n).words) (releases tb h n) (releases tb h (n + 1)) most c.words_left g (releases_is tb h n most) (releases_is tb h (n + 1) most) in
        let b : length (stepped half label rule tb n (xs n) (after half label rule tb xs d n)).bits ≡ length (after half label rule tb xs d n).bits = s.which.0 g in
        let p = c.bits_out in
        let w = c.words_left in
        let z = s.sum in
        record { few = s.few; words_left = omega arith; bits_out = omega arith }
    more_case n true e c s =
        let h = length d.words in
        let g : block + tb ≤ length (after half label rule tb xs d n).words + 1 = leb-true (block + tb) (length (after half label rule tb xs d n).words + 1) e in
        let f = c.few in
        let full : length (after half label rule tb xs d n).words + 1 ≡ block + tb = omega arith in
        let next : releases tb h (n + 1) ≡ releases tb h n + 1 =
        next_number tb h n (length (after half label rule tb xs d n).words) (releases tb h n) (releases tb h (n + 1)) most c.words_left full (releases_is tb h (n + 1) most) in
        let b : length (stepped half label rule tb n (xs n) (after half label rule tb xs d n)).bits ≡ length (after half label rule tb xs d n).bits + block = s.which.1 g in
        let p = c.bits_out in
        let w = c.words_left in
        let z = s.sum in
        record { few = s.few; words_left = omega arith; bits_out = omega arith }

    -- the number of released bits
    pub counted : (n : ℕ) → Counted tb (length d.words) (length d.bits) n (after half label rule tb xs d n)
    unfolding after
    counted zero =
        let z : releases tb (length d.words) 0 ≡ 0 = releases_is tb (length d.words) 0 most ∙ omega arith in
        record { few = few₀; words_left = omega arith; bits_out = omega arith }
    counted (suc n) =
        rw (sym (add-one n))
        (more_case n (leb (block + tb) (length (after half label rule tb xs d n).words + 1)) refl (counted n) (step_counts tb n (xs n) (after half label rule tb xs d n) least (counted n).few))

    -- where step i of n releases, there is room for its bits if there is for those of all n
    pub room : (i n space : ℕ) → i < n → length d.bits + block * releases tb (length d.words) n ≤ space
        → length (after half label rule tb xs d i).words + 1 ≡ block + tb → length (after half label rule tb xs d i).bits + block ≤ space
    room i n space h g full =
        let c = counted i in
        let w = c.words_left in
        let b = c.bits_out in
        let ri = releases_is tb (length d.words) i most in
        let rn = releases_is tb (length d.words) n most in
        omega arith
