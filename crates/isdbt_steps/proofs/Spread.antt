-- The search for a mother bit in the order of the sent ones.
use mathlib.Core.Path.{◌≡◌, refl, sym, ◌∙◌, ap}
use mathlib.Core.Bool.{Bool, true, false, cond}
use mathlib.Core.List.{List, [], ◌∷◌}
use Prim.Native.Nat.{ℕ, suc, ◌+◌, ◌-◌, ◌<◌, ◌≤◌}
use native.Mathlib.Omega.{arith}
use native.Mathlib.Numerals.{add-one}
use lib.Dec.{eqb, ltb}
use lib.ListN.{length, get_or, take, drop, drop_of_length-le}
use lib.Seq.{get_or-take, drop-cons, length-take-le}
use lib.Ieee.{Float, nan, binary32, of_bits}
use borrow.Author.Tests.{eq-eqb, ne_eqb, lt-ltb, le-ltb}
use Rattle.isdbt_table.specs.Puncture.{spread}
use Rattle.isdbt_steps.specs.Soft.{found_from, sent_as, sent_value}

module _ (ps : List ℕ) (n place : ℕ) (long : n ≤ length ps) where
  left : (i : ℕ) → i < n → drop i (take n ps) ≡ get_or ps i 0 ∷ drop (i + 1) (take n ps)
  left i h =
      let l : length (take n ps) ≡ n = length-take-le n ps long in
      drop-cons (take n ps) i 0 (rw l h)
      ∙ ap (λ (p : ℕ). p ∷ drop (suc i) (take n ps)) (get_or-take n ps i 0 h)
      ∙ ap (λ (k : ℕ). get_or ps i 0 ∷ drop k (take n ps)) (sym (add-one i))

  pub found_hit : (i : ℕ) → i < n → get_or ps i 0 ≡ place → found_from (drop i (take n ps)) i place ≡ i
  unfolding found_from
  found_hit i h e = rw (left i h, eq-eqb place (get_or ps i 0) (sym e)) refl

  pub found_miss : (i : ℕ) → i < n → (get_or ps i 0 ≡ place → ⊥) → found_from (drop i (take n ps)) i place ≡ found_from (drop (i + 1) (take n ps)) (i + 1) place
  unfolding found_from
  found_miss i h e = rw (left i h, ne_eqb place (get_or ps i 0) (λ (q : place ≡ get_or ps i 0). e (sym q))) refl

  pub found_end : found_from (drop n (take n ps)) n place ≡ n
  unfolding found_from
  found_end =
      let l : length (take n ps) ≡ n = length-take-le n ps long in
      rw (drop_of_length-le (take n ps) {i = n} (rw l (omega arith))) refl

-- what `spread` finds for the mother bit k is the value at its place
spread_from : (ps : List ℕ) (xs : List Float) (b i k : ℕ) → spread ps xs (b + i) k ≡ sent_value (i + length ps) xs b (found_from ps i k)
unfolding spread found_from
spread_from [] xs b i k = rw (le-ltb i (i + 0) (omega arith)) refl
spread_from (p ∷ ps) xs b i k = by_test (eqb k p) refl (spread_from ps xs b (i + 1) k)
  where
    by_test : (t : Bool) → eqb k p ≡ t → spread ps xs (b + (i + 1)) k ≡ sent_value (i + 1 + length ps) xs b (found_from ps (i + 1) k)
        → spread (p ∷ ps) xs (b + i) k ≡ sent_value (i + length (p ∷ ps)) xs b (found_from (p ∷ ps) i k)
    by_test true e rest = rw (e, lt-ltb i (i + length (p ∷ ps)) (omega arith)) refl
    by_test false e rest =
        let a : b + i + 1 ≡ b + (i + 1) = omega arith in
        let l : i + length (p ∷ ps) ≡ i + 1 + length ps = omega arith in
        rw (e, a, l) rest

pub spread_found : (ps : List ℕ) (xs : List Float) (b n k : ℕ) → n ≤ length ps → spread (take n ps) xs b k ≡ sent_value n xs b (sent_as n ps k)
spread_found ps xs b n k long =
    let z : b ≡ b + 0 = omega arith in
    let m : length (take n ps) ≡ n = length-take-le n ps long in
    let l : 0 + length (take n ps) ≡ n = omega arith in
    ap (λ (j : ℕ). spread (take n ps) xs j k) z ∙ rw l at (spread_from (take n ps) xs b 0 k)
