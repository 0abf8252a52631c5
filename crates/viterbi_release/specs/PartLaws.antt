-- A slice whose tail was lent, and written at its front; words that are moved down.
use Rattle.std.specs.Prelude.{◌≡◌, List, [], ◌++◌, ℕ, ◌+◌, ◌-◌, ◌≤◌, length, take, drop, replicate}
use Rattle.std.proofs.Common.{sym, ◌∙◌, ap, append-nil, arith, length-drop, drop_of_length-le, take_all, length-take-le}
use borrow.Rule.Slice.PartMut.{mid_of, put_mid}
use Rattle.trellis.specs.Lists.{laid}
use Rattle.trellis.specs.LaidLaws.{laid_after, laid_freed, length_laid}

module _ {A : Type 0} (a : ℕ) (l p f : List A) (h : a ≤ length l) where
  pub tail_whole : mid_of a (length l - a) l ≡ drop a l
  tail_whole = take_all (length l - a) (drop a l) (rw (length-drop a l) (omega arith))

  pub written_tail : p ≡ laid f (mid_of a (length l - a) l) → put_mid a (length l - a) l p ≡ take a l ++ laid f (drop a l)
  written_tail e =
      let none : drop (length l - a) (drop a l) ≡ [] = drop_of_length-le (drop a l) {i = length l - a} (rw (length-drop a l) (omega arith)) in
      ap (λ (x : List A). take a l ++ (p ++ x)) none ∙ ap (λ (x : List A). take a l ++ x) (append-nil p ∙ e ∙ ap (λ (x : List A). laid f x) tail_whole)

-- the words that are moved down, and those that are cleared after them
pub shifted : (d m p : List ℕ) (b n : ℕ) → b + n ≤ length d → m ≡ laid (take n (drop b d)) d → p ≡ laid (replicate b 0) (mid_of n (length m - n) m) → put_mid n (length m - n) m p ≡ laid (drop b (take (b + n) d)) (laid (replicate (b + n) 0) d)
shifted d m p b n h em ep =
    let s = take n (drop b d) in
    let r : List ℕ = replicate b 0 in
    let ls : length s ≡ n = length-take-le n (drop b d) (rw (length-drop b d) (omega arith)) in
    let lm : length m ≡ length d = ap length em ∙ length_laid s d (omega arith) in
    written_tail n m p r (omega arith) ep
    ∙ ap (λ (x : List ℕ). take n x ++ laid r (drop n x)) em
    ∙ ap (λ (k : ℕ). take k (laid s d) ++ laid r (drop k (laid s d))) (sym ls)
    ∙ laid_after s r d
    ∙ laid_freed d b n 0 h
