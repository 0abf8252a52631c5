-- A part of a lent slice that reaches to its end.
use mathlib.Core.Path.{◌≡◌, ap, ◌∙◌}
use mathlib.Core.List.{List, [], ◌++◌, append-nil}
use Prim.Native.Nat.{ℕ, ◌+◌, ◌-◌, ◌≤◌}
use native.Mathlib.Omega.{arith}
use native.Mathlib.Nat.{le_of_eq}
use lib.ListN.{length, take, drop, length-drop}
use lib.Seq.{take_all, drop-length, drop-drop}
use borrow.Rule.Slice.PartMut.{mid_of, put_mid}

module _ {A : Type 0} where
  -- a part from a on, to the end
  pub mid_rest : (a : ℕ) (xs : List A) → mid_of a (length xs - a) xs ≡ drop a xs
  mid_rest a xs = take_all (length xs - a) (drop a xs) (le_of_eq (length-drop a xs))

  -- and another in its place
  pub put_rest : (a : ℕ) (xs ys : List A) → a ≤ length xs → put_mid a (length xs - a) xs ys ≡ take a xs ++ ys
  put_rest a xs ys h =
      let e : a + (length xs - a) ≡ length xs = omega arith in
      let z : drop (length xs - a) (drop a xs) ≡ [] = drop-drop (length xs - a) a xs ∙ ap (λ (k : ℕ). drop k xs) e ∙ drop-length xs in
      ap (λ (l : List A). take a xs ++ (ys ++ l)) z ∙ ap (λ (l : List A). take a xs ++ l) (append-nil ys)
