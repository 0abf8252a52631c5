-- The list of changed positions, filled as the places of a stretch are passed.
use mathlib.Core.Path.{◌≡◌, refl, sym, ap, ◌∙◌}
use mathlib.Core.Bool.{cond}
use mathlib.Core.List.{List, [], ◌∷◌, ◌++◌, append-nil}
use Prim.Native.Nat.{ℕ, suc, ◌+◌, ◌≤◌, ◌<◌}
use native.Mathlib.Omega.{arith}
use borrow.Author.Tests.{eq-eqb, ne_eqb}
use lib.Dec.{eqb}
use lib.ListN.{length, get_or, take, drop, set, length-append}
use native.Mathlib.Numerals.{add-one}
use lib.Seq.{take-suc, drop-cons, length-take-le, take-length}
use Rattle.trellis.specs.Lists.{laid}
use Rattle.trellis.specs.LaidLaws.{laid_more, length_laid}
use Rattle.mend_distance.specs.Stretches.{unlike, changed}
use Rattle.mend_distance.proofs.StretchLaws.{length_changed, changed_more, unlike_split}

-- the positions below i
abbrev pub passed : List ℕ → List ℕ → ℕ → List ℕ
passed xs ys i = changed 0 (take i xs) (take i ys)

module _ (xs ys : List ℕ) (same : length xs ≡ length ys) where
  step : (i : ℕ) → i < length xs → passed xs ys (suc i) ≡ passed xs ys i ++ cond (eqb (get_or xs i 0) (get_or ys i 0)) [] (i ∷ [])
  step i h =
      let a = take-suc xs i 0 h in
      let b = take-suc ys i 0 (omega arith) in
      let lx : length (take i xs) ≡ i = length-take-le i xs (omega arith) in
      let ly : length (take i ys) ≡ i = length-take-le i ys (omega arith) in
      let z : 0 + length (take i xs) ≡ i = omega arith in
      ap (λ (l : List ℕ). changed 0 l (take (suc i) ys)) a
      ∙ ap (λ (l : List ℕ). changed 0 (take i xs ++ (get_or xs i 0 ∷ [])) l) b
      ∙ changed_more 0 (take i xs) (take i ys) (get_or xs i 0) (get_or ys i 0) (lx ∙ sym ly)
      ∙ ap (λ (k : ℕ). passed xs ys i ++ cond (eqb (get_or xs i 0) (get_or ys i 0)) [] (k ∷ [])) z

  passed_same : (i : ℕ) → i < length xs → get_or xs i 0 ≡ get_or ys i 0 → passed xs ys (suc i) ≡ passed xs ys i
  passed_same i h e = step i h ∙ rw (eq-eqb (get_or xs i 0) (get_or ys i 0) e) (append-nil (passed xs ys i))

  passed_changed : (i : ℕ) → i < length xs → (get_or xs i 0 ≡ get_or ys i 0 → ⊥) → passed xs ys (suc i) ≡ passed xs ys i ++ (i ∷ [])
  passed_changed i h n = step i h ∙ rw (ne_eqb (get_or xs i 0) (get_or ys i 0) n) refl

  -- there is a place for one more
  pub passed_room : (m i : ℕ) → unlike xs ys ≤ m → i < length xs → (get_or xs i 0 ≡ get_or ys i 0 → ⊥) → length (passed xs ys i) < m
  passed_room m i four h n =
      let a = unlike_split i xs ys same in
      let b = length_changed 0 (take i xs) (take i ys) in
      let c : unlike (drop i xs) (drop i ys) ≡ 1 + unlike (drop (suc i) xs) (drop (suc i) ys) =
      rw (drop-cons xs i 0 h, drop-cons ys i 0 (omega arith), ne_eqb (get_or xs i 0) (get_or ys i 0) n) refl in
      omega arith

  passed_few : (m i : ℕ) → unlike xs ys ≤ m → length (passed xs ys i) ≤ m
  passed_few m i four =
      let a = unlike_split i xs ys same in
      let b = length_changed 0 (take i xs) (take i ys) in
      omega arith

  pub passed_whole : passed xs ys (length ys) ≡ changed 0 xs ys
  passed_whole =
      ap (λ (l : List ℕ). changed 0 l (take (length ys) ys)) (ap (λ (k : ℕ). take k xs) (sym same) ∙ take-length xs)
      ∙ ap (changed 0 xs) (take-length ys)

  -- ---- the list, as far as it is filled
  module _ (list₀ : List ℕ) (four : unlike xs ys ≤ 4) (room : 4 ≤ length list₀) where
    pub filled_long : (i : ℕ) (list : List ℕ) → list ≡ laid (passed xs ys i) list₀ → length list ≡ length list₀
    filled_long i list e = let h = passed_few 4 i four in ap length e ∙ length_laid (passed xs ys i) list₀ (omega arith)

    -- the place that is changed is put behind those passed
    pub filled_more : (i count : ℕ) (list : List ℕ) → i < length xs → (get_or xs i 0 ≡ get_or ys i 0 → ⊥) → count ≡ length (passed xs ys i) → list ≡ laid (passed xs ys i) list₀
        → (count + 1 ≡ length (passed xs ys (i + 1))) × (set list count i ≡ laid (passed xs ys (i + 1)) list₀)
    filled_more i count list h n c e =
        let p = passed_changed i h n in
        let k = passed_room 4 i four h n in
        let l = length-append (passed xs ys i) (i ∷ []) in
        rw (add-one i, p) (
          omega arith,
          ap (λ (x : List ℕ). set x count i) e ∙ ap (λ (j : ℕ). set (laid (passed xs ys i) list₀) j i) c ∙ laid_more (passed xs ys i) list₀ i (omega arith),
        )

    pub filled_same : (i count : ℕ) (list : List ℕ) → i < length xs → get_or xs i 0 ≡ get_or ys i 0 → count ≡ length (passed xs ys i) → list ≡ laid (passed xs ys i) list₀
        → (count ≡ length (passed xs ys (i + 1))) × (list ≡ laid (passed xs ys (i + 1)) list₀)
    filled_same i count list h q c e = rw (add-one i, passed_same i h q) (c, e)
