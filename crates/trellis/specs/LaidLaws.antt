-- Laws of the first values of a function, and of a front that is written over the beginning of a list.
use Rattle.std.specs.Prelude.{◌≡◌, List, [], ◌∷◌, ◌++◌, get_or, take, drop, replicate}
use Rattle.std.proofs.Math.Path.{refl}
use Rattle.std.proofs.Common.{sym, ◌∙◌, ap, append_assoc, append-nil, arith, add-zero, add-suc, add-one, length-append, length-drop, ext_get_or, get_or-take, drop-drop, drop-cons, take-suc, length-take-le, take-add, drop_at}
use Prim.Native.Nat.{ℕ, zero, suc, ◌+◌, ◌-◌, ◌<◌, ◌≤◌}
use Rattle.std.proofs.Math.ListN.{length, set, get_or-append}
use Rattle.std.proofs.lemmas.List.{length-replicate, replicate-append-replicate, set_at}
use Rattle.std.proofs.Math.Seq.{drop-append-add, take-append_seam, drop-append_seam, append_snoc}
use Rattle.trellis.specs.Lists.{upto, laid}
use Rattle.trellis.specs.ListLaws.{length_upto, get_d_upto}

module _ {A : Type 0} where
  -- a longer front hides a shorter one below it
  pub laid_laid : (a b w : List A) → length a ≤ length b → laid b (laid a w) ≡ laid b w
  laid_laid a b w h =
      let k = length b - length a in
      let e : length b ≡ length a + k = omega arith in
      ap (λ (t : List A). b ++ t)
      (rw e (drop-append-add a (drop (length a) w) k ∙ drop-drop k (length a) w))

  pub take_laid : (a w : List A) → take (length a) (laid a w) ≡ a
  take_laid a w = take-append_seam a (drop (length a) w)

  pub length_laid : (a w : List A) → length a ≤ length w → length (laid a w) ≡ length w
  length_laid a w h = simp (length-append, length-drop) (omega arith)

  -- a front that grows by one element at its end
  pub laid_more : (a w : List A) (v : A) → length a < length w → set (laid a w) (length a) v ≡ laid (a ++ (v ∷ [])) w
  laid_more a w v h =
      let e : length (a ++ (v ∷ [])) ≡ suc (length a) = length-append a (v ∷ []) ∙ add-one (length a) in
      rw (e, drop-cons w (length a) v h)
      (set_at a (get_or w (length a) v) (drop (suc (length a)) w) v (length a) refl
      ∙ sym (append_snoc a v (drop (suc (length a)) w)))

  -- two fronts, the second after the first
  pub laid_after : (a b w : List A) → take (length a) (laid a w) ++ laid b (drop (length a) (laid a w)) ≡ laid (a ++ b) w
  laid_after a b w =
      rw (take-append_seam a (drop (length a) w), drop-append_seam a (drop (length a) w), drop-drop (length b) (length a) w)
      (rw (length-append a b) (sym (append_assoc a b (drop (length a + length b) w))))

  -- one element more of a list that is laid over another
  pub laid_next : (s w : List A) (t : ℕ) (z : A) → t < length s → t < length w → set (laid (take t s) w) t (get_or s t z) ≡ laid (take (suc t) s) w
  laid_next s w t z g h =
      let a = take t s in
      let l : length a ≡ t = length-take-le t s (omega arith) in
      ap (λ (k : ℕ). set (laid a w) k (get_or s t z)) (sym l) ∙ laid_more a w (get_or s t z) (omega arith)
      ∙ ap (λ (x : List A). laid x w) (sym (take-suc s t z g))

  -- the b words before the last n of b + n leave: those n are at the front, and what they free is z
  pub laid_freed : (d : List A) (b n : ℕ) (z : A) → b + n ≤ length d → laid (take n (drop b d) ++ replicate b z) d ≡ laid (drop b (take (b + n) d)) (laid (replicate (b + n) z) d)
  laid_freed d b n z h =
      let a = take n (drop b d) in
      let la : length a ≡ n = length-take-le n (drop b d) (rw (length-drop b d) (omega arith)) in
      let front : drop b (take (b + n) d) ≡ a =
      ap (λ (x : List A). drop b x) (take-add b n d) ∙ drop_at (take b d) a b (length-take-le b d (omega arith)) in
      let turn : b + n ≡ n + b = omega arith in
      let split : replicate (b + n) z ≡ replicate n z ++ replicate b z =
      ap (λ (k : ℕ). replicate k z) turn ∙ sym (replicate-append-replicate n b z) in
      let all : length (replicate (b + n) z) ≡ b + n = length-replicate (b + n) z in
      let rest : drop n (laid (replicate (b + n) z) d) ≡ replicate b z ++ drop (b + n) d =
      ap (λ (x : List A). drop n x) (ap (λ (k : ℕ). replicate (b + n) z ++ drop k d) all ∙ ap (λ (x : List A). x ++ drop (b + n) d) split
      ∙ append_assoc (replicate n z) (replicate b z) (drop (b + n) d))
      ∙ drop_at (replicate n z) (replicate b z ++ drop (b + n) d) n (length-replicate n z) in
      let total : length (a ++ replicate b z) ≡ b + n = length-append a (replicate b z) ∙ rw (la, length-replicate b z) (sym turn) in
      let right : laid (drop b (take (b + n) d)) (laid (replicate (b + n) z) d) ≡ a ++ (replicate b z ++ drop (b + n) d) =
      ap (λ (x : List A). laid x (laid (replicate (b + n) z) d)) front ∙ ap (λ (k : ℕ). a ++ drop k (laid (replicate (b + n) z) d)) la ∙ ap (λ (x : List A). a ++ x) rest in
      ap (λ (k : ℕ). (a ++ replicate b z) ++ drop k d) total ∙ append_assoc a (replicate b z) (drop (b + n) d) ∙ sym right

  pub upto_append : (f : ℕ → A) (a b : ℕ) → upto f (a + b) ≡ upto f a ++ upto (λ i. f (a + i)) b
  unfolding upto
  upto_append f a zero = rw (add-zero a) (sym (append-nil (upto f a)))
  upto_append f a (suc b) =
      rw (add-suc a b) (rw (upto_append f a b) (append_assoc (upto f a) (upto (λ i. f (a + i)) b) (f (a + b) ∷ [])))

  pub upto_cong : (f g : ℕ → A) (n : ℕ) → ((i : ℕ) → i < n → f i ≡ g i) → upto f n ≡ upto g n
  unfolding upto
  upto_cong f g zero h = refl
  upto_cong f g (suc n) h = rw (upto_cong f g n (λ i l. h i (omega arith)), h n (omega arith))

  -- one value more
  pub laid_upto : (f : ℕ → A) (k : ℕ) (w : List A) (v : A) → k < length w → v ≡ f k → set (laid (upto f k) w) k v ≡ laid (upto f (k + 1)) w
  unfolding upto
  laid_upto f k w v h e =
      let l : length (upto f k) ≡ k = length_upto f k in
      rw (add-one k, ← e)
      (ap (λ (i : ℕ). set (laid (upto f k) w) i v) (sym l) ∙ laid_more (upto f k) w v (omega arith))

  -- n values more, written over the part from j on
  pub laid_part : (f g : ℕ → A) (j n : ℕ) (w : List A) → ((i : ℕ) → i < n → g i ≡ f (j + i))
      → take j (laid (upto f j) w) ++ laid (upto g n) (drop j (laid (upto f j) w)) ≡ laid (upto f (j + n)) w
  laid_part f g j n w h =
      let l : length (upto f j) ≡ j = length_upto f j in
      let x = laid (upto f j) w in
      let v = upto (λ i. f (j + i)) n in
      rw (upto_append f j n, upto_cong g (λ i. f (j + i)) n h)
      (ap (λ (k : ℕ). take k x ++ laid v (drop k x)) (sym l) ∙ laid_after (upto f j) v w)

  pub length_laid_upto : (f : ℕ → A) (k : ℕ) (w : List A) → k ≤ length w → length (laid (upto f k) w) ≡ length w
  length_laid_upto f k w h = length_laid (upto f k) w (rw (length_upto f k) h)

  -- a list whose first n elements are the first n values of a function
  pub front_upto : (d : A) (f : ℕ → A) (n : ℕ) (xs : List A) → n ≤ length xs → ((k : ℕ) → k < n → get_or xs k d ≡ f k) → upto f n ≡ take n xs
  front_upto d f n xs room h =
      let l : length (take n xs) ≡ n = length-take-le n xs room in
      ext_get_or d (upto f n) (take n xs) (length_upto f n ∙ sym l)
      (λ k K.
      let N : k < n = rw (length_upto f n) at K in
      get_d_upto f d n k N ∙ sym (h k N) ∙ sym (get_or-take n xs k d N))

  -- what stands in such a front
  pub laid_at : (d : A) (f : ℕ → A) (n : ℕ) (w : List A) (k : ℕ) → k < n → get_or (laid (upto f n) w) k d ≡ f k
  laid_at d f n w k h = get_or-append (upto f n) (drop (length (upto f n)) w) d k (rw (length_upto f n) h) ∙ get_d_upto f d n k h
