-- Laws of coded stretches: at most one lies within four bits of a stored one; the positions in which two stretches differ.
use Rattle.std.specs.Prelude.{◌≡◌, refl, Bool, true, false, cond, List, [], ◌∷◌, ◌++◌, ℕ, zero, suc, ◌+◌, ◌*◌, ◌/◌, ◌%◌, ◌≤◌, ◌<◌, T, eqb, length, get_or, take, drop}
use Rattle.std.proofs.Common.{sym, ap, ◌∙◌, subst, ⊎_elim, append-nil, append_assoc, arith}
use Rattle.std.proofs.Math.Dec.{eqb_refl}
use Rattle.trellis.specs.Code.{isdb, output, label, moved}
use Rattle.trellis.specs.Encoded.{encoded, bits_of}
use Rattle.trellis.proofs.EncodedLaws.{length_encoded, encoded_at, length_bits}
use Rattle.trellis.proofs.RunLaws.{label_under}
use Rattle.trellis.specs.Stretch.{apart, differing, Bits}
use Rattle.trellis.proofs.DistanceLaws.{same_or_ten, wrong, first_out, by_place, wrong_same, triangle}
use Rattle.mend_distance.specs.Stretches.{unlike, changed, sent_from, WithinFour}
use Rattle.mend_distance.specs.Distances.{pair_at}
use Rattle.trellis.specs.Isdb

-- ---- the two bits of a branch
pub label_x : (u s : ℕ) → Isdb.labels u s / 2 ≡ output isdb 0o171 u s
unfolding label output
label_x u s = omega arith

pub label_y : (u s : ℕ) → Isdb.labels u s % 2 ≡ output isdb 0o133 u s
unfolding label output
label_y u s = omega arith

-- ---- the bits, counted by steps
unlike_bits : (a b : ℕ) → a < 2 → b < 2 → cond (eqb a b) 0 1 ≡ (a + b) % 2
unlike_bits zero zero h l = refl
unlike_bits zero (suc zero) h l = refl
unlike_bits (suc zero) zero h l = refl
unlike_bits (suc zero) (suc zero) h l = refl
unlike_bits (suc (suc a)) b h l = absurd (omega arith)
unlike_bits zero (suc (suc b)) h l = absurd (omega arith)
unlike_bits (suc zero) (suc (suc b)) h l = absurd (omega arith)

-- of one step
pub pair_apart : (l x y : ℕ) → l < 4 → x < 2 → y < 2 → cond (eqb (l / 2) x) 0 1 + cond (eqb (l % 2) y) 0 1 ≡ apart l (2 * x + y)
pair_apart l x y h hx hy =
    let a = unlike_bits (l / 2) x (omega arith) hx in
    let b = unlike_bits (l % 2) y (omega arith) hy in
    let p : (2 * x + y) / 2 ≡ x = omega arith in
    let q : (2 * x + y) % 2 ≡ y = omega arith in
    rw (p, q, a, b) refl

pair_later : (x y : ℕ) (bits : List ℕ) (k : ℕ) → pair_at (x ∷ y ∷ bits) (suc k) ≡ pair_at bits k
pair_later x y bits k =
    let a : 2 * suc k ≡ suc (suc (2 * k)) = omega arith in
    let b : 2 * suc k + 1 ≡ suc (suc (2 * k + 1)) = omega arith in
    ap (λ (i : ℕ). 2 * get_or (x ∷ y ∷ bits) i 0 + get_or (x ∷ y ∷ bits) (2 * suc k + 1) 0) a
    ∙ ap (λ (i : ℕ). 2 * get_or bits (2 * k) 0 + get_or (x ∷ y ∷ bits) i 0) b

by_pairs : (us : List ℕ) (s : ℕ) (bits : List ℕ) → Bits bits → length bits ≡ 2 * length us
    → unlike (sent_from s us) bits ≡ wrong (λ k. get_or (encoded isdb s us) k 0) (pair_at bits) (length us)
unfolding encoded wrong
by_pairs [] s bits h e = refl
by_pairs (u ∷ us) s [] h e = absurd (omega arith)
by_pairs (u ∷ us) s (x ∷ []) h e = absurd (omega arith)
by_pairs (u ∷ us) s (x ∷ y ∷ bits) h e =
    let l = Isdb.labels u s in
    let t = moved 32 u s in
    let a = pair_apart l x y (label_under isdb u s) h.0 h.1.0 in
    let i = by_pairs us t bits h.1.1 (omega arith) in
    let f = first_out (λ k. get_or (encoded isdb s (u ∷ us)) k 0) (pair_at (x ∷ y ∷ bits)) (length us) in
    let w : wrong (λ k. get_or (encoded isdb t us) k 0) (λ k. pair_at (x ∷ y ∷ bits) (suc k)) (length us) ≡ wrong (λ k. get_or (encoded isdb t us) k 0) (pair_at bits) (length us) =
    wrong_same (λ k. get_or (encoded isdb t us) k 0) (λ k. pair_at (x ∷ y ∷ bits) (suc k)) (λ k. get_or (encoded isdb t us) k 0) (pair_at bits) (length us) (λ k h. refl) (λ k h. pair_later x y bits k) in
    omega arith

-- by the labels of the steps
pub by_labels_lem : (s : ℕ) (us bits : List ℕ) → Bits bits → length bits ≡ 2 * length us → unlike (sent_from s us) bits ≡ wrong (Isdb.label_at s us) (pair_at bits) (length us)
by_labels_lem s us bits hb e =
    by_pairs us s bits hb e
    ∙ wrong_same (λ k. get_or (encoded isdb s us) k 0) (pair_at bits) (Isdb.label_at s us) (pair_at bits) (length us) (λ k h. encoded_at isdb s us k h) (λ k h. refl)

pub length_sent : (s : ℕ) (us : List ℕ) → length (sent_from s us) ≡ 2 * length us
length_sent s us = length_bits (encoded isdb s us) ∙ ap (λ (k : ℕ). 2 * k) (length_encoded isdb s us)

pub bits_sent : (us : List ℕ) (s : ℕ) → Bits (sent_from s us)
unfolding encoded
bits_sent [] s = tt
bits_sent (u ∷ us) s = let h = label_under isdb u s in (omega arith, (omega arith, bits_sent us (moved 32 u s)))

-- ---- "No other within four exists, by P6"
pub unique : (s e : ℕ) (bits us vs : List ℕ) → s < 64 → Bits bits → WithinFour s e bits us → WithinFour s e bits vs → us ≡ vs
unique s e bits us vs hs hb p q =
    let n : length us ≡ length vs = let a = p.count in let b = q.count in omega arith in
    let x = encoded isdb s us in
    let y = encoded isdb s vs in
    let a = by_pairs us s bits hb p.count in
    let b = subst (λ (i : ℕ). unlike (bits_of y) bits ≡ wrong (λ k. get_or y k 0) (pair_at bits) i) (sym n) (by_pairs vs s bits hb q.count) in
    let lx : length x ≡ length us = length_encoded isdb s us in
    let ly : length y ≡ length vs = length_encoded isdb s vs in
    let d : differing x y ≡ wrong (λ k. get_or x k 0) (λ k. get_or y k 0) (length us) =
    by_place x y (lx ∙ n ∙ sym ly) ∙ ap (λ (i : ℕ). wrong (λ k. get_or x k 0) (λ k. get_or y k 0) i) lx in
    let t = triangle (λ k. get_or x k 0) (λ k. get_or y k 0) (pair_at bits) (length us) in
    let f = p.four in
    let g = q.four in
    ⊎_elim (λ w. w) (λ wide. absurd (omega arith))
    (same_or_ten us vs s hs p.inputs q.inputs n (p.ends ∙ sym q.ends))

-- ---- the positions
pub length_changed : (i : ℕ) (xs ys : List ℕ) → length (changed i xs ys) ≡ unlike xs ys
length_changed i [] ys = refl
length_changed i (x ∷ xs) [] = refl
length_changed i (x ∷ xs) (y ∷ ys) = go (eqb x y) (length_changed (i + 1) xs ys)
  where
    go : (w : Bool) → length (changed (i + 1) xs ys) ≡ unlike xs ys → length (cond w [] (i ∷ []) ++ changed (i + 1) xs ys) ≡ cond w 0 1 + unlike xs ys
    go true h = omega arith
    go false h = omega arith

-- one place more, at the end
pub changed_more : (i : ℕ) (xs ys : List ℕ) (x y : ℕ) → length xs ≡ length ys
    → changed i (xs ++ (x ∷ [])) (ys ++ (y ∷ [])) ≡ changed i xs ys ++ cond (eqb x y) [] ((i + length xs) ∷ [])
changed_more i [] [] x y e = let z : i + 0 ≡ i = omega arith in append-nil (cond (eqb x y) [] (i ∷ [])) ∙ ap (λ (k : ℕ). cond (eqb x y) [] (k ∷ [])) (sym z)
changed_more i [] (b ∷ ys) x y e = absurd (omega arith)
changed_more i (a ∷ xs) [] x y e = absurd (omega arith)
changed_more i (a ∷ xs) (b ∷ ys) x y e =
    let z : i + 1 + length xs ≡ i + suc (length xs) = omega arith in
    let h = cond (eqb a b) [] (i ∷ []) in
    ap (λ (l : List ℕ). h ++ l) (changed_more (i + 1) xs ys x y (omega arith))
    ∙ ap (λ (k : ℕ). h ++ (changed (i + 1) xs ys ++ cond (eqb x y) [] (k ∷ []))) z
    ∙ sym (append_assoc h (changed (i + 1) xs ys) (cond (eqb x y) [] ((i + suc (length xs)) ∷ [])))

-- counted in two parts
pub unlike_split : (n : ℕ) (xs ys : List ℕ) → length xs ≡ length ys → unlike (take n xs) (take n ys) + unlike (drop n xs) (drop n ys) ≡ unlike xs ys
unlike_split zero xs ys e = omega arith
unlike_split (suc n) [] [] e = refl
unlike_split (suc n) [] (y ∷ ys) e = absurd (omega arith)
unlike_split (suc n) (x ∷ xs) [] e = absurd (omega arith)
unlike_split (suc n) (x ∷ xs) (y ∷ ys) e = let i = unlike_split n xs ys (omega arith) in omega arith

-- ---- a stretch beside itself
no_change : (w : Bool) → T w → cond w 0 1 ≤ 0
no_change true t = omega arith
no_change false t = absurd t

pub unlike_self : (xs : List ℕ) → unlike xs xs ≡ 0
unlike_self [] = refl
unlike_self (x ∷ xs) = let a = no_change (eqb x x) (eqb_refl x) in let b = unlike_self xs in omega arith
