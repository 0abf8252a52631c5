-- Path values in which subtracting the maximum changes nothing: their greatest is +0. Once the maximum is subtracted they are such. Their greatest could only be -0 where some
-- x - m is; but then m is +0, and the subtraction changed nothing.
use Rattle.std.specs.Prelude.{◌≡◌, refl, ◌⊎◌, Bool, true, false, not, List, [], ◌∷◌, map, ℕ, suc, ◌+◌, ◌-◌, ◌*◌, ◌/◌, ◌^◌, ◌<◌, ◌≤◌, ℤ, pos, T, eqb, get_or, length, Float}
use Rattle.std.proofs.Common.{sym, ap, ◌∙◌, subst, inl, inr, zero-mul, arith, eqb→eq, lit<}
use Rattle.std.proofs.Math.Nat.{zero-div}
use Rattle.std.specs.Float.{nan, inf, fin, binary32}
use Rattle.std.specs.Float.Ieee.{low, up, down, neg, round, sum, add, sub, fits}
use Rattle.ieee.specs.Value.{mag, hi, lo, Num, one_side, hi_neg, lo_neg, num_neg}
use Rattle.ieee.specs.Rounding.{rounds_le, rounds_ge}
use Rattle.ieee.proofs.Sums.{sub_is}
use Rattle.ieee.proofs.Zero.{plain, unique, sub_plain, add_neutral}
use Rattle.trellis.specs.Step.{top, renormalised}
use Rattle.range_paths.specs.Invariant.{Limits, Bounded}
use Rattle.range_paths.proofs.Invariant.{bounded_within}
use Rattle.path_lead.proofs.Maximum.{get_d_renormalised}
use Rattle.range_paths.proofs.Maximum.{Top, top_is, renormalised_bounded}

abbrev pub Normalised : List Float → Type 0
Normalised pm = renormalised 32 pm ≡ pm

-- ---- zeros
abbrev plus : Float
plus = fin false 0 (pos 0)

abbrev minus : Float
minus = fin true 0 (pos 0)

plus_num : Num binary32 plus
unfolding fits
plus_num = record { fin_x = tt; fits_x = tt }

plus_is : (hi binary32 plus ≡ 0) × (lo binary32 plus ≡ 0)
unfolding hi lo
plus_is = (refl, refl)

minus_is : (hi binary32 minus ≡ 0) × (lo binary32 minus ≡ 0)
unfolding hi lo
minus_is = (refl, refl)

-- -0 is written in one way
minus_one : (e : ℤ) → Num binary32 (fin true 0 e) → fin true 0 e ≡ minus
unfolding neg hi lo mag
minus_one e p = ap neg (unique binary32 (fin false 0 e) plus (num_neg p) plus_num tt tt (ap (λ (n : ℕ). n * 2 ^ low binary32 / down e) (zero-mul (up e)) ∙ zero-div (down e)) refl)

-- a number is -0 or it is not
signed : (x : Float) → Num binary32 x → T (plain x) ⊎ (x ≡ minus)
signed nan p = absurd p.fin_x
signed (inf s) p = absurd p.fin_x
signed (fin false m e) p = inl tt
signed (fin true m e) p = go (eqb m 0) (eqb→eq m 0)
  where
    go : (t : Bool) → (T t → m ≡ 0) → T (not t) ⊎ (fin true m e ≡ minus)
    go true h = inr (rw (h tt) (minus_one e (rw (h tt) at p)))
    go false h = inl tt

minus_less : sub binary32 minus plus ≡ minus
unfolding sub add sum neg round
minus_less = refl

minus_minus : sub binary32 minus minus ≡ plus
unfolding sub add sum neg round
minus_minus = refl

-- x - (+0) is x
sub_plus : (x : Float) → Num binary32 x → sub binary32 x plus ≡ x
unfolding sub neg hi lo
sub_plus x p = go (signed x p)
  where
    go : T (plain x) ⊎ (x ≡ minus) → sub binary32 x plus ≡ x
    go (inl h) = add_neutral binary32 x (neg plus) p (num_neg plus_num) h refl refl
    go (inr e) = rw e minus_less

-- a zero that is not -0 is +0
zero_plus : (x : Float) → Num binary32 x → T (plain x) → hi binary32 x ≡ lo binary32 x → x ≡ plus
zero_plus x p h e = go (one_side binary32 x)
  where
    go : (hi binary32 x ≡ 0) ⊎ (lo binary32 x ≡ 0) → x ≡ plus
    go (inl z) = unique binary32 x plus p plus_num h tt (z ∙ sym plus_is.0) (sym e ∙ z ∙ sym plus_is.1)
    go (inr z) = unique binary32 x plus p plus_num h tt (e ∙ z ∙ sym plus_is.0) (z ∙ sym plus_is.1)

-- x - m is -0 only where m is +0
minus_from : (x m : Float) → Num binary32 x → Num binary32 m → Num binary32 (sub binary32 x m) → T (plain (sub binary32 x m)) ⊎ (m ≡ plus)
minus_from x m p q r = go (signed (sub binary32 x m) r) (signed x p) (signed m q)
  where
    go : T (plain (sub binary32 x m)) ⊎ (sub binary32 x m ≡ minus) → T (plain x) ⊎ (x ≡ minus) → T (plain m) ⊎ (m ≡ minus) → T (plain (sub binary32 x m)) ⊎ (m ≡ plus)
    go (inl h) a b = inl h
    go (inr e) (inl h) b = inl (sub_plain binary32 x m p q h)
    go (inr e) (inr a) (inr b) = inl (rw (a, b, minus_minus) tt)
    go (inr e) (inr a) (inl h) =
        let s = sub_is binary32 x m p q r.fin_x in
        let hn = hi_neg binary32 m in
        let ln = lo_neg binary32 m in
        let over = rounds_le s (num_neg q) (let hx : hi binary32 x ≡ 0 = ap (λ (y : Float). hi binary32 y) a ∙ minus_is.0 in omega arith) in
        let under = rounds_ge s (num_neg q) (let lx : lo binary32 x ≡ 0 = ap (λ (y : Float). lo binary32 y) a ∙ minus_is.1 in omega arith) in
        let hz : hi binary32 (sub binary32 x m) ≡ 0 = ap (λ (y : Float). hi binary32 y) e ∙ minus_is.0 in
        let lz : lo binary32 (sub binary32 x m) ≡ 0 = ap (λ (y : Float). lo binary32 y) e ∙ minus_is.1 in
        inr (zero_plus m q h (omega arith))

-- ---- a greatest value of +0
map_plus : (xs : List Float) → ((i : ℕ) → i < length xs → Num binary32 (get_or xs i nan)) → map (λ x. sub binary32 x plus) xs ≡ xs
map_plus [] h = refl
map_plus (x ∷ xs) h = let a = sub_plus x (h 0 (omega arith)) in let b = map_plus xs (λ i l. h (suc i) (omega arith)) in λ i. a i ∷ b i

normalised : (pm : List Float) → ((s : ℕ) → s < length pm → Num binary32 (get_or pm s nan)) → top pm 64 ≡ plus → Normalised pm
unfolding renormalised
normalised pm h e = rw e (map_plus pm h)

-- ---- the greatest of bounded values
module _ {c d B : ℕ} (r : Limits c d B) (pm : List Float) (J : ℕ) {D : ℕ} (i : Bounded c B J D pm) where
  greatest : Top pm (B + 12 * c - J) J (let f = r.fits in omega arith) (bounded_within i) 63
  greatest = top_is pm (B + 12 * c - J) J (let f = r.fits in omega arith) (bounded_within i) 63 (lit< tt)

  -- what holds of each value holds of the greatest
  of_greatest : (P : Float → Type 0) → ((s : ℕ) → s < 64 → P (get_or pm s nan)) → P (top pm 64)
  of_greatest P h = let g = greatest in rw g.is (h g.at g.under)

-- no value is above 0, one is 0, and the greatest is not -0
normalised_plain : {c d B : ℕ} (r : Limits c d B) (pm : List Float) (i : Bounded c B 0 0 pm) → T (plain (top pm 64)) → Normalised pm
normalised_plain r pm i h =
    let g = greatest r pm 0 i in
    let n = i.count in
    let high = i.high g.at g.under in
    let best = i.best_above in
    let over = g.over i.best i.best_under in
    normalised pm (λ s l. i.num s (omega arith))
    (g.is ∙ zero_plus (get_or pm g.at nan) (i.num g.at g.under) (rw g.is at h) (omega arith))

-- a start: no value is -0
pub normalised_start : {c d B : ℕ} (r : Limits c d B) (pm : List Float) (i : Bounded c B 0 0 pm) → ((s : ℕ) → s < 64 → T (plain (get_or pm s nan))) → Normalised pm
normalised_start r pm i h = normalised_plain r pm i (of_greatest r pm 0 i (λ x. T (plain x)) h)

-- ---- the maximum subtracted twice
pub renormalised_twice : {c d B : ℕ} (r : Limits c d B) (pm : List Float) (J : ℕ) {D : ℕ} → J ≤ 64 * c → Bounded c B J D pm → Normalised (renormalised 32 pm)
renormalised_twice {c} {d} {B} r pm J {D} few i =
    go (minus_from (get_or pm k nan) (top pm 64) (i.num k u) (of_greatest r pm J i (λ x. Num binary32 x) i.num) (subst (λ (y : Float). Num binary32 y) (get_d_renormalised pm k) (less.num k u)))
  where
    less : Bounded c B 0 0 (renormalised 32 pm)
    less = renormalised_bounded r pm J few i

    k : ℕ
    k = (greatest r (renormalised 32 pm) 0 less).at

    u : k < 64
    u = (greatest r (renormalised 32 pm) 0 less).under

    go : T (plain (sub binary32 (get_or pm k nan) (top pm 64))) ⊎ (top pm 64 ≡ plus) → Normalised (renormalised 32 pm)
    go (inl h) =
        normalised_plain r (renormalised 32 pm) less
        (subst (λ (y : Float). T (plain y)) (sym ((greatest r (renormalised 32 pm) 0 less).is ∙ get_d_renormalised pm k)) h)
    go (inr e) = let n = i.count in ap (λ (y : List Float). renormalised 32 y) (normalised pm (λ s l. i.num s (omega arith)) e)
