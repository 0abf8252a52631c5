-- Request P6: "any two different stretches with equal start, end and length differing in at least 10 coded bits, shown from the two octal generators". By linearity two
-- stretches differ as their exclusive-or weighs, and a table of least weights is checked at all 128 branches.
use Rattle.std.specs.Prelude.{◌≡◌, refl, Bool, ◌&&◌, ◌⊎◌, List, [], ◌∷◌, ℕ, zero, suc, ◌+◌, ◌*◌, ◌/◌, ◌%◌, ◌≤◌, ◌<◌, T, leb, length, get_or}
use Rattle.std.proofs.Common.{sym, ap, ◌∙◌, subst, inl, inr, ⊎_elim, arith, leb→le}
use Rattle.std.specs.Int.Bits.{bit_xor, xor_self}
use Rattle.std.proofs.lemmas.Nat.{xor_lt}
use Rattle.std.specs.Float.Ieee.Fits.{and_l, and_r}
use Rattle.trellis.specs.Code.{isdb, tapped, output, label, moved}
use Rattle.trellis.specs.Isdb
use Rattle.trellis.specs.Encoded.{encoded, reached}
use Rattle.trellis.proofs.EncodedLaws.{length_encoded, encoded_at}
use Rattle.trellis.specs.ListLaws.{every, every_at}
use Rattle.trellis.proofs.LinearLaws.{output_xor, moved_xor}
use Rattle.trellis.specs.Stretch.{apart, differing, Bits, Coded}
use Rattle.trellis.proofs.RunLaws.{output_bit_lem}
use Rattle.trellis.specs.DistanceLaws.{weight, least}

unfoldable pub from : ℕ → ℕ
from s = get_or least s 0

unfoldable pub falls : ℕ → ℕ → Bool
falls u s = leb (from s) (weight u s + from (moved Isdb.half u s))

unfoldable pub test : ℕ → Bool
test s = falls 0 s && falls 1 s

passes : T (every test 64)
unfolding every test falls from least weight output tapped
passes = tt

no_less : (u s : ℕ) → u < 2 → s < 64 → from s ≤ weight u s + from (moved Isdb.half u s)
unfolding test falls
no_less zero s h l = leb→le _ _ (and_l (falls 0 s) (falls 1 s) (every_at test 64 passes s l))
no_less (suc zero) s h l = leb→le _ _ (and_r (falls 0 s) (falls 1 s) (every_at test 64 passes s l))
no_less (suc (suc u)) s h l = absurd (omega arith)

-- the two bits of a pair
high : (x y : ℕ) → y < 2 → (2 * x + y) / 2 ≡ x
high x y h = omega arith

low : (x y : ℕ) → y < 2 → (2 * x + y) % 2 ≡ y
low x y h = omega arith

-- two branches differ as the branch of their exclusive-or weighs
apart_is : (u v s r : ℕ) → apart (Isdb.labels u s) (Isdb.labels v r) ≡ weight ((u + v) % 2) (bit_xor s r)
unfolding label weight
apart_is u v s r =
    let x = output isdb 0o171 u s in
    let y = output isdb 0o133 u s in
    let z = output isdb 0o171 v r in
    let w = output isdb 0o133 v r in
    rw (high x y (output_bit_lem isdb 0o133 u s), low x y (output_bit_lem isdb 0o133 u s), high z w (output_bit_lem isdb 0o133 v r), low z w (output_bit_lem isdb 0o133 v r), output_xor isdb 0o171 u v s r, output_xor isdb 0o133 u v s r) refl

-- two stretches that end in one state differ at least so much as the exclusive-or of their starts needs to come to 0
ends_together : (us vs : List ℕ) (s r : ℕ) → s < 64 → r < 64 → Bits us → Bits vs → length us ≡ length vs → reached isdb s us ≡ reached isdb r vs
    → from (bit_xor s r) ≤ differing (encoded isdb s us) (encoded isdb r vs)
unfolding encoded reached from least
ends_together [] [] s r hs hr p q e z = subst (λ (x : ℕ). get_or least (bit_xor s x) 0 ≤ 0) z (rw (xor_self s) (omega arith))
ends_together [] (v ∷ vs) s r hs hr p q e z = absurd (omega arith)
ends_together (u ∷ us) [] s r hs hr p q e z = absurd (omega arith)
ends_together (u ∷ us) (v ∷ vs) s r hs hr p q e z =
    let hu = p.0 in
    let hv = q.0 in
    let ih = ends_together us vs (moved Isdb.half u s) (moved Isdb.half v r) (omega arith) (omega arith) p.1 q.1 (omega arith) z in
    let m : moved Isdb.half ((u + v) % 2) (bit_xor s r) ≡ bit_xor (moved Isdb.half u s) (moved Isdb.half v r) = moved_xor isdb u v s r hu hv (omega arith) (omega arith) in
    let n = no_less ((u + v) % 2) (bit_xor s r) (omega arith) (xor_lt 6 s r hs hr) in
    let w = apart_is u v s r in
    omega (arith, rw m at n)

first_weight : weight 1 0 ≡ 2
unfolding weight output tapped
first_weight = refl

from_32 : from 32 ≡ 8
unfolding from least
from_32 = refl

-- the same inputs, or ten coded bits apart
pub same_or_ten : (us vs : List ℕ) (s : ℕ) → s < 64 → Bits us → Bits vs → length us ≡ length vs → reached isdb s us ≡ reached isdb s vs
    → (us ≡ vs) ⊎ (10 ≤ differing (encoded isdb s us) (encoded isdb s vs))
unfolding encoded reached
same_or_ten [] [] s hs p q e z = inl refl
same_or_ten [] (v ∷ vs) s hs p q e z = absurd (omega arith)
same_or_ten (u ∷ us) [] s hs p q e z = absurd (omega arith)
same_or_ten (u ∷ us) (v ∷ vs) s hs p q e z =
    go ((u + v) % 2) refl
    (λ same. same_or_ten us vs (moved Isdb.half u s) (let hu = p.0 in omega arith) p.1 q.1 (omega arith) (subst (λ (x : ℕ). reached isdb (moved Isdb.half u s) us ≡ reached isdb (moved Isdb.half x s) vs) (sym same) z))
  where
    go : (d : ℕ) → (u + v) % 2 ≡ d → (u ≡ v → (us ≡ vs) ⊎ (10 ≤ differing (encoded isdb (moved Isdb.half u s) us) (encoded isdb (moved Isdb.half u s) vs)))
        → (u ∷ us ≡ v ∷ vs) ⊎ (10 ≤ apart (Isdb.labels u s) (Isdb.labels v s) + differing (encoded isdb (moved Isdb.half u s) us) (encoded isdb (moved Isdb.half v s) vs))
    go zero h ih =
        let hu = p.0 in
        let hv = q.0 in
        let same : u ≡ v = omega arith in
        ⊎_elim
        (λ x. inl (λ i. same i ∷ x i))
        (λ t.
        let r : 10 ≤ differing (encoded isdb (moved Isdb.half u s) us) (encoded isdb (moved Isdb.half v s) vs) = subst (λ (x : ℕ). 10 ≤ differing (encoded isdb (moved Isdb.half u s) us) (encoded isdb (moved Isdb.half x s) vs)) same t in
        inr (omega arith))
        (ih same)
    go (suc zero) h ih =
        let hu = p.0 in
        let hv = q.0 in
        let m : moved Isdb.half ((u + v) % 2) (bit_xor s s) ≡ bit_xor (moved Isdb.half u s) (moved Isdb.half v s) = moved_xor isdb u v s s hu hv (omega arith) (omega arith) in
        let k : bit_xor (moved Isdb.half u s) (moved Isdb.half v s) ≡ 32 = sym m ∙ rw (h, xor_self s) refl in
        let w : apart (Isdb.labels u s) (Isdb.labels v s) ≡ 2 = apart_is u v s s ∙ rw (h, xor_self s) first_weight in
        let r = ends_together us vs (moved Isdb.half u s) (moved Isdb.half v s) (omega arith) (omega arith) p.1 q.1 (omega arith) z in
        let r8 : 8 ≤ differing (encoded isdb (moved Isdb.half u s) us) (encoded isdb (moved Isdb.half v s) vs) = rw (k, from_32) at r in
        inr (omega arith)
    go (suc (suc d)) h ih = absurd (omega arith)

-- Any two different stretches with equal start, end and length differ in at least 10 coded bits
pub ten_apart : (us vs : List ℕ) (s : ℕ) → s < 64 → Bits us → Bits vs → length us ≡ length vs → reached isdb s us ≡ reached isdb s vs → (us ≡ vs → ⊥)
    → 10 ≤ differing (encoded isdb s us) (encoded isdb s vs)
ten_apart us vs s hs p q e z n = ⊎_elim (λ x. absurd (n x)) (λ t. t) (same_or_ten us vs s hs p q e z)

-- ---- by the place of a step
pub bits_at : (us : List ℕ) → Bits us → (k : ℕ) → get_or us k 0 < 2
bits_at [] h k = omega arith
bits_at (u ∷ us) h zero = h.0
bits_at (u ∷ us) h (suc k) = bits_at us h.1 k

pub bits_of : (us : List ℕ) → ((k : ℕ) → k < length us → get_or us k 0 < 2) → Bits us
bits_of [] h = tt
bits_of (u ∷ us) h = (h 0 (omega arith), bits_of us (λ k l. h (suc k) (omega arith)))

pub coded_at : (ps : List ℕ) → Coded ps → (k : ℕ) → get_or ps k 0 < 4
coded_at [] h k = omega arith
coded_at (p ∷ ps) h zero = h.0
coded_at (p ∷ ps) h (suc k) = coded_at ps h.1 k

-- the coded bits in which the first n pairs f and g differ
unfoldable pub wrong : (ℕ → ℕ) → (ℕ → ℕ) → ℕ → ℕ
wrong f g zero = 0
wrong f g (suc n) = wrong f g n + apart (f n) (g n)

pub first_out : (f g : ℕ → ℕ) (n : ℕ) → wrong f g (suc n) ≡ apart (f 0) (g 0) + wrong (λ k. f (suc k)) (λ k. g (suc k)) n
unfolding wrong
first_out f g zero = omega arith
first_out f g (suc n) = let e = first_out f g n in omega arith

pub by_place : (xs ys : List ℕ) → length xs ≡ length ys → differing xs ys ≡ wrong (λ k. get_or xs k 0) (λ k. get_or ys k 0) (length xs)
unfolding wrong
by_place [] ys e = refl
by_place (x ∷ xs) [] e = absurd (omega arith)
by_place (x ∷ xs) (y ∷ ys) e =
    let i = by_place xs ys (omega arith) in
    let f = first_out (λ k. get_or (x ∷ xs) k 0) (λ k. get_or (y ∷ ys) k 0) (length xs) in
    ap (λ (z : ℕ). apart x y + z) i ∙ sym f

pub wrong_same : (f g f' g' : ℕ → ℕ) (n : ℕ) → ((k : ℕ) → k < n → f k ≡ f' k) → ((k : ℕ) → k < n → g k ≡ g' k) → wrong f g n ≡ wrong f' g' n
unfolding wrong
wrong_same f g f' g' zero h k = refl
wrong_same f g f' g' (suc n) h k = rw (h n (omega arith), k n (omega arith), wrong_same f g f' g' n (λ i l. h i (omega arith)) (λ i l. k i (omega arith))) refl

-- the difference is a distance
pub wrong_turned : (f g : ℕ → ℕ) (n : ℕ) → wrong f g n ≡ wrong g f n
unfolding wrong
wrong_turned f g zero = refl
wrong_turned f g (suc n) =
    let i = wrong_turned f g n in
    let a : f n / 2 + g n / 2 ≡ g n / 2 + f n / 2 = omega arith in
    let b : f n % 2 + g n % 2 ≡ g n % 2 + f n % 2 = omega arith in
    rw (i, a, b) refl

parities : (x y z : ℕ) → (x + y) % 2 ≤ (x + z) % 2 + (y + z) % 2
parities x y z = omega arith

pub triangle : (f g r : ℕ → ℕ) (n : ℕ) → wrong f g n ≤ wrong f r n + wrong g r n
unfolding wrong
triangle f g r zero = omega arith
triangle f g r (suc n) =
    let i = triangle f g r n in
    let a = parities (f n / 2) (g n / 2) (r n / 2) in
    let b = parities (f n % 2) (g n % 2) (r n % 2) in
    omega arith

-- two encodings, by the labels of their steps
pub against : (ps : List ℕ) (s : ℕ) (us : List ℕ) → length ps ≡ length us → differing ps (encoded isdb s us) ≡ wrong (λ k. get_or ps k 0) (Isdb.label_at s us) (length us)
against ps s us e =
    by_place ps (encoded isdb s us) (e ∙ sym (length_encoded isdb s us))
    ∙ ap (wrong (λ k. get_or ps k 0) (λ k. get_or (encoded isdb s us) k 0)) e
    ∙ wrong_same (λ k. get_or ps k 0) (λ k. get_or (encoded isdb s us) k 0) (λ k. get_or ps k 0) (Isdb.label_at s us) (length us) (λ k h. refl) (encoded_at isdb s us)
