-- Laws of totals, greatest sums and rows.
use Rattle.std.specs.Prelude.{◌≡◌, refl, Bool, true, false, not, ◌&&◌, ◌||◌, List, [], ◌∷◌, ◌++◌, ℕ, zero, suc, ◌+◌, ◌≤◌, ◌<◌, min, max, ltb, leb, eqb, length, get_or, take}
use Rattle.std.proofs.Common.{ap, sym, ◌∙◌, arith, ltb-false, leb-false, eqb-true, ne_eqb, take-suc}
use Rattle.std.specs.List.{list_any}
use Rattle.std.proofs.Math.Nat.{suc-min-suc}
use Rattle.std.proofs.lemmas.Bool.{eqb-false, not-false}
use mathlib.Core.Bool.{or_assoc}
use Rattle.std.proofs.Math.Seq.{take-nil, take-length}
use Rattle.refusal.proofs.RowLaws.{neither}
use Rattle.strain_window.specs.declared.WindowState.{WindowState}
use Rattle.strain_window.specs.Rows.{most_sum, sum_above, bad_state}
use Rattle.strain_window.specs.Calls.{total_of, greatest_of}
use Rattle.strain_window.specs.WindowLaws.{Sound}

pub total_append : (xs ys : List ℕ) → total_of (xs ++ ys) ≡ total_of xs + total_of ys
unfolding total_of
total_append [] ys = omega arith
total_append (x ∷ xs) ys = let e = total_append xs ys in omega arith

pub greatest_append : (xs ys : List ℕ) → greatest_of (xs ++ ys) ≡ max (greatest_of xs) (greatest_of ys)
unfolding greatest_of
greatest_append [] ys = omega arith
greatest_append (x ∷ xs) ys = let e = greatest_append xs ys in omega arith

pub total_one : (x : ℕ) → total_of (x ∷ []) ≡ x
unfolding total_of
total_one x = omega arith

pub greatest_one : (x : ℕ) → greatest_of (x ∷ []) ≡ x
unfolding greatest_of
greatest_one x = omega arith

-- one sum more
pub total_next : (xs : List ℕ) (i : ℕ) → i < length xs → total_of (take (suc i) xs) ≡ total_of (take i xs) + get_or xs i 0
total_next xs i h = rw (take-suc xs i 0 h, total_append, total_one) refl

pub greatest_next : (xs : List ℕ) (i : ℕ) → i < length xs → greatest_of (take (suc i) xs) ≡ max (greatest_of (take i xs)) (get_or xs i 0)
greatest_next xs i h = rw (take-suc xs i 0 h, greatest_append, greatest_one) refl

pub total_all : (xs : List ℕ) → total_of (take (length xs) xs) ≡ total_of xs
total_all xs = ap total_of (take-length xs)

pub greatest_all : (xs : List ℕ) → greatest_of (take (length xs) xs) ≡ greatest_of xs
greatest_all xs = ap greatest_of (take-length xs)

pub above_append : (xs ys : List ℕ) → sum_above (xs ++ ys) ≡ (sum_above xs || sum_above ys)
unfolding sum_above
above_append [] ys = refl
above_append (x ∷ xs) ys = ap (λ (b : Bool). ltb most_sum x || b) (above_append xs ys) ∙ sym (or_assoc (ltb most_sum x) (sum_above xs) (sum_above ys))

above_one : (x : ℕ) → sum_above (x ∷ []) ≡ ltb most_sum x
unfolding sum_above
above_one x = go (ltb most_sum x)
  where
    go : (b : Bool) → (b || false) ≡ b
    go true = refl
    go false = refl

pub above_next : (xs : List ℕ) (i : ℕ) → i < length xs → sum_above (take (suc i) xs) ≡ (sum_above (take i xs) || ltb most_sum (get_or xs i 0))
above_next xs i h = rw (take-suc xs i 0 h, above_append, above_one) refl

pub above_all : (xs : List ℕ) → sum_above (take (length xs) xs) ≡ sum_above xs
above_all xs = ap sum_above (take-length xs)

pub above_any : (xs : List ℕ) → sum_above xs ≡ list_any (λ x. ltb most_sum x) xs
unfolding sum_above
above_any [] = refl
above_any (x ∷ xs) = rw (above_any xs) refl

-- each sum is at most 68,208
pub none_above : (xs : List ℕ) → sum_above xs ≡ false → (i : ℕ) → get_or xs i 0 ≤ most_sum
unfolding sum_above
none_above [] e i = omega arith
none_above (x ∷ xs) e zero = ltb-false most_sum x (neither (ltb most_sum x) (sum_above xs) e).0
none_above (x ∷ xs) e (suc i) = none_above xs (neither (ltb most_sum x) (sum_above xs) e).1 i

unlike : (a b : Bool) → (not a && not b) ≡ false → a ≡ false → b ≡ true
unlike true b e h = absurd (let z : ◌≡◌ {A = ℕ} 0 1 = cc in omega arith)
unlike false b e h = not-false b e

pub sound : (v : WindowState) → bad_state v ≡ false → Sound v
sound v e =
    let w = v.window in
    let a = neither (eqb w 0 || ltb 256 w || ltb w v.fill || leb w v.next) (not (eqb v.fill w) && not (eqb v.next v.fill)) e in
    let b = neither (eqb w 0 || ltb 256 w || ltb w v.fill) (leb w v.next) a.0 in
    let d = neither (eqb w 0 || ltb 256 w) (ltb w v.fill) b.0 in
    let f = neither (eqb w 0) (ltb 256 w) d.0 in
    let n : v.window ≡ 0 → ⊥ = eqb-false w 0 f.0 in
    record {
      least = omega arith;
      most = ltb-false 256 w f.1;
      filled = ltb-false w v.fill d.1;
      below = leb-false w v.next b.1;
      level = λ h. eqb-true v.next v.fill (unlike (eqb v.fill w) (eqb v.next v.fill) a.1 (ne_eqb v.fill w (λ g. omega arith)));
    }

-- a list is read as far as it reaches
pub take_min : (n : ℕ) (l : List ℕ) → take (min n (length l)) l ≡ take n l
take_min zero l = let e : min zero (length l) ≡ zero = omega arith in rw e refl
take_min (suc n) [] = take-nil (min (suc n) (length {A = ℕ} []))
take_min (suc n) (x ∷ xs) = rw (suc-min-suc n (length xs)) (ap (λ (l : List ℕ). x ∷ l) (take_min n xs))
