-- The tests of a row and the bounds of crate range_paths say the same.
use Rattle.std.specs.Prelude.{◌≡◌, refl, Bool, true, false, not, ◌||◌, List, [], ◌∷◌, ℕ, zero, suc, ◌<◌, ◌≤◌, T, get_or, length, Float}
use Rattle.std.proofs.Common.{sym, subst, arith}
use Rattle.std.specs.Float.{nan, binary32}
use Rattle.std.specs.Float.Ieee.{neg, le, fits}
use Rattle.std.specs.Float.Ieee.Fits.{and_i, and_l, and_r}
use Rattle.ieee.specs.Order.{le→value, num_between}
use Rattle.range_paths.specs.Bounds.{Within}
use Rattle.range_paths.specs.Values.{Is, is_neg, from_least, to_most}
use Rattle.ieee.specs.Within.{within}
use Rattle.isdb_fec.specs.Values.{some_beyond}

-- ---- one value
pub inside_within : (limit x : Float) (d : ℕ) → Is limit d 0 → T (fits binary32 x) → T (within limit x) → Within x d d
inside_within limit x d l f t =
    let m = is_neg l in
    let a = and_l (le (neg limit) x) (le x limit) t in
    let b = and_r (le (neg limit) x) (le x limit) t in
    let n = num_between m.num l.num f a b in
    let p = le→value binary32 (neg limit) x m.num n a in
    let q = le→value binary32 x limit n l.num b in
    let h = l.hi_is in
    let k = l.lo_is in
    let h' = m.hi_is in
    let k' = m.lo_is in
    record { num = n; low = omega arith; high = omega arith }

pub within_inside : (limit x : Float) (a b d : ℕ) → Is limit d 0 → a ≤ d → b ≤ d → Within x a b → T (within limit x)
within_inside limit x a b d l A B w = and_i (le (neg limit) x) (le x limit) (from_least (neg limit) x a b d (is_neg l) A w) (to_most limit x a b d l B w)

-- ---- a list of values
test_fails : (b : Bool) → T b → not b ≡ false
test_fails true h = refl
test_fails false h = absurd h

pub none_beyond : (limit : Float) (xs : List Float) → ((i : ℕ) → i < length xs → T (within limit (get_or xs i nan))) → some_beyond limit xs ≡ false
unfolding some_beyond
none_beyond limit [] h = refl
none_beyond limit (x ∷ xs) h = rw (test_fails (within limit x) (h 0 (omega arith)), none_beyond limit xs (λ i l. h (suc i) (omega arith)))

pub all_inside : (limit : Float) (xs : List Float) → some_beyond limit xs ≡ false → (i : ℕ) → i < length xs → T (within limit (get_or xs i nan))
unfolding some_beyond
all_inside limit [] e i h = absurd (omega arith)
all_inside limit (x ∷ xs) e i h = go (within limit x) refl (all_inside limit xs) e i h
  where
    go : (w : Bool) → within limit x ≡ w → (some_beyond limit xs ≡ false → (j : ℕ) → j < length xs → T (within limit (get_or xs j nan))) → (not w || some_beyond limit xs) ≡ false → (i : ℕ) → i < length (x ∷ xs) → T (within limit (get_or (x ∷ xs) i nan))
    go true d rest e zero h = subst T (sym d) tt
    go true d rest e (suc i) h = rest e i (omega arith)
    go false d rest e i h = absurd (subst T e tt)
