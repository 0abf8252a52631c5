-- A list of changed positions rises, and has a place exactly when the two stretches differ there.
use Rattle.std.specs.Prelude.{◌≡◌, refl, Bool, true, false, cond, not, List, [], ◌∷◌, ◌++◌, ℕ, zero, suc, ◌+◌, ◌≤◌, ◌<◌, eqb, length, get_or}
use Rattle.std.proofs.Common.{ap, ◌∙◌, arith, eq-eqb, ne_eqb}
use Rattle.mend_distance.specs.Stretches.{changed}

-- "the changed positions in rising order"
abbrev pub Rising : ℕ → List ℕ → Type 0
Rising i [] = Unit
Rising i (p ∷ ps) = (i ≤ p) × Rising (p + 1) ps

rising_later : (i : ℕ) (ps : List ℕ) → Rising (i + 1) ps → Rising i ps
rising_later i [] h = tt
rising_later i (p ∷ ps) h = let a = h.0 in (omega arith, h.1)

pub changed_rising : (i : ℕ) (xs ys : List ℕ) → Rising i (changed i xs ys)
changed_rising i [] ys = tt
changed_rising i (x ∷ xs) [] = tt
changed_rising i (x ∷ xs) (y ∷ ys) = go (eqb x y) (changed_rising (i + 1) xs ys)
  where
    go : (w : Bool) → Rising (i + 1) (changed (i + 1) xs ys) → Rising i (cond w [] (i ∷ []) ++ changed (i + 1) xs ys)
    go true h = rising_later i (changed (i + 1) xs ys) h
    go false h = (omega arith, h)

-- a place is listed exactly when the two lists differ there
abbrev pub listed : ℕ → List ℕ → Bool
listed p [] = false
listed p (q ∷ qs) = cond (eqb p q) true (listed p qs)

before_none : (p i : ℕ) (ps : List ℕ) → p < i → Rising i ps → listed p ps ≡ false
before_none p i [] h r = refl
before_none p i (q ∷ ps) h r =
    let a = r.0 in
    let b : eqb p q ≡ false = ne_eqb p q (λ e. omega arith) in
    let c : listed p ps ≡ false = before_none p (q + 1) ps (omega arith) r.1 in
    rw (b, c) refl

pub changed_listed : (i : ℕ) (xs ys : List ℕ) → length xs ≡ length ys → (k : ℕ) → k < length xs → listed (i + k) (changed i xs ys) ≡ not (eqb (get_or xs k 0) (get_or ys k 0))
changed_listed i [] ys e k h = absurd (omega arith)
changed_listed i (x ∷ xs) [] e k h = absurd (omega arith)
changed_listed i (x ∷ xs) (y ∷ ys) e zero h = let z : i + 0 ≡ i = omega arith in ap (λ (p : ℕ). listed p (changed i (x ∷ xs) (y ∷ ys))) z ∙ go (eqb x y)
  where
    go : (w : Bool) → listed i (cond w [] (i ∷ []) ++ changed (i + 1) xs ys) ≡ not w
    go true = before_none i (i + 1) (changed (i + 1) xs ys) (omega arith) (changed_rising (i + 1) xs ys)
    go false = rw (eq-eqb i i refl) refl
changed_listed i (x ∷ xs) (y ∷ ys) e (suc k) h =
    let z : i + suc k ≡ i + 1 + k = omega arith in
    ap (λ (p : ℕ). listed p (changed i (x ∷ xs) (y ∷ ys))) z ∙ go (eqb x y) ∙ changed_listed (i + 1) xs ys (omega arith) k (omega arith)
  where
    go : (w : Bool) → listed (i + 1 + k) (cond w [] (i ∷ []) ++ changed (i + 1) xs ys) ≡ listed (i + 1 + k) (changed (i + 1) xs ys)
    go true = refl
    go false = rw (ne_eqb (i + 1 + k) i (λ e. omega arith)) refl
