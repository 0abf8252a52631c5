-- Where two path values differ, both tie-breaks decide alike. This is the only chapter that looks at the rule: all that follows holds for either.
--
use Rattle.std.specs.Prelude.{◌≡◌, ◌⊎◌, Bool, true, false, not, List, T, Float}
use Rattle.std.proofs.Math.Path.{refl}
use Rattle.std.proofs.Common.{subst, ap, inl, inr, arith, eqb→eq}
use Rattle.std.proofs.Math.Bool.{cond}
use Prim.Native.Nat.{ℕ, zero, suc, ◌-◌, ◌<◌}
use Rattle.std.proofs.Math.Dec.{eqb, eqb_refl}
use Rattle.std.specs.Float.Ieee.{binary32, lt}
use Rattle.ieee.specs.Value.{Num}
use Rattle.ieee.specs.Order.{Lt, lt→value, value→lt}
use Rattle.trellis.specs.Step.{Step, Tie, lower, upper, takes, cand, wins, next}

-- ---- tests
pub false_of : (b : Bool) → (T b → ⊥) → b ≡ false
false_of true h = absurd (h tt)
false_of false h = refl

pub true_of : (b : Bool) → T b → b ≡ true
true_of true h = refl
true_of false h = absurd h

-- both outcomes of a test
pub pick : (P : Float → Type 0) (b : Bool) (x y : Float) → P x → P y → P (cond b x y)
pick P true x y p q = p
pick P false x y p q = q

-- whether two numbers are the same
pub same : (a b : ℕ) → (a ≡ b) ⊎ (a ≡ b → ⊥)
same a b = go (eqb a b) (eqb→eq a b) (λ e. subst (λ (x : ℕ). T (eqb a x)) e (eqb_refl a))
  where
    go : (t : Bool) → (T t → a ≡ b) → (a ≡ b → T t) → (a ≡ b) ⊎ (a ≡ b → ⊥)
    go true h k = inl (h tt)
    go false h k = inr k

-- ---- the rules
pub takes_greater : (t : Tie) (x y : Float) → Num binary32 x → Num binary32 y → Lt binary32 x y → takes t x y ≡ true
takes_greater lower x y p q h = true_of (lt x y) (value→lt binary32 x y p q h)
takes_greater upper x y p q h = ap not (false_of (lt y x) (λ b. let a = lt→value binary32 y x q p b in omega arith))

pub takes_less : (t : Tie) (x y : Float) → Num binary32 x → Num binary32 y → Lt binary32 y x → takes t x y ≡ false
takes_less lower x y p q h = false_of (lt x y) (λ b. let a = lt→value binary32 x y p q b in omega arith)
takes_less upper x y p q h = ap not (true_of (lt y x) (value→lt binary32 y x q p h))

-- ---- a state whose path by the predecessor of low bit b is the greater one
module _ (half : ℕ) (out : ℕ → ℕ → ℕ) (t : Tie) (pm : List Float) (x : Step) (k b : ℕ) (B : b < 2)
    (p : Num binary32 (cand half out pm x k b)) (q : Num binary32 (cand half out pm x k (1 - b))) (apart : Lt binary32 (cand half out pm x k (1 - b)) (cand half out pm x k b))
  where
    pub wins_is : wins half out t pm x k ≡ eqb b 1
    unfolding wins
    wins_is = go b B p q apart
      where
        go : (b : ℕ) → b < 2 → Num binary32 (cand half out pm x k b) → Num binary32 (cand half out pm x k (1 - b)) → Lt binary32 (cand half out pm x k (1 - b)) (cand half out pm x k b)
            → takes t (cand half out pm x k 0) (cand half out pm x k 1) ≡ eqb b 1
        go zero l p q h = takes_less t (cand half out pm x k 0) (cand half out pm x k 1) p q h
        go (suc zero) l p q h = takes_greater t (cand half out pm x k 0) (cand half out pm x k 1) q p h
        go (suc (suc b)) l p q h = absurd (omega arith)

    pub next_is : next half out t pm x k ≡ cand half out pm x k b
    unfolding next
    next_is = rw wins_is (go b B)
      where
        go : (b : ℕ) → b < 2 → cond (eqb b 1) (cand half out pm x k 1) (cand half out pm x k 0) ≡ cand half out pm x k b
        go zero l = refl
        go (suc zero) l = refl
        go (suc (suc b)) l = absurd (omega arith)
