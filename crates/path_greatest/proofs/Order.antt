-- Laws of the order between paths (`First`), over either tie-break: it is transitive, and of two different paths of one length exactly one
-- comes first.
use Rattle.std.specs.Prelude.{◌≡◌, ◌⊎◌, Bool, true, false, not, List, T, ltb}
use Rattle.std.proofs.Common.{sym, ◌∙◌, inr, ⊎_elim, eq-or-lt_of_le, arith, ltb→lt, nltb→le}
use Rattle.std.proofs.Math.Logic.{inl}
use Prim.Native.Nat.{ℕ, zero, suc, ◌%◌, ◌≤◌, ◌<◌}
use Rattle.trellis.specs.Code.{state_at}
use Rattle.trellis.specs.Step.{Tie, lower, upper}
use Rattle.path_greatest.specs.Paths.{Ahead, Path, Tail, First}
use Rattle.path_greatest.proofs.Greatest.{one_first}

-- ---- numbers
three : (a b : ℕ) → (a < b) ⊎ ((a ≡ b) ⊎ (b < a))
three a b = go (ltb a b) (ltb→lt a b) (nltb→le a b)
  where
    go : (w : Bool) → (T w → a < b) → (T (not w) → b ≤ a) → (a < b) ⊎ ((a ≡ b) ⊎ (b < a))
    go true f g = inl (f tt)
    go false f g = inr (⊎_elim (λ e. inl (sym e)) (λ h. inr h) (eq-or-lt_of_le (g tt)))

ahead_or : (t : Tie) (a b : ℕ) → Ahead t a b ⊎ ((a ≡ b) ⊎ Ahead t b a)
ahead_or lower a b = three a b
ahead_or upper a b = ⊎_elim (λ h. inr (inr h)) (λ w. ⊎_elim (λ e. inr (inl e)) (λ h. inl h) w) (three a b)

ahead_trans : (t : Tie) (a b c : ℕ) → Ahead t a b → Ahead t b c → Ahead t a c
ahead_trans lower a b c h k = omega arith
ahead_trans upper a b c h k = omega arith

-- what two comparisons in a row give, the rest of each being compared where the numbers are equal
chain : (t : Tie) (a b c : ℕ) (P Q R : Type 0) → (P → Q → R) → Ahead t a b ⊎ ((a ≡ b) × P) → Ahead t b c ⊎ ((b ≡ c) × Q) → Ahead t a c ⊎ ((a ≡ c) × R)
chain t a b c P Q R f (inl h) (inl k) = inl (ahead_trans t a b c h k)
chain t a b c P Q R f (inl h) (inr k) = inl (rw (← k.0) h)
chain t a b c P Q R f (inr h) (inl k) = inl (rw h.0 k)
chain t a b c P Q R f (inr h) (inr k) = inr (h.0 ∙ k.0, f h.1 k.1)

-- one of two comparisons holds, if one of the rest does
either : (t : Tie) (a b : ℕ) (P Q : Type 0) → P ⊎ Q → (Ahead t a b ⊎ ((a ≡ b) × P)) ⊎ (Ahead t b a ⊎ ((b ≡ a) × Q))
either t a b P Q rest =
    ⊎_elim
    (λ h. inl (inl h))
    (λ w. ⊎_elim (λ e. ⊎_elim (λ p. inl (inr (e, p))) (λ q. inr (inr (sym e, q))) rest) (λ h. inr (inl h)) w)
    (ahead_or t a b)

-- ---- paths
module _ (half : ℕ) (t : Tie) (s : ℕ) (us : List ℕ) (r : ℕ) (vs : List ℕ) where
  tail_total : (n : ℕ) → Tail half t s us r vs n ⊎ Tail half t r vs s us n
  unfolding Tail
  tail_total zero = inl tt
  tail_total (suc n) = either t (state_at half s us n % 2) (state_at half r vs n % 2) (Tail half t s us r vs n) (Tail half t r vs s us n) (tail_total n)

  pub first_total : (n : ℕ) → First half t s us r vs n ⊎ First half t r vs s us n
  first_total n = either t (state_at half s us n) (state_at half r vs n) (Tail half t s us r vs n) (Tail half t r vs s us n) (tail_total n)

  -- of two different paths one comes first, and the other does not
  pub one_way : (n : ℕ) → Path half n s us → Path half n r vs → ((s ≡ r) × (us ≡ vs) → ⊥)
      → (First half t s us r vs n × (First half t r vs s us n → ⊥)) ⊎ (First half t r vs s us n × (First half t s us r vs n → ⊥))
  one_way n p q different =
      ⊎_elim
      (λ a. inl (a, λ b. different (one_first half t s us r vs n p q a b)))
      (λ b. inr (b, λ a. different (one_first half t s us r vs n p q a b)))
      (first_total n)

  module _ (q : ℕ) (ws : List ℕ) where
    tail_trans : (n : ℕ) → Tail half t s us r vs n → Tail half t r vs q ws n → Tail half t s us q ws n
    unfolding Tail
    tail_trans zero a b = tt
    tail_trans (suc n) a b =
        chain t (state_at half s us n % 2) (state_at half r vs n % 2) (state_at half q ws n % 2) (Tail half t s us r vs n) (Tail half t r vs q ws n) (Tail half t s us q ws n) (tail_trans n) a b

    pub first_trans : (n : ℕ) → First half t s us r vs n → First half t r vs q ws n → First half t s us q ws n
    first_trans n a b =
        chain t (state_at half s us n) (state_at half r vs n) (state_at half q ws n) (Tail half t s us r vs n) (Tail half t r vs q ws n) (Tail half t s us q ws n) (tail_trans n) a b
