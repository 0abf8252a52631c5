-- Laws of answers by number, and of copied lists.
use Rattle.std.specs.Prelude.{◌≡◌, List, ℕ, ◌<◌, length, get_or}
use Rattle.std.proofs.Common.{sym, ◌∙◌, ap, arith, ext_get_or, ne_eqb}
use Rattle.refusal.specs.Rows.{Answer, Accepted, number_of}
use Rattle.c_answers.specs.Answers.{left}

-- refused, what was there stays
pub kept : {A : Type 0} (n : ℕ) (x y : A) → (n ≡ 0 → ⊥) → y ≡ left n x y
kept n x y h = rw (ne_eqb n 0 h)

-- a number that is not 0 is a refusal's
pub refusing : (n : ℕ) (a : Answer) → n ≡ number_of a → (n ≡ 0 → ⊥) → a ≡ Accepted → ⊥
refusing n a e h q = h (e ∙ ap number_of q)

module _ {A : Type 0} where
  -- a list that has what another of its length has is that list
  pub copied : (d : A) (n : ℕ) (a l : List A) → length a ≡ n → length l ≡ n → ((i : ℕ) → i < n → get_or l i d ≡ get_or a i d) → l ≡ a
  copied d n a l e f w = ext_get_or d l a (f ∙ sym e) (λ i h. w i (omega arith))
