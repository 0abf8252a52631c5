-- What `digit` says of a byte: the number k of a digit, where it is at most 9.
use Rattle.std.proofs.Common.{◌≡◌, ℕ, ◌≤◌, Bool, true, false, cond, nat_le, Option, None, Some, leb-true, refl}

pub some_digit : (k d : ℕ) → Some d ≡ cond (nat_le k 9) (Some k) None → (k ≤ 9) × (k ≡ d)
some_digit k d = go (nat_le k 9) refl
  where
    go : (t : Bool) → nat_le k 9 ≡ t → Some d ≡ cond t (Some k) None → (k ≤ 9) × (k ≡ d)
    go true e h = (leb-true k 9 e, cc)
    go false e h = cc

pub no_digit : (k : ℕ) → None ≡ cond (nat_le k 9) (Some k) None → nat_le k 9 ≡ false
no_digit k = go (nat_le k 9)
  where
    go : (t : Bool) → None ≡ cond t (Some k) None → t ≡ false
    go true h = cc
    go false h = refl
