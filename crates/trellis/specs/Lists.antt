-- Lists and numbers made from a function of the index.
use Rattle.std.specs.Prelude.{Bool, true, false, cond, List, [], ◌∷◌, ◌++◌, ℕ, zero, suc, ◌+◌, ◌-◌, ◌*◌, ◌^◌, eqb, length, drop, replicate}

-- the first n values of f
unfoldable pub upto : {A : Type 0} → (ℕ → A) → ℕ → List A
upto f zero = []
upto f (suc n) = upto f n ++ (f n ∷ [])

abbrev pub bit : Bool → ℕ
bit true = 1
bit false = 0

-- the number whose lowest n bits are as f says
unfoldable pub packed : (ℕ → Bool) → ℕ → ℕ
packed f zero = 0
packed f (suc n) = packed f n + bit (f n) * 2 ^ n

-- `front` written over the beginning of `whole`, and the rest as it was
abbrev pub laid : {A : Type 0} → List A → List A → List A
laid front whole = front ++ drop (length front) whole

-- a list as the front of n elements, the rest being the filler d
abbrev pub padded : {A : Type 0} → ℕ → A → List A → List A
padded n d l = l ++ replicate (n - length l) d

-- where a list has the number a first; its length where it has not
unfoldable pub first_place : ℕ → List ℕ → ℕ
first_place a [] = 0
first_place a (b ∷ bs) = cond (eqb a b) 0 (suc (first_place a bs))

-- P holds of each
abbrev pub Each : {A : Type 0} → (A → Type 0) → List A → Type 0
Each P [] = Unit
Each P (x ∷ xs) = P x × Each P xs
