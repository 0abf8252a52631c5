-- Laws of overlaid lists.
use Rattle.std.specs.Prelude.{◌≡◌, refl, List, [], ◌∷◌, ℕ, zero, suc, ◌/◌, ◌%◌, ◌^◌, length, get_or}
use Rattle.std.proofs.Common.{sym, ap, ◌∙◌, arith}
use Rattle.std.specs.Int.Bits.{bit_xor, xor_self}
use Rattle.std.proofs.lemmas.Nat.{xor_shr, xor_mod}
use Rattle.trellis.specs.Encoded.{bits_of}
use Rattle.overlay_laws.specs.Overlaid.{overlaid, chosen}

-- ---- laws
pub length_overlaid : (us vs : List ℕ) → length us ≡ length vs → length (overlaid us vs) ≡ length us
length_overlaid [] [] e = refl
length_overlaid [] (v ∷ vs) e = absurd (omega arith)
length_overlaid (u ∷ us) [] e = absurd (omega arith)
length_overlaid (u ∷ us) (v ∷ vs) e = ap suc (length_overlaid us vs (omega arith))

pub overlaid_at : (us vs : List ℕ) → length us ≡ length vs → (k : ℕ) → get_or (overlaid us vs) k 0 ≡ bit_xor (get_or us k 0) (get_or vs k 0)
overlaid_at [] [] e k = sym (xor_self 0)
overlaid_at [] (v ∷ vs) e k = absurd (omega arith)
overlaid_at (u ∷ us) [] e k = absurd (omega arith)
overlaid_at (u ∷ us) (v ∷ vs) e zero = refl
overlaid_at (u ∷ us) (v ∷ vs) e (suc k) = overlaid_at us vs (omega arith) k

pub chosen_overlaid : (ps xs ys : List ℕ) → length xs ≡ length ys → chosen ps (overlaid xs ys) ≡ overlaid (chosen ps xs) (chosen ps ys)
chosen_overlaid [] xs ys e = refl
chosen_overlaid (p ∷ ps) xs ys e =
    ap (λ (i : ℕ). i ∷ chosen ps (overlaid xs ys)) (overlaid_at xs ys e p)
    ∙ ap (λ (l : List ℕ). bit_xor (get_or xs p 0) (get_or ys p 0) ∷ l) (chosen_overlaid ps xs ys e)

-- X and Y of pairs 2 X + Y
pub parts_overlaid : (xs ys : List ℕ) → bits_of (overlaid xs ys) ≡ overlaid (bits_of xs) (bits_of ys)
parts_overlaid [] ys = refl
parts_overlaid (x ∷ xs) [] = refl
parts_overlaid (x ∷ xs) (y ∷ ys) =
    let a : bit_xor x y / 2 ^ 1 ≡ bit_xor (x / 2 ^ 1) (y / 2 ^ 1) = xor_shr x y 1 in
    let b : bit_xor x y % 2 ^ 1 ≡ bit_xor (x % 2 ^ 1) (y % 2 ^ 1) = xor_mod x y 1 in
    ap (λ (i : ℕ). i ∷ bit_xor x y % 2 ∷ bits_of (overlaid xs ys)) a
    ∙ ap (λ (i : ℕ). bit_xor (x / 2) (y / 2) ∷ i ∷ bits_of (overlaid xs ys)) b
    ∙ ap (λ (l : List ℕ). bit_xor (x / 2) (y / 2) ∷ bit_xor (x % 2) (y % 2) ∷ l) (parts_overlaid xs ys)
