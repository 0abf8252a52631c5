-- What a puncturing keeps is chosen from the encoder's outputs X, Y, X, Y, .. of a string, by their places.
use Rattle.std.specs.Prelude.{◌≡◌, refl, Bool, true, false, cond, List, [], ◌∷◌, ◌++◌, ℕ, zero, suc, ◌+◌, ◌*◌, ◌/◌, ◌%◌, ◌<◌, eqb, length, get_or}
use Rattle.std.proofs.Common.{sym, ap, ◌∙◌, arith}
use Rattle.std.proofs.lemmas.List.{map-append, length-map}
use Rattle.trellis.specs.Lists.{upto}
use Rattle.trellis.specs.Code.{isdb}
use Rattle.trellis.specs.Encoded.{encoded, low_bits, bits_of, coded_bits}
use Rattle.trellis.proofs.EncodedLaws.{encoded_at}
use Rattle.isdbs_points.specs.Frame.{label_at, coded_bit}
use Rattle.trellis.specs.LaidLaws.{upto_cong}
use Rattle.overlay_laws.specs.Overlaid.{chosen}

zero_bit : (w : Bool) → cond w (0 / 2) (0 % 2) ≡ 0
zero_bit true = refl
zero_bit false = refl

part_at : (ls : List ℕ) (k : ℕ) → get_or (bits_of ls) k 0 ≡ coded_bit k (get_or ls (k / 2) 0)
part_at [] k = sym (zero_bit (eqb (k % 2) 0))
part_at (l ∷ ls) zero = refl
part_at (l ∷ ls) (suc zero) = refl
part_at (l ∷ ls) (suc (suc k)) =
    let a : suc (suc k) / 2 ≡ suc (k / 2) = omega arith in
    let b : suc (suc k) % 2 ≡ k % 2 = omega arith in
    part_at ls k
    ∙ sym
    (ap (λ (i : ℕ). cond (eqb (suc (suc k) % 2) 0) (get_or (l ∷ ls) i 0 / 2) (get_or (l ∷ ls) i 0 % 2)) a
    ∙ ap (λ (i : ℕ). cond (eqb i 0) (get_or ls (k / 2) 0 / 2) (get_or ls (k / 2) 0 % 2)) b)

output_at : (s : ℕ) (us : List ℕ) (k : ℕ) → k < 2 * length us → coded_bit k (label_at s (low_bits us) (k / 2)) ≡ get_or (coded_bits isdb s us) k 0
output_at s us k h =
    let n : length (low_bits us) ≡ length us = length-map us (λ u. u % 2) in
    sym (part_at (encoded isdb s (low_bits us)) k ∙ ap (λ (l : ℕ). coded_bit k l) (encoded_at isdb s (low_bits us) (k / 2) (omega arith)))

chosen_upto : (xs : List ℕ) (f : ℕ → ℕ) (n : ℕ) → chosen (upto f n) xs ≡ upto (λ j. get_or xs (f j) 0) n
unfolding upto
chosen_upto xs f zero = refl
chosen_upto xs f (suc n) = map-append (λ p. get_or xs p 0) (upto f n) (f n ∷ []) ∙ ap (λ (l : List ℕ). l ++ (get_or xs (f n) 0 ∷ [])) (chosen_upto xs f n)

-- n bits of which each is the output at its place
pub kept_is : (s : ℕ) (us : List ℕ) (f place : ℕ → ℕ) (n : ℕ)
    → ((j : ℕ) → j < n → (place j < 2 * length us) × (f j ≡ coded_bit (place j) (label_at s (low_bits us) (place j / 2))))
    → upto f n ≡ chosen (upto place n) (coded_bits isdb s us)
kept_is s us f place n h =
    upto_cong f (λ j. get_or (coded_bits isdb s us) (place j) 0) n (λ j l. (h j l).1 ∙ output_at s us (place j) (h j l).0)
    ∙ sym (chosen_upto (coded_bits isdb s us) place n)
