-- Bytes in parts, and the check value that every table of CRCs has.
use Rattle.std.specs.Prelude.{◌≡◌, refl, List, [], ◌∷◌, ◌++◌, ℕ}
use Rattle.bench_checksum.specs.Crc.{shifted, stepped, register, checksum}

-- the register after two lists in turn is that after both in one
pub in_parts : (r : ℕ) (a b : List ℕ) → register r (a ++ b) ≡ register (register r a) b
unfolding register
in_parts r [] b = refl
in_parts r (x ∷ a) b = in_parts (stepped r x) a b

-- the digits 1 to 9 in ASCII: CBF43926h
pub check_value : checksum (49 ∷ 50 ∷ 51 ∷ 52 ∷ 53 ∷ 54 ∷ 55 ∷ 56 ∷ 57 ∷ []) ≡ 3421780262
unfolding checksum register stepped shifted
check_value = refl
