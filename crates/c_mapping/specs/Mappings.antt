-- A mapping as one number, and flags.
use Rattle.std.specs.Prelude.{Bool, not, ℕ, ◌/◌, ◌%◌, eqb}
use Rattle.isdbs_points.specs.declared.Mapping.{Mapping}

-- "A mapping is one u8: bit 0 conjugate, bit 1 qpsk_p1_on_q, bit 2 tc8psk_c1_is_y"
abbrev pub mapping_of : ℕ → Mapping
mapping_of n = record { conjugate = eqb (n % 2) 1; qpsk_p1_on_q = eqb (n / 2 % 2) 1; tc8psk_c1_is_y = eqb (n / 4 % 2) 1 }

-- a flag: any number but 0
abbrev pub is_set : ℕ → Bool
is_set n = not (eqb n 0)
