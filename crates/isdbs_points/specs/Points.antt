-- Document 01, "Points": the points of BPSK, QPSK and 8PSK. The Rust cites MIC Ordinance No. 87 of 2011, annexed table 46, and ITU-R BO.1408-1, Fig. 15, for them.
use Rattle.std.specs.Prelude.{Bool, cond, List, [], ◌∷◌, ℕ, ◌+◌, ◌*◌, ◌/◌, ◌%◌, get_or, Float}
use Rattle.std.specs.Float.{binary64}
use Rattle.std.specs.Float.Ieee.{neg, of_bits}
use Rattle.trellis.specs.Step.{term}
use Rattle.isdbs_points.specs.declared.Cplx.{Cplx}

abbrev pub point : Float → Float → Cplx
point x y = record { re = x; im = y }

abbrev pub zero64 : Float
zero64 = of_bits binary64 0

abbrev pub one64 : Float
one64 = of_bits binary64 0x3ff0_0000_0000_0000

-- "s having bits 3FE6A09E667F3BCD (hexadecimal)"
abbrev pub root64 : Float
root64 = of_bits binary64 0x3fe6_a09e_667f_3bcd

-- "unused points (0, 0)"
abbrev pub unused : Cplx
unused = point zero64 zero64

-- "BPSK +1 for bit 0, -1 for bit 1, imaginary part 0"
abbrev pub bpsk_of : ℕ → Cplx
bpsk_of b = point (term b one64) zero64

-- "QPSK: p1 on real, p0 on imaginary, or the reverse by mapping .. Bit 0 is +s"
abbrev pub qpsk_of : Bool → ℕ → ℕ → Cplx
qpsk_of reverse p1 p0 = cond reverse (point (term p0 root64) (term p1 root64)) (point (term p1 root64) (term p0 root64))

-- "8PSK labels 000 001 011 010 100 101 111 110 sit at 0, 45 .. 315 degrees, the parts being 0, ±1, ±s exactly": by label
abbrev pub psk8_points : List Cplx
psk8_points =
    point one64 zero64  -- 000, 0 degrees
    ∷ point root64 root64  -- 001, 45
    ∷ point (neg root64) root64  -- 010, 135
    ∷ point zero64 one64  -- 011, 90
    ∷ point (neg one64) zero64  -- 100, 180
    ∷ point (neg root64) (neg root64)  -- 101, 225
    ∷ point root64 (neg root64)  -- 110, 315
    ∷ point zero64 (neg one64)  -- 111, 270
    ∷ []

abbrev pub psk8_of : ℕ → Cplx
psk8_of l = get_or psk8_points l unused

-- "C1 is Y and C0 is X with `tc8psk_c1_is_y`, else the reverse": 2 C1 + C0 from 2 X + Y. It is its own inverse.
abbrev pub subset : Bool → ℕ → ℕ
subset c1IsY l = cond c1IsY (2 * (l % 2) + l / 2) l

-- "`conjugate` negates every imaginary part"
abbrev pub conjugated : Bool → Float → Float
conjugated conjugate y = cond conjugate (neg y) y
