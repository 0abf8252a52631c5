-- What a point adds to the seven numbers of its slot. The quality of a reading: "z being the received and c the encoded point of the bytes: how many points are counted, and
-- the sums of |c|^2, of |z - c|^2, of the real and the imaginary part of z conj(c), of the real and the imaginary part of z - c; .. each operation rounded once". Definitions only.
use Rattle.std.specs.Prelude.{Bool, cond, List, [], ◌∷◌, ℕ, ◌*◌, Float}
use Rattle.std.specs.Float.{binary64}
use Rattle.std.specs.Float.Ieee.{add, sub, mul}
use Rattle.isdbs_combination.specs.Combinations.{frame_slots}
use Rattle.isdbs_points.specs.Points.{zero64, one64}

-- "|x|^2 being x.re x.re + x.im x.im"
abbrev pub squared : Float → Float → Float
squared x y = add binary64 (mul binary64 x x) (mul binary64 y y)

-- of z = (zx, zy) and c = (cx, cy), the seven in order; "z conj(c) being (z.re c.re + z.im c.im, z.im c.re - z.re c.im)"
unfoldable pub terms_of : Float → Float → Float → Float → List Float
terms_of zx zy cx cy =
    one64
    ∷ squared cx cy
    ∷ squared (sub binary64 zx cx) (sub binary64 zy cy)
    ∷ add binary64 (mul binary64 zx cx) (mul binary64 zy cy)
    ∷ sub binary64 (mul binary64 zy cx) (mul binary64 zx cy)
    ∷ sub binary64 zx cx
    ∷ sub binary64 zy cy
    ∷ []

-- "of BPSK the imaginary parts of z and c count as 0"
abbrev pub imaginary : Bool → Float → Float
imaginary bpsk y = cond bpsk zero64 y

-- how many numbers a slot has, and a frame
abbrev pub slot_numbers : ℕ
slot_numbers = 7

abbrev pub quality_numbers : ℕ
quality_numbers = slot_numbers * frame_slots
