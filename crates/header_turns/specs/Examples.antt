-- Worked examples, computed.
use Rattle.std.specs.Prelude.{◌≡◌, refl, true, false, List, [], ◌∷◌, ℕ, get_or}
use Rattle.std.specs.Float.{nan, inf}
use Rattle.std.specs.Float.Ieee.{mul, neg, lt, le, of_bits, of_fields, odd}
use Rattle.trellis.specs.Lists.{upto}
use Rattle.isdbs_points.specs.Points.{one64, root64}
use Rattle.refusal.specs.Rows.{Symbols, answer_of}
use Rattle.header_sync.specs.Signs.{tail1, tail2, tail3, zero64, side, mark, marks}
use Rattle.header_sync.specs.Fits.{is_first, joined, fit_of, fit_by, no_frame}
use Rattle.header_sync.specs.Search.{squares, found_by}
use Rattle.header_mean.specs.Means.{size_of, near_axis, by_sign, turn_by, turn_of}
use Rattle.header_find.specs.Headers.{header_of, header_at, header_says, doubted}

-- "+1 where it is above 0 .., 0 where it is 0 or a NaN": with 1 more
pub sides : List ℕ
sides = side one64 ∷ side (neg root64) ∷ side zero64 ∷ side (neg zero64) ∷ side nan ∷ side (inf false) ∷ side (inf true) ∷ []

pub sides_are : sides ≡ 2 ∷ 0 ∷ 1 ∷ 1 ∷ 1 ∷ 2 ∷ 0 ∷ []
unfolding sides side lt neg of_bits of_fields odd
sides_are = refl

-- "high bit first": W1's tail begins 1110 1100, W2's 0000 1011; W3's is W2's complement
pub tails_begin : (upto (λ i. get_or tail1 i 0) 8 ≡ 1 ∷ 1 ∷ 1 ∷ 0 ∷ 1 ∷ 1 ∷ 0 ∷ 0 ∷ []) × (upto (λ i. get_or tail2 i 0) 8 ≡ 0 ∷ 0 ∷ 0 ∷ 0 ∷ 1 ∷ 0 ∷ 1 ∷ 1 ∷ []) × (upto (λ i. get_or tail3 i 0) 8 ≡ 1 ∷ 1 ∷ 1 ∷ 1 ∷ 0 ∷ 1 ∷ 0 ∷ 0 ∷ [])
unfolding upto
tails_begin = (refl, refl, refl)

-- a1 = 20, a2 = -20, b1 = b2 = 0: another frame, A = 40; turned by an eighth all four are 20 or -20
pub fits : (fit_of 40 0 20 20 ≡ record { first = false; re = 80; im = 40 }) × (fit_of 40 40 40 40 ≡ record { first = true; re = 80; im = 80 })
unfolding fit_of is_first joined
fits = (refl, refl)

-- the turn of a mean: (1, 1) is an eighth, (-1, 1) three, (0, -1) six; none below 784, and none of (0, 0)
pub turns : (turn_by one64 one64 ≡ 1) × (turn_by (neg one64) one64 ≡ 3) × (turn_by zero64 (neg one64) ≡ 6)
unfolding turn_by near_axis le size_of of_bits mul by_sign neg
turns = (refl, refl, refl)

pub least : (turn_of 784 (record { re = one64; im = zero64; power = one64 }) ≡ 0) × (turn_of 783 (record { re = one64; im = zero64; power = one64 }) ≡ 8) × (turn_of 1600 (record { re = zero64; im = zero64; power = zero64 }) ≡ 8)
unfolding turn_of lt of_bits turn_by near_axis le size_of mul by_sign
least = (refl, refl, refl)

-- a mean of two infinities lies near both axes: its turn is 0, and 4 once it is turned by a quarter
pub infinities : (turn_by (inf false) (inf false) ≡ 0) × (turn_by (inf true) (inf false) ≡ 4)
unfolding turn_by near_axis le size_of of_bits mul by_sign neg
infinities = (refl, refl)

-- nothing there: no turn, and not the first of a superframe, as a1 a2 + b1 b2 is 0
pub nothing : header_at [] [] 5 ≡ record { first = false; turn = 8; re = 40; im = 40 }
unfolding header_of fit_by turn_of fit_of squares is_first joined marks mark upto side lt of_bits
nothing = refl

-- too few points, also at the greatest u64
pub too_few : (answer_of (header_says [] [] 0) ≡ Symbols) × (answer_of (header_says [] [] 0xffff_ffff_ffff_ffff) ≡ Symbols)
unfolding no_frame
too_few = (refl, refl)

-- of equals the first; places before `from` are not looked at
pub of_equals : (found_by (λ p. get_or (3 ∷ 7 ∷ 7 ∷ 2 ∷ []) p 0) 0 3 ≡ 1) × (found_by (λ p. get_or (9 ∷ 3 ∷ 7 ∷ 7 ∷ []) p 0) 1 2 ≡ 2)
unfolding found_by
of_equals = (refl, refl)

-- "`turn` is 8 where that greatest is below 1,296": A = 36 and B = 0 are 1,296, A = 35 and B = 8 are 1,289
pub below_1296 : ((doubted (record { first = true; turn = 3; re = 76; im = 40 })).turn ≡ 3) × ((doubted (record { first = true; turn = 3; re = 75; im = 48 })).turn ≡ 8)
unfolding doubted squares
below_1296 = (refl, refl)
