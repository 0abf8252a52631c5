-- The mean of the known header symbols, and the turn by it.
use Rattle.std.specs.Prelude.{Bool, cond, List, ℕ, zero, suc, ◌+◌, ltb, get_or, Float}
use Rattle.std.specs.Float.{nan, binary64}
use Rattle.std.specs.Float.Ieee.{add, mul, div, neg, le, lt, of_bits}
use Rattle.trellis.specs.Step.{term}
use Rattle.header_sync.specs.Signs.{tail1, tail2, tail3, place1, place2, zero64}
use Rattle.header_sync.specs.Fits.{fit_at}
use Rattle.header_mean.specs.declared.Mean.{Mean}

-- "each times its sign .., begun at 0, each addition rounded": n symbols from a place on, added to a sum in order
unfoldable pub sum_from : Float → List ℕ → List Float → ℕ → ℕ → Float
sum_from start tail part at zero = start
sum_from start tail part at (suc n) = add binary64 (sum_from start tail part at n) (term (get_or tail n 0) (get_or part (at + n) nan))

-- "W1's 20 in order, then W2's, those times k": where k is -1 the signs are those of W3's tail, the complement
abbrev pub last_tail : Bool → List ℕ
last_tail first = cond first tail2 tail3

abbrev pub forty64 : Float
forty64 = of_bits binary64 0x4044_0000_0000_0000

-- "c.re is the sum of the real parts of the 40 header symbols .., then divided by 40; c.im the same of the imaginary parts": of the frame that begins at `at`
unfoldable pub mean_part : Bool → List Float → ℕ → Float
mean_part first part at = div binary64 (sum_from (sum_from zero64 tail1 part (at + place1) 20) (last_tail first) part (at + place2) 20) forty64

-- "d = c.re c.re + c.im c.im"
unfoldable pub power_of : Float → Float → Float
power_of x y = add binary64 (mul binary64 x x) (mul binary64 y y)

unfoldable pub mean_of : Bool → List Float → List Float → ℕ → Mean
mean_of first re im at = record { re = mean_part first re at; im = mean_part first im at; power = power_of (mean_part first re at) (mean_part first im at) }

-- of the frame's kind
abbrev pub mean_at : List Float → List Float → ℕ → Mean
mean_at re im at = mean_of (fit_at re im at).first re im at

-- "t = tan(22.5 degrees), bits 3FDA827999FCEF32"
abbrev pub tangent : Float
tangent = of_bits binary64 0x3fda_8279_99fc_ef32

-- |x|
unfoldable pub size_of : Float → Float
size_of x = cond (lt x zero64) (neg x) x

-- "|c.im| ≤ t |c.re|": of y and x
unfoldable pub near_axis : Float → Float → Bool
near_axis x y = le (size_of y) (mul binary64 tangent (size_of x))

unfoldable pub by_sign : Float → ℕ → ℕ → ℕ
by_sign x above other = cond (lt zero64 x) above other

-- "0 or 4 by the sign of c.re where |c.im| ≤ t |c.re|; else 2 or 6 by the sign of c.im where |c.re| ≤ t |c.im|; else 1 (c.re and c.im above 0), 3 (c.re
-- below, c.im above), 5 (both below), 7"
unfoldable pub turn_by : Float → Float → ℕ
turn_by x y =
    cond (near_axis x y) (by_sign x 0 4)
    (cond (near_axis y x) (by_sign y 2 6)
    (by_sign y (by_sign x 1 3) (by_sign x 7 5)))

-- "8 (none) where A A + B B is below 784 or d is not above 0 (a NaN is not)"
unfoldable pub turn_of : ℕ → Mean → ℕ
turn_of squares c = cond (ltb squares 784) 8 (cond (lt zero64 c.power) (turn_by c.re c.im) 8)
