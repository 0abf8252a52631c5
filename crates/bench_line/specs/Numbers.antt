-- Numbers as they are written: decimal digits, the high one first, and a scale with a point. Bytes are ASCII codes.
use Rattle.std.specs.Prelude.{ℕ, ◌+◌, ◌-◌, ◌*◌, ◌^◌, Bool, true, false, cond, ◌&&◌, List, [], ◌∷◌, length, ◌==◌, nat_le, nat_lt, Option, None, Some, Float}
use Rattle.std.specs.Float.{binary32}
use Rattle.std.specs.Float.Ieee.{round}
use Rattle.bench_split.specs.Parts.{part_of, parts_of}

-- the digits '0' to '9' are 48 to 57; 10 for any other byte
unfoldable pub digit_of : ℕ → ℕ
digit_of b = cond (nat_le 48 b && nat_le b 57) (b - 48) 10

-- v, and then the digits
unfoldable pub number_from : ℕ → List ℕ → Option ℕ
number_from v [] = Some v
number_from v (b ∷ s) = cond (nat_le (digit_of b) 9) (number_from (v * 10 + digit_of b) s) None

-- one to seven digits
unfoldable pub digits_of : List ℕ → Option ℕ
digits_of s = cond (nat_le (length s) 7 && nat_lt 0 (length s)) (number_from 0 s) None

-- t thousandths, as the nearest f32
unfoldable pub scale_is : ℕ → Option Float
scale_is t = Some (round binary32 false t 1000)

-- the digits before a point and the n after it; without a point, those before it alone
abbrev pub scale_from : Bool → Option ℕ → Option ℕ → ℕ → Option Float
scale_from b None f n = None
scale_from true (Some w) f n = scale_is (w * 1000)
scale_from false (Some w) None n = None
scale_from false (Some w) (Some f) n = scale_is (w * 1000 + f * 10 ^ (3 - n))

-- "a number as 8 or 0.5, up to three digits before and after the point": parts at the point '.', which is 46
abbrev pub scale_with : ℕ → List ℕ → List ℕ → Option Float
scale_with n a b =
    cond (nat_le n 2 && (nat_le (length a) 3 && nat_le (length b) 3))
    (scale_from (n == 1) (digits_of a) (digits_of b) (length b))
    None

unfoldable pub scale_of : List ℕ → Option Float
scale_of s = scale_with (parts_of 46 s) (part_of 46 s 0) (part_of 46 s 1)
