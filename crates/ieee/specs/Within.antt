-- The test by which the calls of document 01 hold a value to a limit ("not finite; beyond ..").
use Rattle.std.specs.Prelude.{Bool, ◌&&◌, Float}
use Rattle.std.specs.Float.Ieee.{neg, le}

-- from -limit to limit, both included; no comparison holds of a NaN
abbrev pub within : Float → Float → Bool
within limit x = le (neg limit) x && le x limit
