-- A float rounded to a format, as a cast from the wider format has it: `rounded f x` is the value of f nearest to x, ties to even, subnormal results included.
use Rattle.std.specs.Prelude.{◌*◌, Float}
use Rattle.std.specs.Float.{nan, inf, fin, Format}
use Rattle.std.specs.Float.Ieee.{up, down, round}

-- nearest to x, by `round`, which alone knows the format; an infinity and a NaN stay what they are
unfoldable pub rounded : Format → Float → Float
unfolding round
rounded f nan = nan
rounded f (inf s) = inf s
rounded f (fin s m e) = round f s (m * up e) (down e)
