-- `in_range` meets its contract.
use mathlib.Core.Path.{sym, subst}
use lib.Dec.{T}
use lib.Ieee.{binary64, fits}
use Rattle.decode_soft.proofs.Range.{passes}
use Rattle.decode_soft.proofs.in_range.Goals as goal

pub returns : goal.returns
returns c =
    let t : T (fits binary64 c.args.x) = subst T (sym c.well_formed.0.1) tt in
    passes c.args.x t
