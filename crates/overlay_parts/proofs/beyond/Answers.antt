-- `overlay_parts::beyond` meets its contract.
use mathlib.Core.Path.{ap}
use Prim.Native.Nat.{ℕ}
use lib.Dec.{leb}
use Rattle.short_code.specs.CodeLaws.{states_are, good_length_lem}
use Rattle.overlay_parts.proofs.beyond.Goals as goal

pub half-requires : goal.half-requires
half-requires c = good_length_lem c.args.code c.requires

pub returns : goal.returns
returns c = ap (λ (n : ℕ). leb n c.args.state) (states_are c.args.code c.half.result c.half.ensures.2)
