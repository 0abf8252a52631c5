-- `few` meets its contract.
use mathlib.Core.Path.{refl}
use Prim.Native.Nat.{◌*◌}
use lib.Dec.{ltb}
use Rattle.isdbt_table.specs.NumberLaws.{few_places}
use Rattle.isdbt_rows.proofs.few.Goals as goal

pub returns : goal.returns
returns c = let a = c.args in few_places a.space a.per a.blocks c.requires (ltb a.space (a.blocks * a.per)) refl
