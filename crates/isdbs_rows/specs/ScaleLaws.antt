-- Seven equal scales are turned back as one is.
use Rattle.std.specs.Prelude.{◌≡◌, refl, Bool, true, false, ◌||◌, List, ℕ, replicate, Float}
use Rattle.std.proofs.Common.{ap}
use Rattle.isdbs_tables.specs.declared.Table.{Table}
use Rattle.isdbs_rows.specs.DecodeRows.{some_of, bad_scale, some_bad, frame_rows, decode_rows, one_scale_rows}

seven : (b : Bool) → (((((((false || b) || b) || b) || b) || b) || b) || b) ≡ b
seven true = refl
seven false = refl

pub equal_bad : (s : Float) → some_bad (replicate 7 s) ≡ bad_scale s
unfolding some_of
equal_bad s = seven (bad_scale s)

-- "Seven equal scales answer as the old single one did": the rows are the same
pub equal_rows : (t : Table) (re im : List Float) (s : Float) (decisions bits bytes counts : ℕ) → decode_rows t re im (replicate 7 s) decisions bits bytes counts ≡ one_scale_rows t re im s decisions bits bytes counts
equal_rows t re im s decisions bits bytes counts = ap (λ (b : Bool). frame_rows t re im b decisions bits bytes counts) (equal_bad s)
