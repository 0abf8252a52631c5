-- The memory that `best_reading` is lent, as it was or as it is, and its lengths.
use Rattle.std.specs.Prelude.{List, ℕ, length, Float}
use Rattle.best_frame.specs.declared.Lengths.{Lengths}

pub record Lent : Type 0 where
  pub metrics : List Float
  pub sides : List ℕ
  pub words : List ℕ
  pub tables : List ℕ
  pub bits : List ℕ
  pub uncoded : List ℕ
  pub bytes : List ℕ
  pub leads : List ℕ

abbrev pub lent : List Float → List ℕ → List ℕ → List ℕ → List ℕ → List ℕ → List ℕ → List ℕ → Lent
lent metrics sides words tables bits uncoded bytes leads =
    record { metrics = metrics; sides = sides; words = words; tables = tables; bits = bits; uncoded = uncoded; bytes = bytes; leads = leads }

abbrev pub lengths : Lent → Lengths
lengths l =
    record { metrics = length l.metrics; sides = length l.sides; words = length l.words; tables = length l.tables; bits = length l.bits; uncoded = length l.uncoded; bytes = length l.bytes; leads = length l.leads }
