-- The search for a wanted load: what is read off the frame is encoded and compared with it; where all is alike it is wanted, else no load is.
use mathlib.Core.Path.{◌≡◌, refl, sym}
use mathlib.Core.Bool.{Bool, true, false, cond, true≢false}
use mathlib.Core.List.{List}
use Prim.Native.Nat.{ℕ}
use lib.Ieee.{Float}
use Rattle.trellis.specs.Lists.{laid}
use Rattle.isdbs_tables.specs.declared.Table.{Table}
use Rattle.isdbs_tables.specs.Tables.{TableAccepted}
use Rattle.isdbs_points.specs.declared.Mapping.{Mapping}
use Rattle.wanted_read.specs.ReadOff.{read_off}
use Rattle.wanted_read.specs.Only.{read_wanted, unwanted}
use Rattle.wanted_match.specs.Alike.{Matches}
use Rattle.wanted_load.specs.Found.{Searched}

-- ---- what the search leaves
pub searched : (t : Table) → TableAccepted t → (m : Mapping) (first : Bool) (re im : List Float) (r : Bool) → Matches t m first re im (read_off t m first re im) r → (bytes₀ bytes : List ℕ)
    → bytes ≡ cond r (laid (read_off t m first re im) bytes₀) bytes₀ → Searched t m first re im r bytes₀ bytes
searched t ok m first re im true x bytes₀ bytes b = record { yes = λ q. (read_off t m first re im, read_wanted t m first re im (x.yes refl), b); no = λ q. absurd (true≢false q) }
searched t ok m first re im false x bytes₀ bytes b = record { yes = λ q. absurd (true≢false (sym q)); no = λ q. (unwanted t ok m first re im (x.no refl), b) }
