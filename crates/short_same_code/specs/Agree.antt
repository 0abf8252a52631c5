-- What two calls have in common that agree. Definitions only.
use Rattle.std.specs.Prelude.{◌≡◌, List, ℕ, Result}
use Rattle.refusal.specs.declared.Refusal.{Refusal}
use Rattle.isdb_fec.specs.declared.conv.ViterbiDecoder.{ViterbiDecoder}
use Rattle.isdb_fec.specs.declared.conv.Pushed.{Pushed}
use Rattle.isdb_fec.specs.declared.conv.Released.{Released}

-- the answer, the state, the count and both lent slices
abbrev pub Agree : Result Released Refusal → Result Released Refusal → List ℕ → List ℕ → List ℕ → List ℕ → Type 0
Agree r r' dec dec' out out' = (r ≡ r') × (dec ≡ dec') × (out ≡ out')

-- of a fresh decoder: the answer and the state
abbrev pub MadeAlike : Result ViterbiDecoder Refusal → Result ViterbiDecoder Refusal → Type 0
MadeAlike r r' = r ≡ r'

-- of one input of the encoder: the answer, both outputs and the state
abbrev pub SentAlike : Result Pushed Refusal → Result Pushed Refusal → Type 0
SentAlike r r' = r ≡ r'
