-- What two encodings have in common that agree. Definitions only.
use Rattle.std.specs.Prelude.{◌≡◌, List, ℕ, Result, Ok, Err}
use Rattle.refusal.specs.declared.Refusal.{Refusal}
use Rattle.isdb_fec.specs.declared.conv.ConvEncoder.{ConvEncoder}
use Rattle.isdbt_fec.specs.declared.conv.Encoded as isdbt

-- an encoding's answer, and the encoder after it
abbrev pub encoder_of : Result isdbt.Encoded Refusal → Result ConvEncoder Refusal
encoder_of (Ok r) = Ok r.enc
encoder_of (Err row) = Err row

-- the answer, the state and the output
abbrev pub Alike : Result ConvEncoder Refusal → Result isdbt.Encoded Refusal → List ℕ → List ℕ → Type 0
Alike r r' out out' = (r ≡ encoder_of r') × (out ≡ out')
