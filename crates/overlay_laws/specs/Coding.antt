-- Request P14: "encoding the exclusive-or from the exclusive-or of the states gives the exclusive-or of both outputs and both end states", of one code.
use Rattle.std.specs.Prelude.{◌≡◌, List, ℕ}
use Rattle.std.specs.Int.Bits.{bit_xor}
use Rattle.trellis.specs.Code as trellis
use Rattle.trellis.specs.Encoded.{coded_bits, last_state}
use Rattle.overlay_laws.specs.Overlaid.{overlaid}

-- the strings us from the state s and vs from the state r
pub record Overlays (c : trellis.Code) (us vs : List ℕ) (s r : ℕ) : Type 0 where
  pub outputs : coded_bits c (bit_xor s r) (overlaid us vs) ≡ overlaid (coded_bits c s us) (coded_bits c r vs)
  pub end : last_state c (bit_xor s r) (overlaid us vs) ≡ bit_xor (last_state c s us) (last_state c r vs)
