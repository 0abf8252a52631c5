-- A code from its three numbers, and what a call leaves of a decoder that C lends.
use Rattle.std.specs.Prelude.{List, ℕ, take, Float}
use Rattle.trellis.specs.Step.{traced}
use Rattle.trellis.specs.Run.{Decoder}
use Rattle.isdb_fec.specs.declared.conv.ViterbiDecoder.{ViterbiDecoder}
use Rattle.c_decoder.specs.Decoders as lent
use Rattle.c_decoder.specs.Decoders.{Emitted}
use Rattle.short_code.specs.declared.Code.{Code}
use Rattle.short_code.specs.Codes.{half_of}
use Rattle.short_fec.specs.Calls.{over}

abbrev pub code_from : ℕ → ℕ → ℕ → Code
code_from constraint g1 g2 = record { constraint = constraint; g1 = g1; g2 = g2 }

-- what a call leaves in the lent path values, counts and slices: the decoder d where it accepts, its path values over the first of the 64, else what was there
abbrev pub Stored : ℕ → ℕ → Decoder → List Float → List Float → ℕ → ℕ → ℕ → ℕ → List ℕ → List ℕ → List ℕ → List ℕ → Type 0
Stored answer tb d pm₀ = lent.Stored answer tb (over pm₀ d) pm₀

-- what a flush leaves that traces from the state s
abbrev pub Traced : Code → ℕ → ℕ → ViterbiDecoder → List Float → ℕ → ℕ → ℕ → List ℕ → List ℕ → List ℕ → List ℕ → Type 0
Traced c s answer v pm held count₀ count decisions₀ = Emitted (traced (half_of c) (take v.held decisions₀) s) answer v pm held count₀ count decisions₀
