-- The ends of the margins. Document 01, "A capture enters `decode_frame`": "clean 0 within 1/32; clean 1 from 31/32 to 33/32; clean 1/√2 from 87/128 to 94/128".
use Rattle.std.specs.Prelude.{Float}
use Rattle.std.specs.Float.{binary32, binary64}
use Rattle.std.specs.Float.Ieee.{of_bits}

abbrev pub near0 : Float
near0 = of_bits binary64 0x3fa0_0000_0000_0000

abbrev pub low1 : Float
low1 = of_bits binary64 0x3fef_0000_0000_0000

abbrev pub high1 : Float
high1 = of_bits binary64 0x3ff0_8000_0000_0000

abbrev pub low_root : Float
low_root = of_bits binary64 0x3fe5_c000_0000_0000

abbrev pub high_root : Float
high_root = of_bits binary64 0x3fe7_8000_0000_0000

-- the scale of demand 3, 8.0
abbrev pub eight : Float
eight = of_bits binary32 0x4100_0000
