-- The refusal rows of `decode_frame`. Document 01, "Where a call is turned back".
use Rattle.std.specs.Prelude.{Bool, false, not, ◌||◌, List, [], ◌∷◌, ◌++◌, ℕ, zero, suc, ◌+◌, ltb, length, get_or, Float}
use Rattle.std.specs.Float.{nan, binary32, binary64}
use Rattle.std.specs.Float.Ieee.{lt, of_bits}
use Rattle.refusal.specs.Rows.{Row, Symbols, Sample, Scale, Space}
use Rattle.ieee.specs.Within.{within}
use Rattle.isdbs_tables.specs.declared.Table.{Table}
use Rattle.isdbs_tables.specs.Tables.{table_rows}
use Rattle.isdbs_frame.specs.Frame.{main_symbols, sync_bits}
use Rattle.isdbs_plan.specs.RunsOf.{valid_total, frame_steps, load_bytes}
use Rattle.trellis.specs.Isdb.{frame_words}

-- one of the first n values fails a test
unfoldable pub some_of : (Float → Bool) → List Float → ℕ → Bool
some_of bad xs zero = false
some_of bad xs (suc n) = some_of bad xs n || bad (get_or xs n nan)

-- one of the first n values is "not finite; beyond" the limit
abbrev pub some_of_beyond : Float → List Float → ℕ → Bool
some_of_beyond limit xs n = some_of (λ x. not (within limit x)) xs n

-- "The frame part limit in refusal 7 becomes 65,536 in place of 1,024" (document 02, P8)
abbrev pub part_limit : Float
part_limit = of_bits binary64 0x40f0_0000_0000_0000

-- 8: "not above 0, or above 64"
abbrev pub scale_limit : Float
scale_limit = of_bits binary32 0x4280_0000

abbrev pub bad_scale : Float → Bool
bad_scale s = not (lt (of_bits binary32 0) s) || lt scale_limit s

-- "Refusal 8 now speaks to any of the seven, used or unused" (document 02, P3)
abbrev pub some_bad : List Float → Bool
some_bad scales = some_of bad_scale scales 7

-- 9: "a lent output or decision slice shorter than this call writes; decisions always need 4,096 + traceback".
-- "A count slice shorter than the valid slots falls under 9" (document 02, P10)
abbrev pub short_space : Table → ℕ → ℕ → ℕ → ℕ → Bool
short_space t decisions bits bytes counts = ltb decisions frame_words || (ltb bits (frame_steps t + sync_bits) || (ltb bytes (load_bytes t) || ltb counts (valid_total t)))

-- the rows of the points, then those below them, over row 8's test and the lengths of the lent outputs
abbrev pub point_rows : List Float → List Float → List Row
point_rows re im = (Symbols, ltb (length re) main_symbols || ltb (length im) main_symbols) ∷ (Sample, some_of_beyond part_limit re main_symbols || some_of_beyond part_limit im main_symbols) ∷ []

abbrev pub last_rows : Table → Bool → ℕ → ℕ → ℕ → ℕ → List Row
last_rows t bad decisions bits bytes counts = (Scale, bad) ∷ (Space, short_space t decisions bits bytes counts) ∷ []

abbrev pub frame_rows : Table → List Float → List Float → Bool → ℕ → ℕ → ℕ → ℕ → List Row
frame_rows t re im bad decisions bits bytes counts = table_rows t ++ (point_rows re im ++ last_rows t bad decisions bits bytes counts)

-- the rows of `decode_frame`
abbrev pub decode_rows : Table → List Float → List Float → List Float → ℕ → ℕ → ℕ → ℕ → List Row
decode_rows t re im scales = frame_rows t re im (some_bad scales)

-- the same with one scale
abbrev pub one_scale_rows : Table → List Float → List Float → Float → ℕ → ℕ → ℕ → ℕ → List Row
one_scale_rows t re im scale = frame_rows t re im (bad_scale scale)
