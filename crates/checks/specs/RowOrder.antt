-- "The first row that holds, from the top, gives the number returned": the rows of every call stand in the table's order.
use Rattle.std.specs.Prelude.{Bool, true, false, cond, List, [], ◌∷◌, ◌++◌, ℕ, T, Float, None}
use Rattle.refusal.specs.Rows.{Row, from_top}
use Rattle.isdb_fec.specs.declared.conv.ViterbiDecoder.{ViterbiDecoder}
use Rattle.isdb_fec.specs.Rows.{encoder_rows, fresh_rows, handed_rows, stream_rest, push_rows, push_metrics_rows, push_known_rows, flush_rows, reading_rows}
use Rattle.isdbt_table.specs.declared.CodeRate.{CodeRate}
use Rattle.isdbt_rows.specs.Rows as isdbt
use Rattle.isdbs_tables.specs.declared.Table.{Table}
use Rattle.isdbs_frame.specs.Frame.{main_rows, burst_rows}
use Rattle.isdbs_core.specs.Symbols.{bit_rows}
use Rattle.isdbs_tables.specs.Tables.{table_rows}
use Rattle.isdbs_slot_part.specs.SlotPart.{slot_part_rows}
use Rattle.isdbs_phy.specs.EncodeRows.{encode_rows, encode_frame_rows}
use Rattle.isdbs_phy.specs.DecodeRows.{decode_rows, one_scale_rows}
use Rattle.known_end.specs.Calls.{between_rows}
use Rattle.short_code.specs.declared.Code.{Code}
use Rattle.short_fec.specs.Rows as short
use Rattle.short_best.specs.Readings as short-best
use Rattle.overlay_parts.specs.Rows.{string_rows, overlay_rows}
use Rattle.full_frame_parts.specs.declared.Input.{Input}
use Rattle.full_frame_parts.specs.Rows.{lay_rows, take_rows}
use Rattle.full_frame_trips.specs.Rows.{lay_take_rows, take_lay_rows}
use Rattle.wanted_load.specs.Rows.{wanted_rows}
use Rattle.judge.specs.Rows.{judge_rows}
use Rattle.quality.specs.Rows.{quality_rows}
use Rattle.best_frame.specs.declared.Lengths.{Lengths}
use Rattle.best_frame.specs.BestRows.{best_rows, last_rows}
use Rattle.c_scales.specs.Scales.{with_scales}
use Rattle.isdbs_rows.specs.DecodeRows.{point_rows}
use Rattle.header_align.specs.Align.{align_rows}
use Rattle.c_header.specs.Calls.{header_rows}
use Rattle.mend.specs.Rows.{mend_rows}
use Rattle.strain_window.specs.declared.WindowState.{WindowState}
use Rattle.strain_window.specs.Rows as window
use Rattle.c_table.specs.Rows.{places_rows, bit_symbol_rows}
use Rattle.c_answers.specs.Lengths.{with_states}
use Rattle.c_frame.specs.Lengths.{scales_rows}
use Rattle.c_isdbt.specs.Rates.{rate_rows}
use Rattle.trellis.specs.Lists.{first_place}

abbrev pub each_from_top : List (List Row) → Bool
each_from_top [] = true
each_from_top (rows ∷ lists) = cond (from_top rows) (each_from_top lists) false

-- what the calls are lent
module _ (t : Table) (v : ViterbiDecoder) (c : Code) (w : WindowState) (n : Lengths) (parts : Input → List Float) (rate : CodeRate) (xs re im : List Float) (scale : Float) (bytes : List ℕ) (i j k l : ℕ) where
  -- every row list of a call
  abbrev pub row_lists : List (List Row)
  row_lists =
      -- isdb_fec: `branch_output` and `ConvEncoder::push`; `new`, `with_state`, `new_unknown_state`; a handed state; the calls, `flush_at` by the rows of `flush`
      encoder_rows i
      ∷ fresh_rows i
      ∷ handed_rows v
      ∷ push_rows v xs i j
      ∷ push_metrics_rows v xs i j
      ∷ push_known_rows v i j k
      ∷ flush_rows v i j
      -- range_calls: `push_fresh`, whose state is never refused
      ∷ stream_rest 2 v xs i j
      -- isdbt_fec
      ∷ isdbt.encode_rows rate i j k
      ∷ isdbt.depuncture_rows rate i j
      ∷ isdbt.decode_rows rate xs i j k
      -- isdbs_core: positions; `runs`, `slot_combinations`, `slot_byte_symbol`; `slot_part`
      ∷ main_rows i
      ∷ burst_rows i j
      ∷ bit_rows i
      ∷ table_rows t
      ∷ slot_part_rows bytes t i
      -- isdbs_phy
      ∷ encode_rows t i j k
      ∷ encode_frame_rows t i j
      ∷ decode_rows t re im xs i j k l
      ∷ one_scale_rows t re im scale i j k l
      -- best_reading
      ∷ reading_rows xs i j
      -- known_end
      ∷ between_rows i xs j k
      -- short_fec: a code; the encoder's bit, and the list of short_encode; a fresh decoder; the calls
      ∷ short.code_rows c
      ∷ short.encoder_rows c i
      ∷ short.encode_rows c i j k
      ∷ short.fresh_rows c i
      ∷ short.stream_rows c 2 v xs i j
      ∷ short.stream_rows c 4 v xs i j
      ∷ short.known_rows c v i j k
      ∷ short.flush_rows c v i j
      -- short_best
      ∷ short-best.reading_rows c xs i j
      -- overlay
      ∷ string_rows i j k
      ∷ overlay_rows c i j k l i j k l
      -- full_frame
      ∷ lay_rows parts parts re im
      ∷ take_rows re im parts parts
      -- full_frame_trips
      ∷ lay_take_rows parts parts re im parts parts
      ∷ take_lay_rows re im parts parts re im
      -- wanted_load: a load encodes to the frame, or none does
      ∷ wanted_rows t i j k false
      ∷ wanted_rows t i j k true
      -- judge
      ∷ judge_rows t i re im j
      -- quality
      ∷ quality_rows t i re im j
      -- best_frame
      ∷ best_rows t re im xs n
      -- header_find: `header_at`, `find_frame`; header_align
      ∷ header_rows re im i
      ∷ align_rows re im i xs xs
      -- strain_window
      ∷ window.push_rows w i bytes
      -- mend: a coded stretch lies within four bits, or none does
      ∷ mend_rows bytes i j k false
      ∷ mend_rows bytes i j k true
      -- c_frame: the lists of its own
      ∷ places_rows t i j
      ∷ bit_symbol_rows i j
      -- with a row 5 for path values that are not 64
      ∷ with_states xs (push_rows v xs i j)
      ∷ with_states xs (push_metrics_rows v xs i j)
      ∷ with_states xs (push_known_rows v i j k)
      ∷ with_states xs (flush_rows v i j)
      -- and the same of c_short
      ∷ with_states xs (short.stream_rows c 2 v xs i j)
      ∷ with_states xs (short.stream_rows c 4 v xs i j)
      ∷ with_states xs (short.known_rows c v i j k)
      ∷ with_states xs (short.flush_rows c v i j)
      -- with a row 5 for scales that are not seven
      ∷ scales_rows t re im xs i j k l
      ∷ with_scales t xs (point_rows re im ++ last_rows t xs n)
      -- with a rate that is unknown: where it is known, they are those of isdbt_fec
      ∷ rate_rows (encoder_rows i) None (λ c. isdbt.encode_rows c i j k)
      ∷ rate_rows [] None (λ c. isdbt.depuncture_rows c i j)
      ∷ rate_rows (fresh_rows i) None (λ c. isdbt.decode_rows c xs i j k)
      ∷ []

  pub all_from_top : T (each_from_top row_lists)
  unfolding table_rows first_place
  all_from_top = tt
