-- Demand 3 about the call `decode_frame`: from its contract and the margins alone.
use Rattle.std.specs.Prelude.{◌≡◌, refl, Bool, true, false, not, ◌||◌, List, [], ◌∷◌, ◌++◌, ℕ, zero, suc, ◌<◌, T, ltb, length, get_or, drop, replicate, Float, Result}
use Rattle.std.proofs.Common.{◌∙◌, arith, take_at, le-ltb}
use Rattle.std.proofs.lemmas.List.{length-replicate}
use Rattle.std.specs.Float.{nan}
use Rattle.std.specs.Float.Ieee.{lt, of_bits}
use Rattle.refusal.specs.declared.Refusal.{Refusal}
use Rattle.refusal.specs.Rows.{Answer, Scale, Space, first_row, Either}
use Rattle.refusal.proofs.RowLaws.{neither_holds, none_accepted, passed_above, fails}
use Rattle.isdbs_tables.specs.declared.Table.{Table}
use Rattle.isdbs_tables.specs.Tables.{TableAccepted}
use Rattle.isdbs_tables.proofs.TableLaws.{then_rows}
use Rattle.isdbs_plan.specs.RunsOf.{valid_total, load_bytes}
use Rattle.isdbs_points.specs.declared.Mapping.{Mapping}
use Rattle.isdbs_phy.specs.declared.demod.FrameDecoded.{FrameDecoded}
use Rattle.isdbs_phy.specs.DecodeRows.{some_of, part_limit, some_bad, short_space, point_rows, last_rows, decode_rows, frame_said, frame_answer, Kept, FrameLeft, some_of_beyond}
use Rattle.ieee.specs.Within.{within}
use Rattle.strain_marks.specs.Strain.{strain_sum}
use Rattle.isdbs_metrics.specs.ScaleLaws.{equal_scales}
use Rattle.isdbs_metrics.specs.Scales.{received_by}
use Rattle.isdbs_points.specs.Layout.{FullLoad}
use Rattle.margins.specs.Margins.{any_accepted, Within}
use Rattle.exact_load.specs.StrainLaws.{decoded_exactly}
use Rattle.exact_frame.specs.Frames.{re_accepted, im_accepted}
use Rattle.exact_frame.specs.Call.{eights, ReadsBack, exactly, short}
use Rattle.margin_ends.specs.Ends.{eight}
use Rattle.isdbs_frame.specs.Frame.{main_symbols}

none_beyond : (xs : List Float) (n : ℕ) → ((k : ℕ) → k < n → T (any_accepted (get_or xs k nan))) → some_of_beyond part_limit xs n ≡ false
unfolding some_of
none_beyond xs zero h = refl
none_beyond xs (suc n) h = go (some_of_beyond part_limit xs n) (within part_limit (get_or xs n nan)) (none_beyond xs n (λ k l. h k (omega arith))) (h n (omega arith))
  where
    go : (a b : Bool) → a ≡ false → T b → (a || not b) ≡ false
    go true b e t = e
    go false true e t = refl
    go false false e t = absurd t

eights_fine : some_bad eights ≡ false
unfolding some_of of_bits lt
eights_fine = refl

-- within the margins, at the scales 8, only the last row can hold
last_row : (t : Table) → TableAccepted t → (m : Mapping) (first : Bool) (load : List ℕ) (re im : List Float) → Within re im load t m first → (d b y n : ℕ)
    → first_row (decode_rows t re im eights d b y n) ≡ first_row ((Space, short_space t d b y n) ∷ [])
last_row t fit m first load re im w d b y n =
    then_rows t (point_rows re im ++ last_rows t (some_bad eights) d b y n) fit
    ∙ passed_above (point_rows re im) (last_rows t (some_bad eights) d b y n) tt (none_accepted (point_rows re im) (long, (inside, tt)))
    ∙ fails Scale (last_rows t (some_bad eights) d b y n) eights_fine
  where
    long : (ltb (length re) main_symbols || ltb (length im) main_symbols) ≡ false
    long = neither_holds (ltb (length re) main_symbols) (ltb (length im) main_symbols) (le-ltb (length re) main_symbols w.re_count) (le-ltb (length im) main_symbols w.im_count)

    inside : (some_of_beyond part_limit re main_symbols || some_of_beyond part_limit im main_symbols) ≡ false
    inside =
        neither_holds (some_of_beyond part_limit re main_symbols) (some_of_beyond part_limit im main_symbols) (none_beyond re main_symbols (re_accepted w)) (none_beyond im main_symbols (im_accepted w))

-- THE THEOREM about the call: whatever the lent slices held, the load comes back without strain, or a slice is too short
module _ (t : Table) (fit : TableAccepted t) (m : Mapping) (first : Bool) (load : List ℕ) (full : FullLoad load (load_bytes t)) (re im : List Float) (w : Within re im load t m first)
    (decisions₀ decisions bits₀ bits bytes₀ bytes counts₀ counts : List ℕ) (r : Result FrameDecoded Refusal) where
  abbrev a : Answer
  a = first_row (decode_rows t re im eights (length decisions₀) (length bits₀) (length bytes₀) (length counts₀))

  pub read_back : frame_said r ≡ frame_answer a t (strain_sum t (received_by re im m eights) true first)
      → Either a (FrameLeft t (received_by re im m eights) true first decisions₀ decisions bits₀ bits bytes₀ bytes counts₀ counts) (Kept decisions₀ decisions bits₀ bits bytes₀ bytes counts₀ counts)
      → ReadsBack t load (length decisions₀) (length bits₀) (length bytes₀) (length counts₀) r bytes counts
  read_back answers leaves =
      go (short_space t (length decisions₀) (length bits₀) (length bytes₀) (length counts₀)) refl (last_row t fit m first load re im w (length decisions₀) (length bits₀) (length bytes₀) (length counts₀))
    where
      go : (s : Bool) → short_space t (length decisions₀) (length bits₀) (length bytes₀) (length counts₀) ≡ s → a ≡ first_row ((Space, s) ∷ []) → ReadsBack t load (length decisions₀) (length bits₀) (length bytes₀) (length counts₀) r bytes counts
      go true e h = short (rw h at answers) (rw e tt)
      go false e h =
          let f = leaves.0 h in
          let x = decoded_exactly t fit m first load full re im w in
          let n = valid_total t in
          exactly
          (rw (h, equal_scales re im m eight, x.sum_is) at answers)
          (rw (f.read.load, equal_scales re im m eight, x.bytes_are) (take_at load (drop (length load) bytes₀) (load_bytes t) full.size))
          (rw (f.strain, equal_scales re im m eight, x.counts_are) (take_at (replicate n 0) (drop (length (replicate n 0)) counts₀) n (length-replicate n 0)))
