-- What is counted block by block over the frame of a load is the verdict's.
use mathlib.Core.Path.{◌≡◌, ◌∙◌, ap, subst}
use mathlib.Core.Bool.{Bool, true, false}
use mathlib.Core.List.{List}
use Prim.Native.Nat.{ℕ, ◌+◌, ◌-◌, ◌<◌, ◌≤◌}
use native.Mathlib.Omega.{arith}
use lib.ListN.{length, get_or, take, replicate, length-append, length-replicate}
use lib.Ieee.{Float, nan}
use Rattle.trellis.specs.Lists.{upto, laid, padded}
use Rattle.trellis.specs.LaidLaws.{laid_at, length_laid_upto}
use Rattle.isdbs_plan.specs.declared.Plan.{Plan}
use Rattle.isdbs_plan.specs.declared.Run.{Run}
use Rattle.isdbs_tables.specs.declared.Table.{Table}
use Rattle.isdbs_frame.specs.Frame.{main_symbols}
use Rattle.isdbs_combination.specs.Combinations.{frame_slots, modulation_of}
use Rattle.isdbs_plan.specs.RunsOf.{Planned, runs_of, no_run}
use Rattle.isdbs_points.specs.declared.Cplx.{Cplx}
use Rattle.isdbs_points.specs.declared.Mapping.{Mapping}
use Rattle.isdbs_points.specs.Points.{zero64}
use Rattle.isdbs_points.specs.Layout.{Segment, segments_from, at_symbol}
use Rattle.isdbs_points.specs.PlaceLaws.{among_past}
use Rattle.isdbs_points.specs.Frame.{point_at, start_state}
use Rattle.encode_main.specs.Encoding.{symbols_of, point_of}
use Rattle.encode_main.specs.TableLaws.{table_tiled}
use Rattle.encode_blocks.specs.declared.Place.{Place}
use Rattle.encode_blocks.specs.Blocks.{Here, BlockMade}
use Rattle.encode_blocks.specs.FrameLaws.{point_is, end_symbol}
use Rattle.margins.specs.Margins.{is_bpsk}
use Rattle.judge_points.specs.Outside.{outside}
use Rattle.judge_points.specs.Given.{outside_given, given_at, Counted}
use Rattle.judge_points.proofs.GivenLaws.{counted_same, counted_both, counts_few, outside_is, outside_free, counts_are, sum_is}
use Rattle.judge.specs.Judged.{CountsLaid}

module _ (p : Plan) (planned : Planned p) where
  pub runs_are : p.runs ≡ padded 4 no_run (runs_of p.table)
  runs_are = ap (λ (z : Plan). z.runs) planned.is

  pub four_runs : length p.runs ≡ 4
  four_runs =
      let n : p.count ≡ length (runs_of p.table) = ap (λ (z : Plan). z.count) planned.is in
      let h = planned.few in
      ap length runs_are ∙ length-append (runs_of p.table) (replicate (4 - length (runs_of p.table)) no_run)
      ∙ rw (length-replicate (4 - length (runs_of p.table)) no_run) (omega arith)

  -- ---- block after block
  module _ (m : Mapping) (first : Bool) (re im : List Float) (load : List ℕ) where
    abbrev t : Table
    t = p.table

    abbrev s : ℕ
    s = start_state first

    abbrev point : ℕ → Cplx
    point = point_at t m load s

    abbrev pub out : ℕ → Bool
    out = outside re im load t m first

    abbrev pub cleared : List ℕ → List ℕ
    cleared counts = laid (upto (λ _. 0) frame_slots) counts

    -- no count is above the number of points counted
    pub counts_below : (counts₀ counts : List ℕ) (n sum : ℕ) → Counted out 0 n (cleared counts₀) counts sum → (j : ℕ) → j < frame_slots → get_or counts j 0 ≤ n
    counts_below counts₀ counts n sum w j l =
        omega (arith, counts_few out 0 n (cleared counts₀) counts sum 0 w (λ i h. omega (arith, laid_at 0 (λ _. 0) frame_slots counts₀ i h)) j l)

    -- the points from number `from` on, counted over clean parts of which each says the same as the frame's
    module _ (from n : ℕ) (xs ys : List Float) (same : (i : ℕ) → i < n → outside_given (padded 4 no_run (runs_of t)) (get_or xs i zero64) (get_or ys i zero64) (get_or re (from + i) nan) (get_or im (from + i) nan) (from + i) ≡ out (from + i)) where
      further : (counts₀ counts₁ counts : List ℕ) (sum₁ sum : ℕ) → Counted out 0 from counts₀ counts₁ sum₁ → Counted (given_at p.runs xs ys re im from) from n counts₁ counts sum → Counted out 0 (from + n) counts₀ counts (sum₁ + sum)
      further counts₀ counts₁ counts sum₁ sum v w =
          let here : (i : ℕ) → from + i - from ≡ i = λ i. omega arith in
          counted_both out from n counts₀ counts₁ counts sum₁ sum v
          (counted_same (given_at p.runs xs ys re im from) out from n counts₁ counts sum
          (λ i l.
          ap (λ (z : List Run). given_at z xs ys re im from (from + i)) runs_are
          ∙ ap (λ (k : ℕ). outside_given (padded 4 no_run (runs_of t)) (get_or xs k zero64) (get_or ys k zero64) (get_or re (from + i) nan) (get_or im (from + i) nan) (from + i)) (here i)
          ∙ same i l)
          w)

    -- a block
    module _ (at r : Place) (xs₀ xs ys₀ ys : List Float) (w : BlockMade p.runs p.count m load s at r xs₀ xs ys₀ ys) (on : at.symbol ≤ r.symbol) where
      abbrev n : ℕ
      n = r.symbol - at.symbol

      xs_at : (j : ℕ) → j < n → get_or xs j zero64 ≡ (point (at.symbol + j)).re
      xs_at j h =
          ap (λ (x : List Float). get_or x j zero64) w.re_is ∙ laid_at zero64 (λ i. (point_of (take p.count p.runs) m load s (at.symbol + i)).re) n xs₀ j h
          ∙ ap (λ (z : Cplx). z.re) (point_is p planned m load s (at.symbol + j))

      ys_at : (j : ℕ) → j < n → get_or ys j zero64 ≡ (point (at.symbol + j)).im
      ys_at j h =
          ap (λ (x : List Float). get_or x j zero64) w.im_is ∙ laid_at zero64 (λ i. (point_of (take p.count p.runs) m load s (at.symbol + i)).im) n ys₀ j h
          ∙ ap (λ (z : Cplx). z.im) (point_is p planned m load s (at.symbol + j))

      -- it fits into what is lent
      pub block_sizes : n ≤ length xs₀ → n ≤ length ys₀ → (length xs ≡ length xs₀) × (length ys ≡ length ys₀)
      block_sizes hx hy = (
        ap length w.re_is ∙ length_laid_upto (λ i. (point_of (take p.count p.runs) m load s (at.symbol + i)).re) n xs₀ hx,
        ap length w.im_is ∙ length_laid_upto (λ i. (point_of (take p.count p.runs) m load s (at.symbol + i)).im) n ys₀ hy,
      )

      pub block_counted : (counts₀ counts₁ counts : List ℕ) (sum₁ sum : ℕ) → Counted out 0 at.symbol counts₀ counts₁ sum₁ → Counted (given_at p.runs xs ys re im at.symbol) at.symbol n counts₁ counts sum → Counted out 0 r.symbol counts₀ counts (sum₁ + sum)
      block_counted counts₀ counts₁ counts sum₁ sum v c =
          let all : at.symbol + n ≡ r.symbol = omega arith in
          subst (λ (k : ℕ). Counted out 0 k counts₀ counts (sum₁ + sum)) all
          (further at.symbol n xs ys (λ i l. outside_is re im load t m first (at.symbol + i) (get_or xs i zero64) (get_or ys i zero64) (xs_at i l) (ys_at i l)) counts₀ counts₁ counts sum₁ sum v c)

    -- the points past the runs
    module _ (at : Place) (hr : Here p.runs p.count at) (past : p.count ≤ at.run) (xs ys : List Float) where
      free : {A : Type 0} (none : A) (f : Segment → ℕ → A) (k : ℕ) → at.symbol ≤ k → at_symbol none f t k ≡ none
      free none f k l = among_past (λ g. g.symbol) (λ g. g.symbols) none f (segments_from (runs_of t) 0 0) 0 (symbols_of (runs_of t)) (table_tiled t planned.accepted).fill k (omega (arith, end_symbol p planned at hr past, l))

      pub rest_counted : (counts₀ counts₁ counts : List ℕ) (sum₁ sum : ℕ) → frame_slots ≤ length counts₀ → Counted out 0 at.symbol (cleared counts₀) counts₁ sum₁
          → Counted (given_at p.runs xs ys re im at.symbol) at.symbol (main_symbols - at.symbol) counts₁ counts sum → CountsLaid re im load t m first counts₀ counts (sum₁ + sum)
      rest_counted counts₀ counts₁ counts sum₁ sum room v c =
          let all : at.symbol + (main_symbols - at.symbol) ≡ main_symbols = omega (arith, hr.fits) in
          let w = subst (λ (k : ℕ). Counted out 0 k (cleared counts₀) counts (sum₁ + sum)) all
          (further at.symbol (main_symbols - at.symbol) xs ys
          (λ i l. outside_free re im load t m first (at.symbol + i) (get_or xs i zero64) (get_or ys i zero64) (free true (λ g j. false) (at.symbol + i) (omega arith)) (free true (λ g j. is_bpsk (modulation_of g.combination)) (at.symbol + i) (omega arith)))
          (cleared counts₀) counts₁ counts sum₁ sum v c) in
          record { counts_are = counts_are re im load t m first counts₀ counts (sum₁ + sum) room w; sum_is = sum_is re im load t m first counts₀ counts (sum₁ + sum) room w }
