-- The runs of an accepted table fill its frame.
use Rattle.std.specs.Prelude.{◌≡◌, refl, Bool, true, false, cond, List, [], ◌∷◌, ◌++◌, ℕ, zero, suc, ◌+◌, ◌-◌, ◌*◌, ◌<◌, ◌≤◌, Float, get_or, take, drop, replicate, Option, Some, None}
use Rattle.std.proofs.Math.Path.{sym}
use Rattle.std.proofs.Common.{◌∙◌, ap, not-suc-le-zero, arith}
use Rattle.std.proofs.Math.ListN.{length}
use Rattle.std.proofs.Math.Seq.{take-append_seam}
use Rattle.trellis.specs.Lists.{upto, laid, Each, padded}
use Rattle.isdbs_plan.specs.declared.Run.{Run}
use Rattle.isdbs_plan.specs.declared.Plan.{Plan}
use Rattle.isdbs_tables.specs.declared.Table.{Table}
use Rattle.isdbs_tables.specs.Tables.{TableAccepted}
use Rattle.isdbs_plan.specs.RunsOf.{runs_of, Planned, no_run, RunFits}
use Rattle.isdbs_tables.proofs.TableLaws.{sum_fits}
use Rattle.isdbs_plan.specs.PlanLaws.{table_laid}
use Rattle.isdbs_points.specs.declared.Cplx.{Cplx}
use Rattle.isdbs_points.specs.declared.Mapping.{Mapping}
use Rattle.encode_main.specs.declared.RunsEncoded.{RunsEncoded}
use Rattle.isdbs_points.specs.Points.{zero64, unused, conjugated}
use Rattle.isdbs_points.specs.Layout.{segments_from}
use Rattle.isdbs_points.specs.Frame.{inputs, label_at, point_in, point_at, end_state}
use Rattle.trellis.specs.LaidLaws.{laid_part, length_laid_upto}
use Rattle.isdbs_points.specs.PlaceLaws.{fill_last, among_past}
use Rattle.isdbs_points.specs.SizeLaws.{symbol_sum, fill_symbols, symbol_sum_few, table_whole}
use Rattle.encode_main.specs.Encoding.{symbols_of, inputs_of, point_of, Tiled, RunsMade}
use Rattle.encode_main.specs.Laid.{FrameLaid}
use Rattle.encode_run.specs.PieceLaws.{tail_back}

-- ---- the runs of a table
each_at : (P : Run → Type 0) (l : List Run) (d : Run) (i : ℕ) → Each P l → i < length l → P (get_or l i d)
each_at P [] d i e h = absurd (not-suc-le-zero h)
each_at P (x ∷ l) d zero e h = e.0
each_at P (x ∷ l) d (suc i) e h = each_at P l d i e.1 (omega arith)

pub table_tiled : (t : Table) → TableAccepted t → Tiled (runs_of t)
table_tiled t a =
    let es = t.entries in
    let segs = segments_from (runs_of t) 0 0 in
    let f = fill_symbols es 0 0 0 0 in
    let e : symbols_of (runs_of t) ≡ 0 + symbol_sum es = omega (arith, fill_last (λ g. g.symbol) (λ g. g.symbols) segs 0 (0 + symbol_sum es) f) in
    record {
      fill = rw e f;
      whole = table_whole t a;
      ordered = λ i l. (each_at RunFits (runs_of t) no_run i (table_laid t a).fit l).starts;
      fits = omega (arith, e, symbol_sum_few es, sum_fits t a);
    }

-- ---- the plan of a table
module _ (p : Plan) (planned : Planned p) where
  pub runs_count : p.count ≡ length (runs_of p.table)
  runs_count = ap (λ (z : Plan). z.count) planned.is

  pub runs_front : take p.count p.runs ≡ runs_of p.table
  runs_front = ap (λ (z : Plan). take z.count z.runs) planned.is ∙ take-append_seam (runs_of p.table) (replicate (4 - length (runs_of p.table)) no_run)

-- ---- the whole frame
module _ (t : Table) (m : Mapping) (load : List ℕ) (s : ℕ) (tl : Tiled (runs_of t)) where
  abbrev rs : List Run
  rs = runs_of t

  pub past : (k : ℕ) → symbols_of rs ≤ k → point_at t m load s k ≡ record { re = zero64; im = conjugated m.conjugate zero64 }
  unfolding point_at inputs
  past k h =
      rw (among_past (λ g. g.symbol) (λ g. g.symbols) unused (point_in m load (label_at s (inputs_of rs load))) (segments_from rs 0 0) 0 (symbols_of rs) tl.fill k h)

  module _ {r : RunsEncoded} {re₀ re im₀ im : List Float} (w : RunsMade rs m load s r re₀ re im₀ im) (hr : 38976 ≤ length re₀) (hi : 38976 ≤ length im₀) where
    pub end_small : r.end ≤ 38976
    end_small = omega (arith, w.end_is, tl.fits)

    pub re_length : length re ≡ length re₀
    re_length = ap length w.re_is ∙ length_laid_upto (λ k. (point_of rs m load s k).re) (symbols_of rs) re₀ (omega (arith, tl.fits))

    pub im_length : length im ≡ length im₀
    im_length = ap length w.im_is ∙ length_laid_upto (λ k. (point_of rs m load s k).im) (symbols_of rs) im₀ (omega (arith, tl.fits))

    pub runs_state : r.state ≡ end_state t load s
    unfolding inputs
    runs_state = w.state_is

    -- the points of the runs, then the unused ones
    pub frame_laid : {p q : List Float}
        → p ≡ laid (upto (λ i. zero64) (38976 - r.end)) (take (length re - r.end) (drop r.end re))
        → q ≡ laid (upto (λ i. conjugated m.conjugate zero64) (38976 - r.end)) (take (length im - r.end) (drop r.end im))
        → FrameLaid t m load s re₀ (take r.end re ++ (p ++ drop (length re - r.end) (drop r.end re))) im₀ (take r.end im ++ (q ++ drop (length im - r.end) (drop r.end im)))
    unfolding point_at point_of inputs
    frame_laid ep eq =
        let n = 38976 - symbols_of rs in
        let sum : symbols_of rs + n ≡ 38976 = omega (arith, tl.fits) in
        let lr : r.end ≤ length re = omega (arith, end_small, re_length) in
        let li : r.end ≤ length im = omega (arith, end_small, im_length) in
        record {
          re_is = tail_back r.end re (upto (λ i. zero64) (38976 - r.end)) lr ep
              ∙ rw (w.end_is, w.re_is) (laid_part (λ k. (point_at t m load s k).re) (λ i. zero64) (symbols_of rs) n re₀ (λ i l. sym (ap (λ (z : Cplx). z.re) (past (symbols_of rs + i) (omega arith)))) ∙ rw sum);
          im_is = tail_back r.end im (upto (λ i. conjugated m.conjugate zero64) (38976 - r.end)) li eq
              ∙ rw (w.end_is, w.im_is) (laid_part (λ k. (point_at t m load s k).im) (λ i. conjugated m.conjugate zero64) (symbols_of rs) n im₀ (λ i l. sym (ap (λ (z : Cplx). z.im) (past (symbols_of rs + i) (omega arith)))) ∙ rw sum);
        }
