-- The frame as its runs make it.
use Rattle.std.specs.Prelude.{◌≡◌, List, ℕ, ◌<◌, ◌≤◌, Float, length, get_or}
use Rattle.trellis.specs.Lists.{upto, laid}
use Rattle.trellis.specs.Code.{state_at}
use Rattle.isdbs_plan.specs.declared.Run.{Run}
use Rattle.isdbs_frame.specs.Frame.{main_symbols}
use Rattle.isdbs_plan.specs.RunsOf.{steps_in, no_run}
use Rattle.isdbs_points.specs.declared.Cplx.{Cplx}
use Rattle.isdbs_points.specs.declared.Mapping.{Mapping}
use Rattle.encode_main.specs.declared.RunsEncoded.{RunsEncoded}
use Rattle.isdbs_points.specs.Points.{unused}
use Rattle.isdbs_points.specs.Layout.{Segment, segments_from, among, In}
use Rattle.isdbs_points.specs.Frame.{input_in, label_at, point_in}
use Rattle.isdbs_points.specs.Pieces.{mapped}
use Rattle.isdbs_points.specs.PlaceLaws.{Fill, before}
use Rattle.isdbs_points.specs.SizeLaws.{Whole}
use Rattle.trellis.specs.Isdb

-- ---- the frame as a list of runs makes it: with the runs of a table it is the table's
abbrev pub symbols_of : List Run → ℕ
symbols_of rs = before (λ g. g.symbols) (segments_from rs 0 0) (length (segments_from rs 0 0))

abbrev pub inputs_of : List Run → List ℕ → List ℕ
inputs_of rs load = upto (among (λ g. g.step) (λ g. g.steps) 0 (input_in load) (segments_from rs 0 0)) (steps_in rs)

unfoldable pub point_of : List Run → Mapping → List ℕ → ℕ → ℕ → Cplx
point_of rs m load s k =
    mapped m (among (λ g. g.symbol) (λ g. g.symbols) unused (point_in m load (label_at s (inputs_of rs load))) (segments_from rs 0 0) k)

-- runs in whole units, one after the other from the frame's first symbol on
pub record Tiled (rs : List Run) : Type 0 where
  pub fill : Fill (λ g. g.symbol) (λ g. g.symbols) (segments_from rs 0 0) 0 (symbols_of rs)
  pub whole : (g : Segment) → In g (segments_from rs 0 0) → Whole g
  pub ordered : (i : ℕ) → i < length rs → (get_or rs i no_run).symbol_start ≤ (get_or rs i no_run).symbol_end
  pub fits : symbols_of rs ≤ main_symbols

-- what encoding the runs leaves
pub record RunsMade (rs : List Run) (m : Mapping) (load : List ℕ) (s : ℕ) (r : RunsEncoded) (re₀ re im₀ im : List Float) : Type 0 where
  pub end_is : r.end ≡ symbols_of rs
  pub state_is : r.state ≡ state_at Isdb.half s (inputs_of rs load) (steps_in rs)
  pub re_is : re ≡ laid (upto (λ k. (point_of rs m load s k).re) (symbols_of rs)) re₀
  pub im_is : im ≡ laid (upto (λ k. (point_of rs m load s k).im) (symbols_of rs)) im₀
