-- The places of a planned frame: where it starts, where its runs end, and the points there.
use Rattle.std.specs.Prelude.{◌≡◌, ℕ, ◌+◌, ◌-◌, ◌*◌, ◌<◌, ◌≤◌, length, get_or, take}
use Rattle.std.proofs.Math.Path.{refl, ap}
use Rattle.std.proofs.Common.{sym, ◌∙◌, arith}
use mathlib.Core.List.{List}
use Rattle.trellis.specs.Code.{state_at}
use Rattle.trellis.specs.Isdb
use Rattle.isdbs_combination.specs.declared.Combination.{Combination}
use Rattle.isdbs_plan.specs.declared.Run.{Run}
use Rattle.isdbs_plan.specs.declared.Plan.{Plan}
use Rattle.isdbs_plan.specs.RunsOf.{runs_of, Planned, no_run}
use Rattle.isdbs_points.specs.declared.Cplx.{Cplx}
use Rattle.isdbs_points.specs.declared.Mapping.{Mapping}
use Rattle.isdbs_points.specs.Points.{zero64, unused, conjugated}
use Rattle.isdbs_points.specs.Layout.{segments_from}
use Rattle.isdbs_points.specs.Frame.{inputs, point_at}
use Rattle.isdbs_points.specs.PlaceLaws.{before, before_zero}
use Rattle.encode_main.specs.Encoding.{symbols_of, inputs_of, point_of, Tiled}
use Rattle.encode_main.specs.RunLaws.{symbols_at, steps_at, bits_at, length_segments}
use Rattle.encode_main.specs.TableLaws.{table_tiled, runs_count, runs_front, past}
use Rattle.encode_blocks.specs.Blocks.{start_place, Here, step_at}
use Rattle.encode_blocks.specs.PlaceLaws.{facts}
use Rattle.encode_blocks.specs.declared.Place.{Place}

module _ (p : Plan) (planned : Planned p) where
  abbrev rs : List Run
  rs = take p.count p.runs

  pub runs_length : length rs ≡ p.count
  runs_length = ap length (runs_front p planned) ∙ sym (runs_count p planned)

  pub runs_tiled : Tiled rs
  runs_tiled = rw (runs_front p planned) (table_tiled p.table planned.accepted)

  -- the start
  pub here_start : (s : ℕ) → s < Isdb.states → Here p.runs p.count (start_place s)
  here_start s small =
      let f = facts (get_or p.runs 0 no_run).combination in
      let segs = segments_from rs 0 0 in
      let bits : bits_at rs 0 ≡ 0 = before_zero (λ g. g.bits) segs in
      let symbols : symbols_at rs 0 ≡ 0 = before_zero (λ g. g.symbols) segs in
      record {
        few = omega arith;
        small = small;
        eights = refl;
        whole = f.none;
        within = omega arith;
        byte = refl;
        bit_is = omega (arith, bits, f.bits_none);
        bit_few = omega arith;
        symbol_is = omega (arith, symbols, f.no_symbols);
        fits = omega arith;
        last = λ e. refl;
      }

  pub state_start : (load : List ℕ) (s : ℕ) → s ≡ state_at Isdb.half s (inputs_of rs load) (step_at p.runs p.count (start_place s))
  unfolding state_at
  state_start load s =
      let steps : steps_at rs 0 + 0 ≡ 0 = omega (arith, before_zero (λ g. g.steps) (segments_from rs 0 0)) in
      rw steps refl

  -- the end of the runs
  pub end_symbol : (at : Place) → Here p.runs p.count at → p.count ≤ at.run → at.symbol ≡ symbols_of (runs_of p.table)
  end_symbol at hr h =
      let c = (get_or p.runs at.run no_run).combination in
      let e : at.run ≡ p.count = omega (arith, hr.few, h) in
      let z = (facts c).no_symbols in
      let l : at.run ≡ length (segments_from rs 0 0) = e ∙ sym (length_segments rs 0 0 ∙ runs_length) in
      hr.symbol_is ∙ rw (hr.last e, z) (omega (arith, ap (λ (k : ℕ). symbols_at rs k) l)) ∙ ap symbols_of (runs_front p planned)

  -- the points of the runs, and those past them
  module _ (m : Mapping) (load : List ℕ) (s : ℕ) where
    pub point_is : (k : ℕ) → point_of rs m load s k ≡ point_at p.table m load s k
    unfolding point_at point_of inputs
    point_is k = ap (λ (l : List Run). point_of l m load s k) (runs_front p planned)

    pub point_past : (at : Place) → Here p.runs p.count at → p.count ≤ at.run → (k : ℕ) → at.symbol ≤ k
        → point_at p.table m load s k ≡ record { re = zero64; im = conjugated m.conjugate zero64 }
    point_past at hr h k l = past p.table m load s (table_tiled p.table planned.accepted) k (omega (arith, end_symbol at hr h, l))
