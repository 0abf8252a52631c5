-- The inputs of the frame's code: bits of the load, step by step, and what inputs that begin alike leave.
use Rattle.std.specs.Prelude.{◌≡◌, List, get_or}
use Rattle.std.proofs.Math.Path.{refl}
use Rattle.std.proofs.Common.{◌∙◌, arith}
use Prim.Native.Nat.{ℕ, zero, suc, ◌+◌, ◌<◌, ◌≤◌}
use Rattle.trellis.specs.Code.{state_at}
use Rattle.trellis.specs.ListLaws.{get_d_upto}
use Rattle.isdbs_tables.specs.declared.Table.{Table}
use Rattle.isdbs_combination.specs.Combinations.{modulation_of}
use Rattle.isdbs_plan.specs.RunsOf.{frame_steps}
use Rattle.isdbs_points.specs.Layout.{Segment, segments, at_step, In}
use Rattle.isdbs_points.specs.Frame.{coded, input_in, inputs, label_at}
use Rattle.isdbs_points.specs.SizeLaws.{step_fits, at_step_lem, find_step}
use Rattle.isdbs_points.specs.BitLaws.{load_bit_small}

-- the input of the frame's code at a step of a segment, a bit of the load
pub input_at : (t : Table) (load : List ℕ) (g : Segment) → In g (segments t) → (k : ℕ) → k < g.steps → get_or (inputs t load) (g.step + k) 0 ≡ input_in load g k
unfolding inputs
input_at t load g i k l =
    get_d_upto (at_step 0 (input_in load) t) 0 (frame_steps t) (g.step + k) (step_fits t g i k l) ∙ at_step_lem t 0 (input_in load) g i k l

pub input_small : (t : Table) (load : List ℕ) (k : ℕ) → k < frame_steps t → get_or (inputs t load) k 0 < 2
input_small t load k l =
    let f = find_step t k l in
    let g = f.segment in
    rw (f.place_is, input_at t load g f.member f.place f.small) (load_bit_small load (g.bit + coded (modulation_of g.combination) f.place))

-- ---- inputs that are alike up to n leave the same labels
module _ (s : ℕ) (us vs : List ℕ) (n : ℕ) (same : (i : ℕ) → i < n → get_or us i 0 ≡ get_or vs i 0) where
  state_alike : (k : ℕ) → k ≤ n → state_at 32 s us k ≡ state_at 32 s vs k
  unfolding state_at
  state_alike zero h = refl
  state_alike (suc k) h = rw (same k h, state_alike k (omega arith))

  pub label_alike : (k : ℕ) → k < n → label_at s us k ≡ label_at s vs k
  label_alike k h = rw (same k h, state_alike k (omega arith))
