-- What is counted by the marks of a frame is its strain.
use mathlib.Core.Path.{◌≡◌, sym, ◌∙◌, ap}
use mathlib.Core.Bool.{Bool}
use mathlib.Core.List.{List}
use Prim.Native.Nat.{ℕ, ◌+◌, ◌-◌, ◌<◌}
use native.Mathlib.Omega.{arith}
use lib.ListN.{length, get_or, take, drop, get_or-append}
use Rattle.trellis.specs.Lists.{upto, laid, bit}
use Rattle.trellis.specs.ListLaws.{length_upto, get_d_upto}
use Rattle.isdbs_plan.specs.declared.Plan.{Plan}
use Rattle.isdbs_tables.specs.declared.Table.{Table}
use Rattle.isdbs_tables.specs.Tables.{TableAccepted}
use Rattle.isdbs_plan.specs.RunsOf.{frame_steps, valid_total, Planned}
use Rattle.isdbs_points.specs.Frame.{start_state}
use Rattle.trellis.specs.LaidLaws.{upto_cong}
use Rattle.isdbs_metrics.specs.Reading.{Received, decoded_bits}
use Rattle.decode_main.specs.DecodedLaws.{decoded_count, decoded_from}
use Rattle.isdbs_metrics.specs.FrameRunLaws.{front_is}
use Rattle.strain_marks.specs.Counts.{summed}
use Rattle.strain_marks.specs.CountsLaws.{summed_same}
use Rattle.strain_marks.proofs.SlotsLaws.{by_slot_same}
use Rattle.strain_marks.specs.Strain.{strained, strain_of, StrainLaid}
use Rattle.strain_marks.specs.Marks.{frame_mark, marked}
use Rattle.strain_marks.proofs.MarksLaws.{marked_is}
use Rattle.decode_strain.specs.Pieces.{frame_strain}
use Rattle.decode_main.specs.Final.{final_bits, FrameCounted}

pub steps_are : (p : Plan) → Planned p → p.steps ≡ frame_steps p.table
steps_are p h = ap (λ (z : Plan). z.steps) h.is

-- the lent bits begin with the decoded ones
pub front : (p : Plan) (r : Received) (knownStart first : Bool) (bits bits₀ : List ℕ) → Planned p → bits ≡ laid (decoded_bits p.table r knownStart first) bits₀
    → take (p.steps + 16 - 0) bits ≡ decoded_bits p.table r knownStart first
front p r knownStart first bits bits₀ h e =
    let n = decoded_count p.table r knownStart first in
    let q = steps_are p h in
    front_is bits (decoded_bits p.table r knownStart first) bits₀ (p.steps + 16 - 0) e (omega arith)

-- they are the final ones
pub final_is : (t : Table) (r : Received) (knownStart first : Bool) → decoded_bits t r knownStart first ≡ final_bits t r knownStart first
final_is t r knownStart first = decoded_from t r knownStart first

laid_at : (f : ℕ → ℕ) (n : ℕ) (l : List ℕ) (i : ℕ) → i < n → get_or (laid (upto f n) l) i 0 ≡ f i
laid_at f n l i h =
    let e : length (upto f n) ≡ n = length_upto f n in
    get_or-append (upto f n) (drop (length (upto f n)) l) 0 i (omega arith) ∙ get_d_upto f 0 n i h

-- the lent marks begin with the frame's
pub marks_are : (t : Table) (r : Received) (ms marks₀ : List ℕ) → ms ≡ laid (upto (frame_mark t r) (frame_steps t)) marks₀ → (k : ℕ) → k < frame_steps t → get_or ms k 0 ≡ frame_mark t r k
marks_are t r ms marks₀ e k l = rw e (laid_at (frame_mark t r) (frame_steps t) marks₀ k l)

module _ (t : Table) (r : Received) (knownStart first : Bool) (fit : TableAccepted t) (ms : List ℕ) where
  -- slot by slot
  strain_is : ((k : ℕ) → k < frame_steps t → get_or ms k 0 ≡ frame_mark t r k)
      → (j : ℕ) → j < valid_total t → frame_strain t ms (start_state first) (decoded_bits t r knownStart first) j ≡ strain_of t r knownStart first j
  strain_is M =
      by_slot_same t fit (marked ms (start_state first) (decoded_bits t r knownStart first)) (λ k. bit (strained t r knownStart first k))
      (λ k l. marked_is t r (start_state first) (decoded_bits t r knownStart first) ms k (M k l))

  pub strain_laid : (counts₀ counts : List ℕ) (sum : ℕ) → FrameCounted t r knownStart first ms counts₀ counts sum → StrainLaid t r knownStart first counts₀ counts sum
  strain_laid counts₀ counts sum k =
      let us = decoded_bits t r knownStart first in
      let e : final_bits t r knownStart first ≡ us = sym (final_is t r knownStart first) in
      let f = frame_strain t ms (start_state first) us in
      let g = strain_of t r knownStart first in
      let C : counts ≡ laid (upto f (valid_total t)) counts₀ = rw e at k.counts_are in
      let S : sum ≡ summed f (valid_total t) = rw e at k.sum_is in
      record {
        counts_are = C ∙ ap (λ (z : List ℕ). laid z counts₀) (upto_cong f g (valid_total t) (strain_is k.marks_are));
        sum_is = S ∙ summed_same f g (valid_total t) (strain_is k.marks_are);
      }
