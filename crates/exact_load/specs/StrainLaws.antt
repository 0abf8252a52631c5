-- P10: "A received frame within a load's margins, decoded as demand 3 says, has every count zero": a known start and the scale 8.
use Rattle.std.specs.Prelude.{◌≡◌, refl, Bool, true, false, List, [], ◌∷◌, ◌++◌, ℕ, zero, suc, ◌+◌, ◌<◌, get_or, replicate, Float}
use Rattle.std.proofs.Common.{sym, ◌∙◌, ap, arith}
use Rattle.std.proofs.lemmas.List.{replicate-append-replicate}
use Rattle.std.specs.Float.{nan, binary32}
use Rattle.std.specs.Float.Ieee.{lt, of_bits}
use Rattle.ieee.specs.Order.{lt→value, le→value}
use Rattle.trellis.specs.Lists.{upto}
use Rattle.trellis.specs.Code.{state_at, isdb}
use Rattle.path_lead.specs.Favour.{Favour}
use Rattle.path_lead.specs.Ties.{false_of}
use Rattle.isdbs_tables.specs.declared.Table.{Table}
use Rattle.isdbs_tables.specs.Tables.{TableAccepted}
use Rattle.isdbs_plan.specs.RunsOf.{valid_total, frame_steps, load_bytes}
use Rattle.isdbs_points.specs.declared.Mapping.{Mapping}
use Rattle.isdbs_points.specs.Frame.{inputs, label_at, start_state}
use Rattle.isdbs_metrics.specs.Reading.{Received, metrics_at, decoded_bits, decoded_bytes, received}
use Rattle.isdbs_points.specs.Layout.{FullLoad}
use Rattle.margins.specs.Margins.{Within}
use Rattle.strain_marks.specs.Strain.{strained_by, strained, strain_of, strain_counts, strain_sum}
use Rattle.strain_marks.proofs.StrainLaws.{none_above, strain_none, strain_of_none}
use Rattle.isdbs_points.specs.InputLaws.{label_alike}
use Rattle.exact_load.specs.Steps.{step_favours}
use Rattle.exact_load.specs.Exact.{sent_bits, decoded_load}
use Rattle.margin_ends.specs.Ends.{eight}
use Rattle.trellis.proofs.RunLaws.{label_under}

-- at a step that favours the pair c, none of the metrics is strictly greater than that of c
favour_unstrained : (m : List Float) (c : ℕ) → c < 4 → Favour m c → strained_by m c ≡ false
favour_unstrained m c C f =
    none_above m c 4
    (λ l L. false_of (lt (get_or m c nan) (get_or m l nan))
    (λ b.
    let a = lt→value binary32 (get_or m c nan) (get_or m l nan) (f.numbers c C) (f.numbers l L) b in
    let d = le→value binary32 (get_or m l nan) (get_or m c nan) (f.numbers l L) (f.numbers c C) (f.best l L) in
    omega arith))

zeros : (f : ℕ → ℕ) (n : ℕ) → ((i : ℕ) → i < n → f i ≡ 0) → upto f n ≡ replicate n 0
unfolding upto
zeros f zero h = refl
zeros f (suc n) h = let e : n + 1 ≡ suc n = omega arith in rw (zeros f n (λ i l. h i (omega arith)), h n (omega arith)) (replicate-append-replicate n 1 0 ∙ ap (λ (k : ℕ). replicate k 0) e)

module _ (t : Table) (fit : TableAccepted t) (m : Mapping) (first : Bool) (load : List ℕ) (re im : List Float) (within : Within re im load t m first) where
  unstrained : (k : ℕ) → k < frame_steps t → strained t (received re im m eight) true first k ≡ false
  unstrained k l =
      let us = decoded_bits t (received re im m eight) true first in
      let e : label_at (start_state first) us k ≡ label_at (start_state first) (inputs t load) k =
      label_alike (start_state first) us (inputs t load) (frame_steps t) (sent_bits t fit m first load re im within) k l in
      rw e (favour_unstrained (metrics_at t (received re im m eight) k) (label_at (start_state first) (inputs t load) k) (label_under isdb (get_or (inputs t load) k 0) (state_at 32 (start_state first) (inputs t load) k)) (step_favours t fit m first load re im within k l))

  -- every count is zero, and so is their sum
  pub zero_counts : strain_counts t (received re im m eight) true first ≡ replicate (valid_total t) 0
  zero_counts = zeros (strain_of t (received re im m eight) true first) (valid_total t) (strain_of_none t (received re im m eight) true first unstrained)

  pub zero_sum : strain_sum t (received re im m eight) true first ≡ 0
  zero_sum = strain_none t (received re im m eight) true first unstrained

-- what decoding gives of a frame r within the margins of a full load: the load, and no strain
pub record DecodedExactly (t : Table) (r : Received) (first : Bool) (load : List ℕ) : Type 0 where
  pub bytes_are : decoded_bytes t r true first ≡ load
  pub counts_are : strain_counts t r true first ≡ replicate (valid_total t) 0
  pub sum_is : strain_sum t r true first ≡ 0

-- THE THEOREM about the whole frame: demand 3, and "every count zero"
pub decoded_exactly : (t : Table) → TableAccepted t → (m : Mapping) (first : Bool) (load : List ℕ) → FullLoad load (load_bytes t) → (re im : List Float)
    → Within re im load t m first → DecodedExactly t (record { re = re; im = im; mapping = m; scale = λ c. of_bits binary32 0x4100_0000 }) first load
decoded_exactly t fit m first load full re im within = record {
  bytes_are = decoded_load t fit m first load full re im within;
  counts_are = zero_counts t fit m first load re im within;
  sum_is = zero_sum t fit m first load re im within;
}
