-- Document 02, P10, "Strain summary beside the bytes": which steps of a frame are strained, how many in each valid slot, and their sum.
use Rattle.std.specs.Prelude.{◌≡◌, Bool, false, ◌||◌, List, ℕ, zero, suc, get_or, Float}
use Rattle.std.specs.Float.{nan}
use Rattle.std.specs.Float.Ieee.{lt}
use Rattle.trellis.specs.Lists.{upto, laid, bit}
use Rattle.isdbs_tables.specs.declared.Table.{Table}
use Rattle.isdbs_plan.specs.RunsOf.{valid_total}
use Rattle.isdbs_points.specs.Frame.{label_at, start_state}
use Rattle.isdbs_metrics.specs.Reading.{Received, metrics_at, decoded_bits}
use Rattle.strain_marks.specs.Counts.{summed}
use Rattle.strain_marks.specs.Slots.{by_slot}

-- one of the first n metrics of a quadruple is strictly greater than that at c
unfoldable pub some_above : List Float → ℕ → ℕ → Bool
some_above m c zero = false
some_above m c (suc n) = some_above m c n || lt (get_or m c nan) (get_or m n nan)

-- "its quadruple holds a metric strictly greater than the one at the pair of coded bits" c = 2 X + Y
abbrev pub strained_by : List Float → ℕ → Bool
strained_by m c = some_above m c 4

-- step k of a frame whose decoded bits us are encoded again from the state s
abbrev pub strained_at : Table → Received → ℕ → List ℕ → ℕ → Bool
strained_at t r s us k = strained_by (metrics_at t r k) (label_at s us k)

-- "got by encoding the decoded bits again from the start state": also where the start is unknown. k < frameSteps: the known steps have no quadruple
abbrev pub strained : Table → Received → Bool → Bool → ℕ → Bool
strained t r knownStart first = strained_at t r (start_state first) (decoded_bits t r knownStart first)

module _ (t : Table) (r : Received) (knownStart first : Bool) where
  -- "one count per valid slot, 812 steps to a TC8PSK slot and 1,624 to another"
  abbrev pub strain_of : ℕ → ℕ
  strain_of = by_slot t (λ k. bit (strained t r knownStart first k))

  -- all of them, and "their sum"
  abbrev pub strain_counts : List ℕ
  strain_counts = upto strain_of (valid_total t)

  abbrev pub strain_sum : ℕ
  strain_sum = summed strain_of (valid_total t)

-- "Decoding also writes one count per valid slot .. plus their sum": counts past the valid slots are as before
pub record StrainLaid (t : Table) (r : Received) (knownStart first : Bool) (counts₀ counts : List ℕ) (sum : ℕ) : Type 0 where
  pub counts_are : counts ≡ laid (strain_counts t r knownStart first) counts₀
  pub sum_is : sum ≡ strain_sum t r knownStart first
