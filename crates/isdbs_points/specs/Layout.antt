-- Where the symbols, the trellis steps and the load's bits of each run lie in the frame.
use Rattle.isdbs_combination.specs.declared.Puncture.{Puncture}
use Rattle.std.specs.Prelude.{◌≡◌, cond, List, [], ◌∷◌, ℕ, ◌+◌, ◌-◌, ◌*◌, ◌/◌, ◌%◌, ◌^◌, ◌<◌, get_or, length, ltb, Option, Some, None}
use Rattle.isdbs_combination.specs.declared.Combination.{Combination}
use Rattle.isdbs_combination.specs.declared.BitPair.{BitPair}
use Rattle.isdbs_plan.specs.declared.Run.{Run}
use Rattle.isdbs_tables.specs.declared.Table.{Table}
use Rattle.isdbs_combination.specs.Combinations.{puncture_of, pairs_of, period_steps, slot_bits}
use Rattle.isdbs_plan.specs.RunsOf.{runs_of, steps_of}

-- ---- the code of a combination
-- the mother bits of one period in the order in which they are sent: the pairs' first and second bits; X then Y where nothing is punctured
unfoldable pub sent_order : List BitPair → List ℕ
sent_order [] = []
sent_order (p ∷ ps) = p.p1 ∷ p.p0 ∷ sent_order ps

abbrev pub order_in : Option Puncture → List ℕ
order_in (Some p) = sent_order (pairs_of p)
order_in None = 0 ∷ 1 ∷ []

abbrev pub order_of : Combination → List ℕ
order_of c = order_in (puncture_of c)

-- the steps of one period
abbrev pub steps_per_period : Combination → ℕ
steps_per_period c = period_steps (puncture_of c)

-- ---- segments
-- a run with the first and the number of its symbols, its trellis steps and its bits of the load
pub record Segment : Type 0 where
  pub combination : Combination
  pub symbol : ℕ
  pub symbols : ℕ
  pub step : ℕ
  pub steps : ℕ
  pub bit : ℕ
  pub bits : ℕ

-- g is one of a list
pub data In (g : Segment) : List Segment → Type 0 where
  here : {gs : List Segment} → In g (g ∷ gs)
  there : {h : Segment} {gs : List Segment} → In g gs → In g (h ∷ gs)

-- "A valid slot is 1,624 bits"
abbrev pub segment_of : Run → ℕ → ℕ → Segment
segment_of r step bit =
    record {
      combination = r.combination;
      symbol = r.symbol_start;
      symbols = r.symbol_end - r.symbol_start;
      step = step;
      steps = steps_of r;
      bit = bit;
      bits = slot_bits * r.valid_slots;
    }

unfoldable pub segments_from : List Run → ℕ → ℕ → List Segment
segments_from [] step bit = []
segments_from (r ∷ rs) step bit = segment_of r step bit ∷ segments_from rs (step + steps_of r) (bit + slot_bits * r.valid_slots)

abbrev pub segments : Table → List Segment
segments t = segments_from (runs_of t) 0 0

-- What f says of place k: f of the segment that has k, and of k's place in it; `none` past all of them. Segments lie end to end, so
-- it is the first that ends past k. `first` and `size` pick symbols, steps or bits.
unfoldable pub among : {A : Type 0} → (Segment → ℕ) → (Segment → ℕ) → A → (Segment → ℕ → A) → List Segment → ℕ → A
among first size none f [] k = none
among first size none f (g ∷ gs) k = cond (ltb k (first g + size g)) (f g (k - first g)) (among first size none f gs k)

module _ {A : Type 0} (none : A) (f : Segment → ℕ → A) (t : Table) where
  abbrev pub at_symbol : ℕ → A
  at_symbol = among (λ g. g.symbol) (λ g. g.symbols) none f (segments t)

  abbrev pub at_step : ℕ → A
  at_step = among (λ g. g.step) (λ g. g.steps) none f (segments t)

  abbrev pub at_bit : ℕ → A
  at_bit = among (λ g. g.bit) (λ g. g.bits) none f (segments t)

-- ---- bits and bytes, high bit first
-- bit n of a load; "Missing bits are 0, surplus ones ignored"
abbrev pub load_bit : List ℕ → ℕ → ℕ
load_bit load n = get_or load (n / 8) 0 / 2 ^ (7 - n % 8) % 2

-- "a full load is 203 bytes for each" valid slot
pub record FullLoad (load : List ℕ) (count : ℕ) : Type 0 where
  pub size : length load ≡ count
  pub bytes : (k : ℕ) → k < count → get_or load k 0 < 256

-- the byte whose bits, high bit first, are f 0 to f 7
abbrev pub byte_of : (ℕ → ℕ) → ℕ
byte_of f = f 0 * 128 + f 1 * 64 + f 2 * 32 + f 3 * 16 + f 4 * 8 + f 5 * 4 + f 6 * 2 + f 7

-- bit i of a 16-bit word, high bit first
abbrev pub word_bit : ℕ → ℕ → ℕ
word_bit w i = w / 2 ^ (15 - i) % 2
