-- The numbers of Table 3-8 that the calls rest on.
use Rattle.std.specs.Prelude.{◌≡◌, refl, List, ℕ, ◌+◌, ◌-◌, ◌*◌, ◌/◌, ◌%◌, ◌<◌, ◌≤◌, T, ltb, get_or, take}
use Rattle.std.proofs.Common.{sym, ◌∙◌, ap, arith, ltb→lt, get_or-take}
use Rattle.isdbt_table.specs.declared.CodeRate.{CodeRate}
use Rattle.isdbt_table.specs.declared.CodeRate.TheVariants.{R1_2, R2_3, R3_4, R5_6, R7_8}
use Rattle.isdbt_table.specs.Table.{period, sent, bit_order, compiled}
use Rattle.isdbt_table.specs.Puncture.{bit_place}
use Rattle.trellis.specs.EachLaws.{all, each}

-- a period has 1 to 7 inputs, and more bits are sent for them than they are, at most two for each
pub record Sizes (p n : ℕ) : Type 0 where
  pub least : 1 ≤ p
  pub most : p ≤ 7
  pub more : p < n
  pub fewer : n ≤ 2 * p
  pub eight : n ≤ 8

pub sizes : (rate : CodeRate) → Sizes (period rate) (sent rate)
sizes R1_2 = record { least = omega arith; most = omega arith; more = omega arith; fewer = omega arith; eight = omega arith }
sizes R2_3 = record { least = omega arith; most = omega arith; more = omega arith; fewer = omega arith; eight = omega arith }
sizes R3_4 = record { least = omega arith; most = omega arith; more = omega arith; fewer = omega arith; eight = omega arith }
sizes R5_6 = record { least = omega arith; most = omega arith; more = omega arith; fewer = omega arith; eight = omega arith }
sizes R7_8 = record { least = omega arith; most = omega arith; more = omega arith; fewer = omega arith; eight = omega arith }

-- the compiled order holds the sequence's mother bits
pub in_order : (rate : CodeRate) → take (sent rate) (compiled rate).order ≡ bit_order rate
in_order R1_2 = refl
in_order R2_3 = refl
in_order R3_4 = refl
in_order R5_6 = refl
in_order R7_8 = refl

pub order_at : (rate : CodeRate) (j : ℕ) → j < sent rate → get_or (compiled rate).order j 0 ≡ get_or (bit_order rate) j 0
order_at rate j h =
    sym (get_or-take (sent rate) (compiled rate).order j 0 h) ∙ ap (λ (l : List ℕ). get_or l j 0) (in_order rate)

-- a sent bit is one of the period's mother bits
all_below : (rate : CodeRate) → T (all (sent rate) (λ j. ltb (get_or (bit_order rate) j 0) (2 * period rate)))
all_below R1_2 = tt
all_below R2_3 = tt
all_below R3_4 = tt
all_below R5_6 = tt
all_below R7_8 = tt

pub order_below : (rate : CodeRate) (j : ℕ) → j < sent rate → get_or (bit_order rate) j 0 < 2 * period rate
order_below rate j h =
    ltb→lt (get_or (bit_order rate) j 0) (2 * period rate) (each (sent rate) (λ j. ltb (get_or (bit_order rate) j 0) (2 * period rate)) (all_below rate) j h)

-- the sent bit j of the period b
pub place_in_lem : (rate : CodeRate) (b j : ℕ) → j < sent rate → bit_place rate (b * sent rate + j) ≡ 2 * (b * period rate) + get_or (bit_order rate) j 0
place_in_lem R1_2 b j h = let q : (b * 2 + j) / 2 ≡ b = omega arith in let r : (b * 2 + j) % 2 ≡ j = omega arith in rw (q, r) (omega arith)
place_in_lem R2_3 b j h = let q : (b * 3 + j) / 3 ≡ b = omega arith in let r : (b * 3 + j) % 3 ≡ j = omega arith in rw (q, r) (omega arith)
place_in_lem R3_4 b j h = let q : (b * 4 + j) / 4 ≡ b = omega arith in let r : (b * 4 + j) % 4 ≡ j = omega arith in rw (q, r) (omega arith)
place_in_lem R5_6 b j h = let q : (b * 6 + j) / 6 ≡ b = omega arith in let r : (b * 6 + j) % 6 ≡ j = omega arith in rw (q, r) (omega arith)
place_in_lem R7_8 b j h = let q : (b * 8 + j) / 8 ≡ b = omega arith in let r : (b * 8 + j) % 8 ≡ j = omega arith in rw (q, r) (omega arith)

-- the mother bit k of whole periods lies in a period whose sent values are all there
pub values_there : (rate : CodeRate) (count k : ℕ) → k < count / sent rate * (2 * period rate) → sent rate * (k / (2 * period rate)) + sent rate ≤ count
values_there R1_2 count k h = omega arith
values_there R2_3 count k h = omega arith
values_there R3_4 count k h = omega arith
values_there R5_6 count k h = omega arith
values_there R7_8 count k h = omega arith
