-- Prices of four labels as lists, and sums that fit.
use Rattle.std.specs.Prelude.{◌≡◌, cond, List, ℕ, ◌+◌, ◌-◌, ◌*◌, ◌/◌, ◌%◌, ◌^◌, ◌≤◌, ◌<◌, min, eqb, leb, get_or, length, Float}
use Rattle.std.specs.Float.{nan}
use Rattle.trellis.specs.Run.{quadruple}
use Rattle.trellis.specs.Lists.{bit as bit_of}
use Rattle.best_grid.specs.Grid.{cost, dearest}
use Rattle.best_grid.specs.Sides.{mirror}
use Rattle.best_grid.specs.Backward.{far}

-- two numbers of such lists can be added in 64 bits
abbrev pub Halved : List ℕ → Type 0
Halved d = (k : ℕ) → get_or d k 0 ≤ 0x7fff_ffff_ffff_ffff

-- the price of the uncoded bit z at the label l, of a step with this side and this metric; that of the other one
unfoldable pub price_of : Float → ℕ → ℕ → ℕ → ℕ
price_of x side l z = cond (leb 16 side) (cond (eqb z (side / 2 ^ l % 2)) (cost x) (mirror x)) (cost x)

unfoldable pub turned_of : Float → ℕ → ℕ → ℕ → ℕ
turned_of x side l z = cond (leb 16 side) (price_of x side l (1 - z)) far

abbrev pub kept_at : List Float → ℕ → ℕ → ℕ → ℕ → ℕ
kept_at xs k side z l = price_of (get_or (quadruple xs k) l nan) side l z

abbrev pub turned_at : List Float → ℕ → ℕ → ℕ → ℕ → ℕ
turned_at xs k side z l = turned_of (get_or (quadruple xs k) l nan) side l z

-- there is room for n steps back
abbrev pub BackRoom : ℕ → List ℕ → Type 0
BackRoom n d = (k : ℕ) → get_or d k 0 + n * dearest ≤ 0x7fff_ffff_ffff_ffff

-- the less of each two of four
pub record Lower (a b r : List ℕ) : Type 0 where
  pub least : (l : ℕ) → l < 4 → get_or r l 0 ≡ min (get_or a l 0) (get_or b l 0)
  pub past : (l : ℕ) → 4 ≤ l → get_or r l 0 ≡ 0

-- a list holds the prices p of four labels
pub record Four (m : List ℕ) (p : ℕ → ℕ) : Type 0 where
  pub small : Halved m
  pub is : (l : ℕ) → l < 4 → get_or m l 0 ≡ p l

-- what the steps from `at` on are asked to have, `count` of them
pub record Asked (metrics : List Float) (sides bits uncoded : List ℕ) (at count : ℕ) : Type 0 where
  pub quadruples : 4 * (at + count) ≤ length metrics
  pub sided : at + count ≤ length sides
  pub read : at + count ≤ length bits
  pub beside : at + count ≤ length uncoded
  pub bit : (k : ℕ) → get_or bits k 0 < 2
  pub second : (k : ℕ) → get_or uncoded k 0 ≤ bit_of (leb 16 (get_or sides k 0))
