-- The definitions computed on small cases.
use Rattle.std.specs.Prelude.{◌≡◌, refl, List, [], ◌∷◌, ℕ, pos, negsuc, Float}
use Rattle.std.specs.Float.{binary32}
use Rattle.std.specs.Float.Ieee.{of_bits}
use Rattle.ieee.specs.Value.{hi, lo, mag}
use Rattle.trellis.specs.Code.{output, tapped, label, state_at}
use Rattle.best_grid.specs.Grid.{above, below, grid, cost, most}
use Rattle.best_grid.specs.Contents.{worth}
use Rattle.best_grid.specs.Sides.{worth_at, mirror}

-- ---- the grid: 1.0 is 2 ^ 20 units; -0.75; 8.0; what is below a unit is 0, of either sign; 2 ^ 23 and all above it is `most`
pub one : grid (of_bits binary32 0x3f80_0000) ≡ pos 1048576
unfolding grid above below hi lo mag of_bits
one = refl

pub minus_three_quarters : grid (of_bits binary32 0xbf40_0000) ≡ negsuc 786431
unfolding grid above below hi lo mag of_bits
minus_three_quarters = refl

pub half_a_unit : grid (of_bits binary32 0x3500_0000) ≡ pos 0
unfolding grid above below hi lo mag of_bits
half_a_unit = refl

pub minus_half_a_unit : grid (of_bits binary32 0xb500_0000) ≡ pos 0
unfolding grid above below hi lo mag of_bits
minus_half_a_unit = refl

pub greatest : above (of_bits binary32 0x4b00_0000) ≡ most
unfolding above hi mag of_bits
greatest = refl

pub beyond : above (of_bits binary32 0x7f7f_ffff) ≡ most
unfolding above hi mag of_bits
beyond = refl

-- a metric of 8.0 costs 2 ^ 24 less 8, in units; the other uncoded bit 2 ^ 24 and 8
pub costs : cost (of_bits binary32 0x4100_0000) ≡ 17592177655808
unfolding cost above below hi lo mag of_bits
costs = refl

pub mirrors : mirror (of_bits binary32 0x4100_0000) ≡ 17592194433024
unfolding mirror above below hi lo mag of_bits
mirrors = refl

-- ---- two steps of TC8PSK with the metrics 8, 2, 0, 2 at the pairs 0 to 3, the better uncoded bit being 0 at each
abbrev xs : List Float
xs = of_bits binary32 0x4100_0000 ∷ of_bits binary32 0x4000_0000 ∷ of_bits binary32 0 ∷ of_bits binary32 0x4000_0000 ∷ of_bits binary32 0x4100_0000 ∷ of_bits binary32 0x4000_0000 ∷ of_bits binary32 0 ∷ of_bits binary32 0x4000_0000 ∷ []

abbrev sides : List ℕ
sides = 16 ∷ 16 ∷ []

-- the inputs 0, 0 from state 0 have the sum 16; with the other uncoded bit in the first step 0; with the input 1 in the last 10
pub both : worth (worth_at xs sides) 0 (0 ∷ 0 ∷ []) (0 ∷ 0 ∷ []) 2 ≡ pos 16777216
unfolding worth worth_at grid above below hi lo mag of_bits state_at label output tapped
both = refl

pub turned_first : worth (worth_at xs sides) 0 (0 ∷ 0 ∷ []) (1 ∷ 0 ∷ []) 2 ≡ pos 0
unfolding worth worth_at grid above below hi lo mag of_bits state_at label output tapped
turned_first = refl

pub one_last : worth (worth_at xs sides) 0 (0 ∷ 1 ∷ []) (0 ∷ 0 ∷ []) 2 ≡ pos 10485760
unfolding worth worth_at grid above below hi lo mag of_bits state_at label output tapped
one_last = refl
