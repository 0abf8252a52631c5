-- The two starts, and the theorem on decoded bits in the reader's words.
use Rattle.std.specs.Prelude.{◌≡◌, List, eqb, get_or, length, Float}
use Rattle.std.proofs.Math.Bool.{cond}
use Prim.Native.Nat.{ℕ, ◌*◌, ◌≤◌, ◌<◌}
use Rattle.std.specs.Float.{nan, binary32}
use Rattle.std.specs.Float.Ieee.{of_bits}
use Rattle.path_greatest.specs.Viterbi.{Z}

-- ---- "0 at the given state .., -1,000,000 elsewhere": how far behind the other states start
abbrev pub behind : ℕ
behind = 1000000

abbrev pub behind_f : Float
behind_f = of_bits binary32 0xc974_2400

-- ---- path values at the start: 0 at the given state and -1,000,000 elsewhere, or 0 everywhere
pub record Given (half s : ℕ) (pm : List Float) : Type 0 where
  pub state : s < 2 * half
  pub count : 2 * half ≤ length pm
  pub values : (k : ℕ) → k < 2 * half → get_or pm k nan ≡ cond (eqb k s) (of_bits binary32 0) behind_f

pub record Unknown (half : ℕ) (pm : List Float) : Type 0 where
  pub count : 2 * half ≤ length pm
  pub values : (k : ℕ) → k < 2 * half → get_or pm k nan ≡ of_bits binary32 0

-- ---- the start values in whole numbers
unfoldable pub given : ℕ → ℕ → Z
given s k = cond (eqb k s) (0, 0) (0, behind)

abbrev pub level : ℕ → Z
level k = (0, 0)
