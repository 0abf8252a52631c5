-- Numbers to which the terms of points are added, in place.
use Rattle.std.specs.Prelude.{Bool, List, ℕ, zero, suc, ◌+◌, ◌*◌, ◌/◌, get_or, set, Float}
use Rattle.std.specs.Float.{nan, binary64}
use Rattle.std.specs.Float.Ieee.{add}
use Rattle.isdbs_combination.specs.Combinations.{slot_symbols}
use Rattle.quality_sums.specs.Terms.{terms_of, imaginary, slot_numbers}

-- the first n terms added to the numbers from a place on
unfoldable pub added : List Float → ℕ → List Float → ℕ → List Float
added terms at out zero = out
added terms at out (suc n) = set (added terms at out n) (at + n) (add binary64 (get_or (added terms at out n) (at + n) nan) (get_or terms n nan))

-- a point's terms added to the numbers of the slot of symbol k
abbrev pub point_added : List Float → ℕ → List Float → List Float
point_added terms k out = added terms (slot_numbers * (k / slot_symbols)) out slot_numbers

-- those of the first n received points from number `from` on and of the first n of an encoded block xs, ys
module _ (bpsk : Bool) (re im : List Float) (from : ℕ) (xs ys out : List Float) where
  abbrev pub block_terms : ℕ → List Float
  block_terms i = terms_of (get_or re (from + i) nan) (imaginary bpsk (get_or im (from + i) nan)) (get_or xs i nan) (imaginary bpsk (get_or ys i nan))

  unfoldable pub block_added : ℕ → List Float
  block_added zero = out
  block_added (suc n) = point_added (block_terms n) (from + n) (block_added n)
