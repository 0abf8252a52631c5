-- What the comparison of a frame finds. Definitions only.
use Rattle.std.specs.Prelude.{◌≡◌, Bool, true, false, List, ℕ, ◌+◌, ◌<◌, get_or, Float}
use Rattle.std.specs.Float.{nan}
use Rattle.std.specs.Float.Ieee.{ne}
use Rattle.isdbs_tables.specs.declared.Table.{Table}
use Rattle.isdbs_points.specs.declared.Mapping.{Mapping}
use Rattle.wanted_read.specs.Wanted.{EncodesTo}

-- two f64 have the same bits; a NaN is not compared
pub record Same (x y : Float) (r : Bool) : Type 0 where
  pub yes : r ≡ true → x ≡ y
  pub no : r ≡ false → x ≡ y → ne y y ≡ true

-- the n parts from number `from` on are f's first n, none of which is a NaN
pub record SameParts (xs : List Float) (from : ℕ) (f : ℕ → Float) (n : ℕ) (r : Bool) : Type 0 where
  pub yes : r ≡ true → (k : ℕ) → k < n → get_or xs (from + k) nan ≡ f k
  pub no : r ≡ false → ((k : ℕ) → k < n → ne (f k) (f k) ≡ false) → ((k : ℕ) → k < n → get_or xs (from + k) nan ≡ f k) → ⊥

-- and both parts of points
pub record SamePoints (re im : List Float) (from : ℕ) (f g : ℕ → Float) (n : ℕ) (r : Bool) : Type 0 where
  pub re_yes : r ≡ true → (k : ℕ) → k < n → get_or re (from + k) nan ≡ f k
  pub im_yes : r ≡ true → (k : ℕ) → k < n → get_or im (from + k) nan ≡ g k
  pub no : r ≡ false → ((k : ℕ) → k < n → (ne (f k) (f k) ≡ false) × (ne (g k) (g k) ≡ false)) → ((k : ℕ) → k < n → (get_or re (from + k) nan ≡ f k) × (get_or im (from + k) nan ≡ g k)) → ⊥

-- whether a load encodes to the frame
pub record Matches (t : Table) (m : Mapping) (first : Bool) (re im : List Float) (load : List ℕ) (r : Bool) : Type 0 where
  pub yes : r ≡ true → EncodesTo t m first re im load
  pub no : r ≡ false → EncodesTo t m first re im load → ⊥
