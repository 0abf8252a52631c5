-- A sheet of 655,360 bytes that is filled from the front. A place past its end says that something did not fit.
use Rattle.std.specs.Prelude.{◌≡◌, ℕ, ◌+◌, cond, List, ◌++◌, length, take, drop, nat_le}
use Rattle.io.specs.Digits.{last_digits, IsDigitCount}

abbrev pub size : ℕ
size = 655360

-- the place after n bytes from `at` on
abbrev pub place_after : ℕ → ℕ → ℕ
place_after at n = cond (nat_le (at + n) size) (at + n) 655361

-- the sheet with s laid over it from `at` on; as it was where s does not fit
abbrev pub laid : List ℕ → ℕ → List ℕ → List ℕ
laid old at s = cond (nat_le (at + length s) size) (take at old ++ s ++ drop (at + length s) old) old

-- s is put at `at`: the sheet and the place after it
pub record Put (at : ℕ) (s old new : List ℕ) (r : ℕ) : Type 0 where
  pub place : r ≡ place_after at (length s)
  pub sheet : new ≡ laid old at s

-- the decimal digits of n are put at `at`, the fewest that hold it
pub record PutNumber (at n : ℕ) (old new : List ℕ) (r : ℕ) : Type 0 where
  pub count : ℕ
  pub fewest : IsDigitCount 10 1 n count
  pub put : Put at (last_digits 10 count n) old new r
