-- The sign tables, as the source has them: an entry is below 0 exactly where the coded bit is 1. Each rule is a test of all 128 entries,
-- which antt computes.
use Rattle.std.specs.Prelude.{◌≡◌, Bool, List, [], ◌∷◌, ℕ, ◌+◌, ◌*◌, ◌/◌, ◌%◌, ◌<◌, T, eqb, get_or, Float}
use Rattle.std.specs.Float.{nan, binary32}
use Rattle.std.specs.Float.Ieee.{lt, of_bits}
use Rattle.trellis.specs.Code.{label, output, tapped}
use Rattle.trellis.specs.ListLaws.{equal_tests, equal_tests_lem}
use Rattle.viterbi_branches.specs.Signs.{XSigns, YSigns}
use Rattle.viterbi_branches.specs.TableLaws.{all, at}
use Rattle.trellis.specs.Isdb

-- the test of an entry, of a row, of a pair of rows; g is the coded bit of a label
module _ (g : ℕ → ℕ) where
  abbrev entry : ℕ → ℕ → ℕ → Float → Bool
  entry u b j x = equal_tests (lt x (of_bits binary32 0)) (eqb (g (Isdb.labels u (2 * j + b))) 1)

  abbrev row : ℕ → ℕ → List Float → Bool
  row u b xs = all 32 (entry u b) xs

  abbrev pair : ℕ → List (List Float) → Bool
  pair u xss = all 2 (row u) xss

  rule : (t : List (List (List Float))) → T (all 2 pair t) → (u b j : ℕ) → u < 2 → b < 2 → j < 32
      → lt (get_or (get_or (get_or t u []) b []) j nan) (of_bits binary32 0) ≡ eqb (g (Isdb.labels u (2 * j + b))) 1
  rule t passes u b j hu hb hj =
      equal_tests_lem _ _
      (at 32 (entry u b) nan (get_or (get_or t u []) b [])
      (at 2 (row u) [] (get_or t u [])
      (at 2 pair [] t passes u hu)
      b hb)
      j hj)

abbrev p : Float
p = of_bits binary32 1065353216

abbrev m : Float
m = of_bits binary32 3212836864

unfoldable pub SX : List (List (List Float))
SX =
    ((p ∷ p ∷ p ∷ p ∷ m ∷ m ∷ m ∷ m ∷ m ∷ m ∷ m ∷ m ∷ p ∷ p ∷ p ∷ p ∷ m ∷ m ∷ m ∷ m ∷ p ∷ p ∷ p ∷ p ∷ p ∷ p ∷ p ∷ p ∷ m ∷ m ∷ m ∷ m ∷ [])
    ∷ (m ∷ m ∷ m ∷ m ∷ p ∷ p ∷ p ∷ p ∷ p ∷ p ∷ p ∷ p ∷ m ∷ m ∷ m ∷ m ∷ p ∷ p ∷ p ∷ p ∷ m ∷ m ∷ m ∷ m ∷ m ∷ m ∷ m ∷ m ∷ p ∷ p ∷ p ∷ p ∷ [])
    ∷ [])
    ∷ ((m ∷ m ∷ m ∷ m ∷ p ∷ p ∷ p ∷ p ∷ p ∷ p ∷ p ∷ p ∷ m ∷ m ∷ m ∷ m ∷ p ∷ p ∷ p ∷ p ∷ m ∷ m ∷ m ∷ m ∷ m ∷ m ∷ m ∷ m ∷ p ∷ p ∷ p ∷ p ∷ [])
    ∷ (p ∷ p ∷ p ∷ p ∷ m ∷ m ∷ m ∷ m ∷ m ∷ m ∷ m ∷ m ∷ p ∷ p ∷ p ∷ p ∷ m ∷ m ∷ m ∷ m ∷ p ∷ p ∷ p ∷ p ∷ p ∷ p ∷ p ∷ p ∷ m ∷ m ∷ m ∷ m ∷ [])
    ∷ [])
    ∷ []

unfoldable pub SY : List (List (List Float))
SY =
    ((p ∷ m ∷ p ∷ m ∷ m ∷ p ∷ m ∷ p ∷ m ∷ p ∷ m ∷ p ∷ p ∷ m ∷ p ∷ m ∷ p ∷ m ∷ p ∷ m ∷ m ∷ p ∷ m ∷ p ∷ m ∷ p ∷ m ∷ p ∷ p ∷ m ∷ p ∷ m ∷ [])
    ∷ (m ∷ p ∷ m ∷ p ∷ p ∷ m ∷ p ∷ m ∷ p ∷ m ∷ p ∷ m ∷ m ∷ p ∷ m ∷ p ∷ m ∷ p ∷ m ∷ p ∷ p ∷ m ∷ p ∷ m ∷ p ∷ m ∷ p ∷ m ∷ m ∷ p ∷ m ∷ p ∷ [])
    ∷ [])
    ∷ ((m ∷ p ∷ m ∷ p ∷ p ∷ m ∷ p ∷ m ∷ p ∷ m ∷ p ∷ m ∷ m ∷ p ∷ m ∷ p ∷ m ∷ p ∷ m ∷ p ∷ p ∷ m ∷ p ∷ m ∷ p ∷ m ∷ p ∷ m ∷ m ∷ p ∷ m ∷ p ∷ [])
    ∷ (p ∷ m ∷ p ∷ m ∷ m ∷ p ∷ m ∷ p ∷ m ∷ p ∷ m ∷ p ∷ p ∷ m ∷ p ∷ m ∷ p ∷ m ∷ p ∷ m ∷ m ∷ p ∷ m ∷ p ∷ m ∷ p ∷ m ∷ p ∷ p ∷ m ∷ p ∷ m ∷ [])
    ∷ [])
    ∷ []

pub sx_signs : XSigns SX
unfolding SX lt of_bits label output tapped
sx_signs = record { sign = rule (λ l. l / 2) SX tt }

pub sy_signs : YSigns SY
unfolding SY lt of_bits label output tapped
sy_signs = record { sign = rule (λ l. l % 2) SY tt }
