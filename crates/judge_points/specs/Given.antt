-- The points outside the margins of a frame that is given by its parts, over a list of runs, and how they are counted part after part.
use Rattle.std.specs.Prelude.{◌≡◌, Bool, true, false, cond, not, ◌&&◌, List, [], ◌∷◌, ℕ, ◌+◌, ◌-◌, ◌/◌, eqb, ltb, get_or, length, Float}
use Rattle.std.specs.Float.{nan}
use Rattle.isdbs_plan.specs.declared.Run.{Run}
use Rattle.isdbs_combination.specs.Combinations.{modulation_of, slot_symbols}
use Rattle.isdbs_points.specs.Points.{zero64}
use Rattle.margins.specs.Margins.{holds, is_bpsk}
use Rattle.strain_marks.specs.Counts.{counted}

-- what f says of the first run that ends past symbol k; `none` past all runs
unfoldable pub run_at : {A : Type 0} → A → (Run → A) → List Run → ℕ → A
run_at none f [] k = none
run_at none f (r ∷ rs) k = cond (ltb k r.symbol_end) (f r) (run_at none f rs k)

-- parts that may hold any accepted value: of points past all runs; imaginary parts of BPSK
abbrev pub re_free : List Run → ℕ → Bool
re_free rs k = run_at true (λ r. false) rs k

abbrev pub im_free : List Run → ℕ → Bool
im_free rs k = run_at true (λ r. is_bpsk (modulation_of r.combination)) rs k

-- point k, received as (a, b), is outside the margins of (x, y)
abbrev pub outside_given : List Run → Float → Float → Float → Float → ℕ → Bool
outside_given rs x y a b k = not (holds (re_free rs k) x a && holds (im_free rs k) y b)

-- the same of the received parts re, im and the clean parts xs, ys, which begin at point `from`
abbrev pub given_at : List Run → List Float → List Float → List Float → List Float → ℕ → ℕ → Bool
given_at rs xs ys re im from k = outside_given rs (get_or xs (k - from) zero64) (get_or ys (k - from) zero64) (get_or re k nan) (get_or im k nan) k

-- how many of the n points from number `from` on pass a test and lie in slot j
abbrev pub added : (ℕ → Bool) → ℕ → ℕ → ℕ → ℕ
added f from n j = counted (λ i. f (from + i) && eqb ((from + i) / slot_symbols) j) n

-- each count has grown by those in its slot, and the sum is that of all
pub record Counted (f : ℕ → Bool) (from n : ℕ) (counts₀ counts : List ℕ) (sum : ℕ) : Type 0 where
  pub size : length counts ≡ length counts₀
  pub each : (j : ℕ) → get_or counts j 0 ≡ get_or counts₀ j 0 + added f from n j
  pub sum_is : sum ≡ counted (λ i. f (from + i)) n
