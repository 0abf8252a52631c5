-- The sums as 32-bit numbers, and what an answer of `header_at` or `find_frame` tells.
use Rattle.std.specs.Prelude.{◌≡◌, refl, Bool, true, false, cond, List, ℕ, ◌≤◌, ◌^◌, T, ltb, pos, Float, Result, Ok, Err}
use Rattle.std.proofs.Common.{arith, SFits, to_z, of_z, to_z-of_z, lt-ltb, ltb-true}
use Rattle.std.specs.Int.Signed.{mag}
use Rattle.std.specs.Int.{w32}
use Rattle.trellis.specs.ListLaws.{every, every_at}
use Rattle.refusal.specs.declared.Refusal.{Refusal}
use Rattle.refusal.specs.Rows.{Accepted, Symbols, answered}
use Rattle.header_sync.proofs.FitLaws.{fit_most}
use Rattle.header_find.specs.declared.Header.{Header}
use Rattle.header_find.specs.declared.Found.{Found}
use Rattle.header_find.specs.Headers.{header_of, header_at, doubted}
use Rattle.c_header.specs.Calls.{sum_of}

-- ---- the sums
test : ℕ → Bool
test s = ltb (mag (sum_of s)) 100

passes : T (every test 81)
unfolding every test sum_of
passes = tt

is_true : (b : Bool) → T b → b ≡ true
is_true true t = refl
is_true false t = absurd t

pub sum_small : (s : ℕ) → s ≤ 80 → SFits w32 (sum_of s)
unfolding test
sum_small s h = let l = ltb-true (mag (sum_of s)) 100 (is_true (ltb (mag (sum_of s)) 100) (every_at test 81 passes s (omega arith))) in record { sfits = omega arith }

pub held : (s : ℕ) → s ≤ 80 → to_z w32 s ≡ pos s
held s h = rw (lt-ltb s (2 ^ 31) (omega arith)) refl

pub stored : (s : ℕ) → s ≤ 80 → to_z w32 (of_z w32 (sum_of s)) ≡ sum_of s
stored s h = to_z-of_z (sum_small s h)

-- ---- the answers
pub told : {A : Type 0} (b : Bool) (v w : A) → Ok v ≡ answered (cond b Symbols Accepted) w → (b ≡ false) × (v ≡ w)
told true v w e = let z : ◌≡◌ {A = ℕ} 0 1 = cc in absurd (omega arith)
told false v w e = (refl, cc)

pub untold : {A : Type 0} (b : Bool) (row : Refusal) (w : A) → Err row ≡ answered (cond b Symbols Accepted) w → (b ≡ true) × (Err row ≡ Symbols)
untold true row w e = (refl, cc)
untold false row w e = let z : ◌≡◌ {A = ℕ} 0 1 = cc in absurd (omega arith)

-- ---- the sums of a header
pub header_most : (re im : List Float) (at : ℕ) → ((header_at re im at).re ≤ 80) × ((header_at re im at).im ≤ 80)
unfolding header_of
header_most re im at = fit_most re im at

pub doubted_most : (h : Header) → (h.re ≤ 80) × (h.im ≤ 80) → ((doubted h).re ≤ 80) × ((doubted h).im ≤ 80)
unfolding doubted
doubted_most h m = m
