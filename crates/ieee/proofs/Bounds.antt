-- What a rounded P - N keeps: bounds q * 2 ^ j that the format's digits hold pass through the rounding, and a result is off by half a last digit
-- at most from every bound of P - N, held by the format or not. `pow2 j` is 2 ^ j kept shut.
use Rattle.std.specs.Prelude.{◌≡◌, ◌⊎◌, ℕ, suc, ◌+◌, ◌-◌, ◌*◌, ◌^◌, ◌≤◌, ◌<◌, Float}
use Rattle.std.proofs.Common.{sym, ap, ◌∙◌, inl, inr, le_trans, le_of_eq, arith}
use Rattle.std.specs.Float.{Format}
use Rattle.std.specs.Float.Ieee.{prec}
use Rattle.ieee.specs.Value.{hi, lo}
use Rattle.ieee.specs.Nearest.{near, near_mono, near_zero, near_fix, near_err}
use Rattle.ieee.specs.Rounding.{prec_pos, Rounds, le_or_ge, pow2, pow2_is, pow2_suc}

near_held : (f : Format) (q j : ℕ) → q ≤ 2 ^ prec f → near (prec f) (q * pow2 j) ≡ q * pow2 j
unfolding pow2
near_held f q j h = near_fix (prec f) q j (prec_pos f) h

gone : (f : Format) (a b : ℕ) → a ≤ b → near (prec f) (a - b) ≡ 0
gone f a b h = ap (λ (x : ℕ). near (prec f) x) (none a b h) ∙ near_zero (prec f) (prec_pos f)
  where
    none : (a b : ℕ) → a ≤ b → a - b ≡ 0
    none a b h = omega arith

-- at most q * 2 ^ j, so z is too
pub rounds_cap : {f : Format} {z : Float} {P N : ℕ} (q j : ℕ) → Rounds f z P N → q ≤ 2 ^ prec f → P ≤ N + q * pow2 j → hi f z ≤ q * pow2 j
rounds_cap {f} {z} {P} {N} q j r h k =
    le_trans (le_of_eq r.hi_is) (le_trans (near_mono (prec f) (P - N) (q * pow2 j) (prec_pos f) (omega arith)) (le_of_eq (near_held f q j h)))

-- at least -q * 2 ^ j, so z is too
pub rounds_floor : {f : Format} {z : Float} {P N : ℕ} (q j : ℕ) → Rounds f z P N → q ≤ 2 ^ prec f → N ≤ P + q * pow2 j → lo f z ≤ q * pow2 j
rounds_floor {f} {z} {P} {N} q j r h k =
    le_trans (le_of_eq r.lo_is) (le_trans (near_mono (prec f) (N - P) (q * pow2 j) (prec_pos f) (omega arith)) (le_of_eq (near_held f q j h)))

-- at most -q * 2 ^ j, so z is too
pub rounds_deep : {f : Format} {z : Float} {P N : ℕ} (q j : ℕ) → Rounds f z P N → q ≤ 2 ^ prec f → P + q * pow2 j ≤ N → (hi f z ≡ 0) × (q * pow2 j ≤ lo f z)
rounds_deep {f} {z} {P} {N} q j r h k = (
  r.hi_is ∙ gone f P N (omega arith),
  le_trans (le_of_eq (sym (near_held f q j h))) (le_trans (near_mono (prec f) (q * pow2 j) (N - P) (prec_pos f) (omega arith)) (le_of_eq (sym r.lo_is))),
)

-- not negative
pub rounds_up : {f : Format} {z : Float} {P N : ℕ} → Rounds f z P N → N ≤ P → lo f z ≡ 0
rounds_up {f} {z} {P} {N} r h = r.lo_is ∙ gone f N P h

-- P - N is at most A - C, which no float need be: z is at most that, and half a last digit
pub rounds_below : {f : Format} {z : Float} {P N : ℕ} (j A C : ℕ) → Rounds f z P N → P + C ≤ A + N → A < C + 2 ^ suc (prec f) * pow2 j → C < A + 2 ^ suc (prec f) * pow2 j → hi f z + C ≤ A + lo f z + pow2 j
rounds_below {f} {z} {P} {N} j A C r h a c =
    go (le_or_ge A C) (pow2_is j) (pow2_suc (prec f) j)
  where
    go : (A ≤ C) ⊎ (C ≤ A) → pow2 j ≡ 2 ^ j → 2 ^ suc (prec f) * pow2 j ≡ 2 ^ (prec f + suc j) → hi f z + C ≤ A + lo f z + pow2 j
    go (inl l) e b =
        let x : hi f z ≡ 0 = r.hi_is ∙ gone f P N (omega arith) in
        let y : near (prec f) (C - A) ≤ lo f z = le_trans (near_mono (prec f) (C - A) (N - P) (prec_pos f) (omega arith)) (le_of_eq (sym r.lo_is)) in
        let w = near_err (prec f) (C - A) (suc j) (omega arith) in
        omega arith
    go (inr l) e b =
        let x : hi f z ≤ near (prec f) (A - C) = le_trans (le_of_eq r.hi_is) (near_mono (prec f) (P - N) (A - C) (prec_pos f) (omega arith)) in
        let w = near_err (prec f) (A - C) (suc j) (omega arith) in
        omega arith
