-- Rounding of an exact value. `Rounds f z P N`: z is P - N units, rounded to the format f. `Fine f P N`: that does not overflow.
-- Such a z keeps the order (`rounds_mono`), never crosses a value that the format holds (`rounds_le`, `rounds_ge`, `rounds_between`),
-- is off by half of the last digit at most (`rounds_err`, `rounds_near`), and is exact where the format has the digits (`rounds_exact`).
-- All of it is linear in hi, lo, P, N and one power of two, for `omega`. `pow2 j` is 2 ^ j kept shut, since `omega` reads no numeral of 40 digits:
-- in binary32 `pow2 149` units are 1, and `pow2 134` are 2 ^ -15.
use Rattle.std.specs.Prelude.{◌≡◌, ℕ, suc, ◌+◌, ◌-◌, ◌*◌, ◌^◌, ◌≤◌, ◌<◌, Float}
use Rattle.std.proofs.Common.{sym, ap, ◌∙◌, subst, arith}
use Rattle.std.specs.Float.{Format}
use Rattle.std.specs.Float.Ieee.{prec}
use Rattle.ieee.specs.Nearest.{near, near_fix}
use Rattle.ieee.specs.Rounding.{Exactly, Near, Off, Rounds, pow2, pow2_is, pow2_suc, prec_pos, rounds_err, sub_mul}

pub rounds_near : {f : Format} {z : Float} {P N : ℕ} (j : ℕ) → Rounds f z P N → P < N + 2 ^ suc (prec f) * pow2 j → N < P + 2 ^ suc (prec f) * pow2 j → Near f z P N (pow2 j)
rounds_near {f} {z} {P} {N} j r h k = record {
  rounds = r;
  off = subst (λ (x : ℕ). Off f z P N x) (sym (pow2_is j)) (rounds_err j r (subst (λ (x : ℕ). P < N + x) (pow2_suc (prec f) j) h) (subst (λ (x : ℕ). N < P + x) (pow2_suc (prec f) j) k));
}

pub rounds_exact : {f : Format} {z : Float} {P N : ℕ} (p n j : ℕ) → Rounds f z P N → P ≡ p * 2 ^ j → N ≡ n * 2 ^ j → p ≤ n + 2 ^ prec f → n ≤ p + 2 ^ prec f → Exactly f z p n (2 ^ j)
rounds_exact {f} {z} {P} {N} p n j r d e h k =
    record {
      hi_is = r.hi_is ∙ one P N p n d e h;
      lo_is = r.lo_is ∙ one N P n p e d k;
    }
  where
    one : (P N p n : ℕ) → P ≡ p * 2 ^ j → N ≡ n * 2 ^ j → p ≤ n + 2 ^ prec f → near (prec f) (P - N) ≡ (p - n) * 2 ^ j
    one P N p n d e h = ap (λ (x : ℕ). near (prec f) (x - N)) d ∙ ap (λ (x : ℕ). near (prec f) (p * 2 ^ j - x)) e ∙ ap (λ (x : ℕ). near (prec f) x) (sub_mul p n (2 ^ j)) ∙ near_fix (prec f) (p - n) j (prec_pos f) (omega arith)
