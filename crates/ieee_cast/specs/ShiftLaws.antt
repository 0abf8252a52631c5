-- A number over another to the nearest, ties to even: by one comparison (`closest_up`, `closest_down`), with a multiple added (`closest_add`), and below a half (`closest_none`).
use Rattle.std.specs.Prelude.{◌≡◌, refl}
use Rattle.std.proofs.Common.{sym, ap, ◌∙◌, subst, le_antisymm, le_trans, le_of_eq, lt_of_le_of_lt, lt_of_lt_of_le, div-le_self, one-mul, mod-eq_of_lt, le_of_suc-le-suc, div-lt_iff_lt-mul, le-div_iff_mul-le, div-add-mod', mod-lt, zero-lt-suc, arith, pow_pos, pow_mono}
use Prim.Native.Nat.{ℕ, suc, ◌+◌, ◌*◌, ◌/◌, ◌%◌, ◌^◌, ◌≤◌, ◌<◌, compare, Ordering}
use Rattle.std.proofs.Math.Pow.{pow-lt}
use Rattle.std.specs.Float.Ieee.{nearest}
use Rattle.std.specs.Float.Ieee.Nearest.{closest}
use Rattle.ieee.specs.Nearest.{Cmp, cmp}

div_at : (n b v : ℕ) → 0 < b → v * b ≤ n → n < suc v * b → n / b ≡ v
div_at n b v B h k = le_antisymm (le_of_suc-le-suc ((div-lt_iff_lt-mul B).1 k)) ((le-div_iff_mul-le B).1 h)

-- ---- up where twice the rest and the last kept digit are above the unit
up_at : (w r u : ℕ) (o : Ordering) → Cmp o (r * 2) u → u < 2 * r + w % 2 → w + 1 ≡ nearest w o
up_at w r u Ordering.lt c h = let t = mod-lt w (zero-lt-suc 1) in absurd (omega arith)
up_at w r u Ordering.eq c h = let t = mod-lt w (zero-lt-suc 1) in omega arith
up_at w r u Ordering.gt c h = omega arith

down_at : (w r u : ℕ) (o : Ordering) → Cmp o (r * 2) u → 2 * r + w % 2 ≤ u → w ≡ nearest w o
down_at w r u Ordering.lt c h = refl
down_at w r u Ordering.eq c h = omega arith
down_at w r u Ordering.gt c h = absurd (omega arith)

pub closest_up : (q u v : ℕ) → v ≡ u → v < 2 * (q % v) + q / u % 2 → q / u + 1 ≡ closest q u
closest_up q u v e h = up_at (q / u) (q % u) u (compare (q % u * 2) u) (cmp (q % u * 2) u) (subst (λ (z : ℕ). z < 2 * (q % z) + q / u % 2) e h)

pub closest_down : (q u v : ℕ) → v ≡ u → 2 * (q % v) + q / u % 2 ≤ v → q / u ≡ closest q u
closest_down q u v e h = down_at (q / u) (q % u) u (compare (q % u * 2) u) (cmp (q % u * 2) u) (subst (λ (z : ℕ). 2 * (q % z) + q / u % 2 ≤ z) e h)

-- ---- an even multiple of the divisor more
mod_at : (n b v r : ℕ) → 0 < b → r < b → n ≡ v * b + r → n % b ≡ r
mod_at n b v r B l e =
    let d = div-add-mod' n b in
    let w : n / b ≡ v = div_at n b v B (omega arith) (omega arith) in
    let x : n / b * b ≡ v * b = ap (λ (z : ℕ). z * b) w in
    omega arith

nearest_add : (c v : ℕ) (o : Ordering) → nearest (c * 2 + v) o ≡ c * 2 + nearest v o
nearest_add c v Ordering.lt = refl
nearest_add c v Ordering.eq = omega arith
nearest_add c v Ordering.gt = omega arith

pub closest_add : (c a b : ℕ) → 0 < b → closest (c * 2 * b + a) b ≡ c * 2 + closest a b
closest_add c a b B =
    let e : c * 2 * b + a ≡ (c * 2 + a / b) * b + a % b = gather (c * 2) (a / b) b (a % b) a (div-add-mod' a b) in
    let l = mod-lt a B in
    ap (λ (x : ℕ). nearest x (compare ((c * 2 * b + a) % b * 2) b)) (div_at (c * 2 * b + a) b (c * 2 + a / b) B (from (c * 2 * b + a) ((c * 2 + a / b) * b) (a % b) e) (to (c * 2 * b + a) (c * 2 + a / b) b (a % b) e l))
    ∙ ap (λ (x : ℕ). nearest (c * 2 + a / b) (compare (x * 2) b)) (mod_at (c * 2 * b + a) b (c * 2 + a / b) (a % b) B l e)
    ∙ nearest_add c (a / b) (compare (a % b * 2) b)
  where
    gather : (c v b r a : ℕ) → v * b + r ≡ a → c * b + a ≡ (c + v) * b + r
    gather c v b r a e = omega arith

    from : (n v r : ℕ) → n ≡ v + r → v ≤ n
    from n v r e = omega arith

    to : (n v b r : ℕ) → n ≡ v * b + r → r < b → n < suc v * b
    to n v b r e l = omega arith

-- ---- less than a half
pub closest_none : (a b : ℕ) → 0 < b → a * 2 < b → closest a b ≡ 0
closest_none a b B h =
    ap (λ (x : ℕ). nearest x (compare (a % b * 2) b)) (div_at a b 0 B (omega arith) (omega arith))
    ∙ ap (λ (x : ℕ). nearest 0 (compare (x * 2) b)) (mod_at a b 0 a B (omega arith) (omega arith))
    ∙ go (compare (a * 2) b) (cmp (a * 2) b)
  where
    go : (o : Ordering) → Cmp o (a * 2) b → nearest 0 o ≡ 0
    go Ordering.lt c = refl
    go Ordering.eq c = refl
    go Ordering.gt c = absurd (omega arith)

-- ---- as the code has 2 ^ d
pub unit_is : (d : ℕ) → d < 54 → 1 * 2 ^ d % 18446744073709551616 ≡ 2 ^ d
unit_is d h = mod-eq_of_lt (lt_of_le_of_lt (le_of_eq (one-mul (2 ^ d))) (pow-lt {i = d} {j = 64} (omega arith))) ∙ one-mul (2 ^ d)

pub unit_pos : (d : ℕ) → d < 54 → 0 < 1 * 2 ^ d % 18446744073709551616
unit_pos d h = subst (λ (z : ℕ). 0 < z) (sym (unit_is d h)) (pow_pos d)

pub rest_lt : (q d : ℕ) → d < 54 → q % (1 * 2 ^ d % 18446744073709551616) < 9007199254740992
rest_lt q d h = lt_of_lt_of_le (mod-lt q (unit_pos d h)) (le_trans (le_of_eq (unit_is d h)) (pow_mono {i = d} {j = 53} (omega arith)))

pub kept_le : (q d : ℕ) → q / 2 ^ d ≤ q
kept_le q d = div-le_self q (2 ^ d)
