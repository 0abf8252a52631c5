-- Whole numbers, and multiples of any power of two: their sums are exact where the format has the digits, up to 2 ^ prec of them (`add_on`, `sub_on`).
-- `On f x j p n`: x is p - n times 2 ^ j units. A whole number is on 2 ^ low units (`of_int_on`).
use Rattle.std.specs.Prelude.{◌≡◌, Bool, true, false, not, cond, ℕ, suc, ◌+◌, ◌-◌, ◌*◌, ◌^◌, ◌≤◌, ◌<◌, ℤ, pos, negsuc, ◌+ℤ◌, T, ltb, Float}
use Rattle.std.proofs.Common.{sym, ap, ◌∙◌, mul-one, mul_right_comm, add-mul, mul-le-mul_right, zero-mul, arith, ltb→lt, nltb→le, leb→le, pow-add}
use Rattle.std.proofs.Math.IntN.{sub_ℕ}
use Rattle.std.specs.Float.{nan, inf, fin, Format}
use Rattle.std.specs.Float.Ieee.{fits, prec, emax, low, up, down, neg, add, round, of_int, in_float}
use Rattle.std.specs.Float.Ieee.Fits.{of_int-fits}
use Rattle.std.specs.Float.Ieee.Exact.{HasValue}
use Rattle.std.specs.Float.Ieee.Back.{round_whole}
use Rattle.ieee.specs.Value.{hi, lo, hi_of, lo_of, finite_of, hi_neg, lo_neg, num_neg}
use Rattle.ieee.specs.Rounding.{pow2, pow2_is, fine_pow}
use Rattle.ieee.proofs.Rounding.{rounds_exact}
use Rattle.ieee.proofs.Sums.{add_rounds}
use Rattle.ieee.specs.Whole.{On, hi_z, lo_z}

pub on_neg : {f : Format} {x : Float} {j p n : ℕ} → On f x j p n → On f (neg x) j n p
on_neg {f} {x} h = record { num = num_neg h.num; hi_is = hi_neg f x ∙ h.lo_is; lo_is = lo_neg f x ∙ h.hi_is }

-- ---- sums
join : (a b p q u : ℕ) → a ≡ p * u → b ≡ q * u → a + b ≡ (p + q) * u
join a b p q u d e = ap (λ (x : ℕ). x + b) d ∙ ap (λ (x : ℕ). p * u + x) e ∙ sym (add-mul p q u)

room : (P N p n u w b : ℕ) → P ≡ p * u → N ≡ n * u → w * u ≡ b → p ≤ n + w → P ≤ N + b
room P N p n u w b d e k h = omega (arith, mul-le-mul_right u h)

pub add_on : {f : Format} {x y : Float} (j : ℕ) {p n p' n' : ℕ} → On f x j p n → On f y j p' n' → prec f + j < low f + suc (emax f) → p + p' ≤ n + n' + 2 ^ prec f → n + n' ≤ p + p' + 2 ^ prec f
    → On f (add f x y) j (p + p' - (n + n')) (n + n' - (p + p'))
add_on {f} {x} {y} j {p} {n} {p'} {n'} s t l h k =
    let u = pow2 j in
    let P : hi f x + hi f y ≡ (p + p') * u = join (hi f x) (hi f y) p p' u s.hi_is t.hi_is in
    let N : lo f x + lo f y ≡ (n + n') * u = join (lo f x) (lo f y) n n' u s.lo_is t.lo_is in
    let b : 2 ^ prec f * u ≡ 2 ^ (prec f + j) = ap (λ (z : ℕ). 2 ^ prec f * z) (pow2_is j) ∙ sym (pow-add 2 (prec f) j) in
    let g = fine_pow f (prec f + j) (hi f x + hi f y) (lo f x + lo f y) l (room (hi f x + hi f y) (lo f x + lo f y) (p + p') (n + n') u (2 ^ prec f) (2 ^ (prec f + j)) P N b h) (room (lo f x + lo f y) (hi f x + hi f y) (n + n') (p + p') u (2 ^ prec f) (2 ^ (prec f + j)) N P b k) in
    let r = add_rounds f x y s.num t.num g in
    let e = rounds_exact (p + p') (n + n') j r (P ∙ ap (λ (z : ℕ). (p + p') * z) (pow2_is j)) (N ∙ ap (λ (z : ℕ). (n + n') * z) (pow2_is j)) h k in
    record { num = r.num; hi_is = e.hi_is ∙ ap (λ (z : ℕ). (p + p' - (n + n')) * z) (sym (pow2_is j)); lo_is = e.lo_is ∙ ap (λ (z : ℕ). (n + n' - (p + p')) * z) (sym (pow2_is j)) }

in_units : (f : Format) (x : Float) (s : Bool) (n : ℕ) → HasValue x s n 1 → HasValue x s (n * 2 ^ low f) (2 ^ low f)
in_units f nan s n v = v
in_units f (inf t) s n v = v
in_units f (fin t m e) s n v = (v.0, ap (λ (x : ℕ). x * 2 ^ low f) (sym (mul-one (m * up e)) ∙ v.1) ∙ mul_right_comm n (down e) (2 ^ low f))

turn : (f : Format) (n : ℕ) → n * 2 ^ low f ≡ n * pow2 (low f)
turn f n = ap (λ (x : ℕ). n * x) (sym (pow2_is (low f)))

nil : (f : Format) → 0 ≡ 0 * pow2 (low f)
nil f = sym (zero-mul (pow2 (low f)))

-- x is the whole number n, or -n
on_plus : (f : Format) (x : Float) (n : ℕ) → T (fits f x) → HasValue x false n 1 → On f x (low f) n 0
on_plus f x n t v =
    let w = in_units f x false n v in
    record { num = record { fin_x = finite_of x false n 1 v; fits_x = t }; hi_is = hi_of f x false (n * 2 ^ low f) w ∙ turn f n; lo_is = lo_of f x false (n * 2 ^ low f) w ∙ nil f }

on_minus : (f : Format) (x : Float) (n : ℕ) → T (fits f x) → HasValue x true n 1 → On f x (low f) 0 n
on_minus f x n t v =
    let w = in_units f x true n v in
    record { num = record { fin_x = finite_of x true n 1 v; fits_x = t }; hi_is = hi_of f x true (n * 2 ^ low f) w ∙ nil f; lo_is = lo_of f x true (n * 2 ^ low f) w ∙ turn f n }

pub of_int_on : (f : Format) (z : ℤ) → T (in_float f z) → On f (of_int f z) (low f) (hi_z z) (lo_z z)
unfolding of_int in_float
of_int_on f (pos n) t = on_plus f (round f false n 1) n (of_int-fits f (pos n)) (round_whole f false n (leb→le n (2 ^ prec f) t))
of_int_on f (negsuc n) t = on_minus f (round f true (suc n) 1) (suc n) (of_int-fits f (negsuc n)) (round_whole f true (suc n) (ltb→lt n (2 ^ prec f) t))

-- ---- the integers' sum, by its two parts
sub_parts : (a b : ℕ) → (hi_z (sub_ℕ a b) ≡ a - b) × (lo_z (sub_ℕ a b) ≡ b - a)
sub_parts a b = go (ltb a b) (ltb→lt a b) (nltb→le a b)
  where
    go : (t : Bool) → (T t → a < b) → (T (not t) → b ≤ a) → (hi_z (cond t (negsuc (b - suc a)) (pos (a - b))) ≡ a - b) × (lo_z (cond t (negsuc (b - suc a)) (pos (a - b))) ≡ b - a)
    go true h k = let w = h tt in (omega arith, omega arith)
    go false h k = let w = k tt in (omega arith, omega arith)

pub parts : (a b : ℤ) → (hi_z (a +ℤ b) ≡ hi_z a + hi_z b - (lo_z a + lo_z b)) × (lo_z (a +ℤ b) ≡ lo_z a + lo_z b - (hi_z a + hi_z b))
parts (pos a) (pos b) = (omega arith, omega arith)
parts (pos a) (negsuc b) = let r = sub_parts a (suc b) in (omega arith, omega arith)
parts (negsuc a) (pos b) = let r = sub_parts b (suc a) in (omega arith, omega arith)
parts (negsuc a) (negsuc b) = (omega arith, omega arith)
