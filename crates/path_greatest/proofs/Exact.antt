-- Whole floats: `Is x z off` says that x is z - off. Their sums are exact, and a comparison of two with one off is that of the whole numbers.
use Rattle.std.specs.Prelude.{◌≡◌, refl, Bool, true, false, not, ℕ, ◌+◌, ◌-◌, ◌*◌, ◌≤◌, ◌<◌, T, ltb, leb, Float}
use Rattle.std.proofs.Common.{sym, ap, ◌∙◌, add-mul, lt_of_mul-lt-mul_right, mul-lt-mul_of_pos_right, mul-le-mul_right, arith, ltb→lt, lt→ltb, leb→le, le→leb, nltb→le, lit<, lit≤, pow_mono}
use Rattle.std.specs.Float.{binary32}
use Rattle.std.specs.Float.Ieee.{add, sub, lt, le, of_bits, fits}
use Rattle.ieee.specs.Value.{hi, lo, Num}
use Rattle.ieee.specs.Order.{lt→value, value→lt, value→le}
use Rattle.ieee.specs.Rounding.{pow2, pow2_add, pow2_pos}
use Rattle.ieee.specs.Whole.{On}
use Rattle.ieee.proofs.Whole.{add_on}
use Rattle.ieee.proofs.WholeDifference.{sub_on}
use Rattle.trellis.specs.Step.{Tie, lower, upper, takes}
use Rattle.path_greatest.specs.Viterbi.{Z, plus, beats}

pub bool_eq : (a b : Bool) → (T a → T b) → (T b → T a) → a ≡ b
bool_eq true true h k = refl
bool_eq true false h k = absurd (h tt)
bool_eq false true h k = absurd (k tt)
bool_eq false false h k = refl

-- x is p - n
abbrev pub Whole : Float → ℕ → ℕ → Type 0
Whole x p n = On binary32 x 149 p n

-- ---- order
module _ (x y : Float) (p n p' n' : ℕ) (a : Whole x p n) (b : Whole y p' n') where
  left : hi binary32 x + lo binary32 y ≡ (p + n') * pow2 149
  left = ap (λ (z : ℕ). z + lo binary32 y) a.hi_is ∙ ap (λ (z : ℕ). p * pow2 149 + z) b.lo_is ∙ sym (add-mul p n' (pow2 149))

  right : hi binary32 y + lo binary32 x ≡ (p' + n) * pow2 149
  right = ap (λ (z : ℕ). z + lo binary32 x) b.hi_is ∙ ap (λ (z : ℕ). p' * pow2 149 + z) a.lo_is ∙ sym (add-mul p' n (pow2 149))

  pub lt_to : T (lt x y) → p + n' < p' + n
  lt_to h =
      let l = lt→value binary32 x y a.num b.num h in
      let e = left in
      let f = right in
      let g : (p + n') * pow2 149 < (p' + n) * pow2 149 = omega arith in
      lt_of_mul-lt-mul_right (pow2 149) g

  pub lt_from : p + n' < p' + n → T (lt x y)
  lt_from h =
      let l : (p + n') * pow2 149 < (p' + n) * pow2 149 = mul-lt-mul_of_pos_right h (pow2_pos 149) in
      let e = left in
      let f = right in
      value→lt binary32 x y a.num b.num (omega arith)

  pub le_from : p + n' ≤ p' + n → T (le x y)
  le_from h =
      let l : (p + n') * pow2 149 ≤ (p' + n) * pow2 149 = mul-le-mul_right (pow2 149) h in
      let e = left in
      let f = right in
      value→le binary32 x y a.num b.num (omega arith)

-- x is z - off
pub record Is (x : Float) (z off : Z) : Type 0 where
  pub p : ℕ
  pub n : ℕ
  pub on : Whole x p n
  pub same : p + z.1 + off.0 ≡ n + z.0 + off.1

not_less : (m n : ℕ) → not (ltb m n) ≡ leb n m
not_less m n = bool_eq (not (ltb m n)) (leb n m) (λ w. le→leb n m (nltb→le m n w)) (λ w. le_not m n (ltb m n) (ltb→lt m n) (leb→le n m w))
  where
    le_not : (m n : ℕ) (t : Bool) → (T t → m < n) → n ≤ m → T (not t)
    le_not m n true h k = let l = h tt in absurd (omega arith)
    le_not m n false h k = tt

lt_is : (x y : Float) (a b off : Z) → Is x a off → Is y b off → lt x y ≡ ltb (a.0 + b.1) (b.0 + a.1)
lt_is x y a b off h k =
    bool_eq (lt x y) (ltb (a.0 + b.1) (b.0 + a.1))
    (λ w. let l = lt_to x y h.p h.n k.p k.n h.on k.on w in lt→ltb (a.0 + b.1) (b.0 + a.1) (omega arith))
    (λ w. let l = ltb→lt (a.0 + b.1) (b.0 + a.1) w in lt_from x y h.p h.n k.p k.n h.on k.on (omega arith))

pub takes_is : (t : Tie) (x y : Float) (a b off : Z) → Is x a off → Is y b off → takes t x y ≡ beats t a b
takes_is lower x y a b off h k = lt_is x y a b off h k
takes_is upper x y a b off h k = ap not (lt_is y x b a off k h) ∙ not_less (b.0 + a.1) (a.0 + b.1)

-- ---- sums
-- z - off is at most 2 ^ 24 in size
abbrev pub Near : Z → Z → Type 0
Near z off = (z.0 + off.1 ≤ z.1 + off.0 + 16777216) × (z.1 + off.0 ≤ z.0 + off.1 + 16777216)

pub is_add : (x y : Float) (z off m : Z) → Is x z off → Whole y m.0 m.1 → Near (plus z m) off → Is (add binary32 x y) (plus z m) off
is_add x y z off m h k w =
    let p = h.p in
    let n = h.n in
    let s = h.same in
    let c : p + m.0 ≤ n + m.1 + 16777216 = omega arith in
    let d : n + m.1 ≤ p + m.0 + 16777216 = omega arith in
    record { p = p + m.0 - (n + m.1); n = n + m.1 - (p + m.0); on = add_on 149 h.on k (lit< tt) c d; same = omega arith }

-- less another: the off of all becomes what was taken off
pub is_sub : (x y : Float) (z off o : Z) → Is x z off → Is y o off → Near z o → Is (sub binary32 x y) z o
is_sub x y z off o h k w =
    let p = h.p in
    let n = h.n in
    let s = h.same in
    let p' = k.p in
    let n' = k.n in
    let s' = k.same in
    let c : p + n' ≤ n + p' + 16777216 = omega arith in
    let d : n + p' ≤ p + n' + 16777216 = omega arith in
    record { p = p + n' - (n + p'); n = n + p' - (p + n'); on = sub_on 149 h.on k.on (lit< tt) c d; same = omega arith }

-- ---- the least finite float is below all of these
abbrev pub least : Float
least = of_bits binary32 0xff7f_ffff

pub least_num : Num binary32 least
unfolding of_bits fits
least_num = record { fin_x = tt; fits_x = tt }

pub least_hi : hi binary32 least ≡ 0
unfolding of_bits hi
least_hi = refl

pub least_lo : lo binary32 least ≡ 16777215 * pow2 253
unfolding of_bits lo pow2
least_lo = refl

less : pow2 150 ≤ pow2 253
unfolding pow2
less = pow_mono {i = 150} {j = 253} (lit≤ tt)

pub least_below : (x : Float) (z off : Z) → Is x z off → Near z off → T (lt least x)
least_below x z off h w =
    let p = h.p in
    let n = h.n in
    let s = h.same in
    let hx : hi binary32 x ≡ p * pow2 149 = h.on.hi_is in
    let lx : lo binary32 x ≡ n * pow2 149 = h.on.lo_is in
    let c : n ≤ p + 16777216 = omega arith in
    let d : n * pow2 149 ≤ (p + 16777216) * pow2 149 = mul-le-mul_right (pow2 149) c in
    let e : (p + 16777216) * pow2 149 ≡ p * pow2 149 + 16777216 * pow2 149 = add-mul p 16777216 (pow2 149) in
    let u : pow2 150 ≡ 2 * pow2 149 = pow2_add 1 149 in
    let y = less in
    let o = pow2_pos 149 in
    let a = least_hi in
    let b = least_lo in
    value→lt binary32 least x least_num h.on.num (omega arith)
