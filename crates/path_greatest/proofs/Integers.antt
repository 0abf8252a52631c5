-- Integers as pairs, and floats that are integers.
use Rattle.std.specs.Prelude.{◌≡◌, ◌⊎◌, Bool, true, false, cond, List, ℤ, pos, negsuc, nat_abs, neg_ℤ, ◌+ℤ◌, ◌≤ℤ◌, T, eqb, get_or, Float}
use Rattle.std.proofs.Math.Path.{refl}
use Rattle.std.proofs.Common.{ap, inl, inr, arith, le→leb, leb→le, lt→ltb, lit≤}
use Prim.Native.Nat.{ℕ, zero, suc, ◌+◌, ◌*◌, ◌/◌, ◌%◌, ◌≤◌, ◌<◌}
use Rattle.std.specs.Int.Signed.{le_z, le_z_yes}
use Rattle.std.specs.Float.{nan, inf, fin, binary32}
use Rattle.std.specs.Float.Ieee.{eq, of_int, in_float}
use Rattle.std.specs.Float.Ieee.Scale.{finite}
use Rattle.ieee.specs.Value.{hi, lo, Num, one_side}
use Rattle.ieee.specs.Order.{eq→value}
use Rattle.ieee.specs.Rounding.{pow2}
use Rattle.ieee.specs.Whole.{hi_z, lo_z}
use Rattle.ieee.proofs.Whole.{of_int_on, parts}
use Rattle.trellis.specs.Step.{pair, four}
use Rattle.trellis.specs.Code.{label_at}
use Rattle.path_greatest.specs.Paths.{bound, sumℤ, Integer, Quadruples}
use Rattle.path_greatest.specs.Viterbi.{Z, plus, Le, sum}
use Rattle.path_greatest.proofs.Exact.{Whole}
use Rattle.path_greatest.proofs.Tracks.{Adds}
use Rattle.path_greatest.proofs.Branches.{four_adds, turned_z, pair_adds}

-- ---- integers and pairs
abbrev pub parts_of_lem : ℤ → Z
parts_of_lem z = (hi_z z, lo_z z)

-- z is p.0 - p.1
abbrev pub Val : ℤ → Z → Type 0
Val z p = hi_z z + p.1 ≡ lo_z z + p.0

val_add : (a b : ℤ) (p : Z) → Val a p → Val (a +ℤ b) (plus p (parts_of_lem b))
val_add a b p h = let r = parts a b in omega arith

le_to : (a b : ℤ) → hi_z a + lo_z b ≤ hi_z b + lo_z a → T (le_z a b)
le_to (pos a) (pos b) h = le→leb a b (omega arith)
le_to (pos a) (negsuc b) h = absurd (omega arith)
le_to (negsuc a) (pos b) h = tt
le_to (negsuc a) (negsuc b) h = le→leb b a (omega arith)

-- and back: of two integers in order the parts are
le_from : (a b : ℤ) → T (le_z a b) → hi_z a + lo_z b ≤ hi_z b + lo_z a
le_from (pos a) (pos b) h = let x = leb→le a b h in omega arith
le_from (pos a) (negsuc b) h = absurd h
le_from (negsuc a) (pos b) h = omega arith
le_from (negsuc a) (negsuc b) h = let x = leb→le b a h in omega arith

pub le_parts : (a b : ℤ) → a ≤ℤ b → hi_z a + lo_z b ≤ hi_z b + lo_z a
le_parts a b h = le_from a b h.le

pub le_val : (a b : ℤ) (p q : Z) → Val a p → Val b q → Le p q → a ≤ℤ b
le_val a b p q h k l = le_z_yes (le_to a b (omega arith))

anti : (a b : ℤ) → T (le_z a b) → T (le_z b a) → a ≡ b
anti (pos a) (pos b) h k = let x = leb→le a b h in let y = leb→le b a k in let e : a ≡ b = omega arith in ap pos e
anti (pos a) (negsuc b) h k = absurd h
anti (negsuc a) (pos b) h k = absurd k
anti (negsuc a) (negsuc b) h k = let x = leb→le b a h in let y = leb→le a b k in let e : a ≡ b = omega arith in ap negsuc e

pub ≤ℤ-antisymm : {a b : ℤ} → a ≤ℤ b → b ≤ℤ a → a ≡ b
≤ℤ-antisymm {a} {b} h k = anti a b h.le k.le

-- equal integers, so neither pair is below the other
pub same_val : (a b : ℤ) (p q : Z) → Val a p → Val b q → a ≡ b → Le q p
same_val a b p q h k e =
    let x : hi_z a ≡ hi_z b = ap hi_z e in
    let y : lo_z a ≡ lo_z b = ap lo_z e in
    omega arith

module _ (half : ℕ) (out : ℕ → ℕ → ℕ) (m : ℕ → ℕ → ℤ) where
  abbrev pub mz : ℕ → ℕ → Z
  mz k c = parts_of_lem (m k c)

  pub sum_val : (s : ℕ) (us : List ℕ) (k : ℕ) → Val (sumℤ half out m s us k) (sum half out mz s us k)
  unfolding sumℤ sum
  sum_val s us zero = refl
  sum_val s us (suc k) = val_add (sumℤ half out m s us k) (m k (label_at half out s us k)) (sum half out mz s us k) (sum_val s us k)

-- ---- a float that is an integer
eq_finite : (x y : Float) → T (finite y) → T (eq x y) → T (finite x)
unfolding eq
eq_finite nan y h e = absurd e
eq_finite (inf s) nan h e = absurd h
eq_finite (inf s) (inf t) h e = absurd h
eq_finite (inf s) (fin t n d) h e = absurd e
eq_finite (fin s k d) y h e = tt

in_float_lem : (z : ℤ) → nat_abs z ≤ bound → T (in_float binary32 z)
unfolding in_float
in_float_lem (pos n) h = le→leb n 16777216 (omega arith)
in_float_lem (negsuc n) h = lt→ltb n 16777216 (omega arith)

pick : (z : ℤ) (u hx lx : ℕ) → hx + lo_z z * u ≡ hi_z z * u + lx → (hx ≡ 0) ⊎ (lx ≡ 0) → (hx ≡ hi_z z * u) × (lx ≡ lo_z z * u)
pick (pos n) u hx lx e (inl w) = (omega arith, omega arith)
pick (pos n) u hx lx e (inr w) = (omega arith, omega arith)
pick (negsuc n) u hx lx e (inl w) = (omega arith, omega arith)
pick (negsuc n) u hx lx e (inr w) = (omega arith, omega arith)

pub integer_whole : (b : ℕ) (x : Float) (z : ℤ) → b ≤ bound → Integer b x z → Whole x (hi_z z) (lo_z z)
integer_whole b x z few i =
    let w = i.within in
    let y = of_int binary32 z in
    let o = of_int_on binary32 z (in_float_lem z (omega arith)) in
    let nx : Num binary32 x = record { fin_x = eq_finite x y o.num.fin_x i.equal; fits_x = i.held } in
    let s = eq→value binary32 x y nx o.num i.equal in
    let a = o.hi_is in
    let d = o.lo_is in
    let r = pick z (pow2 149) (hi binary32 x) (lo binary32 x) (omega arith) (one_side binary32 x) in
    record { num = nx; hi_is = r.0; lo_is = r.1 }

pub hi_most : (b : ℕ) (z : ℤ) → nat_abs z ≤ b → hi_z z ≤ b
hi_most b (pos n) h = h
hi_most b (negsuc n) h = omega arith

pub lo_most : (b : ℕ) (z : ℤ) → nat_abs z ≤ b → lo_z z ≤ b
lo_most b (pos n) h = omega arith
lo_most b (negsuc n) h = h

pub quadruples : (ms : ℕ → List Float) (m : ℕ → ℕ → ℤ) (n : ℕ) → Quadruples ms m n → (k : ℕ) → k < n → Adds (four (ms k)) (λ c. parts_of_lem (m k c))
quadruples ms m n q k h = four_adds (ms k) (λ c. parts_of_lem (m k c)) (record {
  whole = λ c l. integer_whole bound (get_or (ms k) c nan) (m k c) (lit≤ tt) (q k c h l);
  high_most = λ c l. hi_most bound (m k c) (q k c h l).within;
  deep_most = λ c l. lo_most bound (m k c) (q k c h l).within;
})

-- ---- two soft values
-- each of the first n pairs holds two whole numbers within 8 of 0: x k and y k
abbrev pub Pairs : (ℕ → Float) → (ℕ → Float) → (ℕ → ℤ) → (ℕ → ℤ) → ℕ → Type 0
Pairs lx ly x y n = (k : ℕ) → k < n → Integer 8 (lx k) (x k) × Integer 8 (ly k) (y k)

-- what they add to a branch of the label c = 2 X + Y: x, or -x where X is 1, and y, or -y where Y is 1
abbrev pub turnedℤ : Bool → ℤ → ℤ
turnedℤ w z = cond w (neg_ℤ z) z

abbrev pub signs : (ℕ → ℤ) → (ℕ → ℤ) → ℕ → ℕ → ℤ
signs x y k c = turnedℤ (eqb (c / 2) 1) (x k) +ℤ turnedℤ (eqb (c % 2) 1) (y k)

pub neg_parts : (z : ℤ) → (hi_z (neg_ℤ z) ≡ lo_z z) × (lo_z (neg_ℤ z) ≡ hi_z z)
neg_parts (pos zero) = (refl, refl)
neg_parts (pos (suc n)) = (refl, refl)
neg_parts (negsuc n) = (refl, refl)

turn : (w : Bool) (z : ℤ) → (hi_z (turnedℤ w z) ≡ (turned_z w (parts_of_lem z)).0) × (lo_z (turnedℤ w z) ≡ (turned_z w (parts_of_lem z)).1)
turn true z = neg_parts z
turn false z = (refl, refl)

turn_8 : (w : Bool) (z : ℤ) → nat_abs z ≤ 8 → (hi_z (turnedℤ w z) ≤ 8) × (lo_z (turnedℤ w z) ≤ 8)
turn_8 true z h = let s = neg_parts z in let a = hi_most 8 z h in let b = lo_most 8 z h in (omega arith, omega arith)
turn_8 false z h = (hi_most 8 z h, lo_most 8 z h)

sum_most : (a b : ℤ) → (hi_z a ≤ 8) × (lo_z a ≤ 8) → (hi_z b ≤ 8) × (lo_z b ≤ 8) → (hi_z (a +ℤ b) ≤ bound) × (lo_z (a +ℤ b) ≤ bound)
sum_most a b h k = let r = parts a b in (omega arith, omega arith)

pub pairs : (lx ly : ℕ → Float) (x y : ℕ → ℤ) (n : ℕ) → Pairs lx ly x y n → (k : ℕ) → k < n → Adds (pair (lx k) (ly k)) (λ c. parts_of_lem (signs x y k c))
pairs lx ly x y n q k h =
    let ix = (q k h).0 in
    let iy = (q k h).1 in
    pair_adds (lx k) (ly k) (λ c. parts_of_lem (signs x y k c)) (
    record {
      x = parts_of_lem (x k);
      y = parts_of_lem (y k);
      whole_x = integer_whole 8 (lx k) (x k) (lit≤ tt) ix;
      whole_y = integer_whole 8 (ly k) (y k) (lit≤ tt) iy;
      x_8 = (hi_most 8 (x k) ix.within, lo_most 8 (x k) ix.within);
      y_8 = (hi_most 8 (y k) iy.within, lo_most 8 (y k) iy.within);
      high_most = λ c l. (sum_most (turnedℤ (eqb (c / 2) 1) (x k)) (turnedℤ (eqb (c % 2) 1) (y k)) (turn_8 (eqb (c / 2) 1) (x k) ix.within) (turn_8 (eqb (c % 2) 1) (y k) iy.within)).0;
      deep_most = λ c l. (sum_most (turnedℤ (eqb (c / 2) 1) (x k)) (turnedℤ (eqb (c % 2) 1) (y k)) (turn_8 (eqb (c / 2) 1) (x k) ix.within) (turn_8 (eqb (c % 2) 1) (y k) iy.within)).1;
      is = λ c l. whole_sum (eqb (c / 2) 1) (eqb (c % 2) 1) (x k) (y k);
    })
  where
    whole_sum : (u w : Bool) (a b : ℤ) → hi_z (turnedℤ u a +ℤ turnedℤ w b) + ((turned_z u (parts_of_lem a)).1 + (turned_z w (parts_of_lem b)).1) ≡ lo_z (turnedℤ u a +ℤ turnedℤ w b) + ((turned_z u (parts_of_lem a)).0 + (turned_z w (parts_of_lem b)).0)
    whole_sum u w a b = let r = parts (turnedℤ u a) (turnedℤ w b) in let s = turn u a in let t = turn w b in omega arith
