-- The order of floats, infinities and NaN among them: where x < b and b < y, x < y; and where x < y, a number b is above x or below y.
use mathlib.Core.Path.{◌≡◌, refl, sym}
use mathlib.Core.Bool.{Bool, true, false, not, ◌&&◌}
use Prim.Native.Nat.{ℕ, zero, suc, ◌+◌, ◌*◌, ◌<◌, ◌≤◌}
use native.Mathlib.Nat.{mul-le-mul_right, le_of_mul-le-mul_right, mul_right_comm, zero-mul}
use native.Mathlib.Omega.{arith}
use lib.Dec.{ltb}
use lib.Ieee.{Float, nan, inf, fin, up, down, below, lt}
use lib.Ieee.Fits.{down_pos}
use borrow.Author.Tests.{ltb-true, ltb-false}

pub never : {A : Type 0} → false ≡ true → A
never e = let z : ◌≡◌ {A = ℕ} 0 1 = cc in absurd (omega arith)

-- A / P ≤ B / Q ≤ C / R
le_chain : (A P B Q C R : ℕ) → 0 < Q → A * Q ≤ B * P → B * R ≤ C * Q → A * R ≤ C * P
le_chain A P B Q C R pos g h =
    let a : A * Q * R ≤ B * P * R = mul-le-mul_right R g in
    let b : B * R * P ≤ C * Q * P = mul-le-mul_right P h in
    let c = mul_right_comm A R Q in
    let d = mul_right_comm B P R in
    let e = mul_right_comm C P Q in
    le_of_mul-le-mul_right {m = A * R} {n = C * P} {k = Q} (omega arith) pos

-- 0 / Q is 0 / P
zero_chain : (C Q P : ℕ) → 0 < Q → C * Q ≤ 0 → C * P ≤ 0
zero_chain zero Q P pos h = rw (zero-mul P) (omega arith)
zero_chain (suc C) Q P pos h = absurd (let m : 1 * Q ≤ suc C * Q = mul-le-mul_right Q (omega arith) in omega arith)

tested : (a b : ℕ) (t : Bool) → ltb a b ≡ t → (b ≤ a → ⊥) → ltb a b ≡ true
tested a b true e h = e
tested a b false e h = absurd (h (ltb-false a b e))

above : (a b : ℕ) → (b ≤ a → ⊥) → ltb a b ≡ true
above a b = tested a b (ltb a b) refl

-- x = ±A / P, b = ±B / Q, y = ±C / R
module _ (A P B Q C R : ℕ) (posP : 0 < P) (posQ : 0 < Q) (posR : 0 < R) where
  chain : A * Q < B * P → B * R < C * Q → ltb (A * R) (C * P) ≡ true
  chain g h = above (A * R) (C * P) (λ l. let z = le_chain C R A P B Q posP l (omega arith) in omega arith)

  below_trans : (s t u : Bool) → below s (A * Q) t (B * P) ≡ true → below t (B * R) u (C * Q) ≡ true → below s (A * R) u (C * P) ≡ true
  below_trans false false false p q = chain (ltb-true (A * Q) (B * P) p) (ltb-true (B * R) (C * Q) q)
  below_trans false false true p q = never q
  below_trans false true u p q = never p
  below_trans true false false p q =
      let h = ltb-true (B * R) (C * Q) q in
      above 0 (A * R + C * P) (λ l. let z = zero_chain C P Q posP (omega arith) in omega arith)
  below_trans true false true p q = never q
  below_trans true true false p q =
      let h = ltb-true (B * P) (A * Q) p in
      above 0 (A * R + C * P) (λ l. let z = zero_chain A R Q posR (omega arith) in omega arith)
  below_trans true true true p q =
      let g = ltb-true (B * P) (A * Q) p in
      let h = ltb-true (C * Q) (B * R) q in
      above (C * P) (A * R) (λ l. let z = le_chain A P C R B Q posR l (omega arith) in omega arith)

  below_co : (s t u : Bool) → below s (A * R) u (C * P) ≡ true → below t (B * R) u (C * Q) ≡ false → below s (A * Q) t (B * P) ≡ true
  below_co false false false p q =
      let g = ltb-true (A * R) (C * P) p in
      let h = ltb-false (B * R) (C * Q) q in
      above (A * Q) (B * P) (λ l. let z = le_chain C R B Q A P posQ h l in omega arith)
  below_co false true false p q =
      let g = ltb-true (A * R) (C * P) p in
      let h = ltb-false 0 (B * R + C * Q) q in
      let z = zero_chain C Q P posQ (omega arith) in
      absurd (omega arith)
  below_co false t true p q = never p
  below_co true false false p q =
      let g = ltb-true 0 (A * R + C * P) p in
      let h = ltb-false (B * R) (C * Q) q in
      above 0 (A * Q + B * P) (λ l.
      let a = zero_chain A Q R posQ (omega arith) in
      let b = zero_chain B P R posP (omega arith) in
      let c = zero_chain C Q P posQ (omega arith) in
      omega arith)
  below_co true true false p q =
      let g = ltb-true 0 (A * R + C * P) p in
      let h = ltb-false 0 (B * R + C * Q) q in
      let b = zero_chain B R P posR (omega arith) in
      let c = zero_chain C Q P posQ (omega arith) in
      above (B * P) (A * Q) (λ l. let a = zero_chain A Q R posQ (omega arith) in omega arith)
  below_co true false true p q =
      let g = ltb-true (C * P) (A * R) p in
      above 0 (A * Q + B * P) (λ l. let a = zero_chain A Q R posQ (omega arith) in omega arith)
  below_co true true true p q =
      let g = ltb-true (C * P) (A * R) p in
      let h = ltb-false (C * Q) (B * R) q in
      above (B * P) (A * Q) (λ l. let z = le_chain A P B Q C R posQ l h in omega arith)

-- no NaN
abbrev pub Number : Float → Type 0
Number nan = ⊥
Number (inf s) = Unit
Number (fin s m e) = Unit

sign_trans : (s t u : Bool) → s && not t ≡ true → t && not u ≡ true → s && not u ≡ true
sign_trans false t u p q = p
sign_trans true false u p q = never q
sign_trans true true u p q = never p

opposite : {A : Type 0} (t : Bool) → not t ≡ true → t ≡ true → A
opposite true p q = never p
opposite false p q = never q

clash : {A : Type 0} (t : Bool) → t ≡ true → t ≡ false → A
clash true p q = never (sym q)
clash false p q = never p

both : (s u : Bool) → s ≡ true → u ≡ true → s && u ≡ true
both true u p q = q
both false u p q = p

left : (s u : Bool) → s && u ≡ true → s ≡ true
left true u p = refl
left false u p = p

right : (s u : Bool) → s && u ≡ true → u ≡ true
right true u p = p
right false u p = never p

pub lt_trans : (x b y : Float) → lt x b ≡ true → lt b y ≡ true → lt x y ≡ true
unfolding lt
lt_trans nan b y p q = p
lt_trans (inf s) nan y p q = never p
lt_trans (inf s) (inf t) nan p q = never q
lt_trans (inf s) (inf t) (inf u) p q = sign_trans s t u p q
lt_trans (inf s) (inf t) (fin u k c) p q = left s (not t) p
lt_trans (inf s) (fin t n d) nan p q = never q
lt_trans (inf s) (fin t n d) (inf u) p q = both s (not u) p q
lt_trans (inf s) (fin t n d) (fin u k c) p q = p
lt_trans (fin s m e) nan y p q = never p
lt_trans (fin s m e) (inf t) nan p q = never q
lt_trans (fin s m e) (inf t) (inf u) p q = right t (not u) q
lt_trans (fin s m e) (inf t) (fin u k c) p q = opposite t p q
lt_trans (fin s m e) (fin t n d) nan p q = never q
lt_trans (fin s m e) (fin t n d) (inf u) p q = q
lt_trans (fin s m e) (fin t n d) (fin u k c) p q =
    below_trans (m * up e) (down e) (n * up d) (down d) (k * up c) (down c) (down_pos e) (down_pos d) (down_pos c) s t u p q

sign_co : (s t u : Bool) → s && not u ≡ true → t && not u ≡ false → s && not t ≡ true
sign_co true true true p q = p
sign_co true true false p q = never (sym q)
sign_co true false u p q = refl
sign_co false t u p q = p

flipped : (t : Bool) → t ≡ false → not t ≡ true
flipped true q = sym q
flipped false q = refl

under : (t u : Bool) → not u ≡ true → t && not u ≡ false → not t ≡ true
under true u p q = clash (not u) p q
under false u p q = refl

pub lt_co : (x b y : Float) → Number b → lt x y ≡ true → lt b y ≡ false → lt x b ≡ true
unfolding lt
lt_co nan b y v p q = p
lt_co (inf s) nan y v p q = absurd v
lt_co (inf s) (inf t) nan v p q = never p
lt_co (inf s) (inf t) (inf u) v p q = sign_co s t u p q
lt_co (inf s) (inf t) (fin u k c) v p q = both s (not t) p (flipped t q)
lt_co (inf s) (fin t n d) nan v p q = never p
lt_co (inf s) (fin t n d) (inf u) v p q = left s (not u) p
lt_co (inf s) (fin t n d) (fin u k c) v p q = p
lt_co (fin s m e) nan y v p q = absurd v
lt_co (fin s m e) (inf t) nan v p q = never p
lt_co (fin s m e) (inf t) (inf u) v p q = under t u p q
lt_co (fin s m e) (inf t) (fin u k c) v p q = flipped t q
lt_co (fin s m e) (fin t n d) nan v p q = never p
lt_co (fin s m e) (fin t n d) (inf u) v p q = clash (not u) p q
lt_co (fin s m e) (fin t n d) (fin u k c) v p q =
    below_co (m * up e) (down e) (n * up d) (down d) (k * up c) (down c) (down_pos e) (down_pos d) (down_pos c) s t u p q
