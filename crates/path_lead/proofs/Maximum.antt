-- The maximum is the value of the state that leads, and that state is the best one. To subtract the maximum costs the lead nothing: the sent state's value becomes 0,
-- and a lead of a * 2 ^ -15 is a number that the format holds.
--
use Rattle.std.specs.Prelude.{◌≡◌, ◌⊎◌, Bool, cond, List, map, Float}
use Rattle.std.proofs.Math.Path.{refl, ap}
use Rattle.std.proofs.Common.{sym, ◌∙◌, subst, mul-le-mul_right, zero-mul, lit<, lit≤}
use Rattle.std.proofs.Math.Logic.{inl, inr}
use Rattle.std.proofs.Math.Bool.{true, false}
use Prim.Native.Nat.{ℕ, zero, suc, ◌+◌, ◌*◌, ◌<◌, ◌≤◌}
use native.Mathlib.Omega.{arith}
use Rattle.std.proofs.Math.Dec.{T}
use Rattle.std.proofs.Math.ListN.{get_or, get_or-map}
use Rattle.std.specs.Float.Ieee.{nan, binary32, lt, add, sub, fits, of_bits}
use Rattle.ieee.specs.Value.{hi, lo, Num}
use Rattle.ieee.specs.Order.{Lt, lt→value, value→lt}
use Rattle.ieee.specs.Rounding.{Rounds, pow2, pow2_pos, fine_pow2}
use Rattle.ieee.proofs.Sums.{sub_rounds}
use Rattle.trellis.specs.Step.{Tie, takes, top, best, renormalised}
use Rattle.ieee.proofs.Bounds.{rounds_cap, rounds_floor, rounds_deep, rounds_up}
use Rattle.path_lead.specs.Ties.{same, takes_greater, takes_less}
use Rattle.path_lead.proofs.Step.{Leads}

-- ---- the state s, ahead of every other one
pub record Ahead (pm : List Float) (s : ℕ) : Type 0 where
  pub num : (r : ℕ) → r < 64 → Num binary32 (get_or pm r nan)
  pub ahead : (r : ℕ) → r < 64 → (r ≡ s → ⊥) → Lt binary32 (get_or pm r nan) (get_or pm s nan)

pub ahead_of : {pm : List Float} {s M B L : ℕ} → 0 < L → Leads pm s M B L → Ahead pm s
ahead_of h i = record { num = i.num; ahead = λ r R n. let e = i.lead r R n in omega arith }

-- either n states do not have s yet, and t is below the value of s; or they have, and t is that value
Top : List Float → ℕ → ℕ → Float → Type 0
Top pm s n t = ((n ≤ s) × Num binary32 t × Lt binary32 t (get_or pm s nan)) ⊎ ((s < n) × (t ≡ get_or pm s nan))

bottom_num : Num binary32 (of_bits binary32 0xff7f_ffff)
unfolding fits of_bits
bottom_num = record { fin_x = tt; fits_x = tt }

bottom_is : (hi binary32 (of_bits binary32 0xff7f_ffff) ≡ 0) × (lo binary32 (of_bits binary32 0xff7f_ffff) ≡ 16777215 * pow2 253)
unfolding hi lo pow2 of_bits
bottom_is = (refl, refl)

module _ (pm : List Float) (s : ℕ) (S : s < 64) (a : Ahead pm s) (plus : lo binary32 (get_or pm s nan) ≡ 0) where
  one_more : (n : ℕ) (t : Float) → n < 64 → Top pm s n t → (e : (n ≡ s) ⊎ (n ≡ s → ⊥)) (b : Bool) → lt t (get_or pm n nan) ≡ b → Top pm s (suc n) (cond b (get_or pm n nan) t)
  unfolding Top
  one_more n t h (inl w) (inl e) true q = inr (omega arith, ap (λ (x : ℕ). get_or pm x nan) e)
  one_more n t h (inl w) (inl e) false q =
      absurd (subst T q (subst (λ (x : ℕ). T (lt t (get_or pm x nan))) (sym e) (value→lt binary32 t (get_or pm s nan) w.1 (a.num s S) w.2)))
  one_more n t h (inl w) (inr e) true q = let g = w.0 in inl (omega arith, a.num n h, a.ahead n h e)
  one_more n t h (inl w) (inr e) false q = let g = w.0 in inl (omega arith, w.1, w.2)
  one_more n t h (inr w) (inl e) b q = let g = w.0 in absurd (omega arith)
  one_more n t h (inr w) (inr e) true q =
      let g = a.ahead n h e in
      let k = lt→value binary32 (get_or pm s nan) (get_or pm n nan) (a.num s S) (a.num n h) (subst (λ (x : Float). T (lt x (get_or pm n nan))) w.1 (subst T (sym q) tt)) in
      absurd (omega arith)
  one_more n t h (inr w) (inr e) false q = let g = w.0 in inr (omega arith, w.1)

  tops : (n : ℕ) → n ≤ 64 → Top pm s n (top pm n)
  unfolding top Top
  tops zero h = let b = bottom_is in let z = plus in let o = pow2_pos 253 in inl (omega arith, bottom_num, omega arith)
  tops (suc n) h = one_more n (top pm n) h (tops n (omega arith)) (same n s) (lt (top pm n) (get_or pm n nan)) refl

  pub top_is : top pm 64 ≡ get_or pm s nan
  unfolding Top
  top_is = go (tops 64 (lit≤ tt))
    where
      go : Top pm s 64 (top pm 64) → top pm 64 ≡ get_or pm s nan
      go (inl w) = let g = w.0 in absurd (omega arith)
      go (inr w) = w.1

-- ---- the best state, by either tie-break
module _ (t : Tie) (pm : List Float) (s : ℕ) (S : s < 64) (a : Ahead pm s) where
  -- of the states 0 to n, which have s or not, b is the best
  Best : ℕ → ℕ → Type 0
  Best n b = ((n < s) × (b ≤ n)) ⊎ ((s ≤ n) × (b ≡ s))

  best_more : (n b : ℕ) → suc n < 64 → Best n b → (e : (suc n ≡ s) ⊎ (suc n ≡ s → ⊥)) → Best (suc n) (cond (takes t (get_or pm b nan) (get_or pm (suc n) nan)) (suc n) b)
  unfolding Best
  best_more n b h (inl w) (inl e) =
      let x = w.0 in
      let y = w.1 in
      let k = a.ahead b (omega arith) (λ f. omega arith) in
      rw (e, takes_greater t (get_or pm b nan) (get_or pm s nan) (a.num b (omega arith)) (a.num s S) k) (inr (omega arith, refl))
  best_more n b h (inl w) (inr e) = either (takes t (get_or pm b nan) (get_or pm (suc n) nan))
    where
      either : (r : Bool) → Best (suc n) (cond r (suc n) b)
      either true = let x = w.0 in inl (omega arith, omega arith)
      either false = let x = w.0 in let y = w.1 in inl (omega arith, omega arith)
  best_more n b h (inr w) (inl e) = let x = w.0 in absurd (omega arith)
  best_more n b h (inr w) (inr e) =
      let x = w.0 in
      rw (w.1, takes_less t (get_or pm s nan) (get_or pm (suc n) nan) (a.num s S) (a.num (suc n) h) (a.ahead (suc n) h e)) (inr (omega arith, refl))

  bests : (n : ℕ) → n < 64 → Best n (best t pm n)
  unfolding best Best
  bests zero h = go (same 0 s)
    where
      go : (0 ≡ s) ⊎ (0 ≡ s → ⊥) → Best 0 0
      go (inl e) = inr (omega arith, e)
      go (inr n) = inl (omega arith, omega arith)
  bests (suc n) h = best_more n (best t pm n) h (bests n (omega arith)) (same (suc n) s)

  pub best_is : best t pm 63 ≡ s
  unfolding Best
  best_is = go (bests 63 (lit< tt))
    where
      go : Best 63 (best t pm 63) → best t pm 63 ≡ s
      go (inl w) = let g = w.0 in absurd (omega arith)
      go (inr w) = w.1

-- ---- the maximum subtracted
nan_less : (t : Float) → sub binary32 nan t ≡ nan
unfolding sub add
nan_less t = refl

pub get_d_renormalised : (pm : List Float) (r : ℕ) → get_or (renormalised 32 pm) r nan ≡ sub binary32 (get_or pm r nan) (top pm 64)
unfolding renormalised
get_d_renormalised pm r =
    ap (λ (d : Float). get_or (map (λ (x : Float). sub binary32 x (top pm 64)) pm) r d) (sym (nan_less (top pm 64)))
    ∙ get_or-map (λ (x : Float). sub binary32 x (top pm 64)) pm r nan

pub some_lead : (a : ℕ) → 0 < a → 0 < a * pow2 134
some_lead a A = let m : 1 * pow2 134 ≤ a * pow2 134 = mul-le-mul_right (pow2 134) A in let o = pow2_pos 134 in omega arith

-- the values then go down to -p * 2 ^ g units at most
module _ (pm : List Float) (s : ℕ) (S : s < 64) (M B g p a : ℕ) (G : g < 200) (P : p ≤ 16777216) (room : B + M ≤ p * pow2 g) (A : 0 < a) (A' : a ≤ 16777216)
    (i : Leads pm s M B (a * pow2 134))
  where
    renormalised_at : (r : ℕ) → get_or (renormalised 32 pm) r nan ≡ sub binary32 (get_or pm r nan) (get_or pm s nan)
    renormalised_at r = get_d_renormalised pm r ∙ ap (λ (t : Float). sub binary32 (get_or pm r nan) t) (top_is pm s S (ahead_of (some_lead a A) i) i.plus)

    deep : (r : ℕ) → r < 64 → lo binary32 (get_or pm r nan) + hi binary32 (get_or pm s nan) ≤ hi binary32 (get_or pm r nan) + lo binary32 (get_or pm s nan) + p * pow2 g
    deep r R =
        let f = i.floor r R in
        let k = i.cap in
        let z = i.plus in
        omega arith

    high : (r : ℕ) → r < 64 → hi binary32 (get_or pm r nan) + lo binary32 (get_or pm s nan) ≤ lo binary32 (get_or pm r nan) + hi binary32 (get_or pm s nan)
    high r R = go (same r s)
      where
        go : (r ≡ s) ⊎ (r ≡ s → ⊥) → hi binary32 (get_or pm r nan) + lo binary32 (get_or pm s nan) ≤ lo binary32 (get_or pm r nan) + hi binary32 (get_or pm s nan)
        go (inl e) = rw e (omega arith)
        go (inr n) = let l = i.lead r R n in omega arith

    rounded : (r : ℕ) → r < 64 → Rounds binary32 (get_or (renormalised 32 pm) r nan) (hi binary32 (get_or pm r nan) + lo binary32 (get_or pm s nan)) (lo binary32 (get_or pm r nan) + hi binary32 (get_or pm s nan))
    rounded r R =
        let d = deep r R in
        let h = high r R in
        let e : p * pow2 g ≤ 16777216 * pow2 g = mul-le-mul_right (pow2 g) P in
        rw (renormalised_at r)
        (sub_rounds binary32 (get_or pm r nan) (get_or pm s nan) (i.num r R) (i.num s S)
        (fine_pow2 binary32 g (hi binary32 (get_or pm r nan) + lo binary32 (get_or pm s nan)) (lo binary32 (get_or pm r nan) + hi binary32 (get_or pm s nan)) (omega arith) (omega arith) (omega arith)))

    pub leads_renormalised : Leads (renormalised 32 pm) s (0 * pow2 148) (p * pow2 g) (a * pow2 134)
    leads_renormalised =
        let z : lo binary32 (get_or (renormalised 32 pm) s nan) ≡ 0 = rounds_up (rounded s S) (omega arith) in
        let k : hi binary32 (get_or (renormalised 32 pm) s nan) ≤ 0 * pow2 148 = rounds_cap 0 148 (rounded s S) (lit≤ tt) (omega arith) in
        let o : 0 * pow2 148 ≡ 0 = zero-mul (pow2 148) in
        record {
          num = λ r R. (rounded r R).num;
          floor = λ r R. let f = rounds_floor p g (rounded r R) P (deep r R) in omega arith;
          plus = z;
          cap = k;
          lead = λ r R n. let l = i.lead r R n in let w = rounds_deep a 134 (rounded r R) A' (omega arith) in omega arith;
        }
