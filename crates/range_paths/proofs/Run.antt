-- The path values of a whole call, and of each of its steps.
use Rattle.std.specs.Prelude.{◌≡◌, Bool, true, false, not, cond, T, eqb, get_or}
use Rattle.std.proofs.Math.Path.{refl}
use Rattle.std.proofs.Common.{sym, ap, ◌∙◌, subst, zero-mul, suc-mul, mul-le-mul_right, le_refl, arith, T_not, eqb→eq}
use mathlib.Core.List.{List}
use Prim.Native.Nat.{ℕ, zero, suc, ◌+◌, ◌-◌, ◌*◌, ◌%◌, ◌<◌, ◌≤◌}
use Rattle.std.specs.Float.Ieee.{Float}
use Rattle.std.specs.Float.{nan}
use Rattle.trellis.specs.Step.{Step, known, Tie, nexts, renormalised, ruled}
use Rattle.trellis.specs.Run.{settled, values_at}
use Rattle.range_paths.specs.Bounds.{Within, wider, ruled_out}
use Rattle.range_paths.specs.Steps.{Soft, two, quad, soft_moves, Falls}
use Rattle.range_paths.specs.Invariant.{Limits, Bounded}
use Rattle.range_paths.proofs.Invariant.{same_bounds, bounded_within, step_bounded}
use Rattle.range_paths.proofs.Maximum.{renormalised_bounded}
use Rattle.range_paths.proofs.Known.{known_bounded}

-- the range of the path values at any step: -512 (B + 12 c) to 512 * 64 c
abbrev pub InRange : ℕ → ℕ → List Float → Type 0
InRange c B pm = (s : ℕ) → s < 64 → Within (get_or pm s nan) (B + 12 * c) (64 * c)

pub in_range : {c B J D : ℕ} {pm : List Float} → J ≤ 64 * c → Bounded c B J D pm → InRange c B pm
in_range {c} {B} {J} {D} {pm} h i s l = wider (get_or pm s nan) (B + 12 * c - J) J (B + 12 * c) (64 * c) (omega arith) h (bounded_within i s l)

module _ {c d B : ℕ} (r : Limits c d B) (out : ℕ → ℕ → ℕ) (labels : (u s : ℕ) → u < 2 → s < 64 → out u s < 4) (t : Tie) where
  pub settled_soft : (i : ℕ) {x : Step} (pm : List Float) → Soft c x → settled 32 out t i x pm ≡ cond (eqb (i % 64) 63) (renormalised 32 pm) pm
  unfolding settled
  settled_soft i pm (two d h x y) = refl
  settled_soft i pm (quad s) = refl

  -- ---- a call of soft values or metrics
  module _ (xs : ℕ → Step) (n : ℕ) (soft : (k : ℕ) → k < n → Soft c (xs k)) (falls : (k : ℕ) → k < n → (s : ℕ) → s < 64 → Falls c d out (xs k) s) (pm : List Float) (start : Bounded c B 0 0 pm) where
    abbrev values : ℕ → List Float
    values i = values_at 32 out t xs pm i

    few : (e i : ℕ) → i % 64 * e + e ≤ 64 * e
    few e i =
        let h : i % 64 ≤ 63 = omega arith in
        let m = mul-le-mul_right e h in
        omega arith

    stepped : (i : ℕ) → i < n → Bounded c B (i % 64 * c) (i % 64 * d) (values i) → Bounded c B (i % 64 * c + c) (i % 64 * d + d) (nexts 32 out t (values i) (xs i))
    stepped i h b = step_bounded r out labels t (values i) (xs i) (soft_moves (soft i h)) (falls i h) (i % 64 * c) (i % 64 * d) (few c i) (few d i) b

    pub values_bounded : (i : ℕ) → i ≤ n → Bounded c B (i % 64 * c) (i % 64 * d) (values i)
    unfolding values_at
    values_bounded zero h = same_bounds (sym (zero-mul c)) (sym (zero-mul d)) start
    values_bounded (suc i) h =
        rw (settled_soft i (nexts 32 out t (values i) (xs i)) (soft i h))
        (go (eqb (i % 64) 63) (eqb→eq (i % 64) 63) ne (stepped i h (values_bounded i (omega arith))))
      where
        new : List Float
        new = nexts 32 out t (values i) (xs i)

        ne : T (not (eqb (i % 64) 63)) → i % 64 ≡ 63 → ⊥
        ne d e = T_not (eqb (i % 64) 63) d (subst (λ (z : ℕ). T (eqb z 63)) (sym e) tt)

        step_mod : (i : ℕ) → (i % 64 ≡ 63 → ⊥) → suc i % 64 ≡ suc (i % 64)
        step_mod i n = omega (arith, n)

        -- i steps more, of e each
        none : suc i % 64 ≡ 0 → (e : ℕ) → 0 ≡ suc i % 64 * e
        none q e = sym (ap (λ (z : ℕ). z * e) q ∙ zero-mul e)

        more : suc i % 64 ≡ suc (i % 64) → (e : ℕ) → i % 64 * e + e ≡ suc i % 64 * e
        more q e = sym (ap (λ (z : ℕ). z * e) q ∙ suc-mul (i % 64) e)

        go : (w : Bool) → (T w → i % 64 ≡ 63) → (T (not w) → i % 64 ≡ 63 → ⊥) → Bounded c B (i % 64 * c + c) (i % 64 * d + d) new → Bounded c B (suc i % 64 * c) (suc i % 64 * d) (cond w (renormalised 32 new) new)
        go true f g p =
            let e = f tt in
            let q : suc i % 64 ≡ 0 = omega arith in
            same_bounds (none q c) (none q d) (renormalised_bounded r new (i % 64 * c + c) (few c i) p)
        go false f g p = let q : suc i % 64 ≡ suc (i % 64) = step_mod i (g tt) in same_bounds (more q c) (more q d) p

    -- "at the call's end": the bounds of a start hold again
    pub soft_call : Bounded c B 0 0 (renormalised 32 (values n))
    soft_call = renormalised_bounded r (values n) (n % 64 * c) (let f = few c n in omega arith) (values_bounded n (le_refl n))

    -- the values at each step, and before the maximum is subtracted
    pub path_within : (i : ℕ) → i ≤ n → InRange c B (values i)
    path_within i h = in_range (let f = few c i in omega arith) (values_bounded i h)

    pub path_within_next : (i : ℕ) → i < n → InRange c B (nexts 32 out t (values i) (xs i))
    path_within_next i h = in_range (few c i) (stepped i h (values_bounded i (omega arith)))

  -- ---- a call of known bits
  pub known_call_lem : ruled_out ≤ B → (bs : ℕ → ℕ) (pm : List Float) → Bounded c B 0 0 pm → (n : ℕ) → Bounded c B 0 0 (values_at 32 out t (λ k. known (bs k)) pm n)
  unfolding values_at settled
  known_call_lem deep bs pm start zero = start
  known_call_lem deep bs pm start (suc n) =
      let v = values_at 32 out t (λ k. known (bs k)) pm n in
      renormalised_bounded r (ruled 32 (bs n) (nexts 32 out t v (known (bs n)))) 0 (omega arith) (known_bounded r deep out labels t v (bs n) (known_call_lem deep bs pm start n))
