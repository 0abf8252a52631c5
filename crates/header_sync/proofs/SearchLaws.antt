-- The place found is one of the greatest, and the first of them.
use Rattle.std.specs.Prelude.{◌≡◌, Bool, true, false, cond, ltb}
use Rattle.std.proofs.Math.Path.{refl}
use Prim.Native.Nat.{ℕ, zero, suc, ◌+◌, ◌<◌, ◌≤◌}
use Rattle.std.proofs.Common.{arith, ltb-true, ltb-false}
use Rattle.header_sync.specs.declared.Best.{Best}
use Rattle.header_sync.specs.Search.{found_by}
use Rattle.header_sync.specs.SearchLaws.{better}

module _ (f : ℕ → ℕ) (from : ℕ) where
  -- p is one of the places from `from` to `from + n`, none of them is greater, and each before p is less
  pub record FirstGreatest (n p : ℕ) : Type 0 where
    pub late : from ≤ p
    pub early : p ≤ from + n
    pub greatest : (q : ℕ) → from ≤ q → q ≤ from + n → f q ≤ f p
    pub first : (q : ℕ) → from ≤ q → q < p → f q < f p

  begun : FirstGreatest zero from
  begun =
      record {
        late = omega arith;
        early = omega arith;
        greatest = λ q h k. let e : q ≡ from = omega arith in rw e (omega arith);
        first = λ q h k. absurd (omega arith);
      }

  -- one place more, r: it is taken where it is greater than the one found
  one_more : (n p : ℕ) (t : Bool) → ltb (f p) (f (from + suc n)) ≡ t → FirstGreatest n p → FirstGreatest (suc n) (cond t (from + suc n) p)
  one_more n p true e g =
      let l = ltb-true (f p) (f (from + suc n)) e in
      record {
        late = omega arith;
        early = omega arith;
        greatest = λ q h k. by_last q h k (λ m. let x = g.greatest q h m in omega arith) (λ m. rw m (omega arith));
        first = λ q h k. let x = g.greatest q h (omega arith) in omega arith;
      }
    where
      by_last : (q : ℕ) → from ≤ q → q ≤ from + suc n → (q ≤ from + n → f q ≤ f (from + suc n)) → (q ≡ from + suc n → f q ≤ f (from + suc n)) → f q ≤ f (from + suc n)
      by_last q h k a b = pick (ltb q (from + suc n)) refl
        where
          pick : (t : Bool) → ltb q (from + suc n) ≡ t → f q ≤ f (from + suc n)
          pick true e = let z = ltb-true q (from + suc n) e in a (omega arith)
          pick false e = let z = ltb-false q (from + suc n) e in b (omega arith)
  one_more n p false e g =
      let l = ltb-false (f p) (f (from + suc n)) e in
      record {
        late = g.late;
        early = let x = g.early in omega arith;
        greatest = λ q h k. by_last q h k;
        first = g.first;
      }
    where
      by_last : (q : ℕ) → from ≤ q → q ≤ from + suc n → f q ≤ f p
      by_last q h k = pick (ltb q (from + suc n)) refl
        where
          pick : (t : Bool) → ltb q (from + suc n) ≡ t → f q ≤ f p
          pick true e = let z = ltb-true q (from + suc n) e in g.greatest q h (omega arith)
          pick false u = let z = ltb-false q (from + suc n) u in let same : q ≡ from + suc n = omega arith in rw same (ltb-false (f p) (f (from + suc n)) e)

  pub first_greatest : (n : ℕ) → FirstGreatest n (found_by f from n)
  unfolding found_by
  first_greatest zero = begun
  first_greatest (suc n) = one_more n (found_by f from n) (ltb (f (found_by f from n)) (f (from + suc n))) refl (first_greatest n)

  -- there is one such place only
  pub one_first : (n p r : ℕ) → FirstGreatest n p → FirstGreatest n r → p ≡ r
  one_first n p r g h = pick (ltb p r) (ltb r p) refl refl
    where
      pick : (s t : Bool) → ltb p r ≡ s → ltb r p ≡ t → p ≡ r
      pick true t e d =
          let x = h.first p g.late (ltb-true p r e) in
          let y = g.greatest r h.late h.early in
          absurd (omega arith)
      pick false true e d =
          let x = g.first r h.late (ltb-true r p d) in
          let y = h.greatest p g.late g.early in
          absurd (omega arith)
      pick false false e d = let x = ltb-false p r e in let y = ltb-false r p d in omega arith

  -- ---- the best place with its greatest, as a search holds it
  abbrev pub best_at : ℕ → Best
  best_at n = record { place = found_by f from n; peak = f (found_by f from n) }

  picked : (n p : ℕ) (t : Bool) → cond {A = Best} t (record { place = n; peak = f n }) (record { place = p; peak = f p }) ≡ record { place = cond t n p; peak = f (cond t n p) }
  picked n p true = refl
  picked n p false = refl

  pub best_next : (n : ℕ) → better (best_at n) (from + suc n) (f (from + suc n)) ≡ best_at (suc n)
  unfolding better found_by
  best_next n = picked (from + suc n) (found_by f from n) (ltb (f (found_by f from n)) (f (from + suc n)))
