-- The least cost of a content that differs from the reading in given steps: both tables together have it, at the steps' beginning.
use Rattle.std.specs.Prelude.{◌≡◌, refl, ◌⊎◌, Bool, true, false, cond, List, ltb, get_or}
use Rattle.std.proofs.Common.{ap, ◌∙◌, inl, inr, ⊎_elim, lt-ltb, le-ltb}
use Prim.Native.Nat.{ℕ, zero, suc, ◌+◌, ◌-◌, ◌*◌, ◌≤◌, ◌<◌, min}
use native.Mathlib.Omega.{arith}
use Rattle.trellis.specs.Lists.{bit}
use Rattle.trellis.specs.Isdb
use Rattle.ieee.specs.Rounding.{le_or_ge}
use Rattle.best_grid.specs.Grid.{dearest}
use Rattle.best_grid.specs.Costs.{table_at}
use Rattle.best_grid.specs.Backward.{far, low, other_at, least_of}
use Rattle.best_grid.proofs.Sequences.{state_f, Fine, state_under, put, put_here, put_fine, spent, ahead, split, other_least, other_met, table_least, table_met, ahead_alike, spent_alike, state_alike}

-- ---- the least of a list of sums
pub least_under : (a d : List ℕ) (n s : ℕ) → s < n → least_of a d n ≤ get_or a s 0 + get_or d s 0
unfolding least_of
least_under a d zero s h = absurd (omega arith)
least_under a d (suc n) s h = ⊎_elim (λ (e : s ≡ n). rw e (omega arith)) (λ (l : s < n). let i = least_under a d n s l in omega arith) (last s n h)
  where
    last : (s n : ℕ) → s < suc n → (s ≡ n) ⊎ (s < n)
    last zero zero h = inl refl
    last zero (suc n) h = inr (omega arith)
    last (suc s) zero h = absurd (omega arith)
    last (suc s) (suc n) h = ⊎_elim (λ (e : s ≡ n). inl (ap suc e)) (λ (l : s < n). inr (omega arith)) (last s n (omega arith))

record At (a d : List ℕ) (n v : ℕ) : Type 0 where
  s : ℕ
  under : s < n
  is : v ≡ get_or a s 0 + get_or d s 0

least_at_lem : (a d : List ℕ) (n : ℕ) → (least_of a d n ≡ far + far) ⊎ At a d n (least_of a d n)
unfolding least_of
least_at_lem a d zero = inl refl
least_at_lem a d (suc n) = go (least_of a d n) (get_or a n 0 + get_or d n 0) refl refl (le_or_ge (least_of a d n) (get_or a n 0 + get_or d n 0)) (least_at_lem a d n)
  where
    go : (x y : ℕ) → least_of a d n ≡ x → get_or a n 0 + get_or d n 0 ≡ y → (x ≤ y) ⊎ (y ≤ x) → (least_of a d n ≡ far + far) ⊎ At a d n (least_of a d n) → (min x y ≡ far + far) ⊎ At a d (suc n) (min x y)
    go x y ex ey (inl h) (inl k) = inl (omega arith)
    go x y ex ey (inl h) (inr k) = inr (record { s = k.s; under = let q = k.under in omega arith; is = let q = k.is in omega arith })
    go x y ex ey (inr h) k = inr (record { s = n; under = omega arith; is = omega arith })

-- ---- a sequence that goes on as another one
abbrev then : ℕ → (ℕ → ℕ) → (ℕ → ℕ) → ℕ → ℕ
then a f g i = cond (ltb i a) (f i) (g i)

before : (a : ℕ) (f g : ℕ → ℕ) (i : ℕ) → i < a → then a f g i ≡ f i
before a f g i h = rw (lt-ltb i a h) refl

onwards : (a : ℕ) (f g : ℕ → ℕ) (i : ℕ) → a ≤ i → then a f g i ≡ g i
onwards a f g i h = rw (le-ltb i a h) refl

then_fine : (two : ℕ → Bool) (a : ℕ) (u z v y : ℕ → ℕ) → Fine two u z → Fine two v y → Fine two (then a u v) (then a z y)
then_fine two a u z v y f g k = go (ltb k a)
  where
    go : (w : Bool) → (cond w (u k) (v k) < 2) × (cond w (z k) (y k) ≤ bit (two k))
    go true = f k
    go false = g k

-- ---- the least cost of a content that differs
module _ (two : ℕ → Bool) (c : ℕ → ℕ → ℕ → ℕ) (us zs : ℕ → ℕ) (mine : Fine two us zs) (small : (t z l : ℕ) → c t z l ≤ dearest) (d : List ℕ) (a r j : ℕ) where
  -- of the contents that differ in the r steps from a on, j being left there
  abbrev pub rival : ℕ
  rival = least_of (table_at d (low two c) a) (other_at two c us zs a r j) 64

  pub rival_least : (s : ℕ) (u z : ℕ → ℕ) → s < 64 → r ≤ j → Fine two u z → (i : ℕ) → a ≤ i → i < a + r → ((us i ≡ u i) × (zs i ≡ z i) → ⊥) → rival ≤ get_or d s 0 + spent two c s u z (a + j)
  rival_least s u z h k f i lo hi ne =
      let st = state_f s u a in
      let hs = state_under two s u z h f a in
      let x = least_under (table_at d (low two c) a) (other_at two c us zs a r j) 64 st hs in
      let y = table_least two c d s u z h f a in
      let w = other_least two c us zs mine a r j st u z hs k f i lo hi ne in
      let e = split two c s u z a j in
      rw e (omega arith)

  pub record Rival (v : ℕ) : Type 0 where
    pub s : ℕ
    pub u : ℕ → ℕ
    pub z : ℕ → ℕ
    pub start : s < 64
    pub fine : Fine two u z
    pub is : get_or d s 0 + spent two c s u z (a + j) ≡ v
    pub at : ℕ
    pub from : a ≤ at
    pub under : at < a + r
    pub unlike : (us at ≡ u at) × (zs at ≡ z at) → ⊥

  pub rival_met : 0 < r → r ≤ j → j ≤ Isdb.longest_frame → rival < far + far → Rival rival
  rival_met p k few l =
      ⊎_elim
      (λ (e : rival ≡ far + far). absurd (omega arith))
      (λ (w : At (table_at d (low two c) a) (other_at two c us zs a r j) 64 rival).
      let A = table_met two c d a w.s w.under in
      let D = other_met two c us zs mine small a r j w.s w.under p k few in
      let u = then a A.u D.u in
      let z = then a A.z D.z in
      let sp : spent two c A.s u z a ≡ spent two c A.s A.u A.z a = spent_alike two c A.s a u z A.u A.z (λ i h. (before a A.u D.u i h, before a A.z D.z i h)) in
      let st : state_f A.s u a ≡ w.s = state_alike two c A.s a u A.u (λ i h. before a A.u D.u i h) ∙ A.state in
      let ah : ahead two c a w.s u z j ≡ ahead two c a w.s D.u D.z j = ahead_alike two c a w.s j u z D.u D.z (λ i h. (onwards a A.u D.u i h, onwards a A.z D.z i h)) in
      record {
        s = A.s;
        u = u;
        z = z;
        start = A.start;
        fine = then_fine two a A.u A.z D.u D.z A.fine D.fine;
        is = rw (split two c A.s u z a j, st, sp, ah) (let x = A.is in let y = D.is in let q = w.is in omega arith);
        at = D.at;
        from = D.from;
        under = D.under;
        unlike = λ e. D.unlike (e.0 ∙ onwards a A.u D.u D.at D.from, e.1 ∙ onwards a A.z D.z D.at D.from);
      })
      (least_at_lem (table_at d (low two c) a) (other_at two c us zs a r j) 64)

  spent_small : (s : ℕ) (u z : ℕ → ℕ) (n : ℕ) → spent two c s u z n ≤ n * dearest
  unfolding spent
  spent_small s u z zero = omega arith
  spent_small s u z (suc n) = let i = spent_small s u z n in let x = small n (z n) (Isdb.labels (u n) (state_f s u n)) in omega arith

  -- there is one: with the other input at step a
  pub rival_bound : (s : ℕ) → s < 64 → 0 < r → r ≤ j → rival ≤ get_or d s 0 + (a + j) * dearest
  rival_bound s h p k =
      let x = 1 - us a in
      let hx : x < 2 = omega arith in
      let l = rival_least s (put a x us) (put a (zs a) zs) h k (put_fine two a x (zs a) us zs hx (mine a).1 mine) a (omega arith) (omega arith) (λ e. let q : us a ≡ x = e.0 ∙ put_here a x us in let m = (mine a).0 in omega arith) in
      let b = spent_small s (put a x us) (put a (zs a) zs) (a + j) in
      omega arith
