-- Laws of the passes over sequences of inputs and uncoded bits: what the tables have is least, and some sequence attains it.
use Rattle.std.specs.Prelude.{◌≡◌, ◌⊎◌, Bool, List, eqb}
use Rattle.std.proofs.Math.Path.{refl, sym, ap}
use Rattle.std.proofs.Common.{◌∙◌, eqb-true, eq-eqb, ne_eqb}
use Rattle.std.proofs.Math.Logic.{inl, inr, ⊎_elim}
use Rattle.std.proofs.Math.Bool.{true, false, cond}
use Prim.Native.Nat.{ℕ, zero, suc, ◌+◌, ◌-◌, ◌*◌, ◌/◌, ◌%◌, ◌≤◌, ◌<◌, min}
use native.Mathlib.Omega.{arith}
use Rattle.std.proofs.lemmas.Bool.{eqb-false}
use Rattle.std.proofs.Math.ListN.{get_or}
use Rattle.trellis.specs.Lists.{bit}
use Rattle.trellis.specs.ListLaws.{get_d_upto}
use Rattle.trellis.specs.Code.{moved}
use Rattle.trellis.specs.Isdb
use Rattle.ieee.specs.Rounding.{le_or_ge}
use Rattle.path_greatest.proofs.Greatest.{bit_cases}
use Rattle.best_grid.specs.Grid.{dearest}
use Rattle.best_grid.specs.Costs.{through, next, nexts, table_at}
use Rattle.best_grid.specs.Backward.{far, low, turned, onward, backs, back_at, others, other_at}

-- the state after n steps
unfoldable pub state_f : ℕ → (ℕ → ℕ) → ℕ → ℕ
state_f s u zero = s
state_f s u (suc n) = moved 32 (u n) (state_f s u n)

-- the inputs are bits, and the uncoded bits are such where there are any
abbrev pub Fine : (ℕ → Bool) → (ℕ → ℕ) → (ℕ → ℕ) → Type 0
Fine two u z = (k : ℕ) → (u k < 2) × (z k ≤ bit (two k))

pub state_under : (two : ℕ → Bool) (s : ℕ) (u z : ℕ → ℕ) → s < 64 → Fine two u z → (n : ℕ) → state_f s u n < 64
unfolding state_f
state_under two s u z hs f zero = hs
state_under two s u z hs f (suc n) = let i = state_under two s u z hs f n in let b = (f n).0 in omega arith

-- a sequence with one place changed
abbrev pub put : ℕ → ℕ → (ℕ → ℕ) → ℕ → ℕ
put t x f i = cond (eqb i t) x (f i)

pub put_here : (t x : ℕ) (f : ℕ → ℕ) → put t x f t ≡ x
put_here t x f = rw (eq-eqb t t refl) refl

pub put_else : (t x : ℕ) (f : ℕ → ℕ) (i : ℕ) → (i ≡ t → ⊥) → put t x f i ≡ f i
put_else t x f i h = rw (ne_eqb i t h) refl

pub put_fine : (two : ℕ → Bool) (t x y : ℕ) (u z : ℕ → ℕ) → x < 2 → y ≤ bit (two t) → Fine two u z → Fine two (put t x u) (put t y z)
put_fine two t x y u z hx hy f k = go (eqb k t) refl
  where
    go : (w : Bool) → eqb k t ≡ w → (cond w x (u k) < 2) × (cond w y (z k) ≤ bit (two k))
    go true e = (hx, rw (eqb-true k t e) hy)
    go false e = f k

-- of two bits that differ one is the other turned
pub turned_bit : (x y : ℕ) → x < 2 → y < 2 → (x ≡ y → ⊥) → y ≡ 1 - x
turned_bit x y hx hy ne =
    ⊎_elim (λ (p : x ≡ 0). ⊎_elim (λ (q : y ≡ 0). absurd (ne (p ∙ sym q))) (λ (q : y ≡ 1). omega arith) (bit_cases y hy)) (λ (p : x ≡ 1). ⊎_elim (λ (q : y ≡ 0). omega arith) (λ (q : y ≡ 1). absurd (ne (p ∙ sym q))) (bit_cases y hy)) (bit_cases x hx)

pub same_or : (a b : ℕ) → (a ≡ b) ⊎ (a ≡ b → ⊥)
same_or a b = go (eqb a b) refl
  where
    go : (w : Bool) → eqb a b ≡ w → (a ≡ b) ⊎ (a ≡ b → ⊥)
    go true e = inl (eqb-true a b e)
    go false e = inr (eqb-false a b e)

-- the state before k by the bit b: the input that leads to k, and that it does
own_before : (k b : ℕ) → k < 64 → b < 2 → (k / 32 < 2) × (moved 32 (k / 32) (2 * (k % 32) + b) ≡ k) × (2 * (k % 32) + b < 64)
own_before k b h hb = (omega arith, omega arith, omega arith)

through_is : (d : List ℕ) (c : ℕ → ℕ) (k b : ℕ) → through d c k b ≡ get_or d (2 * (k % 32) + b) 0 + c (Isdb.labels (k / 32) (2 * (k % 32) + b))
unfolding through
through_is d c k b = refl

module _ (two : ℕ → Bool) (c : ℕ → ℕ → ℕ → ℕ) where
  -- the cost of the first n steps from s; of j steps from step t on, from s
  unfoldable pub spent : ℕ → (ℕ → ℕ) → (ℕ → ℕ) → ℕ → ℕ
  spent s u z zero = 0
  spent s u z (suc k) = spent s u z k + c k (z k) (Isdb.labels (u k) (state_f s u k))

  unfoldable pub ahead : ℕ → ℕ → (ℕ → ℕ) → (ℕ → ℕ) → ℕ → ℕ
  ahead t s u z zero = 0
  ahead t s u z (suc j) = c t (z t) (Isdb.labels (u t) s) + ahead (suc t) (moved 32 (u t) s) u z j

  -- the steps up to a, and those from a on
  pub split : (s : ℕ) (u z : ℕ → ℕ) (a j : ℕ) → spent s u z (a + j) ≡ spent s u z a + ahead a (state_f s u a) u z j
  unfolding spent ahead state_f
  split s u z a zero = let e : a + 0 ≡ a = omega arith in rw e (omega arith)
  split s u z a (suc j) =
      let e : a + suc j ≡ suc a + j = omega arith in
      let i = split s u z (suc a) j in
      rw e (i ∙ omega arith)

  -- they depend on the places that they pass alone
  pub ahead_alike : (t s j : ℕ) (u z u' z' : ℕ → ℕ) → ((i : ℕ) → t ≤ i → (u i ≡ u' i) × (z i ≡ z' i)) → ahead t s u z j ≡ ahead t s u' z' j
  unfolding ahead
  ahead_alike t s zero u z u' z' h = refl
  ahead_alike t s (suc j) u z u' z' h =
      let e = h t (omega arith) in
      let i = ahead_alike (suc t) (moved 32 (u' t) s) j u z u' z' (λ i l. h i (omega arith)) in
      rw (e.0, e.1, i) refl

  pub state_alike : (s n : ℕ) (u u' : ℕ → ℕ) → ((i : ℕ) → i < n → u i ≡ u' i) → state_f s u n ≡ state_f s u' n
  unfolding state_f
  state_alike s zero u u' h = refl
  state_alike s (suc n) u u' h = rw (h n (omega arith), state_alike s n u u' (λ i l. h i (omega arith))) refl

  pub spent_alike : (s n : ℕ) (u z u' z' : ℕ → ℕ) → ((i : ℕ) → i < n → (u i ≡ u' i) × (z i ≡ z' i)) → spent s u z n ≡ spent s u' z' n
  unfolding spent
  spent_alike s zero u z u' z' h = refl
  spent_alike s (suc n) u z u' z' h =
      let e = h n (omega arith) in
      rw (spent_alike s n u z u' z' (λ i l. h i (omega arith)), state_alike s n u u' (λ i l. (h i (omega arith)).0), e.0, e.1) refl

  -- ---- the cheaper uncoded bit
  low_under : (t z l : ℕ) → z ≤ bit (two t) → low two c t l ≤ c t z l
  unfolding low
  low_under t z l h = go (two t) z h
    where
      go : (w : Bool) (z : ℕ) → z ≤ bit w → cond w (min (c t 0 l) (c t 1 l)) (c t 0 l) ≤ c t z l
      go true zero h = omega arith
      go true (suc zero) h = omega arith
      go true (suc (suc z)) h = absurd (omega arith)
      go false zero h = omega arith
      go false (suc z) h = absurd (omega arith)

  record Cheaper (t l : ℕ) : Type 0 where
    z : ℕ
    small : z ≤ bit (two t)
    is : low two c t l ≡ c t z l

  cheaper : (t l : ℕ) → Cheaper t l
  unfolding low
  cheaper t l = go (two t) refl
    where
      pick : (x y : ℕ) → (min x y ≡ x) ⊎ (min x y ≡ y)
      pick x y = ⊎_elim (λ (h : x ≤ y). inl (omega arith)) (λ (h : y ≤ x). inr (omega arith)) (le_or_ge x y)

      go : (w : Bool) → two t ≡ w → Cheaper t l
      go false e = record { z = 0; small = omega arith; is = rw e refl }
      go true e =
          ⊎_elim
          (λ h. record { z = 0; small = omega arith; is = rw e h })
          (λ h. record { z = 1; small = rw e (omega arith); is = rw e h })
          (pick (c t 0 l) (c t 1 l))

  -- ---- to the end
  step_under : (s x : ℕ) → s < 64 → x < 2 → moved 32 x s < 64
  step_under s x h k = omega arith

  back_at_lem : (t j s : ℕ) → s < 64 → get_or (back_at (low two c) t (suc j)) s 0 ≡ min (onward (back_at (low two c) (suc t) j) (low two c t) 0 s) (onward (back_at (low two c) (suc t) j) (low two c t) 1 s)
  unfolding back_at backs
  back_at_lem t j s h = get_d_upto (λ s. min (onward (back_at (low two c) (suc t) j) (low two c t) 0 s) (onward (back_at (low two c) (suc t) j) (low two c t) 1 s)) 0 64 s h

  back_none : (t s : ℕ) → s < 64 → get_or (back_at (low two c) t 0) s 0 ≡ 0
  unfolding back_at
  back_none t s h = get_d_upto {A = ℕ} (λ s. 0) 0 64 s h

  min_of : (f : ℕ → ℕ) (x : ℕ) → x < 2 → min (f 0) (f 1) ≤ f x
  min_of f zero h = omega arith
  min_of f (suc zero) h = omega arith
  min_of f (suc (suc x)) h = absurd (omega arith)

  record Least (f : ℕ → ℕ) : Type 0 where
    x : ℕ
    small : x < 2
    is : min (f 0) (f 1) ≡ f x

  least_of_lem : (f : ℕ → ℕ) → Least f
  least_of_lem f = ⊎_elim (λ (h : f 0 ≤ f 1). record { x = 0; small = omega arith; is = omega arith }) (λ (h : f 1 ≤ f 0). record { x = 1; small = omega arith; is = omega arith }) (le_or_ge (f 0) (f 1))

  pub back_least : (t j s : ℕ) (u z : ℕ → ℕ) → s < 64 → Fine two u z → get_or (back_at (low two c) t j) s 0 ≤ ahead t s u z j
  unfolding ahead
  back_least t zero s u z h f = rw (back_none t s h) (omega arith)
  back_least t (suc j) s u z h f =
      let x = u t in
      let hx = (f t).0 in
      let l = Isdb.labels x s in
      let i = back_least (suc t) j (moved 32 x s) u z (step_under s x h hx) f in
      let a = low_under t (z t) l (f t).1 in
      let m = min_of (λ x. onward (back_at (low two c) (suc t) j) (low two c t) x s) x hx in
      rw (back_at_lem t j s h) (omega arith)

  -- some sequence attains it
  pub record Attained (t j s v : ℕ) : Type 0 where
    pub u : ℕ → ℕ
    pub z : ℕ → ℕ
    pub fine : Fine two u z
    pub is : ahead t s u z j ≡ v

  more : (t j s x y v : ℕ) → x < 2 → y ≤ bit (two t) → Attained (suc t) j (moved 32 x s) v → Attained t (suc j) s (c t y (Isdb.labels x s) + v)
  unfolding ahead
  more t j s x y v hx hy a = record {
    u = put t x a.u;
    z = put t y a.z;
    fine = put_fine two t x y a.u a.z hx hy a.fine;
    is =
        let e = ahead_alike (suc t) (moved 32 x s) j (put t x a.u) (put t y a.z) a.u a.z (λ i l. (put_else t x a.u i (λ e. omega arith), put_else t y a.z i (λ e. omega arith))) in
        rw (put_here t x a.u, put_here t y a.z, e, a.is) refl;
  }

  pub back_met : (t j s : ℕ) → s < 64 → Attained t j s (get_or (back_at (low two c) t j) s 0)
  unfolding ahead
  back_met t zero s h = record { u = λ k. 0; z = λ k. 0; fine = λ k. (omega arith, omega arith); is = sym (back_none t s h) }
  back_met t (suc j) s h =
      let b = back_at (low two c) (suc t) j in
      let w = least_of_lem (λ x. onward b (low two c t) x s) in
      let x = w.x in
      let i = back_met (suc t) j (moved 32 x s) (step_under s x h w.small) in
      let ch = cheaper t (Isdb.labels x s) in
      let r = more t j s x ch.z (get_or b (moved 32 x s) 0) w.small ch.small i in
      record { u = r.u; z = r.z; fine = r.fine; is = r.is ∙ ap (λ (q : ℕ). q + get_or b (moved 32 x s) 0) (sym ch.is) ∙ sym w.is ∙ sym (back_at_lem t j s h) }

  -- ---- to the end, differing from us and zs within the first steps
  module _ (us zs : ℕ → ℕ) (mine : Fine two us zs) where
    other_at_lem : (t r j s : ℕ) → s < 64 → get_or (other_at two c us zs t (suc r) (suc j)) s 0
        ≡ min (onward (other_at two c us zs (suc t) r j) (c t (zs t)) (us t) s) (min (onward (back_at (low two c) (suc t) j) (turned two c (zs t) t) (us t) s) (onward (back_at (low two c) (suc t) j) (low two c t) (1 - us t) s))
    unfolding other_at others
    other_at_lem t r j s h =
        get_d_upto (λ s. min (onward (other_at two c us zs (suc t) r j) (c t (zs t)) (us t) s) (min (onward (back_at (low two c) (suc t) j) (turned two c (zs t) t) (us t) s) (onward (back_at (low two c) (suc t) j) (low two c t) (1 - us t) s))) 0 64 s h

    turned_under : (t z l : ℕ) → z ≤ bit (two t) → (zs t ≡ z → ⊥) → turned two c (zs t) t l ≤ c t z l
    unfolding turned
    turned_under t z l h ne = go (two t) (zs t) z (mine t).1 h ne
      where
        go : (w : Bool) (x z : ℕ) → x ≤ bit w → z ≤ bit w → (x ≡ z → ⊥) → cond w (c t (1 - x) l) far ≤ c t z l
        go true x z hx hz ne = let e : 1 - x ≡ z = ⊎_elim (λ (p : x ≡ 0). ⊎_elim (λ (q : z ≡ 0). absurd (ne (p ∙ sym q))) (λ (q : z ≡ 1). omega arith) (bit_cases z (omega arith))) (λ (p : x ≡ 1). ⊎_elim (λ (q : z ≡ 0). omega arith) (λ (q : z ≡ 1). absurd (ne (p ∙ sym q))) (bit_cases z (omega arith))) (bit_cases x (omega arith)) in rw e (omega arith)
        go false x z hx hz ne = absurd (ne (omega arith))

    pub other_least : (t r j s : ℕ) (u z : ℕ → ℕ) → s < 64 → r ≤ j → Fine two u z → (i : ℕ) → t ≤ i → i < t + r → ((us i ≡ u i) × (zs i ≡ z i) → ⊥) → get_or (other_at two c us zs t r j) s 0 ≤ ahead t s u z j
    unfolding ahead
    other_least t zero j s u z h k f i lo hi ne = absurd (omega arith)
    other_least t (suc r) zero s u z h k f i lo hi ne = absurd (omega arith)
    other_least t (suc r) (suc j) s u z h k f i lo hi ne =
        let b = back_at (low two c) (suc t) j in
        let d = other_at two c us zs (suc t) r j in
        let hu = (f t).0 in
        let rest = back_least (suc t) j (moved 32 (u t) s) u z (step_under s (u t) h hu) f in
        rw (other_at_lem t r j s h)
        (⊎_elim
        (λ (eu : us t ≡ u t).
        ⊎_elim
        (λ (ez : zs t ≡ z t).
        -- alike at this step: they differ later
        let later : suc t ≤ i = after t i lo (λ (e : i ≡ t). ne (rw e (eu, ez))) in
        let ih = other_least (suc t) r j (moved 32 (u t) s) u z (step_under s (u t) h hu) (omega arith) f i later (omega arith) ne in
        let x : onward d (c t (zs t)) (us t) s ≤ c t (z t) (Isdb.labels (u t) s) + ahead (suc t) (moved 32 (u t) s) u z j = rw (eu, ez) (let y = ih in omega arith) in
        lessen_0 (onward d (c t (zs t)) (us t) s) (onward b (turned two c (zs t) t) (us t) s) (onward b (low two c t) (1 - us t) s) (c t (z t) (Isdb.labels (u t) s) + ahead (suc t) (moved 32 (u t) s) u z j) x)
        (λ (nz : zs t ≡ z t → ⊥).
        -- the other uncoded bit
        let a = turned_under t (z t) (Isdb.labels (u t) s) (f t).1 nz in
        let x : onward b (turned two c (zs t) t) (us t) s ≤ c t (z t) (Isdb.labels (u t) s) + ahead (suc t) (moved 32 (u t) s) u z j = rw eu (let y = rest in omega arith) in
        lessen_1 (onward d (c t (zs t)) (us t) s) (onward b (turned two c (zs t) t) (us t) s) (onward b (low two c t) (1 - us t) s) (c t (z t) (Isdb.labels (u t) s) + ahead (suc t) (moved 32 (u t) s) u z j) x)
        (same_or (zs t) (z t)))
        (λ (nu : us t ≡ u t → ⊥).
        -- the other input
        let e : u t ≡ 1 - us t = turned_bit (us t) (u t) (mine t).0 hu nu in
        let a = low_under t (z t) (Isdb.labels (u t) s) (f t).1 in
        let x : onward b (low two c t) (1 - us t) s ≤ c t (z t) (Isdb.labels (u t) s) + ahead (suc t) (moved 32 (u t) s) u z j = rw (← e) (let y = rest in omega arith) in
        lessen_2 (onward d (c t (zs t)) (us t) s) (onward b (turned two c (zs t) t) (us t) s) (onward b (low two c t) (1 - us t) s) (c t (z t) (Isdb.labels (u t) s) + ahead (suc t) (moved 32 (u t) s) u z j) x)
        (same_or (us t) (u t)))
      where
        after : (t i : ℕ) → t ≤ i → (i ≡ t → ⊥) → suc t ≤ i
        after t i l n = ⊎_elim (λ (e : i ≡ t). absurd (n e)) (λ (g : i ≡ t → ⊥). below t i l g) (same_or i t)
          where
            below : (t i : ℕ) → t ≤ i → (i ≡ t → ⊥) → suc t ≤ i
            below zero zero l g = absurd (g refl)
            below zero (suc i) l g = omega arith
            below (suc t) zero l g = absurd (omega arith)
            below (suc t) (suc i) l g = let q = below t i (omega arith) (λ e. g (ap suc e)) in omega arith

        lessen_0 : (x y z v : ℕ) → x ≤ v → min x (min y z) ≤ v
        lessen_0 x y z v h = omega arith

        lessen_1 : (x y z v : ℕ) → y ≤ v → min x (min y z) ≤ v
        lessen_1 x y z v h = omega arith

        lessen_2 : (x y z v : ℕ) → z ≤ v → min x (min y z) ≤ v
        lessen_2 x y z v h = omega arith

    -- some sequence that differs attains it
    pub record Apart (t r j s v : ℕ) : Type 0 where
      pub u : ℕ → ℕ
      pub z : ℕ → ℕ
      pub fine : Fine two u z
      pub is : ahead t s u z j ≡ v
      pub at : ℕ
      pub from : t ≤ at
      pub under : at < t + r
      pub unlike : (us at ≡ u at) × (zs at ≡ z at) → ⊥

    module _ (small : (t z l : ℕ) → c t z l ≤ dearest) where
      low_small : (t l : ℕ) → low two c t l ≤ dearest
      low_small t l = let ch = cheaper t l in let a = small t ch.z l in let e = ch.is in omega arith

      pub back_small : (t j s : ℕ) → s < 64 → get_or (back_at (low two c) t j) s 0 ≤ j * dearest
      back_small t zero s h = rw (back_none t s h) (omega arith)
      back_small t (suc j) s h =
          let i = back_small (suc t) j (moved 32 0 s) (step_under s 0 h (omega arith)) in
          let a = low_small t (Isdb.labels 0 s) in
          rw (back_at_lem t j s h) (omega arith)

      -- the three ways on, one of which is least
      ways : (x y z v : ℕ) → v ≡ min x (min y z) → ((v ≡ x) × (x ≤ z)) ⊎ (((v ≡ y) × (y ≤ z)) ⊎ (v ≡ z))
      ways x y z v e =
          ⊎_elim (λ (h : z ≤ x). ⊎_elim (λ (k : z ≤ y). inr (inr (omega arith))) (λ (k : y ≤ z). inr (inl (omega arith, k))) (le_or_ge z y))
          (λ (h : x ≤ z). ⊎_elim (λ (k : x ≤ y). inl (omega arith, h)) (λ (k : y ≤ x). inr (inl (omega arith, omega arith))) (le_or_ge x y)) (le_or_ge z x)

      -- from a sequence of the next step's, with the content x, y at this one
      differs_here : (t r j s x y v : ℕ) → x < 2 → y ≤ bit (two t) → ((us t ≡ x) × (zs t ≡ y) → ⊥) → Attained (suc t) j (moved 32 x s) v → Apart t (suc r) (suc j) s (c t y (Isdb.labels x s) + v)
      unfolding more
      differs_here t r j s x y v hx hy ne a =
          let m = more t j s x y v hx hy a in
          record {
            u = put t x a.u;
            z = put t y a.z;
            fine = put_fine two t x y a.u a.z hx hy a.fine;
            is = m.is;
            at = t;
            from = omega arith;
            under = omega arith;
            unlike = λ e. ne (e.0 ∙ put_here t x a.u, e.1 ∙ put_here t y a.z);
          }

      differs_later : (t r j s v : ℕ) → Apart (suc t) r j (moved 32 (us t) s) v → Apart t (suc r) (suc j) s (c t (zs t) (Isdb.labels (us t) s) + v)
      unfolding more
      differs_later t r j s v a =
          let m = more t j s (us t) (zs t) v (mine t).0 (mine t).1 (record { u = a.u; z = a.z; fine = a.fine; is = a.is }) in
          let lo = a.from in
          record {
            u = put t (us t) a.u;
            z = put t (zs t) a.z;
            fine = put_fine two t (us t) (zs t) a.u a.z (mine t).0 (mine t).1 a.fine;
            is = m.is;
            at = a.at;
            from = omega arith;
            under = let h = a.under in omega arith;
            unlike = λ e. a.unlike (e.0 ∙ put_else t (us t) a.u a.at (λ q. omega arith), e.1 ∙ put_else t (zs t) a.z a.at (λ q. omega arith));
          }

      turned_is : (t l : ℕ) → turned two c (zs t) t l < far → (two t ≡ true) × (turned two c (zs t) t l ≡ c t (1 - zs t) l)
      unfolding turned
      turned_is t l h = go (two t) refl h
        where
          go : (w : Bool) → two t ≡ w → cond w (c t (1 - zs t) l) far < far → (two t ≡ true) × (cond w (c t (1 - zs t) l) far ≡ c t (1 - zs t) l)
          go true e h = (e, refl)
          go false e h = absurd (omega arith)

      left : (r : ℕ) → (r ≡ 0 → ⊥) → 0 < r
      left zero n = absurd (n refl)
      left (suc r) n = omega arith

      none : (t j s : ℕ) → s < 64 → get_or (other_at two c us zs t 0 j) s 0 ≡ far
      unfolding other_at
      none t j s h = get_d_upto {A = ℕ} (λ s. far) 0 64 s h

      none_at : (t r j s : ℕ) → s < 64 → r ≡ 0 → get_or (other_at two c us zs t r j) s 0 ≡ far
      none_at t r j s h e = rw e (none t j s h)

      -- one step, from what the next step's table has
      module _ (t r j s : ℕ) (h : s < 64) (few : suc j ≤ Isdb.longest_frame) (v e b o : ℕ)
          (is : v ≡ min (c t (zs t) (Isdb.labels (us t) s) + e) (min (turned two c (zs t) t (Isdb.labels (us t) s) + b) (low two c t (Isdb.labels (1 - us t) s) + o)))
          (small-o : o ≤ j * dearest)
          (later : 0 < r → Apart (suc t) r j (moved 32 (us t) s) e) (empty : r ≡ 0 → e ≡ far)
          (same : Attained (suc t) j (moved 32 (us t) s) b) (else : Attained (suc t) j (moved 32 (1 - us t) s) o) where
        lim : low two c t (Isdb.labels (1 - us t) s) + o < far
        lim = let y = low_small t (Isdb.labels (1 - us t) s) in omega arith

        by_later : v ≡ c t (zs t) (Isdb.labels (us t) s) + e → c t (zs t) (Isdb.labels (us t) s) + e ≤ low two c t (Isdb.labels (1 - us t) s) + o → Apart t (suc r) (suc j) s v
        by_later q p = rw q (differs_later t r j s e (later (left r (λ (z : r ≡ 0). let y = empty z in let x = lim in omega arith))))

        by_turned : v ≡ turned two c (zs t) t (Isdb.labels (us t) s) + b → turned two c (zs t) t (Isdb.labels (us t) s) + b ≤ low two c t (Isdb.labels (1 - us t) s) + o → Apart t (suc r) (suc j) s v
        by_turned q p =
            let x = lim in
            let w = turned_is t (Isdb.labels (us t) s) (omega arith) in
            let y : 1 - zs t ≤ bit (two t) = rw w.0 (omega arith) in
            rw (q, w.1) (differs_here t r j s (us t) (1 - zs t) b (mine t).0 y (λ e. let p = e.1 in omega arith) same)

        by_other : v ≡ low two c t (Isdb.labels (1 - us t) s) + o → Apart t (suc r) (suc j) s v
        by_other q =
            let ch = cheaper t (Isdb.labels (1 - us t) s) in
            rw (q, ch.is) (differs_here t r j s (1 - us t) ch.z o (let x = (mine t).0 in omega arith) ch.small (λ e. let p = e.0 in omega arith) else)

        one_step : Apart t (suc r) (suc j) s v
        one_step =
            ⊎_elim (λ w. by_later w.0 w.1) (λ w. ⊎_elim (λ w. by_turned w.0 w.1) by_other w)
            (ways (c t (zs t) (Isdb.labels (us t) s) + e) (turned two c (zs t) t (Isdb.labels (us t) s) + b) (low two c t (Isdb.labels (1 - us t) s) + o) v is)

      pub other_met : (t r j s : ℕ) → s < 64 → 0 < r → r ≤ j → j ≤ Isdb.longest_frame → Apart t r j s (get_or (other_at two c us zs t r j) s 0)
      other_met t zero j s h pos k few = absurd (omega arith)
      other_met t (suc r) zero s h pos k few = absurd (omega arith)
      other_met t (suc r) (suc j) s h pos k few =
          let su = step_under s (us t) h (mine t).0 in
          let so = step_under s (1 - us t) h (let x = (mine t).0 in omega arith) in
          one_step t r j s h few (get_or (other_at two c us zs t (suc r) (suc j)) s 0) (get_or (other_at two c us zs (suc t) r j) (moved 32 (us t) s) 0)
          (get_or (back_at (low two c) (suc t) j) (moved 32 (us t) s) 0) (get_or (back_at (low two c) (suc t) j) (moved 32 (1 - us t) s) 0)
          (other_at_lem t r j s h)
          (back_small (suc t) j (moved 32 (1 - us t) s) so)
          (λ p. other_met (suc t) r j (moved 32 (us t) s) su p (omega arith) (omega arith))
          (none_at (suc t) r j (moved 32 (us t) s) su)
          (back_met (suc t) j (moved 32 (us t) s) su)
          (back_met (suc t) j (moved 32 (1 - us t) s) so)

  -- ---- from the start
  module _ (d : List ℕ) where
    abbrev table : ℕ → List ℕ
    table a = table_at d (low two c) a

    table_next : (a k : ℕ) → k < 64 → get_or (table (suc a)) k 0 ≡ min (through (table a) (low two c a) k 0) (through (table a) (low two c a) k 1)
    unfolding table_at nexts next
    table_next a k h = get_d_upto (λ k. min (through (table a) (low two c a) k 0) (through (table a) (low two c a) k 1)) 0 64 k h

    through_own : (a x p : ℕ) → x < 2 → p < 64 → through (table a) (low two c a) (moved 32 x p) (p % 2) ≡ get_or (table a) p 0 + low two c a (Isdb.labels x p)
    unfolding through
    through_own a x p hx hp =
        let e : moved 32 x p / 32 ≡ x = omega arith in
        let f : 2 * (moved 32 x p % 32) + p % 2 ≡ p = omega arith in
        rw (e, f) refl

    pub table_least : (s : ℕ) (u z : ℕ → ℕ) → s < 64 → Fine two u z → (a : ℕ) → get_or (table a) (state_f s u a) 0 ≤ get_or d s 0 + spent s u z a
    unfolding spent state_f table_at
    table_least s u z hs f zero = omega arith
    table_least s u z hs f (suc a) =
        let p = state_f s u a in
        let x = u a in
        let hp = state_under two s u z hs f a in
        let hx = (f a).0 in
        let i = table_least s u z hs f a in
        let o = through_own a x p hx hp in
        let l = low_under a (z a) (Isdb.labels x p) (f a).1 in
        let m = min_of (λ b. through (table a) (low two c a) (moved 32 x p) b) (p % 2) (omega arith) in
        rw (table_next a (moved 32 x p) (step_under p x hp hx)) (omega arith)

    pub record Reached (a k v : ℕ) : Type 0 where
      pub s : ℕ
      pub u : ℕ → ℕ
      pub z : ℕ → ℕ
      pub start : s < 64
      pub fine : Fine two u z
      pub state : state_f s u a ≡ k
      pub is : get_or d s 0 + spent s u z a ≡ v

    reached_more : (a k p x y v : ℕ) → x < 2 → y ≤ bit (two a) → moved 32 x p ≡ k → Reached a p v → Reached (suc a) k (v + c a y (Isdb.labels x p))
    unfolding state_f spent
    reached_more a k p x y v hx hy e r =
        let u' = put a x r.u in
        let z' = put a y r.z in
        let alike : (i : ℕ) → i < a → (u' i ≡ r.u i) × (z' i ≡ r.z i) = λ i l. (put_else a x r.u i (λ q. omega arith), put_else a y r.z i (λ q. omega arith)) in
        let st : state_f r.s u' a ≡ p = state_alike r.s a u' r.u (λ i l. (alike i l).0) ∙ r.state in
        let sp : spent r.s u' z' a ≡ spent r.s r.u r.z a = spent_alike r.s a u' z' r.u r.z alike in
        record {
          s = r.s;
          u = u';
          z = z';
          start = r.start;
          fine = put_fine two a x y r.u r.z hx hy r.fine;
          state = rw (put_here a x r.u, st) e;
          is = rw (put_here a x r.u, put_here a y r.z, st, sp) (let q = r.is in omega arith);
        }

    reached_as : (a k v w : ℕ) → v ≡ w → Reached a k w → Reached a k v
    reached_as a k v w e r = rw e r

    pub table_met : (a k : ℕ) → k < 64 → Reached a k (get_or (table a) k 0)
    unfolding state_f spent table_at
    table_met zero k h = record { s = k; u = λ i. 0; z = λ i. 0; start = h; fine = λ i. (omega arith, omega arith); state = refl; is = omega arith }
    table_met (suc a) k h =
        let w = least_of_lem (through (table a) (low two c a) k) in
        let b = w.x in
        let hb = w.small in
        let p = 2 * (k % 32) + b in
        let x = k / 32 in
        let ch = cheaper a (Isdb.labels x p) in
        let o = own_before k b h hb in
        let r = reached_more a k p x ch.z (get_or (table a) p 0) o.0 ch.small o.1 (table_met a p o.2) in
        let v : get_or (table (suc a)) k 0 ≡ get_or (table a) p 0 + c a ch.z (Isdb.labels x p) = table_next a k h ∙ w.is ∙ by_hand a k b ∙ ap (λ (q : ℕ). get_or (table a) p 0 + q) ch.is in
        reached_as (suc a) k (get_or (table (suc a)) k 0) _ v r
      where
        by_hand : (a k b : ℕ) → through (table a) (low two c a) k b ≡ get_or (table a) (2 * (k % 32) + b) 0 + low two c a (Isdb.labels (k / 32) (2 * (k % 32) + b))
        by_hand a k b = through_is (table a) (low two c a) k b
