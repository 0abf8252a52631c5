-- The greatest of some path values and of the least finite f32. Where it is no zero, it is the same by whatever order it was found.
use mathlib.Core.Path.{◌≡◌, refl, sym, subst}
use mathlib.Core.Logic.{◌⊎◌, inl, inr, ⊎_elim}
use mathlib.Core.Bool.{Bool, true, false, cond}
use mathlib.Core.List.{List}
use Prim.Native.Nat.{ℕ, zero, suc, ◌+◌, ◌*◌, ◌/◌, ◌%◌, ◌<◌, ◌≤◌}
use native.Mathlib.Omega.{arith}
use lib.Dec.{T}
use lib.ListN.{get_or}
use lib.Ieee.{Float, nan, binary32, lt, fits, of_bits}
use Rattle.trellis.specs.Step.{top}
use Rattle.trellis.specs.WrittenLaws.{lt_or_ge}
use Rattle.viterbi_peak.specs.Sign.{NotZero}
use Rattle.viterbi_peak.proofs.FloatOrder.{Real, lt_number, irreflexive, asymmetric, not_below, same_value}

abbrev pub least : Float
least = of_bits binary32 0xff7f_ffff

least_real : Real least
unfolding fits of_bits
least_real = (tt, tt)

-- ---- the greater of two; of equals the first
abbrev pub choice : Float → Float → Float
choice t x = cond (lt t x) x t

-- a property of both is one of the greater
either : (P : Float → Type 0) (w : Bool) (x t : Float) → (w ≡ true → P x) → (w ≡ false → P t) → P (cond w x t)
either P true x t p q = p refl
either P false x t p q = q refl

true_lt : (t x : Float) → lt t x ≡ true → T (lt t x)
true_lt t x e = subst T (sym e) tt

choice_real : (t x : Float) → Real t → T (fits binary32 x) → Real (choice t x)
choice_real t x p f = either Real (lt t x) x t (λ e. (f, lt_number t x (true_lt t x e))) (λ e. p)

-- what was not above the first is not above the greater, nor is the second, nor what was not above the second
choice_kept : (t x v : Float) → Real t → T (fits binary32 x) → T (fits binary32 v) → lt t v ≡ false → lt (choice t x) v ≡ false
choice_kept t x v p f g h =
    either (λ (r : Float). lt r v ≡ false) (lt t x) x t
    (λ e. let u = true_lt t x e in not_below x t v (f, lt_number t x u) p g (asymmetric t x p.0 f u) h)
    (λ e. h)

choice_new : (t x : Float) → T (fits binary32 x) → lt (choice t x) x ≡ false
choice_new t x f = either (λ (r : Float). lt r x ≡ false) (lt t x) x t (λ e. irreflexive x f) (λ e. e)

choice_other : (t x v : Float) → Real t → Real x → T (fits binary32 v) → lt x v ≡ false → lt (choice t x) v ≡ false
choice_other t x v p q g h = either (λ (r : Float). lt r v ≡ false) (lt t x) x t (λ e. h) (λ e. not_below t x v p q g e h)

module _ (pm : List Float) where
  -- t is not below the values at the places In, nor below the least; and what is not below all 64 and the least is not below t
  pub record Peak (In : ℕ → Type 0) (t : Float) : Type 0 where
    pub is_real : Real t
    pub base : lt t least ≡ false
    pub over : (i : ℕ) → In i → lt t (get_or pm i nan) ≡ false
    pub bound : (z : Float) → lt z least ≡ false → ((i : ℕ) → i < 64 → lt z (get_or pm i nan) ≡ false) → lt z t ≡ false

-- the first s places of the chain c
abbrev pub Chain : ℕ → ℕ → ℕ → Type 0
Chain c s i = (i % 4 ≡ c) × (i / 4 < s)

module _ (pm : List Float) (all : (i : ℕ) → T (fits binary32 (get_or pm i nan))) where
  pub peak_none : (In : ℕ → Type 0) → ((i : ℕ) → In i → ⊥) → Peak pm In least
  peak_none In none = record { is_real = least_real; base = irreflexive least least_real.0; over = λ i h. absurd (none i h); bound = λ z h k. h }

  -- one place more
  pub peak_more : (In In' : ℕ → Type 0) (t : Float) (i : ℕ) → i < 64 → ((j : ℕ) → In' j → In j ⊎ (j ≡ i)) → Peak pm In t → Peak pm In' (choice t (get_or pm i nan))
  peak_more In In' t i h split p =
      let x = get_or pm i nan in
      record {
        is_real = choice_real t x p.is_real (all i);
        base = choice_kept t x least p.is_real (all i) least_real.0 p.base;
        over = λ j g.
            ⊎_elim
            (λ old. choice_kept t x (get_or pm j nan) p.is_real (all i) (all j) (p.over j old))
            (λ e. subst (λ (k : ℕ). lt (choice t x) (get_or pm k nan) ≡ false) (sym e) (choice_new t x (all i)))
            (split j g);
        bound = λ z g k. either (λ (r : Float). lt z r ≡ false) (lt t x) x t (λ e. k i h) (λ e. p.bound z g k);
      }

  -- the places of both
  pub peak_both : (In In' Both : ℕ → Type 0) (a b : Float) → ((j : ℕ) → Both j → In j ⊎ In' j) → Peak pm In a → Peak pm In' b → Peak pm Both (choice a b)
  peak_both In In' Both a b split p q = record {
    is_real = choice_real a b p.is_real q.is_real.0;
    base = choice_kept a b least p.is_real q.is_real.0 least_real.0 p.base;
    over = λ j g.
        ⊎_elim
        (λ l. choice_kept a b (get_or pm j nan) p.is_real q.is_real.0 (all j) (p.over j l))
        (λ r. choice_other a b (get_or pm j nan) p.is_real q.is_real (all j) (q.over j r))
        (split j g);
    bound = λ z g k. either (λ (r : Float). lt z r ≡ false) (lt a b) b a (λ e. q.bound z g k) (λ e. p.bound z g k);
  }

  last_or : (n j : ℕ) → j < suc n → (j < n) ⊎ (j ≡ n)
  last_or n j h = ⊎_elim (λ l. inl l) (λ g. inr (omega arith)) (lt_or_ge j n)

  top_peak : (n : ℕ) → n ≤ 64 → Peak pm (λ i. i < n) (top pm n)
  unfolding top
  top_peak zero h = peak_none (λ i. i < 0) (λ i g. omega arith)
  top_peak (suc n) h = peak_more (λ i. i < n) (λ i. i < suc n) (top pm n) n h (last_or n) (top_peak n (omega arith))

  pub peak_top : (r : Float) → Peak pm (λ i. i < 64) r → NotZero r → r ≡ top pm 64
  peak_top r p z =
      let q = top_peak 64 (omega arith) in
      same_value r (top pm 64) p.is_real q.is_real (q.bound r p.base p.over) (p.bound (top pm 64) q.base q.over) z

  -- ---- four chains
  pub chain_none : (c : ℕ) → Peak pm (Chain c 0) least
  chain_none c = peak_none (Chain c 0) (λ i h. let g = h.1 in omega arith)

  pub chain_more : (c s i : ℕ) (t r : Float) → s < 16 → c < 4 → i ≡ 4 * s + c → r ≡ choice t (get_or pm i nan) → Peak pm (Chain c s) t → Peak pm (Chain c (s + 1)) r
  chain_more c s i t r h k e is-r p =
      rw is-r
      (peak_more (Chain c s) (Chain c (s + 1)) t i (omega arith)
      (λ j g. let m = g.0 in let l = g.1 in ⊎_elim (λ a. inl (m, a)) (λ b. inr (omega arith)) (lt_or_ge (j / 4) s))
      p)

  abbrev Lower : ℕ → Type 0
  Lower i = (i % 4 < 2) × (i / 4 < 16)

  abbrev Upper : ℕ → Type 0
  Upper i = (2 ≤ i % 4) × (i / 4 < 16)

  -- the greatest of the four is that of all
  pub chains_top : (a b c d x y r : Float) → Peak pm (Chain 0 16) a → Peak pm (Chain 1 16) b → Peak pm (Chain 2 16) c → Peak pm (Chain 3 16) d → x ≡ choice a b → y ≡ choice c d → r ≡ choice x y → NotZero r → r ≡ top pm 64
  chains_top a b c d x y r p q s t is_x is_y is-r =
      let lower : Peak pm Lower x = rw is_x (peak_both (Chain 0 16) (Chain 1 16) Lower a b (λ j g. let m = g.0 in ⊎_elim (λ l. inl (omega arith, g.1)) (λ u. inr (omega arith, g.1)) (lt_or_ge (j % 4) 1)) p q) in
      let upper : Peak pm Upper y = rw is_y (peak_both (Chain 2 16) (Chain 3 16) Upper c d (λ j g. let m = g.0 in ⊎_elim (λ l. inl (omega arith, g.1)) (λ u. inr (omega arith, g.1)) (lt_or_ge (j % 4) 3)) s t) in
      let whole : Peak pm (λ i. i < 64) r = rw is-r (peak_both Lower Upper (λ i. i < 64) x y (λ j g. ⊎_elim (λ l. inl (l, omega arith)) (λ u. inr (u, omega arith)) (lt_or_ge (j % 4) 2)) lower upper) in
      peak_top r whole
