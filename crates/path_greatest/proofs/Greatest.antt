-- Viterbi's theorem: the traced path is the first of the paths of greatest sum.
use Rattle.std.specs.Prelude.{◌≡◌, ◌⊎◌, Bool, not, T}
use Rattle.std.proofs.Math.Path.{refl, sym, ap}
use Rattle.std.proofs.Common.{◌∙◌, subst, mod-lt, mod-eq_of_lt, div-lt_iff_lt-mul, not-suc-le-zero, mul-le-mul_left, ltb→lt, nltb→le, leb→le, ext_get_or}
use Rattle.std.proofs.Math.Logic.{inl, inr, ⊎_elim}
use Rattle.std.proofs.Math.Bool.{true, false, cond}
use mathlib.Core.List.{List, [], ◌∷◌, ◌++◌}
use Prim.Native.Nat.{ℕ, zero, suc, ◌+◌, ◌-◌, ◌*◌, ◌/◌, ◌%◌, ◌≤◌, ◌<◌}
use Rattle.std.proofs.Math.Nat.{div-add-mod, mul-add-mod_self_left, mul-add-div, div-eq_of_lt}
use native.Mathlib.Omega.{arith}
use Rattle.std.proofs.Math.Dec.{nleb→lt}
use Rattle.std.proofs.Math.ListN.{get_or, length, length-append, get_or-append}
use Rattle.std.proofs.Math.Seq.{get_or_at}
use borrow.Author.Count.{below_more}
use Rattle.trellis.specs.Lists.{bit}
use Rattle.trellis.specs.Code.{state_at}
use Rattle.trellis.specs.Step.{Tie, lower, upper}
use Rattle.path_greatest.specs.Paths.{Ahead, Walk, Path, Tail, First}
use Rattle.path_greatest.specs.Viterbi.{Z, plus, Le, beats, sum, total, cand_z, wins_z, next_z, value, decision, pred, origin, inputs, best_z}

-- ---- one choice
taken : (t : Tie) (a b : Z) (i j : ℕ) → i < j → T (beats t a b) → Le a b × (Le b a → Ahead t j i)
taken lower a b i j h w = let l = ltb→lt (a.0 + b.1) (b.0 + a.1) w in (omega arith, omega arith)
taken upper a b i j h w = let l = leb→le (a.0 + b.1) (b.0 + a.1) w in (omega arith, omega arith)

kept : (t : Tie) (a b : Z) (i j : ℕ) → i < j → T (not (beats t a b)) → Le b a × (Le a b → Ahead t i j)
kept lower a b i j h w = let l = nltb→le (a.0 + b.1) (b.0 + a.1) w in (omega arith, omega arith)
kept upper a b i j h w = let l = nleb→lt (a.0 + b.1) (b.0 + a.1) w in (omega arith, omega arith)

pub bit_cases : (b : ℕ) → b < 2 → (b ≡ 0) ⊎ (b ≡ 1)
bit_cases zero h = inl refl
bit_cases (suc zero) h = inr refl
bit_cases (suc (suc b)) h = absurd (omega arith)

-- the chosen candidate is not below either, and of equals it comes first
chosen : (t : Tie) (c : ℕ → Z) (b : ℕ) → b < 2 → Le (c b) (cond (beats t (c 0) (c 1)) (c 1) (c 0)) × (Le (cond (beats t (c 0) (c 1)) (c 1) (c 0)) (c b) → Ahead t (bit (beats t (c 0) (c 1))) b ⊎ (bit (beats t (c 0) (c 1)) ≡ b))
chosen t c b h = go (beats t (c 0) (c 1)) (taken t (c 0) (c 1) 0 1 (omega arith)) (kept t (c 0) (c 1) 0 1 (omega arith)) b (bit_cases b h)
  where
    go : (w : Bool) → (T w → Le (c 0) (c 1) × (Le (c 1) (c 0) → Ahead t 1 0)) → (T (not w) → Le (c 1) (c 0) × (Le (c 0) (c 1) → Ahead t 0 1)) → (b : ℕ) → (b ≡ 0) ⊎ (b ≡ 1) → Le (c b) (cond w (c 1) (c 0)) × (Le (cond w (c 1) (c 0)) (c b) → Ahead t (bit w) b ⊎ (bit w ≡ b))
    go true p q b (inl e) = rw e ((p tt).0, λ h. inl ((p tt).1 h))
    go true p q b (inr e) = rw e (omega arith, λ h. inr refl)
    go false p q b (inl e) = rw e (omega arith, λ h. inr refl)
    go false p q b (inr e) = rw e ((q tt).0, λ h. inl ((q tt).1 h))

plus_assoc : (a b c : Z) → plus a (plus b c) ≡ plus (plus a b) c
plus_assoc a b c =
    let e : a.0 + (b.0 + c.0) ≡ a.0 + b.0 + c.0 = omega arith in
    let f : a.1 + (b.1 + c.1) ≡ a.1 + b.1 + c.1 = omega arith in
    λ i. (e i, f i)

-- ---- states
module _ (half : ℕ) where
  ups : (u p : ℕ) → u < 2 → p < 2 * half → half * u + p / 2 < 2 * half
  ups u p h l =
      let d : p / 2 < half = omega arith in
      let m : half * u ≤ half * 1 = mul-le-mul_left half (omega arith) in
      omega arith

  pub at_under : (n s : ℕ) (us : List ℕ) → Walk half n s us → state_at half s us n < 2 * half
  unfolding state_at
  at_under zero s us w = w.start
  at_under (suc n) s us w = ups (get_or us n 0) (state_at half s us n) (w.bits n (omega arith)) (at_under n s us (record { start = w.start; bits = λ k h. w.bits k (omega arith) }))

  fewer : {n s : ℕ} {us : List ℕ} → Walk half (suc n) s us → Walk half n s us
  fewer w = record { start = w.start; bits = λ k h. w.bits k (omega arith) }

  -- what the new state says of the branch into it
  pub new_mod : (u p : ℕ) → p < 2 * half → (half * u + p / 2) % half ≡ p / 2
  new_mod u p l = mul-add-mod_self_left half u (p / 2) ∙ mod-eq_of_lt (omega arith)

  pub new_div : (u p : ℕ) → p < 2 * half → (half * u + p / 2) / half ≡ u
  new_div u p l =
      let d : p / 2 < half = omega arith in
      let z : (p / 2) / half ≡ 0 = div-eq_of_lt d in
      mul-add-div {m = half} (omega arith) u (p / 2) ∙ omega arith

  -- more inputs change nothing before them
  pub at_more : (s : ℕ) (us vs : List ℕ) (k : ℕ) → k ≤ length us → state_at half s (us ++ vs) k ≡ state_at half s us k
  unfolding state_at
  at_more s us vs zero h = refl
  at_more s us vs (suc k) h = rw (get_or-append us vs 0 k h, at_more s us vs k (omega arith))

  pub tail_more : (t : Tie) (s : ℕ) (us ws : List ℕ) (r : ℕ) (vs : List ℕ) (n : ℕ) → n ≤ length us → Tail half t s us r vs n → Tail half t s (us ++ ws) r vs n
  unfolding Tail
  tail_more t s us ws r vs zero h a = tt
  tail_more t s us ws r vs (suc n) h (inl a) = inl (rw (at_more s us ws n (omega arith)) a)
  tail_more t s us ws r vs (suc n) h (inr a) = inr (rw (at_more s us ws n (omega arith)) a.0, tail_more t s us ws r vs n (omega arith) a.1)

module _ (half : ℕ) (out : ℕ → ℕ → ℕ) where
  pub sum_more : (m : ℕ → ℕ → Z) (s : ℕ) (us vs : List ℕ) (k : ℕ) → k ≤ length us → sum half out m s (us ++ vs) k ≡ sum half out m s us k
  unfolding sum
  sum_more m s us vs zero h = refl
  sum_more m s us vs (suc k) h = rw (sum_more m s us vs k (omega arith), get_or-append us vs 0 k h, at_more half s us vs k (omega arith))

  module _ (t : Tie) (v : ℕ → Z) (m : ℕ → ℕ → Z) where
    pub pred_under : (n s : ℕ) → 0 < half → pred half out t v m n s < 2 * half
    unfolding pred
    pred_under n s h = go (decision half out t v m n s) (mod-lt s h)
      where
        go : (w : Bool) → s % half < half → 2 * (s % half) + bit w < 2 * half
        go true l = omega arith
        go false l = omega arith

    pred_low : (n s : ℕ) → pred half out t v m n s % 2 ≡ bit (decision half out t v m n s)
    unfolding pred
    pred_low n s = go (decision half out t v m n s)
      where
        go : (w : Bool) → (2 * (s % half) + bit w) % 2 ≡ bit w
        go true = omega arith
        go false = omega arith

    pred_half : (n s : ℕ) → pred half out t v m n s / 2 ≡ s % half
    unfolding pred
    pred_half n s = go (decision half out t v m n s)
      where
        go : (w : Bool) → (2 * (s % half) + bit w) / 2 ≡ s % half
        go true = omega arith
        go false = omega arith

    -- the value at s is that of the kept predecessor and its branch
    value_pred : (n s : ℕ) → value half out t v m (suc n) s ≡ plus (value half out t v m n (pred half out t v m n s)) (m n (out (s / half) (pred half out t v m n s)))
    unfolding value next_z cand_z pred
    value_pred n s = go (decision half out t v m n s)
      where
        go : (w : Bool) → cond w (cand_z half out (value half out t v m n) (m n) s 1) (cand_z half out (value half out t v m n) (m n) s 0) ≡ plus (value half out t v m n (2 * (s % half) + bit w)) (m n (out (s / half) (2 * (s % half) + bit w)))
        go true = refl
        go false = refl

    -- ---- the traced path
    pub inputs_length : (n s : ℕ) → length (inputs half out t v m n s) ≡ n
    unfolding inputs
    inputs_length zero s = refl
    inputs_length (suc n) s = length-append (inputs half out t v m n (pred half out t v m n s)) (s / half ∷ []) ∙ omega (arith, inputs_length n (pred half out t v m n s))

    pub record Traced (n s : ℕ) : Type 0 where
      pub path : Path half n (origin half out t v m n s) (inputs half out t v m n s)
      pub ends : state_at half (origin half out t v m n s) (inputs half out t v m n s) n ≡ s
      pub gains : total half out v m (origin half out t v m n s) (inputs half out t v m n s) n ≡ value half out t v m n s

    pub traced : (n s : ℕ) → s < 2 * half → Traced n s
    unfolding origin inputs state_at sum value
    traced zero s l = record { path = record { walk = record { start = l; bits = λ k h. absurd (not-suc-le-zero h) }; count = refl }; ends = refl; gains = refl' }
      where
        refl' : plus (v s) (0, 0) ≡ v s
        refl' =
            let e : (v s).0 + 0 ≡ (v s).0 = omega arith in
            let f : (v s).1 + 0 ≡ (v s).1 = omega arith in
            λ i. (e i, f i)
    traced (suc n) s l =
        let q = pred half out t v m n s in
        let r = traced n q (pred_under n s (omega arith)) in
        let o = origin half out t v m n q in
        let us = inputs half out t v m n q in
        let x = s / half in
        let len : length us ≡ n = inputs_length n q in
        let small : x < 2 = (div-lt_iff_lt-mul {k = half} {x = s} {y = 2} (omega arith)).1 l in
        let last : get_or (us ++ (x ∷ [])) n 0 ≡ x = get_or_at us x [] 0 n len in
        let there : state_at half o (us ++ (x ∷ [])) n ≡ q = at_more half o us (x ∷ []) n (omega arith) ∙ r.ends in
        let sums : sum half out m o (us ++ (x ∷ [])) n ≡ sum half out m o us n = sum_more m o us (x ∷ []) n (omega arith) in
        record {
          path = record {
            walk = record {
              start = r.path.walk.start;
              bits = λ k h. below_more (λ i. get_or (us ++ (x ∷ [])) i 0 < 2) n (λ i hi. rw (get_or-append us (x ∷ []) 0 i (omega arith)) (r.path.walk.bits i hi)) (rw last small) k (omega arith);
            };
            count = inputs_length (suc n) s;
          };
          ends = rw (last, there) (ap (λ (z : ℕ). half * x + z) (pred_half n s) ∙ div-add-mod s half);
          gains = rw (sums, last, there) (plus_assoc (v o) (sum half out m o us n) (m n (out x q)) ∙ ap (λ (z : Z). plus z (m n (out x q))) r.gains ∙ sym (value_pred n s));
        }

    -- the state before the last step of the traced path
    before : (n s : ℕ) → 0 < half → state_at half (origin half out t v m (suc n) s) (inputs half out t v m (suc n) s) n ≡ pred half out t v m n s
    unfolding origin inputs
    before n s h =
        let q = pred half out t v m n s in
        let len : length (inputs half out t v m n q) ≡ n = inputs_length n q in
        at_more half (origin half out t v m n q) (inputs half out t v m n q) (s / half ∷ []) n (omega arith) ∙ (traced n q (pred_under n s h)).ends

    -- ---- no path into s is greater than the traced one, and of equals the traced one is first
    pub record Into (n s r : ℕ) (vs : List ℕ) : Type 0 where
      pub most : Le (total half out v m r vs n) (value half out t v m n s)
      pub first : Le (value half out t v m n s) (total half out v m r vs n) → Tail half t (origin half out t v m n s) (inputs half out t v m n s) r vs n

    -- the candidate by way of the path's own predecessor q
    own : (n u q : ℕ) → q < 2 * half → cand_z half out (value half out t v m n) (m n) (half * u + q / 2) (q % 2) ≡ plus (value half out t v m n q) (m n (out u q))
    unfolding cand_z
    own n u q l =
        let e : 2 * (q / 2) + q % 2 ≡ q = omega arith in
        rw (new_mod half u q l, new_div half u q l, e)

    kept_tail : (n s r : ℕ) (vs : List ℕ) → 0 < half → Tail half t (origin half out t v m n (pred half out t v m n s)) (inputs half out t v m n (pred half out t v m n s)) r vs n → Tail half t (origin half out t v m (suc n) s) (inputs half out t v m (suc n) s) r vs n
    unfolding origin inputs
    kept_tail n s r vs h a =
        let q = pred half out t v m n s in
        let len : length (inputs half out t v m n q) ≡ n = inputs_length n q in
        tail_more half t (origin half out t v m n q) (inputs half out t v m n q) (s / half ∷ []) r vs n (omega arith) a

    own_pred : (n u q : ℕ) → q < 2 * half → bit (decision half out t v m n (half * u + q / 2)) ≡ q % 2 → pred half out t v m n (half * u + q / 2) ≡ q
    unfolding pred
    own_pred n u q l e = rw (e, new_mod half u q l) (omega arith)

    pub into : (n r : ℕ) (vs : List ℕ) → Walk half n r vs → Into n (state_at half r vs n) r vs
    unfolding state_at value sum next_z wins_z Tail
    into zero r vs w = record { most = omega arith; first = λ h. tt }
    into (suc n) r vs w =
        let q = state_at half r vs n in
        let u = get_or vs n 0 in
        let s = half * u + q / 2 in
        let l : q < 2 * half = at_under half n r vs (fewer half w) in
        let pos : 0 < half = omega arith in
        let ih = into n r vs (fewer half w) in
        let c : ℕ → Z = cand_z half out (value half out t v m n) (m n) s in
        let o : c (q % 2) ≡ plus (value half out t v m n q) (m n (out u q)) = own n u q l in
        let o0 : (c (q % 2)).0 ≡ (value half out t v m n q).0 + (m n (out u q)).0 = ap (λ (z : Z). z.0) o in
        let o1 : (c (q % 2)).1 ≡ (value half out t v m n q).1 + (m n (out u q)).1 = ap (λ (z : Z). z.1) o in
        let ch = chosen t c (q % 2) (omega arith) in
        let low : state_at half (origin half out t v m (suc n) s) (inputs half out t v m (suc n) s) n % 2 ≡ bit (decision half out t v m n s) = ap (λ (z : ℕ). z % 2) (before n s pos) ∙ pred_low n s in
        record {
          most = omega (arith, ih.most, ch.0);
          first = λ h. ⊎_elim
              (λ a. inl (rw low a))
              (λ e. inr (low ∙ e, kept_tail n s r vs pos (rw (own_pred n u q l e) (ih.first (omega (arith, ch.0))))))
              (ch.1 (omega (arith, ih.most)));
        }

-- ---- the best end state
far : (t : Tie) (b s n : ℕ) → b ≤ n → s ≤ n → Ahead t (suc n) b → Ahead t (suc n) s
far lower b s n h k a = absurd (omega arith)
far upper b s n h k a = omega arith

pub best_under : (t : Tie) (v : ℕ → Z) (n : ℕ) → best_z t v n ≤ n
unfolding best_z
best_under t v zero = omega arith
best_under t v (suc n) = go (beats t (v (best_z t v n)) (v (suc n))) (best_under t v n)
  where
    go : (w : Bool) → best_z t v n ≤ n → cond w (suc n) (best_z t v n) ≤ suc n
    go true h = omega arith
    go false h = omega arith

-- no state up to n is greater, and of equals the best is first
abbrev Tops : Tie → (ℕ → Z) → ℕ → ℕ → Type 0
Tops t v b s = Le (v s) (v b) × (Le (v b) (v s) → Ahead t b s ⊎ (b ≡ s))

tops_more : (t : Tie) (v : ℕ → Z) (n b : ℕ) → b ≤ n → ((s : ℕ) → s < suc n → Tops t v b s) → (w : Bool) → (T w → Le (v b) (v (suc n)) × (Le (v (suc n)) (v b) → Ahead t (suc n) b)) → (T (not w) → Le (v (suc n)) (v b) × (Le (v b) (v (suc n)) → Ahead t b (suc n))) → (s : ℕ) → s < suc (suc n) → Tops t v (cond w (suc n) b) s
tops_more t v n b l ih true p q s h =
    below_more (λ i. Tops t v (suc n) i) (suc n)
    (λ i hi. let x = (ih i hi).0 in let y = (p tt).0 in (omega arith, λ k. inl (far t b i n l (omega arith) ((p tt).1 (omega arith)))))
    (omega arith, λ k. inr refl)
    s (omega arith)
tops_more t v n b l ih false p q s h =
    below_more (λ i. Tops t v b i) (suc n)
    ih
    ((q tt).0, λ k. inl ((q tt).1 k))
    s (omega arith)

pub best_tops : (t : Tie) (v : ℕ → Z) (n s : ℕ) → s < suc n → Tops t v (best_z t v n) s
unfolding best_z
best_tops t v zero s h =
    let e : 0 ≡ s = omega arith in
    rw (← e) (omega arith, λ k. inr refl)
best_tops t v (suc n) s h =
    let b = best_z t v n in
    let l = best_under t v n in
    tops_more t v n b l (best_tops t v n) (beats t (v b) (v (suc n))) (taken t (v b) (v (suc n)) b (suc n) (omega arith)) (kept t (v b) (v (suc n)) b (suc n) (omega arith)) s h

-- ---- the theorems
module _ (half : ℕ) (out : ℕ → ℕ → ℕ) (t : Tie) (v : ℕ → Z) (m : ℕ → ℕ → Z) where
  -- the end state that the algorithm takes after n steps
  unfoldable pub end : ℕ → ℕ
  end n = best_z t (value half out t v m n) (2 * half - 1)

  -- The survivor of s: the traced path from s ends in s, its total is the value at s, and no path into s is greater; of equals it is first
  pub record Survivor (n s : ℕ) : Type 0 where
    pub traced_path : Traced half out t v m n s
    pub over_all : (r : ℕ) (vs : List ℕ) → Walk half n r vs → state_at half r vs n ≡ s → Into half out t v m n s r vs

  pub survivor : (n s : ℕ) → s < 2 * half → Survivor n s
  survivor n s l = record { traced_path = traced half out t v m n s l; over_all = λ r vs w e. subst (λ (z : ℕ). Into half out t v m n z r vs) e (into half out t v m n r vs w) }

  -- of the paths of n steps whose end is in `to`, this one has the greatest total, and of those it is the first
  pub record Greatest (to : ℕ → Type 0) (n s : ℕ) (us : List ℕ) : Type 0 where
    pub path : Path half n s us
    pub ends : to (state_at half s us n)
    pub most : (r : ℕ) (vs : List ℕ) → Walk half n r vs → to (state_at half r vs n) → Le (total half out v m r vs n) (total half out v m s us n)
    pub first : (r : ℕ) (vs : List ℕ) → Walk half n r vs → to (state_at half r vs n) → Le (total half out v m s us n) (total half out v m r vs n) → First half t s us r vs n

  -- the survivor of s, among the paths that end in s
  pub greatest_to : (n s : ℕ) → s < 2 * half → Greatest (λ z. z ≡ s) n (origin half out t v m n s) (inputs half out t v m n s)
  greatest_to n s l =
      let tr = traced half out t v m n s l in
      let g0 = ap (λ (z : Z). z.0) tr.gains in
      let g1 = ap (λ (z : Z). z.1) tr.gains in
      let su = survivor n s l in
      record {
        path = tr.path;
        ends = tr.ends;
        most = λ r vs w e. let i = (su.over_all r vs w e).most in omega arith;
        first = λ r vs w e k. inr (tr.ends ∙ sym e, (su.over_all r vs w e).first (omega arith));
      }

  -- the survivor of the best end state, among all paths
  pub end_under : (n : ℕ) → 0 < half → end n < 2 * half
  unfolding end
  end_under n h = omega (arith, best_under t (value half out t v m n) (2 * half - 1))

  pub greatest : (n : ℕ) → 0 < half → Greatest (λ z. Unit {0}) n (origin half out t v m n (end n)) (inputs half out t v m n (end n))
  unfolding end
  greatest n h =
      let e = best_z t (value half out t v m n) (2 * half - 1) in
      let tr = traced half out t v m n e (end_under n h) in
      let val : ℕ → Z = value half out t v m n in
      let g0 = ap (λ (z : Z). z.0) tr.gains in
      let g1 = ap (λ (z : Z). z.1) tr.gains in
      record {
        path = tr.path;
        ends = tt;
        most = λ r vs w z.
            let a = at_under half n r vs w in
            let i = into half out t v m n r vs w in
            let b = (best_tops t val (2 * half - 1) (state_at half r vs n) (omega arith)).0 in
            omega (arith, i.most);
        first = λ r vs w z k.
            let a = at_under half n r vs w in
            let i = into half out t v m n r vs w in
            let b = best_tops t val (2 * half - 1) (state_at half r vs n) (omega arith) in
            let b0 = b.0 in
            ⊎_elim
            (λ a. inl (rw tr.ends a))
            (λ e. inr (tr.ends ∙ e, rw e (i.first (omega arith))))
            (b.1 (omega (arith, i.most)));
      }

-- ---- the order is one: two paths each of which is first are the same
not_both : (t : Tie) (a b : ℕ) → Ahead t a b → Ahead t b a → ⊥
not_both lower a b h k = omega arith
not_both upper a b h k = omega arith

not_same : (t : Tie) (a b : ℕ) → Ahead t a b → a ≡ b → ⊥
not_same lower a b h k = omega arith
not_same upper a b h k = omega arith

module _ (half : ℕ) (t : Tie) (s : ℕ) (us : List ℕ) (r : ℕ) (vs : List ℕ) where
  abbrev Alike : ℕ → Type 0
  Alike n = (s ≡ r) × ((k : ℕ) → k < n → get_or us k 0 ≡ get_or vs k 0)

  tail_only : (n : ℕ) → Walk half n s us → Walk half n r vs → state_at half s us n ≡ state_at half r vs n → Tail half t s us r vs n → Tail half t r vs s us n → Alike n
  unfolding Tail state_at
  tail_only zero p q e a b = (e, λ k h. absurd (not-suc-le-zero h))
  tail_only (suc n) p q e (inl a) (inl b) = absurd (not_both t (state_at half s us n % 2) (state_at half r vs n % 2) a b)
  tail_only (suc n) p q e (inl a) (inr b) = absurd (not_same t (state_at half s us n % 2) (state_at half r vs n % 2) a (sym b.0))
  tail_only (suc n) p q e (inr a) (inl b) = absurd (not_same t (state_at half r vs n % 2) (state_at half s us n % 2) b (sym a.0))
  tail_only (suc n) p q e (inr a) (inr b) =
      let x = state_at half s us n in
      let y = state_at half r vs n in
      let lx : x < 2 * half = at_under half n s us (fewer half p) in
      let ly : y < 2 * half = at_under half n r vs (fewer half q) in
      let eu : get_or us n 0 ≡ get_or vs n 0 = sym (new_div half (get_or us n 0) x lx) ∙ ap (λ (z : ℕ). z / half) e ∙ new_div half (get_or vs n 0) y ly in
      let ej : x / 2 ≡ y / 2 = sym (new_mod half (get_or us n 0) x lx) ∙ ap (λ (z : ℕ). z % half) e ∙ new_mod half (get_or vs n 0) y ly in
      let el : x % 2 ≡ y % 2 = a.0 in
      let ih = tail_only n (fewer half p) (fewer half q) (omega arith) a.1 b.1 in
      (ih.0, λ k h. below_more (λ i. get_or us i 0 ≡ get_or vs i 0) n ih.1 eu k (omega arith))

  first_only : (n : ℕ) → Walk half n s us → Walk half n r vs → First half t s us r vs n → First half t r vs s us n → Alike n
  first_only n p q (inl a) (inl b) = absurd (not_both t (state_at half s us n) (state_at half r vs n) a b)
  first_only n p q (inl a) (inr b) = absurd (not_same t (state_at half s us n) (state_at half r vs n) a (sym b.0))
  first_only n p q (inr a) (inl b) = absurd (not_same t (state_at half r vs n) (state_at half s us n) b (sym a.0))
  first_only n p q (inr a) (inr b) = tail_only n p q a.0 a.1 b.1

  pub one_first : (n : ℕ) → Path half n s us → Path half n r vs → First half t s us r vs n → First half t r vs s us n → (s ≡ r) × (us ≡ vs)
  one_first n p q a b =
      let w = first_only n p.walk q.walk a b in
      let c = p.count in
      (w.0, ext_get_or 0 us vs (p.count ∙ sym q.count) (λ i h. w.1 i (omega arith)))
