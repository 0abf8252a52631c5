-- Where at each step the pair that a content sends is the greatest, and its complement is far below, every other content from the same start is behind.
use Rattle.std.specs.Prelude.{◌≡◌, ◌⊎◌, Bool, cond, List, eqb, ℤ, pos, negsuc, neg_ℤ, ◌+ℤ◌, ◌≤ℤ◌, get_or, Float}
use Rattle.std.proofs.Math.Path.{refl}
use Rattle.std.proofs.Common.{sym, ap, ◌∙◌, subst, inr, ⊎_elim, below_more, eqb-true, eq-eqb, ne_eqb}
use Rattle.std.proofs.Math.Logic.{inl}
use Rattle.std.proofs.Math.Bool.{true, false}
use Prim.Native.Nat.{ℕ, zero, suc, ◌+◌, ◌-◌, ◌≤◌, ◌<◌}
use native.Mathlib.Omega.{arith}
use Rattle.std.proofs.lemmas.Bool.{eqb-false}
use Rattle.std.specs.Float.{nan}
use Rattle.ieee.specs.Whole.{hi_z, lo_z}
use Rattle.ieee.proofs.Whole.{parts}
use Rattle.trellis.specs.Lists.{bit}
use Rattle.trellis.specs.Run.{quadruple}
use Rattle.trellis.specs.Code.{state_at, isdb}
use Rattle.trellis.proofs.RunLaws.{label_under}
use Rattle.trellis.specs.Isdb
use Rattle.path_lead.specs.Complement.{complement}
use Rattle.path_greatest.proofs.Greatest.{at_under}
use Rattle.path_greatest.specs.Viterbi.{Z, plus}
use Rattle.path_greatest.proofs.Integers.{Val, le_val}
use Rattle.best_grid.specs.Grid.{above, below, grid}
use Rattle.best_grid.proofs.GridLaws.{grid_parts}
use Rattle.best_grid.specs.Sides.{two, better, worth_at}
use Rattle.best_grid.proofs.SideLaws.{Upright}
use Rattle.best_grid.specs.Contents.{Content, worth}
use Rattle.best_grid.proofs.Sequences.{turned_bit}
use Rattle.best_certain.specs.Gaps.{least}

-- ---- what a step is worth, as a difference
neg_val : (z : ℤ) (a b : ℕ) → hi_z z + b ≡ lo_z z + a → hi_z (neg_ℤ z) + a ≡ lo_z (neg_ℤ z) + b
neg_val (pos zero) a b h = omega arith
neg_val (pos (suc n)) a b h = omega arith
neg_val (negsuc n) a b h = omega arith

module _ (xs : List Float) (sides : List ℕ) where
  abbrev metric : ℕ → ℕ → Float
  metric k l = get_or (quadruple xs k) l nan

  abbrev step_z : ℕ → ℕ → ℕ → Z
  step_z k z l =
      cond (two xs sides k) (cond (eqb z (better xs sides k l)) (above (metric k l), below (metric k l)) (below (metric k l), above (metric k l))) (above (metric k l), below (metric k l))

  step_val : (k z l : ℕ) → Val (worth_at xs sides k z l) (step_z k z l)
  unfolding worth_at
  step_val k z l = go (two xs sides k) (eqb z (better xs sides k l)) (metric k l)
    where
      go : (v w : Bool) (x : Float) → Val (cond v (cond w (grid x) (neg_ℤ (grid x))) (grid x)) (cond {A = Z} v (cond {A = Z} w (above x, below x) (below x, above x)) (above x, below x))
      go true true x = grid_parts x
      go true false x = neg_val (grid x) (above x) (below x) (grid_parts x)
      go false w x = grid_parts x

  -- the sum of the first k steps
  unfoldable sum_z : ℕ → List ℕ → List ℕ → ℕ → Z
  sum_z s us zs zero = (0, 0)
  sum_z s us zs (suc k) = plus (sum_z s us zs k) (step_z k (get_or zs k 0) (Isdb.label_at s us k))

  sum_val : (s : ℕ) (us zs : List ℕ) (k : ℕ) → Val (worth (worth_at xs sides) s us zs k) (sum_z s us zs k)
  unfolding worth sum_z
  sum_val s us zs zero = refl
  sum_val s us zs (suc k) =
      add_val (worth (worth_at xs sides) s us zs k) (worth_at xs sides k (get_or zs k 0) (Isdb.label_at s us k)) (sum_z s us zs k) (step_z k (get_or zs k 0) (Isdb.label_at s us k)) (sum_val s us zs k)
      (step_val k (get_or zs k 0) (Isdb.label_at s us k))
    where
      add_val : (a b : ℤ) (p q : Z) → Val a p → Val b q → Val (a +ℤ b) (plus p q)
      add_val a b p q h k = let r = parts a b in omega arith

  -- ---- one step: the pair c is the greatest, and its complement far below
  pub record Ahead (k c : ℕ) : Type 0 where
    pub best : (l : ℕ) → l < 4 → above (metric k l) + below (metric k c) ≤ above (metric k c) + below (metric k l)
    pub clear : above (metric k (3 - c)) + below (metric k c) + least ≤ above (metric k c) + below (metric k (3 - c))

  -- p is below q by d at least
  abbrev Less : Z → Z → ℕ → Type 0
  Less p q d = p.0 + q.1 + d ≤ q.0 + p.1

  module _ (n : ℕ) (up : Upright xs sides n) (k c : ℕ) (h : k < n) (small : c < 4) (a : Ahead k c) where
    abbrev full : Z
    full = (above (metric k c), below (metric k c))

    own_step : (z : ℕ) → (two xs sides k ≡ true → z ≡ better xs sides k c) → step_z k z c ≡ full
    own_step z e = go (two xs sides k) refl
      where
        go : (v : Bool) → two xs sides k ≡ v → cond {A = Z} v (cond {A = Z} (eqb z (better xs sides k c)) full (below (metric k c), above (metric k c))) full ≡ full
        go true q = ap (λ (w : Bool). cond {A = Z} w full (below (metric k c), above (metric k c))) (eq-eqb z (better xs sides k c) (e q))
        go false q = refl

    -- a pair that is below by d, with either uncoded bit
    either_bit : (l d : ℕ) → l < 4 → above (metric k l) + below (metric k c) + d ≤ above (metric k c) + below (metric k l) → (z : ℕ) → Less (step_z k z l) full d
    either_bit l d g b z = go (two xs sides k) refl (eqb z (better xs sides k l))
      where
        go : (v : Bool) → two xs sides k ≡ v → (w : Bool) → Less (cond {A = Z} v (cond {A = Z} w (above (metric k l), below (metric k l)) (below (metric k l), above (metric k l))) (above (metric k l), below (metric k l))) full d
        go true q true = b
        go true q false = let x = up k l h g q in let y = up k c h small q in omega arith
        go false q w = b

    any_step : (l : ℕ) → l < 4 → (z : ℕ) → Less (step_z k z l) full 0
    any_step l g z = let b = a.best l g in either_bit l 0 g (omega arith) z

    far_step : (z : ℕ) → Less (step_z k z (3 - c)) full least
    far_step z = either_bit (3 - c) least (omega arith) a.clear z

    other_step : (z : ℕ) → two xs sides k ≡ true → (z ≡ better xs sides k c → ⊥) → Less (step_z k z c) full least
    other_step z q e =
        let x = up k c h small q in
        let y = up k (3 - c) h (omega arith) q in
        let b = a.clear in
        rw (q, ne_eqb z (better xs sides k c) e) (omega arith)

  -- ---- all steps
  module _ (n : ℕ) (up : Upright xs sides n) (s : ℕ) (us zs : List ℕ) (mine : Content (two xs sides) n s us zs)
      (own : (k : ℕ) → k < n → two xs sides k ≡ true → get_or zs k 0 ≡ better xs sides k (Isdb.label_at s us k)) (ahead : (k : ℕ) → k < n → Ahead k (Isdb.label_at s us k))
      (vs ys : List ℕ) (other : Content (two xs sides) n s vs ys) where
    -- the first k steps are the same; or the other content is behind
    record Alike (k : ℕ) : Type 0 where
      same : (i : ℕ) → i < k → (get_or us i 0 ≡ get_or vs i 0) × (get_or zs i 0 ≡ get_or ys i 0)
      level : Less (sum_z s vs ys k) (sum_z s us zs k) 0

    abbrev Behind : ℕ → Type 0
    Behind k = Less (sum_z s vs ys k) (sum_z s us zs k) least

    label_small : (ws : List ℕ) (k : ℕ) → Isdb.label_at s ws k < 4
    label_small ws k = label_under isdb (get_or ws k 0) (state_at 32 s ws k)

    state_same : (k : ℕ) → ((i : ℕ) → i < k → (get_or us i 0 ≡ get_or vs i 0) × (get_or zs i 0 ≡ get_or ys i 0)) → state_at 32 s us k ≡ state_at 32 s vs k
    unfolding state_at
    state_same zero f = refl
    state_same (suc k) f = rw ((f k (omega arith)).0, state_same k (λ i l. f i (omega arith)))

    module _ (k : ℕ) (h : k < n) where
      abbrev c : ℕ
      c = Isdb.label_at s us k

      mine_is : step_z k (get_or zs k 0) c ≡ (above (metric k c), below (metric k c))
      mine_is = own_step n up k c h (label_small us k) (ahead k h) (get_or zs k 0) (own k h)

      more : (d e : ℕ) → Less (sum_z s vs ys k) (sum_z s us zs k) d → Less (step_z k (get_or ys k 0) (Isdb.label_at s vs k)) (above (metric k c), below (metric k c)) e → Less (sum_z s vs ys (suc k)) (sum_z s us zs (suc k)) (d + e)
      unfolding sum_z
      more d e p q = rw mine_is (add_less (sum_z s vs ys k) (sum_z s us zs k) (step_z k (get_or ys k 0) (Isdb.label_at s vs k)) (above (metric k c), below (metric k c)) d e p q)
        where
          add_less : (a b x y : Z) (d e : ℕ) → Less a b d → Less x y e → Less (plus a x) (plus b y) (d + e)
          add_less a b x y d e p q = omega arith

      stays : Behind k → Behind (suc k)
      stays b = more least 0 b (any_step n up k c h (label_small us k) (ahead k h) (Isdb.label_at s vs k) (label_small vs k) (get_or ys k 0))

      falls : Alike k → Less (step_z k (get_or ys k 0) (Isdb.label_at s vs k)) (above (metric k c), below (metric k c)) least → Behind (suc k)
      falls a b = more 0 least a.level b

      -- another input sends the complement
      turned : Alike k → (get_or us k 0 ≡ get_or vs k 0 → ⊥) → Behind (suc k)
      turned a e =
          let u = mine.path.walk.bits k h in
          let v = other.path.walk.bits k h in
          let f : get_or vs k 0 ≡ 1 - get_or us k 0 = turned_bit (get_or us k 0) (get_or vs k 0) u v e in
          let small = at_under 32 k s us (record { start = mine.path.walk.start; bits = λ i l. mine.path.walk.bits i (omega arith) }) in
          let l : Isdb.label_at s vs k ≡ 3 - c = ap (λ (x : ℕ). Isdb.labels x (state_at 32 s vs k)) f ∙ ap (Isdb.labels (1 - get_or us k 0)) (sym (state_same k a.same)) ∙ complement (get_or us k 0) (state_at 32 s us k) u small in
          falls a (subst (λ (x : ℕ). Less (step_z k (get_or ys k 0) x) (above (metric k c), below (metric k c)) least) (sym l) (far_step n up k c h (label_small us k) (ahead k h) (get_or ys k 0)))

      same_label : Alike k → get_or us k 0 ≡ get_or vs k 0 → c ≡ Isdb.label_at s vs k
      same_label a e = ap (λ (x : ℕ). Isdb.labels x (state_at 32 s us k)) e ∙ ap (Isdb.labels (get_or vs k 0)) (state_same k a.same)

      -- another uncoded bit counts the metric negative
      signed : Alike k → get_or us k 0 ≡ get_or vs k 0 → (get_or zs k 0 ≡ get_or ys k 0 → ⊥) → Behind (suc k)
      signed a e f = go (two xs sides k) refl (mine.uncoded k h) (other.uncoded k h)
        where
          go : (v : Bool) → two xs sides k ≡ v → get_or zs k 0 ≤ bit v → get_or ys k 0 ≤ bit v → Behind (suc k)
          go true q x y =
              falls a (subst (λ (l : ℕ). Less (step_z k (get_or ys k 0) l) (above (metric k c), below (metric k c)) least) (same_label a e)
              (other_step n up k c h (label_small us k) (ahead k h) (get_or ys k 0) q (λ z. f (own k h q ∙ sym z))))
          go false q x y = absurd (f (let z : get_or zs k 0 ≡ get_or ys k 0 = omega arith in z))

      goes : Alike k → get_or us k 0 ≡ get_or vs k 0 → get_or zs k 0 ≡ get_or ys k 0 → Alike (suc k)
      goes a e f = record {
        same = λ i l. grown i (omega arith);
        level =
            more 0 0 a.level
            (subst (λ (l : ℕ). Less (step_z k (get_or ys k 0) l) (above (metric k c), below (metric k c)) 0) (same_label a e) (any_step n up k c h (label_small us k) (ahead k h) c (label_small us k) (get_or ys k 0)));
      }
        where
          grown : (i : ℕ) → i < k + 1 → (get_or us i 0 ≡ get_or vs i 0) × (get_or zs i 0 ≡ get_or ys i 0)
          grown = below_more (λ i. (get_or us i 0 ≡ get_or vs i 0) × (get_or zs i 0 ≡ get_or ys i 0)) k a.same (e, f)

      next : Alike k ⊎ Behind k → Alike (suc k) ⊎ Behind (suc k)
      next (inr b) = inr (stays b)
      next (inl a) = go (eqb (get_or us k 0) (get_or vs k 0)) refl (eqb (get_or zs k 0) (get_or ys k 0)) refl
        where
          go : (v : Bool) → eqb (get_or us k 0) (get_or vs k 0) ≡ v → (w : Bool) → eqb (get_or zs k 0) (get_or ys k 0) ≡ w → Alike (suc k) ⊎ Behind (suc k)
          go true p true q = inl (goes a (eqb-true (get_or us k 0) (get_or vs k 0) p) (eqb-true (get_or zs k 0) (get_or ys k 0) q))
          go true p false q = inr (signed a (eqb-true (get_or us k 0) (get_or vs k 0) p) (eqb-false (get_or zs k 0) (get_or ys k 0) q))
          go false p w q = inr (turned a (eqb-false (get_or us k 0) (get_or vs k 0) p))

    walk : (k : ℕ) → k ≤ n → Alike k ⊎ Behind k
    unfolding sum_z
    walk zero h = inl (record { same = λ i l. absurd (omega arith); level = omega arith })
    walk (suc k) h = next k (omega arith) (walk k (omega arith))

    -- the same content, or behind by `least`
    pub apart : ((i : ℕ) → i < n → (get_or us i 0 ≡ get_or vs i 0) × (get_or zs i 0 ≡ get_or ys i 0)) ⊎ ((worth (worth_at xs sides) s vs ys n +ℤ pos least) ≤ℤ worth (worth_at xs sides) s us zs n)
    apart = ⊎_elim (λ a. inl a.same) (λ b. inr (behind b)) (walk n (omega arith))
      where
        behind : Behind n → (worth (worth_at xs sides) s vs ys n +ℤ pos least) ≤ℤ worth (worth_at xs sides) s us zs n
        behind b =
            let x = worth (worth_at xs sides) s vs ys n in
            let e = sum_val s vs ys n in
            let r = parts x (pos least) in
            le_val (x +ℤ pos least) (worth (worth_at xs sides) s us zs n) ((sum_z s vs ys n).0 + least, (sum_z s vs ys n).1) (sum_z s us zs n) (omega arith) (sum_val s us zs n) (omega arith)
