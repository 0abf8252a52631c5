-- What one step may add to a path value.
use Rattle.std.specs.Prelude.{Bool, true, false, not, List, ℕ, zero, suc, ◌+◌, ◌*◌, ◌/◌, ◌%◌, ◌<◌, ◌≤◌, T, eqb, get_or}
use Rattle.std.proofs.Math.Bool.{cond}
use Rattle.std.proofs.Common.{zero-le, arith, lit<}
use Rattle.std.specs.Float.Ieee.{Float, neg, add, lt, fits, of_bits}
use Rattle.std.specs.Float.{nan, binary32}
use Rattle.ieee.specs.Value.{hi, lo, Num}
use Rattle.ieee.specs.Order.{Le, lt→value, not-lt→value}
use Rattle.path_lead.specs.Ties.{pick}
use Rattle.path_lead.specs.Lists.{get_d_nexts}
use Rattle.trellis.specs.Step.{Step, pair, four, known, Tie, lower, upper, takes, term, add_pair, branch, cand, wins, next, nexts}
use Rattle.range_paths.specs.Bounds.{most, Above, above_more, below_more, Within, within_neg, Adds, adds, raised, adds_twice, adds_within}

-- a step of soft values or metrics that adds at most 512 c: two terms of at most half of it each, or one metric
pub data Soft (c : ℕ) : Step → Type 0 where
  two : {lx ly : Float} (d : ℕ) → d + d ≤ c → Within lx d d → Within ly d d → Soft c (pair lx ly)
  quad : {m : List Float} → ((l : ℕ) → l < 4 → Within (get_or m l nan) c c) → Soft c (four m)

-- every branch of the step x adds at most 512 c to a path value, as long as the bounds are held
pub record Moves (c : ℕ) (x : Step) : Type 0 where
  pub by : (v : Float) (a b l : ℕ) → l < 4 → Within v a b → a + c ≤ most → b + c ≤ most → Adds v (branch x v l) c

-- ---- a pair: each of its two sums is rounded
term_within : (b : ℕ) (x : Float) (d : ℕ) → Within x d d → Within (term b x) d d
term_within b x d w = pick (λ z. Within z d d) (eqb b 1) (neg x) x (within_neg x d w) w

pair_adds : (lx ly v : Float) (a b d l : ℕ) → Within lx d d → Within ly d d → Within v a b → a + (d + d) ≤ most → b + (d + d) ≤ most → Adds v (add_pair lx ly v l) (d + d)
pair_adds lx ly v a b d l x y w h k =
    let f = adds v (term (l / 2) lx) a b d w (term_within (l / 2) lx d x) (omega arith) (omega arith) (omega arith) in
    let z = add binary32 v (term (l / 2) lx) in
    adds_twice f (adds z (term (l % 2) ly) (a + d) (b + d) d (adds_within a b f w (omega arith) (omega arith)) (term_within (l % 2) ly d y) (omega arith) (omega arith) (omega arith))

adds_more : {v z : Float} {d : ℕ} (c : ℕ) → d ≤ c → Adds v z d → Adds v z c
adds_more {v} {z} {d} c h f = record {
  num = f.num;
  low = λ q k l. above_more z (q + d) (q + c) (omega arith) (f.low q (omega arith) l);
  high = λ q k l. below_more z (q + d) (q + c) (omega arith) (f.high q (omega arith) l);
}

pub soft_moves : {c : ℕ} {x : Step} → Soft c x → Moves c x
unfolding branch
soft_moves {c} (two {lx} {ly} d h x y) = record { by = λ v a b l g w i j. adds_more c h (pair_adds lx ly v a b d l x y w (omega arith) (omega arith)) }
soft_moves {c} (quad {m} s) = record { by = λ v a b l g w i j. adds v (get_or m l nan) a b c w (s l g) (omega arith) (omega arith) (omega arith) }

-- ---- one of the two branches that leave the state s takes at most 512 d
pub record Falls (c d : ℕ) (out : ℕ → ℕ → ℕ) (x : Step) (s : ℕ) : Type 0 where
  pub input : ℕ
  pub under : input < 2
  pub by : (v : Float) (a b q : ℕ) → Within v a b → a + c ≤ most → b + c ≤ most → q + d ≤ most → Above v q → Above (branch x v (out input s)) (q + d)

-- any step takes at most what it adds
pub soft_falls : {c : ℕ} {x : Step} (out : ℕ → ℕ → ℕ) → ((u s : ℕ) → u < 2 → s < 64 → out u s < 4) → Soft c x → (s : ℕ) → s < 64 → Falls c c out x s
soft_falls out labels f s h = record { input = 0; under = lit< tt; by = λ v a b q w A B Q l. ((soft_moves f).by v a b (out 0 s) (labels 0 s (lit< tt) h) w A B).low q Q l }

-- a metric that is not below 0 takes nothing
pub quad_falls : {c : ℕ} {m : List Float} (out : ℕ → ℕ → ℕ) (s u : ℕ) → u < 2 → Within (get_or m (out u s) nan) c c → Above (get_or m (out u s) nan) 0 → Falls c 0 out (four m) s
unfolding branch
quad_falls {c} {m} out s u h w p = record {
  input = u;
  under = h;
  by = λ v a b q i A B Q l.
      above_more (add binary32 v (get_or m (out u s) nan)) q (q + 0) (omega arith) (raised v (get_or m (out u s) nan) a b c q i w p (omega arith) (omega arith) (omega arith) (omega arith) l);
}

-- ---- a known bit: a pair of zeros
pub zero_within : Within (of_bits binary32 0) 0 0
unfolding of_bits fits hi lo
zero_within = record { num = record { fin_x = tt; fits_x = tt }; low = zero-le; high = zero-le }

pub known_moves : (b : ℕ) → Moves 0 (known b)
unfolding branch
known_moves b = record { by = λ v a c l g w i j. pair_adds (of_bits binary32 0) (of_bits binary32 0) v a c 0 l zero_within zero_within w i j }

-- ---- the greater of two, under either tie-break
greater : (t : Tie) (x y : Float) → Num binary32 x → Num binary32 y → Le binary32 x (cond (takes t x y) y x) × Le binary32 y (cond (takes t x y) y x)
greater lower x y p q = go (lt x y) (lt→value binary32 x y p q) (not-lt→value binary32 x y p q)
  where
    go : (w : Bool) → (T w → hi binary32 x + lo binary32 y < hi binary32 y + lo binary32 x) → (T (not w) → Le binary32 y x) → Le binary32 x (cond w y x) × Le binary32 y (cond w y x)
    go true h k = let l = h tt in (omega arith, omega arith)
    go false h k = (omega arith, k tt)
greater upper x y p q = go (lt y x) (lt→value binary32 y x q p) (not-lt→value binary32 y x q p)
  where
    go : (w : Bool) → (T w → hi binary32 y + lo binary32 x < hi binary32 x + lo binary32 y) → (T (not w) → Le binary32 x y) → Le binary32 x (cond (not w) y x) × Le binary32 y (cond (not w) y x)
    go true h k = let l = h tt in (omega arith, omega arith)
    go false h k = (k tt, omega arith)

-- ---- the new path values, from values between -512 a and 512 b
module _ (out : ℕ → ℕ → ℕ) (labels : (u s : ℕ) → u < 2 → s < 64 → out u s < 4) (t : Tie) (pm : List Float) (x : Step) (a b d : ℕ)
    (A : a + d ≤ most) (B : b + d ≤ most) (all : (s : ℕ) → s < 64 → Within (get_or pm s nan) a b) (m : Moves d x)
  where
    cand_adds : (s e : ℕ) → s < 64 → e < 2 → Adds (get_or pm (2 * (s % 32) + e) nan) (cand 32 out pm x s e) d
    unfolding cand
    cand_adds s e h k =
        let p = 2 * (s % 32) + e in
        m.by (get_or pm p nan) a b (out (s / 32) p) (labels (s / 32) p (omega arith) (omega arith)) (all p (omega arith)) A B

    cand_within : (s e : ℕ) → s < 64 → e < 2 → Within (cand 32 out pm x s e) (a + d) (b + d)
    cand_within s e h k = adds_within a b (cand_adds s e h k) (all (2 * (s % 32) + e) (omega arith)) A B

    next_over : (s e : ℕ) → s < 64 → e < 2 → Le binary32 (cand 32 out pm x s e) (next 32 out t pm x s)
    unfolding next wins
    next_over s e h k = go e k (greater t (cand 32 out pm x s 0) (cand 32 out pm x s 1) (cand_within s 0 h (lit< tt)).num (cand_within s 1 h (lit< tt)).num)
      where
        z : Float
        z = cond (takes t (cand 32 out pm x s 0) (cand 32 out pm x s 1)) (cand 32 out pm x s 1) (cand 32 out pm x s 0)

        go : (e : ℕ) → e < 2 → Le binary32 (cand 32 out pm x s 0) z × Le binary32 (cand 32 out pm x s 1) z → Le binary32 (cand 32 out pm x s e) z
        go zero k g = g.0
        go (suc zero) k g = g.1
        go (suc (suc e)) k g = absurd (omega arith)

    next_within : (s : ℕ) → s < 64 → Within (next 32 out t pm x s) (a + d) (b + d)
    unfolding next
    next_within s h = pick (λ z. Within z (a + d) (b + d)) (wins 32 out t pm x s) (cand 32 out pm x s 1) (cand 32 out pm x s 0) (cand_within s 1 h (lit< tt)) (cand_within s 0 h (lit< tt))

    -- all of them
    pub nexts_within : (s : ℕ) → s < 64 → Within (get_or (nexts 32 out t pm x) s nan) (a + d) (b + d)
    nexts_within s h = rw (get_d_nexts 32 out t pm x s h) (next_within s h)

    -- none is worse than a branch that leads to it
    pub nexts_from : (s e q : ℕ) → s < 64 → e < 2 → Above (branch x (get_or pm (2 * (s % 32) + e) nan) (out (s / 32) (2 * (s % 32) + e))) q → Above (get_or (nexts 32 out t pm x) s nan) q
    unfolding cand
    nexts_from s e q h k w =
        let o = next_over s e h k in
        rw (get_d_nexts 32 out t pm x s h) (omega arith)

    -- none is worse than the path by a given predecessor
    pub nexts_above : (s e q : ℕ) → s < 64 → e < 2 → q + d ≤ most → Above (get_or pm (2 * (s % 32) + e) nan) q → Above (get_or (nexts 32 out t pm x) s nan) (q + d)
    nexts_above s e q h k g w =
        let o = next_over s e h k in
        let c = (cand_adds s e h k).low q g w in
        rw (get_d_nexts 32 out t pm x s h) (omega arith)
