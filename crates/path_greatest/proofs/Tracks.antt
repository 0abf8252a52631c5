-- On whole metrics the f32 algorithm follows the whole-number one: its values are the same less a common number, and its decisions are the same.
use Rattle.std.specs.Prelude.{◌≡◌, refl, Bool, cond, List, [], ◌∷◌, map, T, get_or, length}
use Rattle.std.proofs.Common.{sym, ap, mod-lt, not-suc-le-zero}
use Rattle.std.proofs.Math.Path.{subst}
use Rattle.std.proofs.Math.Bool.{true, false}
use Prim.Native.Nat.{ℕ, zero, suc, ◌+◌, ◌-◌, ◌*◌, ◌/◌, ◌%◌, ◌≤◌, ◌<◌}
use Rattle.std.proofs.Math.Nat.{le_of_eq}
use native.Mathlib.Omega.{arith}
use Rattle.std.proofs.lemmas.List.{length-map}
use Rattle.std.specs.Float.Ieee.{Float, nan, binary32, sub, lt}
use Rattle.trellis.specs.ListLaws.{length_upto, get_d_upto}
use Rattle.trellis.specs.Step.{Step, Tie, branch, cand, wins, next, nexts, top, best, renormalised}
use Rattle.path_greatest.specs.Paths.{bound, longest}
use Rattle.path_greatest.specs.Viterbi.{Z, plus, cand_z, wins_z, next_z, value, decision, best_z}
use Rattle.path_greatest.proofs.Greatest.{best_under}
use Rattle.path_greatest.proofs.Exact.{Is, takes_is, is_sub, least, least_below}

-- ---- lists
pub get_d_map_in : {A : Type 0} (f : A → A) (d : A) (l : List A) (i : ℕ) → i < length l → get_or (map f l) i d ≡ f (get_or l i d)
get_d_map_in f d [] i h = absurd (not-suc-le-zero h)
get_d_map_in f d (x ∷ l) zero h = refl
get_d_map_in f d (x ∷ l) (suc i) h = get_d_map_in f d l i (omega arith)

pub first_of : {A : Type 0} (b : Bool) (x y : A) → T b → cond b x y ≡ x
first_of true x y h = refl
first_of false x y h = absurd h

-- ---- what is asked of a branch
-- no part of z, or of off, is above 4,000,000
pub record Small (z off : Z) : Type 0 where
  pub z_high : z.0 ≤ 4000000
  pub z_deep : z.1 ≤ 4000000
  pub off_high : off.0 ≤ 4000000
  pub off_deep : off.1 ≤ 4000000

-- The step x adds what mz says of each label, exactly, and it is within the bound.
pub record Adds (x : Step) (mz : ℕ → Z) : Type 0 where
  pub high : (l : ℕ) → l < 4 → (mz l).0 ≤ bound
  pub deep : (l : ℕ) → l < 4 → (mz l).1 ≤ bound
  pub exact : (l : ℕ) → l < 4 → (y : Float) (z off : Z) → Is y z off → Small z off → Is (branch x y l) (plus z (mz l)) off

-- ---- path values from step to step
module _ (half : ℕ) where
  -- less the greatest, j times
  unfoldable pub times : ℕ → List Float → List Float
  times zero pm = pm
  times (suc j) pm = renormalised half (times j pm)

  -- lists that agree on the states
  abbrev pub Alike : List Float → List Float → Type 0
  Alike a b = (s : ℕ) → s < 2 * half → get_or a s nan ≡ get_or b s nan

-- The path values `pms k` after k steps, k up to n: each step is trellis', and then the maximum is subtracted any number of times.
-- A list may be longer than there are states: what stands behind them is not read.
pub record Follows (half : ℕ) (out : ℕ → ℕ → ℕ) (t : Tie) (steps : ℕ → Step) (n : ℕ) (pms : ℕ → List Float) : Type 0 where
  pub long : (k : ℕ) → k ≤ n → 2 * half ≤ length (pms k)
  pub low : ℕ → ℕ
  pub moves : (k : ℕ) → k < n → Alike half (pms (suc k)) (times half (low k) (nexts half out t (pms k) (steps k)))

-- ---- one step
module _ (half : ℕ) where
  pub record Tracks (pm : List Float) (val : ℕ → Z) (off : Z) (k : ℕ) : Type 0 where
    pub count : 2 * half ≤ length pm
    pub each : (s : ℕ) → s < 2 * half → Is (get_or pm s nan) (val s) off
    pub high : (s : ℕ) → s < 2 * half → (val s).0 ≤ 1000000 + bound * k
    pub deep : (s : ℕ) → s < 2 * half → (val s).1 ≤ 1000000 + bound * k
    pub off_high : off.0 ≤ 1000000 + bound * k
    pub off_deep : off.1 ≤ 1000000 + bound * k

  from_under : (s b : ℕ) → 0 < half → b < 2 → 2 * (s % half) + b < 2 * half
  from_under s b h l = let r = mod-lt s h in omega arith

pub tracks_like : (half : ℕ) (pm new : List Float) (val : ℕ → Z) (off : Z) (k : ℕ) → Tracks half pm val off k → 2 * half ≤ length new → Alike half new pm → Tracks half new val off k
tracks_like half pm new val off k tr long same = record {
  count = long;
  each = λ s l. rw (same s l) (tr.each s l);
  high = tr.high;
  deep = tr.deep;
  off_high = tr.off_high;
  off_deep = tr.off_deep;
}

module _ (half : ℕ) (pos : 0 < half) (out : ℕ → ℕ → ℕ) (labels : (u s : ℕ) → out u s < 4) (t : Tie) where
  module _ (pm : List Float) (x : Step) (val mz : ℕ → Z) (off : Z) (k : ℕ) (tr : Tracks half pm val off k) (ad : Adds x mz) (few : k < longest) where
    cand_is : (s b : ℕ) → b < 2 → Is (cand half out pm x s b) (cand_z half out val mz s b) off
    unfolding cand cand_z
    cand_is s b l =
        let q = 2 * (s % half) + b in
        let c = out (s / half) q in
        let lq : q < 2 * half = from_under half s b pos l in
        let lc : c < 4 = labels (s / half) q in
        let h0 = tr.high q lq in
        let h1 = tr.deep q lq in
        let a = tr.off_high in
        let d = tr.off_deep in
        ad.exact c lc (get_or pm q nan) (val q) off (tr.each q lq) (record { z_high = omega arith; z_deep = omega arith; off_high = omega arith; off_deep = omega arith })

    cand_high : (s b : ℕ) → b < 2 → (cand_z half out val mz s b).0 ≤ 1000000 + bound * suc k
    unfolding cand_z
    cand_high s b l =
        let q = 2 * (s % half) + b in
        let h = tr.high q (from_under half s b pos l) in
        let m = ad.high (out (s / half) q) (labels (s / half) q) in
        omega arith

    cand_deep : (s b : ℕ) → b < 2 → (cand_z half out val mz s b).1 ≤ 1000000 + bound * suc k
    unfolding cand_z
    cand_deep s b l =
        let q = 2 * (s % half) + b in
        let h = tr.deep q (from_under half s b pos l) in
        let m = ad.deep (out (s / half) q) (labels (s / half) q) in
        omega arith

    pub wins_same : (s : ℕ) → wins half out t pm x s ≡ wins_z half out t val mz s
    unfolding wins wins_z
    wins_same s = takes_is t (cand half out pm x s 0) (cand half out pm x s 1) (cand_z half out val mz s 0) (cand_z half out val mz s 1) off (cand_is s 0 (omega arith)) (cand_is s 1 (omega arith))

    next_is : (s : ℕ) → Is (next half out t pm x s) (next_z half out t val mz s) off
    unfolding next next_z
    next_is s = rw (wins_same s) (go (wins_z half out t val mz s))
      where
        go : (w : Bool) → Is (cond w (cand half out pm x s 1) (cand half out pm x s 0)) (cond w (cand_z half out val mz s 1) (cand_z half out val mz s 0)) off
        go true = cand_is s 1 (omega arith)
        go false = cand_is s 0 (omega arith)

    next_high : (s : ℕ) → (next_z half out t val mz s).0 ≤ 1000000 + bound * suc k
    unfolding next_z
    next_high s = go (wins_z half out t val mz s)
      where
        go : (w : Bool) → (cond w (cand_z half out val mz s 1) (cand_z half out val mz s 0)).0 ≤ 1000000 + bound * suc k
        go true = cand_high s 1 (omega arith)
        go false = cand_high s 0 (omega arith)

    next_deep : (s : ℕ) → (next_z half out t val mz s).1 ≤ 1000000 + bound * suc k
    unfolding next_z
    next_deep s = go (wins_z half out t val mz s)
      where
        go : (w : Bool) → (cond w (cand_z half out val mz s 1) (cand_z half out val mz s 0)).1 ≤ 1000000 + bound * suc k
        go true = cand_deep s 1 (omega arith)
        go false = cand_deep s 0 (omega arith)

    pub step : Tracks half (nexts half out t pm x) (next_z half out t val mz) off (suc k)
    unfolding nexts
    step =
        let a = tr.off_high in
        let b = tr.off_deep in
        record {
          count = le_of_eq (sym (length_upto (next half out t pm x) (2 * half)));
          each = λ s l. rw (get_d_upto (next half out t pm x) nan (2 * half) s l) (next_is s);
          high = λ s l. next_high s;
          deep = λ s l. next_deep s;
          off_high = omega arith;
          off_deep = omega arith;
        }

  -- ---- what is taken off is one of the values
  module _ (pm : List Float) (val : ℕ → Z) (off : Z) (k : ℕ) (tr : Tracks half pm val off k) (few : k ≤ longest) where
    abbrev Held : Float → Type 0
    Held x = (j : ℕ) × (j < 2 * half) × (x ≡ get_or pm j nan)

    top_held : (i : ℕ) → i < 2 * half → Held (top pm (suc i))
    unfolding top
    top_held zero h =
        let a = tr.off_high in
        let b = tr.off_deep in
        let c = tr.high 0 h in
        let d = tr.deep 0 h in
        (0, h, first_of (lt least (get_or pm 0 nan)) (get_or pm 0 nan) least (least_below (get_or pm 0 nan) (val 0) off (tr.each 0 h) (omega arith, omega arith)))
    top_held (suc i) h = go (lt (top pm (suc i)) (get_or pm (suc i) nan)) (top_held i (omega arith))
      where
        go : (w : Bool) → Held (top pm (suc i)) → Held (cond w (get_or pm (suc i) nan) (top pm (suc i)))
        go true r = (suc i, h, refl)
        go false r = r

    top_all : Held (top pm (2 * half))
    top_all =
        let e : suc (2 * half - 1) ≡ 2 * half = omega arith in
        subst (λ (z : ℕ). Held (top pm z)) e (top_held (2 * half - 1) (omega arith))

    pub renormalised_step : (o : Z) × Tracks half (renormalised half pm) val o k
    unfolding renormalised
    renormalised_step =
        let r = top_all in
        let j = r.0 in
        let jh = tr.high j r.1 in
        let jd = tr.deep j r.1 in
        let x = top pm (2 * half) in
        let isx : Is x (val j) off = subst (λ (z : Float). Is z (val j) off) (sym r.2) (tr.each j r.1) in
        let f : Float → Float = λ y. sub binary32 y x in
        let c = tr.count in (
          val j,
          record {
            count = rw (length-map pm f) c;
            each = λ s l.
                let sh = tr.high s l in
                let sd = tr.deep s l in
                subst (λ (z : Float). Is z (val s) (val j)) (sym (get_d_map_in f nan pm s (omega arith))) (is_sub (get_or pm s nan) x (val s) off (val j) (tr.each s l) isx (omega arith, omega arith));
            high = tr.high;
            deep = tr.deep;
            off_high = jh;
            off_deep = jd;
          },
        )

  pub times_step : (pm : List Float) (val : ℕ → Z) (k : ℕ) → k ≤ longest → (j : ℕ) → (o : Z) × Tracks half pm val o k → (o : Z) × Tracks half (times half j pm) val o k
  unfolding times
  times_step pm val k few zero r = r
  times_step pm val k few (suc j) r =
      let q = times_step pm val k few j r in
      renormalised_step (times half j pm) val q.0 k q.1 few

  -- ---- all steps
  module _ (v : ℕ → Z) (m : ℕ → ℕ → Z) (steps : ℕ → Step) (n : ℕ) (pms : ℕ → List Float) (fo : Follows half out t steps n pms) (few : n ≤ longest)
      (start : Tracks half (pms 0) v (0, 0) 0) (ads : (k : ℕ) → k < n → Adds (steps k) (m k)) where
    pub tracks : (k : ℕ) → k ≤ n → (off : Z) × Tracks half (pms k) (value half out t v m k) off k
    unfolding value
    tracks zero h = ((0, 0), start)
    tracks (suc k) h =
        let r = tracks k (omega arith) in
        let h' : suc k ≤ longest = omega arith in
        let s = step (pms k) (steps k) (value half out t v m k) (m k) r.0 k r.1 (ads k h) (omega arith) in
        let q = times_step (nexts half out t (pms k) (steps k)) (next_z half out t (value half out t v m k) (m k)) (suc k) h' (fo.low k) (r.0, s) in
        (q.0, tracks_like half (times half (fo.low k) (nexts half out t (pms k) (steps k))) (pms (suc k)) (next_z half out t (value half out t v m k) (m k)) q.0 (suc k) q.1 (fo.long (suc k) h) (fo.moves k h))

    -- the decisions are the same
    pub decides : (k s : ℕ) → k < n → wins half out t (pms k) (steps k) s ≡ decision half out t v m k s
    decides k s h =
        let r = tracks k (omega arith) in
        wins_same (pms k) (steps k) (value half out t v m k) (m k) r.0 k r.1 (ads k h) (omega arith) s

-- the best end state is the same, also after the maximum is subtracted once more
pub best_same : (half : ℕ) (t : Tie) (pm : List Float) (val : ℕ → Z) (off : Z) (k : ℕ) → Tracks half pm val off k → (i : ℕ) → i < 2 * half → best t pm i ≡ best_z t val i
unfolding best best_z
best_same half t pm val off k tr zero h = refl
best_same half t pm val off k tr (suc i) h =
    let b = best_z t val i in
    let lb = best_under t val i in
    rw (best_same half t pm val off k tr i (omega arith))
    (ap (λ (w : Bool). cond w (suc i) b) (takes_is t (get_or pm b nan) (get_or pm (suc i) nan) (val b) (val (suc i)) off (tr.each b (omega arith)) (tr.each (suc i) h)))
