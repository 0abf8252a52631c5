-- Laws of metrics with sides: prices are levels less worths; where no metric with an uncoded bit is negative, the cheaper uncoded bit is the better one.
use Rattle.std.specs.Prelude.{◌≡◌, Bool, List, eqb, leb, ℤ, neg_ℤ, ◌+ℤ◌, ◌≤ℤ◌}
use Rattle.std.proofs.Math.Path.{refl}
use Rattle.std.proofs.Common.{ap, mod-lt, eq-eqb}
use Rattle.std.proofs.Math.Bool.{true, false, cond}
use Prim.Native.Nat.{ℕ, zero, suc, ◌+◌, ◌/◌, ◌%◌, ◌^◌, ◌≤◌, ◌<◌, min}
use native.Mathlib.Omega.{arith}
use Rattle.std.proofs.Math.ListN.{get_or}
use Rattle.std.specs.Float.Ieee.{Float, nan}
use Rattle.ieee.specs.Whole.{hi_z, lo_z}
use Rattle.ieee.proofs.Whole.{parts}
use Rattle.trellis.specs.Code.{isdb, state_at}
use Rattle.trellis.specs.Isdb
use Rattle.trellis.specs.Lists.{bit}
use Rattle.trellis.specs.Run.{quadruple}
use Rattle.trellis.proofs.RunLaws.{label_under}
use Rattle.path_greatest.specs.Paths.{sumℤ}
use Rattle.path_greatest.specs.Viterbi.{Le}
use Rattle.path_greatest.proofs.Integers.{parts_of_lem, le_val, neg_parts}
use Rattle.best_grid.specs.Grid.{level, dearest, below, grid, cost, grid_at, cost_at}
use Rattle.best_grid.proofs.GridLaws.{cost_is, cost_bounds, above_most, below_most, grid_parts}
use Rattle.best_grid.specs.Backward.{low}
use Rattle.best_grid.specs.Contents.{worth}
use Rattle.best_grid.specs.Sides.{mirror, two, better, worth_at, price_at, chosen_at, chosen}
pub use Rattle.best_grid.specs.Sides.{Upright}

mirror_is : (x : Float) → mirror x + hi_z (neg_ℤ (grid x)) ≡ level + lo_z (neg_ℤ (grid x))
unfolding mirror
mirror_is x =
    let p = neg_parts (grid x) in
    let g = grid_parts x in
    let b = below_most x in
    rw (p.0, p.1) (omega arith)

pub mirror_small : (x : Float) → mirror x ≤ dearest
unfolding mirror
mirror_small x = let a = above_most x in omega arith

dear : (x : Float) → below x ≡ 0 → cost x ≤ mirror x
unfolding cost mirror
dear x e = omega arith

module _ (xs : List Float) (sides : List ℕ) where
  pub priced : (t z l : ℕ) → price_at xs sides t z l + hi_z (worth_at xs sides t z l) ≡ level + lo_z (worth_at xs sides t z l)
  unfolding price_at worth_at
  priced t z l = go (two xs sides t) (eqb z (better xs sides t l)) (get_or (quadruple xs t) l nan)
    where
      go : (v w : Bool) (x : Float) → cond v (cond w (cost x) (mirror x)) (cost x) + hi_z (cond v (cond w (grid x) (neg_ℤ (grid x))) (grid x)) ≡ level + lo_z (cond v (cond w (grid x) (neg_ℤ (grid x))) (grid x))
      go true true x = cost_is x
      go true false x = mirror_is x
      go false w x = cost_is x

  pub price_small : (t z l : ℕ) → price_at xs sides t z l ≤ dearest
  unfolding price_at
  price_small t z l = go (two xs sides t) (eqb z (better xs sides t l)) (get_or (quadruple xs t) l nan)
    where
      go : (v w : Bool) (x : Float) → cond v (cond w (cost x) (mirror x)) (cost x) ≤ dearest
      go true true x = (cost_bounds x).1
      go true false x = mirror_small x
      go false w x = (cost_bounds x).1

  pub low_is : (n : ℕ) → Upright xs sides n → (t l : ℕ) → t < n → l < 4 → low (two xs sides) (price_at xs sides) t l ≡ cost_at (quadruple xs) t l
  unfolding low price_at
  low_is n up t l h k = go (two xs sides t) refl (better xs sides t l) (mod-lt (get_or sides t 0 / 2 ^ l) (omega arith))
    where
      x : Float
      x = get_or (quadruple xs t) l nan

      cheaper : below x ≡ 0 → cost x ≤ mirror x
      cheaper e = dear x e

      go : (v : Bool) → two xs sides t ≡ v → (b : ℕ) → b < 2
          → cond v (min (cond v (cond (eqb 0 b) (cost x) (mirror x)) (cost x)) (cond v (cond (eqb 1 b) (cost x) (mirror x)) (cost x))) (cond v (cond (eqb 0 b) (cost x) (mirror x)) (cost x)) ≡ cost x
      go false e b hb = refl
      go true e zero hb = let q = cheaper (up t l h k e) in omega arith
      go true e (suc zero) hb = let q = cheaper (up t l h k e) in omega arith
      go true e (suc (suc b)) hb = absurd (omega arith)

  -- ---- the sum of a content and that of its path: the same with the better uncoded bits, else no more
  abbrev total : ℕ → List ℕ → ℕ → ℤ
  total s us k = sumℤ Isdb.half Isdb.labels (grid_at (quadruple xs)) s us k

  worth_chosen : (t l : ℕ) → worth_at xs sides t (chosen_at (get_or sides t 0) l) l ≡ grid_at (quadruple xs) t l
  unfolding worth_at
  worth_chosen t l = go (leb 16 (get_or sides t 0)) (get_or (quadruple xs t) l nan)
    where
      go : (w : Bool) (x : Float) → cond w (cond (eqb (cond w (get_or sides t 0 / 2 ^ l % 2) 0) (get_or sides t 0 / 2 ^ l % 2)) (grid x) (neg_ℤ (grid x))) (grid x) ≡ grid x
      go true x = rw (eq-eqb (get_or sides t 0 / 2 ^ l % 2) (get_or sides t 0 / 2 ^ l % 2) refl) refl
      go false x = refl

  pub worth_total : (n s : ℕ) (us zs : List ℕ) → ((k : ℕ) → k < n → get_or zs k 0 ≡ chosen sides us s k) → (k : ℕ) → k ≤ n → worth (worth_at xs sides) s us zs k ≡ total s us k
  unfolding worth sumℤ
  worth_total n s us zs is zero h = refl
  worth_total n s us zs is (suc k) h = rw (worth_total n s us zs is k (omega arith), is k h) (ap (λ (x : ℤ). total s us k +ℤ x) (worth_chosen k (Isdb.label_at s us k)))

  worth_least : (n : ℕ) → Upright xs sides n → (t z l : ℕ) → t < n → l < 4 → Le (parts_of_lem (worth_at xs sides t z l)) (parts_of_lem (grid_at (quadruple xs) t l))
  unfolding worth_at
  worth_least n up t z l h k = go (two xs sides t) refl (eqb z (better xs sides t l))
    where
      x : Float
      x = get_or (quadruple xs t) l nan

      turned : below x ≡ 0 → Le (parts_of_lem (neg_ℤ (grid x))) (parts_of_lem (grid x))
      turned e = let p = neg_parts (grid x) in let g = grid_parts x in omega arith

      go : (v : Bool) → two xs sides t ≡ v → (w : Bool) → Le (parts_of_lem (cond v (cond w (grid x) (neg_ℤ (grid x))) (grid x))) (parts_of_lem (grid x))
      go true e true = omega arith
      go true e false = turned (up t l h k e)
      go false e w = omega arith

  total_over : (n : ℕ) → Upright xs sides n → (s : ℕ) (us zs : List ℕ) (k : ℕ) → k ≤ n → Le (parts_of_lem (worth (worth_at xs sides) s us zs k)) (parts_of_lem (total s us k))
  unfolding worth sumℤ
  total_over n up s us zs zero h = omega arith
  total_over n up s us zs (suc k) h =
      let l = Isdb.label_at s us k in
      let x = worth_at xs sides k (get_or zs k 0) l in
      let y = grid_at (quadruple xs) k l in
      let i = total_over n up s us zs k (omega arith) in
      let j = worth_least n up k (get_or zs k 0) l h (label_under isdb (get_or us k 0) (state_at 32 s us k)) in
      let p = parts (worth (worth_at xs sides) s us zs k) x in
      let q = parts (total s us k) y in
      omega arith

  pub worth_under : (n : ℕ) → Upright xs sides n → (s : ℕ) (us zs : List ℕ) → worth (worth_at xs sides) s us zs n ≤ℤ total s us n
  worth_under n up s us zs =
      let x = worth (worth_at xs sides) s us zs n in
      let y = total s us n in
      le_val x y (parts_of_lem x) (parts_of_lem y) (omega arith) (omega arith) (total_over n up s us zs n (omega arith))

-- ---- the better uncoded bit costs the metric
pub chosen_small : (side l : ℕ) → chosen_at side l ≤ bit (leb 16 side)
chosen_small side l = go (leb 16 side) (mod-lt (side / 2 ^ l) (omega arith))
  where
    go : (w : Bool) → side / 2 ^ l % 2 < 2 → cond w (side / 2 ^ l % 2) 0 ≤ bit w
    go true h = omega arith
    go false h = omega arith

pub price_chosen : (xs : List Float) (sides : List ℕ) (t l : ℕ) → price_at xs sides t (chosen_at (get_or sides t 0) l) l ≡ cost_at (quadruple xs) t l
unfolding price_at
price_chosen xs sides t l = go (leb 16 (get_or sides t 0)) (get_or (quadruple xs t) l nan)
  where
    go : (w : Bool) (x : Float) → cond w (cond (eqb (cond w (get_or sides t 0 / 2 ^ l % 2) 0) (get_or sides t 0 / 2 ^ l % 2)) (cost x) (mirror x)) (cost x) ≡ cost x
    go true x = rw (eq-eqb (get_or sides t 0 / 2 ^ l % 2) (get_or sides t 0 / 2 ^ l % 2) refl) refl
    go false x = refl
