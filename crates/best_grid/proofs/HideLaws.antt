-- The grid hides little: no path's exact sum of metrics is above that of the best reading by more than two units of 2 ^ -20 a step.
use Rattle.std.specs.Prelude.{◌≡◌, List, ℤ, ◌+ℤ◌, Float}
use Rattle.std.proofs.Math.Path.{refl}
use Prim.Native.Nat.{ℕ, zero, suc, ◌+◌, ◌*◌, ◌/◌, ◌≤◌, ◌<◌}
use Rattle.std.proofs.Common.{add-mul, mul-le-mul_right, pow_pos}
use native.Mathlib.Omega.{arith}
use Rattle.std.proofs.Math.ListN.{get_or}
use Rattle.std.specs.Float.Ieee.{nan, binary32}
use Rattle.ieee.specs.Value.{hi, lo}
use Rattle.ieee.specs.Whole.{hi_z, lo_z}
use Rattle.ieee.proofs.Whole.{parts}
use Rattle.trellis.specs.Code.{label_at, state_at}
use Rattle.trellis.proofs.RunLaws.{label_under}
use Rattle.trellis.specs.Code.{isdb}
use Rattle.trellis.specs.Isdb
use Rattle.path_greatest.specs.Paths.{Path, sumℤ, Reading}
use Rattle.path_greatest.specs.Viterbi.{Z, plus, Le, sum}
use Rattle.path_greatest.proofs.Integers.{Val, le_parts}
use Rattle.best_grid.specs.Grid.{unit, most, above, below, grid, grid_at}
use Rattle.best_grid.proofs.GridLaws.{grid_parts, capped, cut}

-- the metric of the label l at step t in units of 2 ^ -149, exactly; and its parts on the grid
abbrev pub exact_at : (ℕ → List Float) → ℕ → ℕ → Z
exact_at q t l = (hi binary32 (get_or (q t) l nan), lo binary32 (get_or (q t) l nan))

abbrev cut_at : (ℕ → List Float) → ℕ → ℕ → Z
cut_at q t l = (above (get_or (q t) l nan), below (get_or (q t) l nan))

-- no metric of n steps is beyond 2 ^ 23
abbrev pub Held : (ℕ → List Float) → ℕ → Type 0
Held q n = (t l : ℕ) → t < n → l < 4 → (hi binary32 (get_or (q t) l nan) / unit ≤ most) × (lo binary32 (get_or (q t) l nan) / unit ≤ most)

-- one step more
grow : (g e a x k u : ℕ) → (g * u ≤ e) × (e ≤ g * u + k * u) → (a * u ≤ x) × (x ≤ a * u + u) → ((g + a) * u ≤ e + x) × (e + x ≤ (g + a) * u + suc k * u)
grow g e a x k u p q =
    let d = add-mul g a u in
    let f : suc k * u ≡ k * u + u = add_mul_one k u in
    (omega arith, omega arith)
  where
    add_mul_one : (k u : ℕ) → suc k * u ≡ k * u + u
    add_mul_one k u = omega arith

module _ (q : ℕ → List Float) (n : ℕ) (held : Held q n) where
  abbrev exact : ℕ → List ℕ → ℕ → Z
  exact s us k = sum 32 Isdb.labels (exact_at q) s us k

  abbrev cuts : ℕ → List ℕ → ℕ → Z
  cuts s us k = sum 32 Isdb.labels (cut_at q) s us k

  above_cut : (t l : ℕ) → t < n → l < 4 → (above (get_or (q t) l nan) * unit ≤ hi binary32 (get_or (q t) l nan)) × (hi binary32 (get_or (q t) l nan) ≤ above (get_or (q t) l nan) * unit + unit)
  unfolding above
  above_cut t l h k = rw (capped (hi binary32 (get_or (q t) l nan) / unit) (held t l h k).0) (cut (hi binary32 (get_or (q t) l nan)) unit (pow_pos 129))

  below_cut : (t l : ℕ) → t < n → l < 4 → (below (get_or (q t) l nan) * unit ≤ lo binary32 (get_or (q t) l nan)) × (lo binary32 (get_or (q t) l nan) ≤ below (get_or (q t) l nan) * unit + unit)
  unfolding below
  below_cut t l h k = rw (capped (lo binary32 (get_or (q t) l nan) / unit) (held t l h k).1) (cut (lo binary32 (get_or (q t) l nan)) unit (pow_pos 129))

  record Near (s : ℕ) (us : List ℕ) (k : ℕ) : Type 0 where
    high : ((cuts s us k).0 * unit ≤ (exact s us k).0) × ((exact s us k).0 ≤ (cuts s us k).0 * unit + k * unit)
    deep : ((cuts s us k).1 * unit ≤ (exact s us k).1) × ((exact s us k).1 ≤ (cuts s us k).1 * unit + k * unit)

  nothing : (u : ℕ) → (0 * u ≤ 0) × (0 ≤ 0 * u + 0 * u)
  nothing u = (omega arith, omega arith)

  near : (s : ℕ) (us : List ℕ) (k : ℕ) → k ≤ n → Near s us k
  unfolding sum
  near s us zero h = record { high = nothing unit; deep = nothing unit }
  near s us (suc k) h =
      let l = label_at 32 Isdb.labels s us k in
      let hl = label_under isdb (get_or us k 0) (state_at 32 s us k) in
      let i = near s us k (less h) in
      record {
        high = grow (cuts s us k).0 (exact s us k).0 (above (get_or (q k) l nan)) (hi binary32 (get_or (q k) l nan)) k unit i.high (above_cut k l h hl);
        deep = grow (cuts s us k).1 (exact s us k).1 (below (get_or (q k) l nan)) (lo binary32 (get_or (q k) l nan)) k unit i.deep (below_cut k l h hl);
      }
    where
      less : {k : ℕ} → suc k ≤ n → k ≤ n
      less h = omega arith

  -- the grid's sum and the cuts
  cut_val : (s : ℕ) (us : List ℕ) (k : ℕ) → Val (sumℤ 32 Isdb.labels (grid_at q) s us k) (cuts s us k)
  unfolding sumℤ sum
  cut_val s us zero = refl
  cut_val s us (suc k) =
      let x = get_or (q k) (label_at 32 Isdb.labels s us k) nan in
      add_val (sumℤ 32 Isdb.labels (grid_at q) s us k) (grid x) (cuts s us k) (above x) (below x) (cut_val s us k) (grid_parts x)
    where
      add_val : (a b : ℤ) (p : Z) (x y : ℕ) → Val a p → hi_z b + y ≡ lo_z b + x → Val (a +ℤ b) (plus p (x, y))
      add_val a b p x y h k = let r = parts a b in omega arith

  together : (u n g0 g1 h0 h1 e0 e1 f0 f1 : ℕ) → h0 + g1 ≤ g0 + h1 → (e0 ≤ h0 * u + n * u) → (h1 * u ≤ e1) → (g0 * u ≤ f0) → (f1 ≤ g1 * u + n * u) → e0 + f1 ≤ f0 + 2 * (n * u) + e1
  together u n g0 g1 h0 h1 e0 e1 f0 f1 le a b c d =
      let m = mul-le-mul_right u le in
      let x = add-mul h0 g1 u in
      let y = add-mul g0 h1 u in
      omega arith

  -- the theorem: of every path, against the reading's
  pub hides_little : (from : ℕ → Type 0) (us : List ℕ) (rd : Reading 32 Isdb.labels Isdb.rule from (grid_at q) n us) (r : ℕ) (vs : List ℕ) → Path 32 n r vs → from r
      → Le (exact r vs n) (plus (exact rd.start us n) (2 * (n * unit), 0))
  hides_little from us rd r vs p f =
      let s = rd.start in
      let m = rd.best.most r vs p f tt in
      let l = le_parts (sumℤ 32 Isdb.labels (grid_at q) r vs n) (sumℤ 32 Isdb.labels (grid_at q) s us n) m in
      let a = cut_val r vs n in
      let b = cut_val s us n in
      let g : (cuts r vs n).0 + (cuts s us n).1 ≤ (cuts s us n).0 + (cuts r vs n).1 = swap (hi_z (sumℤ 32 Isdb.labels (grid_at q) r vs n)) (lo_z (sumℤ 32 Isdb.labels (grid_at q) r vs n)) (hi_z (sumℤ 32 Isdb.labels (grid_at q) s us n)) (lo_z (sumℤ 32 Isdb.labels (grid_at q) s us n)) (cuts r vs n).0 (cuts r vs n).1 (cuts s us n).0 (cuts s us n).1 l a b in
      let x = near r vs n (same n) in
      let y = near s us n (same n) in
      close (exact r vs n).0 (exact r vs n).1 (exact s us n).0 (exact s us n).1 (n * unit) (together unit n (cuts s us n).0 (cuts s us n).1 (cuts r vs n).0 (cuts r vs n).1 (exact r vs n).0 (exact r vs n).1 (exact s us n).0 (exact s us n).1 g x.high.1 x.deep.0 y.high.0 y.deep.1)
    where
      same : (n : ℕ) → n ≤ n
      same n = omega arith

      swap : (ha la hb lb c0 c1 d0 d1 : ℕ) → ha + lb ≤ hb + la → ha + c1 ≡ la + c0 → hb + d1 ≡ lb + d0 → c0 + d1 ≤ d0 + c1
      swap ha la hb lb c0 c1 d0 d1 h p q = omega arith

      close : (e0 e1 f0 f1 x : ℕ) → e0 + f1 ≤ f0 + 2 * x + e1 → e0 + (f1 + 0) ≤ f0 + 2 * x + e1
      close e0 e1 f0 f1 x h = omega arith
