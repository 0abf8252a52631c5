-- Four metrics, and two soft values, as exact branches.
use Rattle.std.specs.Prelude.{◌≡◌, Bool, true, false, cond, List, ℕ, ◌+◌, ◌/◌, ◌%◌, ◌≤◌, ◌<◌, eqb, get_or, Float}
use Rattle.std.proofs.Common.{arith}
use Rattle.std.specs.Float.{nan, binary32}
use Rattle.std.specs.Float.Ieee.{neg, add}
use Rattle.ieee.proofs.Whole.{on_neg}
use Rattle.trellis.specs.Step.{pair, four, branch, term}
use Rattle.path_greatest.specs.Paths.{bound}
use Rattle.path_greatest.specs.Viterbi.{Z, plus}
use Rattle.path_greatest.proofs.Exact.{Whole, Is, is_add}
use Rattle.path_greatest.proofs.Tracks.{Small, Adds}

-- ---- four metrics, whole and within the bound
pub record Metrics (mf : List Float) (mz : ℕ → Z) : Type 0 where
  pub whole : (c : ℕ) → c < 4 → Whole (get_or mf c nan) (mz c).0 (mz c).1
  pub high_most : (c : ℕ) → c < 4 → (mz c).0 ≤ bound
  pub deep_most : (c : ℕ) → c < 4 → (mz c).1 ≤ bound

pub four_adds : (mf : List Float) (mz : ℕ → Z) → Metrics mf mz → Adds (four mf) mz
unfolding branch
four_adds mf mz g = record {
  high = g.high_most;
  deep = g.deep_most;
  exact = λ c l x z off h w.
      let a = g.high_most c l in
      let b = g.deep_most c l in
      is_add x (get_or mf c nan) z off (mz c) h (g.whole c l) (omega arith, omega arith);
}

-- ---- two soft values, whole and within 8
-- x, or -x where the bit is 1
abbrev pub turned_z : Bool → Z → Z
turned_z b x = cond b (x.1, x.0) x

-- what the label c = 2 X + Y adds
abbrev pub duo_z : Z → Z → ℕ → Z
duo_z x y c = plus (turned_z (eqb (c / 2) 1) x) (turned_z (eqb (c % 2) 1) y)

pub record Softs (lx ly : Float) (mz : ℕ → Z) : Type 0 where
  pub x : Z
  pub y : Z
  pub whole_x : Whole lx x.0 x.1
  pub whole_y : Whole ly y.0 y.1
  pub x_8 : (x.0 ≤ 8) × (x.1 ≤ 8)
  pub y_8 : (y.0 ≤ 8) × (y.1 ≤ 8)
  pub high_most : (c : ℕ) → c < 4 → (mz c).0 ≤ bound
  pub deep_most : (c : ℕ) → c < 4 → (mz c).1 ≤ bound
  -- as whole numbers the same
  pub is : (c : ℕ) → c < 4 → (mz c).0 + (duo_z x y c).1 ≡ (mz c).1 + (duo_z x y c).0

term_whole : (b : ℕ) (f : Float) (x : Z) → Whole f x.0 x.1 → Whole (term b f) (turned_z (eqb b 1) x).0 (turned_z (eqb b 1) x).1
term_whole b f x h = go (eqb b 1)
  where
    go : (w : Bool) → Whole (cond w (neg f) f) (turned_z w x).0 (turned_z w x).1
    go true = on_neg h
    go false = h

turned_8 : (w : Bool) (x : Z) → (x.0 ≤ 8) × (x.1 ≤ 8) → ((turned_z w x).0 ≤ 8) × ((turned_z w x).1 ≤ 8)
turned_8 true x h = (h.1, h.0)
turned_8 false x h = h

-- another pair of the same value
same_is : (x : Float) (z z' off : Z) → Is x z off → z'.0 + z.1 ≡ z'.1 + z.0 → Is x z' off
same_is x z z' off h e = let s = h.same in record { p = h.p; n = h.n; on = h.on; same = omega arith }

branch_of_two_sums : (f a b : Float) (z off x y : Z) → Is f z off → Small z off → Whole a x.0 x.1 → Whole b y.0 y.1 → (x.0 ≤ 8) × (x.1 ≤ 8) → (y.0 ≤ 8) × (y.1 ≤ 8) → Is (add binary32 (add binary32 f a) b) (plus (plus z x) y) off
branch_of_two_sums f a b z off x y h w p q u v =
    is_add (add binary32 f a) b (plus z x) off y (is_add f a z off x h p (omega arith, omega arith)) q (omega arith, omega arith)

pub pair_adds : (lx ly : Float) (mz : ℕ → Z) → Softs lx ly mz → Adds (pair lx ly) mz
unfolding branch
pair_adds lx ly mz g = record {
  high = g.high_most;
  deep = g.deep_most;
  exact = λ c l f z off h w.
      let x = turned_z (eqb (c / 2) 1) g.x in
      let y = turned_z (eqb (c % 2) 1) g.y in
      let e = g.is c l in
      same_is (add binary32 (add binary32 f (term (c / 2) lx)) (term (c % 2) ly)) (plus (plus z x) y) (plus z (mz c)) off
      (branch_of_two_sums f (term (c / 2) lx) (term (c % 2) ly) z off x y h w
      (term_whole (c / 2) lx g.x g.whole_x) (term_whole (c % 2) ly g.y g.whole_y) (turned_8 (eqb (c / 2) 1) g.x g.x_8) (turned_8 (eqb (c % 2) 1) g.y g.y_8))
      (omega arith);
}
