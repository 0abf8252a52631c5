-- The table of costs is Viterbi's algorithm of crate path_greatest: each cost is so many levels less the value there, and the decisions are the same.
use Rattle.std.specs.Prelude.{◌≡◌, Bool, true, false, cond, List, leb, get_or, length}
use Rattle.std.proofs.Math.Path.{refl, ap}
use Rattle.std.proofs.Common.{sym, ◌∙◌, leb-true, leb-false, le-leb}
use Prim.Native.Nat.{ℕ, zero, suc, ◌+◌, ◌*◌, ◌/◌, ◌%◌, ◌^◌, ◌≤◌, ◌<◌, min}
use native.Mathlib.Omega.{arith}
use Rattle.trellis.specs.Lists.{bit}
use Rattle.trellis.specs.ListLaws.{length_upto, get_d_upto, packed_bit}
use Rattle.trellis.proofs.RunLaws.{label_under}
use Rattle.trellis.specs.Code.{isdb}
use Rattle.trellis.specs.Step.{upper}
use Rattle.trellis.specs.Isdb
use Rattle.path_greatest.specs.Viterbi.{Z, cand_z, wins_z, next_z, value, decision, best_z}
use Rattle.path_greatest.proofs.Greatest.{best_under}
use Rattle.best_grid.specs.Grid.{level}
use Rattle.best_grid.specs.Costs.{through, next, nexts, odd, word, table_at, word_at, cheapest}

-- two tests of numbers that stand alike
leb_alike : (a b c d : ℕ) → (a ≤ b → c ≤ d) → (c ≤ d → a ≤ b) → leb a b ≡ leb c d
leb_alike a b c d f g = go (leb a b) refl
  where
    go : (w : Bool) → leb a b ≡ w → leb a b ≡ leb c d
    go true e = e ∙ sym (le-leb c d (f (leb-true a b e)))
    go false e = e ∙ sym (other (leb c d) refl)
      where
        other : (v : Bool) → leb c d ≡ v → leb c d ≡ false
        other true k = let x = g (leb-true c d k) in let y = leb-false a b e in absurd (omega arith)
        other false k = k

pub length_table : (d : List ℕ) (c : ℕ → ℕ → ℕ) (n : ℕ) → length d ≡ 64 → length (table_at d c n) ≡ 64
unfolding table_at nexts
length_table d c zero h = h
length_table d c (suc n) h = length_upto (next (table_at d c n) (c n)) 64

module _ (v : ℕ → Z) (m : ℕ → ℕ → Z) (d : List ℕ) (c : ℕ → ℕ → ℕ) (n : ℕ)
    (starts : (k : ℕ) → k < 64 → get_or d k 0 + (v k).0 ≡ (v k).1)
    (adds : (t l : ℕ) → t < n → l < 4 → c t l + (m t l).0 ≡ level + (m t l).1) where
  abbrev values : ℕ → ℕ → Z
  values = value 32 Isdb.labels upper v m

  -- a candidate and its cost
  way : (t k b : ℕ) → t < n → b < 2 → ((j : ℕ) → j < 64 → get_or (table_at d c t) j 0 + (values t j).0 ≡ t * level + (values t j).1)
      → through (table_at d c t) (c t) k b + (cand_z 32 Isdb.labels (values t) (m t) k b).0 ≡ suc t * level + (cand_z 32 Isdb.labels (values t) (m t) k b).1
  unfolding through cand_z
  way t k b h hb ih =
      let from = 2 * (k % 32) + b in
      let l = Isdb.labels (k / 32) from in
      let a = adds t l h (label_under isdb (k / 32) from) in
      let i = ih from (omega arith) in
      omega arith

  chosen : (t k : ℕ) (x0 x1 : ℕ) (y0 y1 : Z) → x0 + y0.0 ≡ suc t * level + y0.1 → x1 + y1.0 ≡ suc t * level + y1.1
      → (leb x1 x0 ≡ leb (y0.0 + y1.1) (y1.0 + y0.1)) × (min x0 x1 + (cond (leb (y0.0 + y1.1) (y1.0 + y0.1)) y1 y0).0 ≡ suc t * level + (cond (leb (y0.0 + y1.1) (y1.0 + y0.1)) y1 y0).1)
  chosen t k x0 x1 y0 y1 e f = (leb_alike x1 x0 (y0.0 + y1.1) (y1.0 + y0.1) (λ h. omega arith) (λ h. omega arith), go (leb (y0.0 + y1.1) (y1.0 + y0.1)) refl)
    where
      go : (w : Bool) → leb (y0.0 + y1.1) (y1.0 + y0.1) ≡ w → min x0 x1 + (cond w y1 y0).0 ≡ suc t * level + (cond w y1 y0).1
      go true g = let a = leb-true (y0.0 + y1.1) (y1.0 + y0.1) g in omega arith
      go false g = let a = leb-false (y0.0 + y1.1) (y1.0 + y0.1) g in omega arith

  pub tracks : (t : ℕ) → t ≤ n → (k : ℕ) → k < 64 → get_or (table_at d c t) k 0 + (values t k).0 ≡ t * level + (values t k).1
  unfolding table_at value nexts next next_z wins_z
  tracks zero h k l = let s = starts k l in omega arith
  tracks (suc t) h k l =
      let ih = tracks t (omega arith) in
      let e = way t k 0 h (omega arith) ih in
      let f = way t k 1 h (omega arith) ih in
      rw (get_d_upto (next (table_at d c t) (c t)) 0 64 k l)
      (chosen t k (through (table_at d c t) (c t) k 0) (through (table_at d c t) (c t) k 1) (cand_z 32 Isdb.labels (values t) (m t) k 0) (cand_z 32 Isdb.labels (values t) (m t) k 1) e f).1

  -- the decisions are the same
  pub decides : (t k : ℕ) → t < n → odd (table_at d c t) (c t) k ≡ decision 32 Isdb.labels upper v m t k
  unfolding wins_z
  decides t k h =
      let ih = tracks t (omega arith) in
      let e = way t k 0 h (omega arith) ih in
      let f = way t k 1 h (omega arith) ih in
      (chosen t k (through (table_at d c t) (c t) k 0) (through (table_at d c t) (c t) k 1) (cand_z 32 Isdb.labels (values t) (m t) k 0) (cand_z 32 Isdb.labels (values t) (m t) k 1) e f).0

  pub said : (t k : ℕ) → t < n → k < 64 → word_at d c t / 2 ^ k % 2 ≡ bit (decision 32 Isdb.labels upper v m t k)
  unfolding word
  said t k h l = packed_bit (odd (table_at d c t) (c t)) 64 k l ∙ ap bit (decides t k h)

  -- and so is the best state
  pub ends : (j : ℕ) → j < 64 → cheapest (table_at d c n) j ≡ best_z upper (values n) j
  unfolding cheapest best_z
  ends zero h = refl
  ends (suc j) h =
      let i = ends j (omega arith) in
      let b = best_under upper (values n) j in
      let x = tracks n (omega arith) (suc j) h in
      let y = tracks n (omega arith) (best_z upper (values n) j) (omega arith) in
      rw (i, leb_alike (get_or (table_at d c n) (suc j) 0) (get_or (table_at d c n) (best_z upper (values n) j) 0) ((values n (best_z upper (values n) j)).0 + (values n (suc j)).1) ((values n (suc j)).0 + (values n (best_z upper (values n) j)).1) (λ h. omega arith) (λ h. omega arith)) refl
