-- Laws of the tables of costs: they hang on the costs of the four labels alone, their numbers grow by `dearest` a step at most, and the cheapest state is.
use Rattle.std.specs.Prelude.{◌≡◌, refl, ◌⊎◌, Bool, true, false, cond, List, ℕ, zero, suc, ◌+◌, ◌-◌, ◌*◌, ◌/◌, ◌%◌, ◌≤◌, ◌<◌, eqb, leb, get_or, Float}
use Rattle.std.proofs.Common.{ap, ◌∙◌, inl, inr, ⊎_elim, arith, eq-or-lt_of_le, leb-true, leb-false}
use Rattle.std.proofs.Math.ListN.{get_or-eq_default}
use Rattle.trellis.specs.Lists.{upto, packed}
use Rattle.trellis.specs.ListLaws.{length_upto, get_d_upto}
use Rattle.trellis.specs.LaidLaws.{upto_cong}
use Rattle.trellis.specs.WrittenLaws.{lt_or_ge}
use Rattle.trellis.proofs.RunLaws.{label_under}
use Rattle.trellis.specs.Code.{isdb}
use Rattle.trellis.specs.Isdb
use Rattle.path_greatest.specs.declared.Start.{Start}
use Rattle.path_greatest.specs.declared.Start.TheVariants.{Given, Unknown}
use Rattle.best_grid.specs.Grid.{dearest, cost}
use Rattle.best_grid.proofs.GridLaws.{cost_bounds}
use Rattle.best_grid.specs.Costs.{through, next, nexts, odd, word, table_at, cheapest, ruled, begun}
use Rattle.best_grid.proofs.Readings.{anywhere_zero}
use Rattle.best_grid.specs.Best.{start_table}

-- ---- costs that agree on the labels
through_alike : (d : List ℕ) (c c' : ℕ → ℕ) → ((l : ℕ) → l < 4 → c l ≡ c' l) → (k b : ℕ) → through d c k b ≡ through d c' k b
unfolding through
through_alike d c c' h k b = let from = 2 * (k % 32) + b in ap (λ (x : ℕ). get_or d from 0 + x) (h (Isdb.labels (k / 32) from) (label_under isdb (k / 32) from))

packed_alike : (f g : ℕ → Bool) → ((k : ℕ) → f k ≡ g k) → (n : ℕ) → packed f n ≡ packed g n
unfolding packed
packed_alike f g h zero = refl
packed_alike f g h (suc n) = rw (packed_alike f g h n, h n) refl

pub nexts_alike : (d : List ℕ) (c c' : ℕ → ℕ) → ((l : ℕ) → l < 4 → c l ≡ c' l) → nexts d c ≡ nexts d c'
unfolding nexts next
nexts_alike d c c' h = upto_cong (next d c) (next d c') 64 (λ k l. rw (through_alike d c c' h k 0, through_alike d c c' h k 1) refl)

pub word_alike : (d : List ℕ) (c c' : ℕ → ℕ) → ((l : ℕ) → l < 4 → c l ≡ c' l) → word d c ≡ word d c'
unfolding word
word_alike d c c' h = packed_alike (odd d c) (odd d c') (λ k. rw (through_alike d c c' h k 0, through_alike d c c' h k 1) refl) 64

pub table_alike : (d : List ℕ) (c c' : ℕ → ℕ → ℕ) (n : ℕ) → ((t l : ℕ) → t < n → l < 4 → c t l ≡ c' t l) → (t : ℕ) → t ≤ n → table_at d c t ≡ table_at d c' t
unfolding table_at
table_alike d c c' n h zero l = refl
table_alike d c c' n h (suc t) l = nexts_alike (table_at d c t) (c t) (c' t) (λ i u. h t i l u) ∙ ap (λ (x : List ℕ). nexts x (c' t)) (table_alike d c c' n h t (omega arith))

-- ---- no number is too large
pub cost_small : (x : Float) → cost x ≤ dearest
cost_small x = (cost_bounds x).1

next_bound : (most : ℕ) (d : List ℕ) (c : ℕ → ℕ) (r : ℕ) → ((k : ℕ) → get_or d k 0 + (dearest + r) ≤ most) → ((l : ℕ) → l < 4 → c l ≤ dearest) → (k : ℕ) → next d c k + r ≤ most
unfolding next through
next_bound most d c r h s k =
    let from = 2 * (k % 32) + 0 in
    let a = h from in
    let b = s (Isdb.labels (k / 32) from) (label_under isdb (k / 32) from) in
    omega arith

-- a table with room for n steps has room for those left after t of them
pub room_at : (most n : ℕ) (d : List ℕ) (c : ℕ → ℕ → ℕ) → ((k : ℕ) → get_or d k 0 + n * dearest ≤ most) → ((t l : ℕ) → l < 4 → c t l ≤ dearest) → (t : ℕ) → t ≤ n → (k : ℕ) → get_or (table_at d c t) k 0 + (n - t) * dearest ≤ most
unfolding table_at nexts
room_at most n d c h s zero l k = let a = h k in omega arith
room_at most n d c h s (suc t) l k =
    ⊎_elim
    (λ u. rw (get_d_upto (next (table_at d c t) (c t)) 0 64 k u) (next_bound most (table_at d c t) (c t) ((n - suc t) * dearest) (λ j. let i = room_at most n d c h s t (omega arith) j in omega arith) (s t) k))
    (λ past.
    let z = get_or-eq_default (upto (next (table_at d c t) (c t)) 64) 0 {n = k} (rw (length_upto (next (table_at d c t) (c t)) 64) past) in
    let a = h 0 in
    rw z (omega arith))
    (lt_or_ge k 64)

pub small_start : (start : Start) (k : ℕ) → get_or (start_table start) k 0 ≤ ruled
unfolding begun
small_start (Given s) k =
    ⊎_elim
    (λ h. rw (get_d_upto (λ j. cond (eqb j (s % 64)) 0 ruled) 0 64 k h) (either (eqb k (s % 64))))
    (λ past. rw (get_or-eq_default (upto (λ j. cond (eqb j (s % 64)) 0 ruled) 64) 0 {n = k} (rw (length_upto (λ j. cond (eqb j (s % 64)) 0 ruled) 64) past)) (omega arith))
    (lt_or_ge k 64)
  where
    either : (w : Bool) → cond w 0 ruled ≤ ruled
    either true = omega arith
    either false = omega arith
small_start Unknown k = rw (anywhere_zero k) (omega arith)

-- ---- the cheapest state is
pub cheapest_least : (d : List ℕ) (n k : ℕ) → k ≤ n → get_or d (cheapest d n) 0 ≤ get_or d k 0
unfolding cheapest
cheapest_least d zero k h = let e : k ≡ 0 = omega arith in rw e (omega arith)
cheapest_least d (suc n) k h = go (leb (get_or d (suc n) 0) (get_or d (cheapest d n) 0)) refl (eq-or-lt_of_le h) (λ (l : k ≤ n). cheapest_least d n k l)
  where
    go : (w : Bool) → leb (get_or d (suc n) 0) (get_or d (cheapest d n) 0) ≡ w → (k ≡ suc n) ⊎ (k < suc n) → (k ≤ n → get_or d (cheapest d n) 0 ≤ get_or d k 0) → get_or d (cond w (suc n) (cheapest d n)) 0 ≤ get_or d k 0
    go true e (inl q) ih = rw q (omega arith)
    go true e (inr q) ih = let a = leb-true (get_or d (suc n) 0) (get_or d (cheapest d n) 0) e in let i = ih (omega arith) in omega arith
    go false e (inl q) ih = let a = leb-false (get_or d (suc n) 0) (get_or d (cheapest d n) 0) e in rw q (omega arith)
    go false e (inr q) ih = ih (omega arith)
