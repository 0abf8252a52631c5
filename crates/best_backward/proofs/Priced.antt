-- Prices as the code works them out, and the run of steps back.
use mathlib.Core.Path.{◌≡◌, refl, sym, ap, ◌∙◌}
use mathlib.Core.Logic.{⊎_elim}
use mathlib.Core.Bool.{Bool, true, false, cond}
use mathlib.Core.List.{List, [], ◌∷◌}
use Prim.Native.Nat.{ℕ, zero, suc, ◌+◌, ◌-◌, ◌*◌, ◌/◌, ◌%◌, ◌^◌, ◌≤◌, ◌<◌, min}
use native.Mathlib.Omega.{arith}
use borrow.Author.Tests.{lt-leb, le-leb, eq-eqb, ne_eqb}
use lib.Dec.{eqb, leb}
use lib.ListN.{get_or, get_or-eq_default}
use lib.Ieee.{Float, nan}
use Rattle.trellis.specs.Lists.{upto, bit}
use Rattle.trellis.specs.ListLaws.{length_upto, get_d_upto}
use Rattle.trellis.specs.LaidLaws.{upto_cong}
use Rattle.trellis.specs.WrittenLaws.{lt_or_ge}
use Rattle.trellis.specs.Run.{quadruple}
use Rattle.trellis.proofs.RunLaws.{label_under}
use Rattle.trellis.specs.Code.{isdb, moved}
use Rattle.trellis.specs.Isdb
use Rattle.best_grid.specs.Grid.{level, dearest, cost}
use Rattle.best_grid.proofs.GridLaws.{cost_bounds, above_most, below_most}
use Rattle.best_grid.specs.Sides.{mirror, two, better, price_at}
use Rattle.best_grid.proofs.SideLaws.{mirror_small}
use Rattle.best_grid.specs.Backward.{far, low, turned, onward, backs, others, back_run, other_run}
use Rattle.best_grid.specs.RunLaws.{low_both}
use Rattle.best_grid.specs.Leading.{seq}
use Rattle.best_backward.specs.Prices.{Halved, BackRoom, price_of, turned_of, kept_at, turned_at, Four, Lower}
use Rattle.best_forward.specs.Room.{listed}

pub mirror_cost : (x : Float) → 2 * level - cost x ≡ mirror x
unfolding cost mirror
mirror_cost x = let a = above_most x in let b = below_most x in omega arith

-- ---- the price of an uncoded bit
pub price_coded : (x : Float) (side l z : ℕ) → side < 16 → cost x ≡ price_of x side l z
unfolding price_of
price_coded x side l z h = rw (lt-leb 16 side h) refl

pub price_better : (x : Float) (side l z : ℕ) → 16 ≤ side → z ≡ side / 2 ^ l % 2 → cost x ≡ price_of x side l z
unfolding price_of
price_better x side l z h e = rw (le-leb 16 side h, eq-eqb z (side / 2 ^ l % 2) e) refl

pub price_worse : (x : Float) (side l z : ℕ) → 16 ≤ side → (z ≡ side / 2 ^ l % 2 → ⊥) → mirror x ≡ price_of x side l z
unfolding price_of
price_worse x side l z h e = rw (le-leb 16 side h, ne_eqb z (side / 2 ^ l % 2) e) refl

pub turned_coded : (x : Float) (side l z : ℕ) → side < 16 → far ≡ turned_of x side l z
unfolding turned_of
turned_coded x side l z h = rw (lt-leb 16 side h) refl

pub turned_uncoded : (x : Float) (side l z : ℕ) → 16 ≤ side → price_of x side l (1 - z) ≡ turned_of x side l z
unfolding turned_of
turned_uncoded x side l z h = rw (le-leb 16 side h) refl

price_small : (x : Float) (side l z : ℕ) → price_of x side l z ≤ dearest
unfolding price_of
price_small x side l z = go (leb 16 side) (eqb z (side / 2 ^ l % 2))
  where
    go : (v w : Bool) → cond v (cond w (cost x) (mirror x)) (cost x) ≤ dearest
    go true true = (cost_bounds x).1
    go true false = mirror_small x
    go false w = (cost_bounds x).1

turned_small : (x : Float) (side l z : ℕ) → turned_of x side l z ≤ far
unfolding turned_of
turned_small x side l z = go (leb 16 side)
  where
    go : (v : Bool) → cond v (price_of x side l (1 - z)) far ≤ far
    go true = let p = price_small x side l (1 - z) in omega arith
    go false = omega arith

-- ---- four of them
pub four_of_lem : (p : ℕ → ℕ) (a b c e : ℕ) → ((l : ℕ) → p l ≤ far) → a ≡ p 0 → b ≡ p 1 → c ≡ p 2 → e ≡ p 3 → Four (a ∷ b ∷ c ∷ e ∷ []) p
four_of_lem p a b c e small is-a is_b is_c is-e = record { small = few; is = is }
  where
    few : (l : ℕ) → get_or (a ∷ b ∷ c ∷ e ∷ []) l 0 ≤ 0x7fff_ffff_ffff_ffff
    few zero = let q = small 0 in omega arith
    few (suc zero) = let q = small 1 in omega arith
    few (suc (suc zero)) = let q = small 2 in omega arith
    few (suc (suc (suc zero))) = let q = small 3 in omega arith
    few (suc (suc (suc (suc l)))) = omega arith

    is : (l : ℕ) → l < 4 → get_or (a ∷ b ∷ c ∷ e ∷ []) l 0 ≡ p l
    is zero h = is-a
    is (suc zero) h = is_b
    is (suc (suc zero)) h = is_c
    is (suc (suc (suc zero))) h = is-e
    is (suc (suc (suc (suc l)))) h = absurd (omega arith)

pub kept_four : (xs : List Float) (k side z a b c e : ℕ) → a ≡ price_of (get_or xs (4 * k) nan) side 0 z → b ≡ price_of (get_or xs (4 * k + 1) nan) side 1 z → c ≡ price_of (get_or xs (4 * k + 2) nan) side 2 z → e ≡ price_of (get_or xs (4 * k + 3) nan) side 3 z
    → Four (a ∷ b ∷ c ∷ e ∷ []) (kept_at xs k side z)
kept_four xs k side z a b c e is-a is_b is_c is-e = four_of_lem (kept_at xs k side z) a b c e (λ l. let q = price_small (get_or (quadruple xs k) l nan) side l z in omega arith) is-a is_b is_c is-e

pub turned_four : (xs : List Float) (k side z a b c e : ℕ) → a ≡ turned_of (get_or xs (4 * k) nan) side 0 z → b ≡ turned_of (get_or xs (4 * k + 1) nan) side 1 z → c ≡ turned_of (get_or xs (4 * k + 2) nan) side 2 z → e ≡ turned_of (get_or xs (4 * k + 3) nan) side 3 z
    → Four (a ∷ b ∷ c ∷ e ∷ []) (turned_at xs k side z)
turned_four xs k side z a b c e is-a is_b is_c is-e = four_of_lem (turned_at xs k side z) a b c e (λ l. turned_small (get_or (quadruple xs k) l nan) side l z) is-a is_b is_c is-e

pub lower_four : (x y : List ℕ) (a b c e : ℕ) → a ≡ min (get_or x 0 0) (get_or y 0 0) → b ≡ min (get_or x 1 0) (get_or y 1 0) → c ≡ min (get_or x 2 0) (get_or y 2 0) → e ≡ min (get_or x 3 0) (get_or y 3 0) → Lower x y (a ∷ b ∷ c ∷ e ∷ [])
lower_four x y a b c e is-a is_b is_c is-e = record { least = least; past = past }
  where
    least : (l : ℕ) → l < 4 → get_or (a ∷ b ∷ c ∷ e ∷ []) l 0 ≡ min (get_or x l 0) (get_or y l 0)
    least zero h = is-a
    least (suc zero) h = is_b
    least (suc (suc zero)) h = is_c
    least (suc (suc (suc zero))) h = is-e
    least (suc (suc (suc (suc l)))) h = absurd (omega arith)

    past : (l : ℕ) → 4 ≤ l → get_or (a ∷ b ∷ c ∷ e ∷ []) l 0 ≡ 0
    past zero h = absurd (omega arith)
    past (suc zero) h = absurd (omega arith)
    past (suc (suc zero)) h = absurd (omega arith)
    past (suc (suc (suc zero))) h = absurd (omega arith)
    past (suc (suc (suc (suc l)))) h = refl

-- ---- prices that agree on the labels
onward_alike : (b : List ℕ) (m m' : ℕ → ℕ) (u s : ℕ) → ((l : ℕ) → l < 4 → m l ≡ m' l) → onward b m u s ≡ onward b m' u s
onward_alike b m m' u s h = ap (λ (x : ℕ). x + get_or b (moved 32 u s) 0) (h (Isdb.labels u s) (label_under isdb u s))

backs_alike : (b : List ℕ) (m m' : ℕ → ℕ) → ((l : ℕ) → l < 4 → m l ≡ m' l) → backs b m ≡ backs b m'
unfolding backs
backs_alike b m m' h = upto_cong (λ s. min (onward b m 0 s) (onward b m 1 s)) (λ s. min (onward b m' 0 s) (onward b m' 1 s)) 64 (λ s l. rw (onward_alike b m m' 0 s h, onward_alike b m m' 1 s h) refl)

others_alike : (d b : List ℕ) (k k' t t' m m' : ℕ → ℕ) (u : ℕ) → ((l : ℕ) → l < 4 → k l ≡ k' l) → ((l : ℕ) → l < 4 → t l ≡ t' l) → ((l : ℕ) → l < 4 → m l ≡ m' l) → others d b k t m u ≡ others d b k' t' m' u
unfolding others
others_alike d b k k' t t' m m' u hk ht hm =
    upto_cong (λ s. min (onward d k u s) (min (onward b t u s) (onward b m (1 - u) s))) (λ s. min (onward d k' u s) (min (onward b t' u s) (onward b m' (1 - u) s))) 64
    (λ s l. rw (onward_alike d k k' u s hk, onward_alike b t t' u s ht, onward_alike b m m' (1 - u) s hm) refl)

-- ---- the run of steps back
module _ (xs : List Float) (sides bits uncoded : List ℕ) (b₀ d₀ : List ℕ) where
  abbrev lowest : ℕ → ℕ → ℕ
  lowest = low (two xs sides) (price_at xs sides)

  abbrev backed : ℕ → ℕ → List ℕ
  backed t r = back_run b₀ lowest t r

  abbrev rivals : ℕ → ℕ → List ℕ
  rivals t r = other_run (two xs sides) (price_at xs sides) (seq bits) (seq uncoded) d₀ b₀ t r

  low_small : (t l : ℕ) → lowest t l ≤ dearest
  unfolding low price_at
  low_small t l = go (two xs sides t) (eqb 0 (better xs sides t l)) (eqb 1 (better xs sides t l)) (get_or (quadruple xs t) l nan)
    where
      go : (v w y : Bool) (x : Float) → cond v (min (cond v (cond w (cost x) (mirror x)) (cost x)) (cond v (cond y (cost x) (mirror x)) (cost x))) (cond v (cond w (cost x) (mirror x)) (cost x)) ≤ dearest
      go true true y x = let q = (cost_bounds x).1 in omega arith
      go true false y x = let q = mirror_small x in omega arith
      go false w y x = (cost_bounds x).1

  kept_is : (k l : ℕ) → kept_at xs k (get_or sides k 0) (get_or uncoded k 0) l ≡ price_at xs sides k (seq uncoded k) l
  unfolding price_of price_at
  kept_is k l = refl

  turned_is : (k l : ℕ) → turned_at xs k (get_or sides k 0) (get_or uncoded k 0) l ≡ turned (two xs sides) (price_at xs sides) (seq uncoded k) k l
  unfolding turned_of turned price_of price_at
  turned_is k l = refl

  low_is : (k : ℕ) (kept other less : List ℕ) → get_or uncoded k 0 ≤ bit (leb 16 (get_or sides k 0)) → Four kept (kept_at xs k (get_or sides k 0) (get_or uncoded k 0)) → Four other (turned_at xs k (get_or sides k 0) (get_or uncoded k 0)) → Lower kept other less
      → (l : ℕ) → l < 4 → get_or less l 0 ≡ lowest k l
  low_is k kept other less h f g w l hl =
      let s = price_small (get_or (quadruple xs k) l nan) (get_or sides k 0) l (get_or uncoded k 0) in
      w.least l hl
      ∙ rw (f.is l hl, g.is l hl) (rw (kept_is k l, turned_is k l) (sym (low_both (two xs sides) (price_at xs sides) (seq bits) (seq uncoded) k (seq uncoded k) l h (rw (← (kept_is k l)) (omega arith)))))

  pub less_halved : (kept other less : List ℕ) → Halved kept → Lower kept other less → Halved less
  less_halved kept other less h w k =
      ⊎_elim (λ (l : k < 4). let e = w.least k l in let q = h k in omega arith) (λ (l : 4 ≤ k). let e = w.past k l in omega arith) (lt_or_ge k 4)

  -- one step more
  pub run_more : (at count left : ℕ) (x y : List ℕ) → 0 < left → left ≤ count → x ≡ backed (at + left) (count - left) → y ≡ rivals (at + left) (count - left)
      → (kept other less nb nd : List ℕ) (u : ℕ) → u ≡ seq bits (at + (left - 1)) → get_or uncoded (at + (left - 1)) 0 ≤ bit (leb 16 (get_or sides (at + (left - 1)) 0))
      → Four kept (kept_at xs (at + (left - 1)) (get_or sides (at + (left - 1)) 0) (get_or uncoded (at + (left - 1)) 0)) → Four other (turned_at xs (at + (left - 1)) (get_or sides (at + (left - 1)) 0) (get_or uncoded (at + (left - 1)) 0)) → Lower kept other less
      → nb ≡ backs x (listed less) → nd ≡ others y x (listed kept) (listed other) (listed less) u
      → (nb ≡ backed (at + (left - 1)) (count - (left - 1))) × (nd ≡ rivals (at + (left - 1)) (count - (left - 1)))
  unfolding back_run other_run
  run_more at count left x y pos few ex ey kept other less nb nd u eu hz f g w eb ed =
      let k = at + (left - 1) in
      let r = count - left in
      let e : count - (left - 1) ≡ suc r = omega arith in
      let t : at + left ≡ suc k = omega arith in
      let lw = low_is k kept other less hz f g w in
      let x' : x ≡ backed (suc k) r = rw t at ex in
      let y' : y ≡ rivals (suc k) r = rw t at ey in
      rw e (
        eb ∙ backs_alike x (listed less) (lowest k) lw ∙ ap (λ (b : List ℕ). backs b (lowest k)) x',
        ed
            ∙ others_alike y x (listed kept) (price_at xs sides k (seq uncoded k)) (listed other) (turned (two xs sides) (price_at xs sides) (seq uncoded k) k) (listed less) (lowest k) u (λ l h. f.is l h ∙ kept_is k l) (λ l h. g.is l h ∙ turned_is k l) lw
            ∙ rw (x', y', eu) refl,
      )

  pub run_none : (at count left : ℕ) → left ≡ count → (b₀ ≡ backed (at + left) (count - left)) × (d₀ ≡ rivals (at + left) (count - left))
  unfolding back_run other_run
  run_none at count left e = let z : count - left ≡ 0 = omega arith in rw z (refl, refl)

  -- ---- room
  module _ (n : ℕ) (room : BackRoom n b₀) where
    run_room : (r t k : ℕ) → r ≤ n → get_or (backed t r) k 0 + (n - r) * dearest ≤ 0x7fff_ffff_ffff_ffff
    unfolding back_run backs
    run_room zero t k h = let q = room k in omega arith
    run_room (suc r) t k h =
        ⊎_elim
        (λ (l : k < 64).
        let i = run_room r (suc t) (moved 32 0 k) (omega arith) in
        let a = low_small t (Isdb.labels 0 k) in
        rw (get_d_upto (λ s. min (onward (backed (suc t) r) (lowest t) 0 s) (onward (backed (suc t) r) (lowest t) 1 s)) 0 64 k l) (omega arith))
        (λ (l : 64 ≤ k).
        let z = get_or-eq_default (upto (λ s. min (onward (backed (suc t) r) (lowest t) 0 s) (onward (backed (suc t) r) (lowest t) 1 s)) 64) 0 {n = k} (rw (length_upto (λ s. min (onward (backed (suc t) r) (lowest t) 0 s) (onward (backed (suc t) r) (lowest t) 1 s)) 64) l) in
        let q = room 0 in
        rw z (omega arith))
        (lt_or_ge k 64)

    pub back_halved : (r t : ℕ) (x : List ℕ) → r ≤ n → x ≡ backed t r → Halved x
    back_halved r t x h e k = let q = run_room r t k h in rw e (omega arith)

    rivals_room : (r t k : ℕ) → suc r ≤ n → get_or (rivals t (suc r)) k 0 ≤ 0x7fff_ffff_ffff_ffff
    unfolding other_run others
    rivals_room r t k h =
        let f : ℕ → ℕ = λ s. min (onward (rivals (suc t) r) (price_at xs sides t (seq uncoded t)) (seq bits t) s) (min (onward (backed (suc t) r) (turned (two xs sides) (price_at xs sides) (seq uncoded t) t) (seq bits t) s) (onward (backed (suc t) r) (lowest t) (1 - seq bits t) s)) in
        ⊎_elim
        (λ (l : k < 64).
        let i = run_room r (suc t) (moved 32 (1 - seq bits t) k) (omega arith) in
        let a = low_small t (Isdb.labels (1 - seq bits t) k) in
        rw (get_d_upto f 0 64 k l) (omega arith))
        (λ (l : 64 ≤ k). rw (get_or-eq_default (upto f 64) 0 {n = k} (rw (length_upto f 64) l)) (omega arith))
        (lt_or_ge k 64)

    pub rivals_halved : (r t : ℕ) (y : List ℕ) → Halved d₀ → r ≤ n → y ≡ rivals t r → Halved y
    unfolding other_run
    rivals_halved zero t y hd h e k = rw e (hd k)
    rivals_halved (suc r) t y hd h e k = rw e (rivals_room r t k h)
