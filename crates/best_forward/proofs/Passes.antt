-- The passes over steps: the table after t steps has room, and the words kept so far.
use mathlib.Core.Path.{◌≡◌, refl, sym, ap, ◌∙◌}
use mathlib.Core.List.{List, [], ◌∷◌}
use Prim.Native.Nat.{ℕ, zero, suc, ◌+◌, ◌*◌, ◌≤◌, ◌<◌}
use native.Mathlib.Omega.{arith}
use native.Mathlib.Numerals.{add-one}
use lib.ListN.{length, get_or, take}
use lib.Ieee.{Float, nan}
use lib.Seq.{take_all}
use Rattle.trellis.specs.Lists.{upto, laid}
use Rattle.trellis.specs.ListLaws.{length_upto}
use Rattle.trellis.specs.LaidLaws.{take_laid}
use Rattle.trellis.specs.Step.{input, traced}
use Rattle.path_greatest.specs.declared.Start.{Start}
use Rattle.best_grid.specs.Best.{start_table, best_bits}
use Rattle.trellis.specs.Run.{quadruple}
use Rattle.trellis.specs.Isdb
use Rattle.best_grid.specs.Grid.{dearest, cost, cost_at}
use Rattle.best_grid.proofs.TableLaws.{nexts_alike, word_alike, cost_small, room_at, small_start}
use Rattle.best_grid.specs.Costs.{nexts, word, table_at, word_at, cheapest}
use Rattle.best_forward.specs.Room.{Roomy, RoomFor, Holds, listed}

-- ---- four costs
pub four_hold : (xs : List Float) (k a b c e : ℕ) → a ≡ cost (get_or xs (4 * k) nan) → b ≡ cost (get_or xs (4 * k + 1) nan) → c ≡ cost (get_or xs (4 * k + 2) nan) → e ≡ cost (get_or xs (4 * k + 3) nan)
    → Holds (a ∷ b ∷ c ∷ e ∷ []) (cost_at (quadruple xs) k)
four_hold xs k a b c e is-a is_b is_c is-e = record { small = small; is = is }
  where
    small : (l : ℕ) → get_or (a ∷ b ∷ c ∷ e ∷ []) l 0 ≤ dearest
    small zero = rw is-a (cost_small (get_or xs (4 * k) nan))
    small (suc zero) = rw is_b (cost_small (get_or xs (4 * k + 1) nan))
    small (suc (suc zero)) = rw is_c (cost_small (get_or xs (4 * k + 2) nan))
    small (suc (suc (suc zero))) = rw is-e (cost_small (get_or xs (4 * k + 3) nan))
    small (suc (suc (suc (suc l)))) = omega arith

    is : (l : ℕ) → l < 4 → get_or (a ∷ b ∷ c ∷ e ∷ []) l 0 ≡ cost_at (quadruple xs) k l
    is zero h = is-a
    is (suc zero) h = is_b
    is (suc (suc zero)) h = is_c
    is (suc (suc (suc zero))) h = is-e
    is (suc (suc (suc (suc l)))) h = absurd (omega arith)

-- ---- the table after t steps
pub table_more : (d : List ℕ) (c : ℕ → ℕ → ℕ) (t : ℕ) (x new m : List ℕ) → x ≡ table_at d c t → Holds m (c t) → new ≡ nexts x (listed m) → new ≡ table_at d c (t + 1)
unfolding table_at
table_more d c t x new m e h f = f ∙ nexts_alike x (listed m) (c t) h.is ∙ rw (e, add-one t) refl

pub word_is : (d : List ℕ) (c : ℕ → ℕ → ℕ) (t : ℕ) (x : List ℕ) (w : ℕ) (m : List ℕ) → x ≡ table_at d c t → Holds m (c t) → w ≡ word x (listed m) → w ≡ word_at d c t
word_is d c t x w m e h f = f ∙ word_alike x (listed m) (c t) h.is ∙ ap (λ (y : List ℕ). word y (c t)) e

-- ---- room
pub roomy : (n : ℕ) (d : List ℕ) (xs : List Float) → RoomFor n d → (t : ℕ) → t < n → (x : List ℕ) → x ≡ table_at d (cost_at (quadruple xs)) t → Roomy x
roomy n d xs h t l x e k =
    let i = room_at 0xffff_ffff_ffff_ffff n d (cost_at (quadruple xs)) h (λ t l u. cost_small (get_or (quadruple xs t) l nan)) t (omega arith) k in
    rw e (omega arith)

-- ---- the start has room for a frame
pub start_room : (start : Start) (n : ℕ) (d : List ℕ) → n ≤ Isdb.longest_frame → d ≡ start_table start → RoomFor n d
start_room start n d h e k = let s = small_start start k in rw e (omega arith)

-- ---- what is traced
pub traced_best : (start : Start) (q : ℕ → List Float) (n e : ℕ) (first d ds ds₀ : List ℕ) → first ≡ start_table start → d ≡ table_at first (cost_at q) n → ds ≡ laid (upto (word_at first (cost_at q)) n) ds₀
    → e ≡ cheapest d 63 → take n (Isdb.traced (take n ds) e) ≡ best_bits start q n
unfolding traced best_bits
traced_best start q n e first d ds ds₀ is-first is-d is-ds is-e =
    let ws = upto (word_at first (cost_at q)) n in
    let l : length ws ≡ n = length_upto (word_at first (cost_at q)) n in
    let t : take n ds ≡ ws = ap (take n) is-ds ∙ ap (λ (j : ℕ). take j (laid ws ds₀)) (sym l) ∙ take_laid ws ds₀ in
    let u = length_upto (input 32 ws n e) n in
    ap (λ (x : List ℕ). take n (Isdb.traced x e)) t
    ∙ ap (λ (j : ℕ). take n (upto (input 32 ws j e) j)) l
    ∙ take_all n (upto (input 32 ws n e) n) (omega arith)
    ∙ rw (is-e, is-d, is-first) refl
