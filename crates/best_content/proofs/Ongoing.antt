-- A pass that goes on: the steps of a part of the metrics, and the words and tables behind those that are there.
use mathlib.Core.Path.{◌≡◌, refl, sym, ap, ◌∙◌, subst}
use mathlib.Core.Logic.{⊎_elim}
use mathlib.Core.List.{List, ◌++◌}
use Prim.Native.Nat.{ℕ, zero, suc, ◌+◌, ◌-◌, ◌*◌, ◌/◌, ◌≤◌, ◌<◌}
use native.Mathlib.Omega.{arith}
use lib.ListN.{length, get_or, take, drop, get_or-append, length-append, length-drop}
use lib.Seq.{get_or-take, get_or-drop, get_or-append-add, length-take-le}
use lib.Ieee.{Float, nan}
use Rattle.trellis.specs.Lists.{upto, laid}
use Rattle.trellis.specs.ListLaws.{length_upto, get_d_upto}
use Rattle.trellis.specs.LaidLaws.{laid_part, length_laid}
use Rattle.trellis.specs.WrittenLaws.{lt_or_ge}
use Rattle.trellis.specs.Run.{quadruple}
use Rattle.best_grid.specs.Grid.{cost, cost_at}
use Rattle.best_grid.proofs.TableLaws.{nexts_alike, word_alike, cost_small, room_at}
use Rattle.best_grid.specs.Costs.{nexts, word, table_at, word_at}
use Rattle.best_forward.specs.Room.{RoomFor}
use Rattle.best_grid.specs.Leading.{seq}
use Rattle.best_content.specs.Slots.{Saved}

-- ---- the steps from a on
module _ (d : List ℕ) (c c' : ℕ → ℕ → ℕ) (a r : ℕ) (alike : (k l : ℕ) → k < r → l < 4 → c' k l ≡ c (a + k) l) where
  table_on : (k : ℕ) → k ≤ r → table_at (table_at d c a) c' k ≡ table_at d c (a + k)
  unfolding table_at
  table_on zero h = let e : a + 0 ≡ a = omega arith in rw e refl
  table_on (suc k) h =
      let e : a + suc k ≡ suc (a + k) = omega arith in
      rw e (nexts_alike (table_at (table_at d c a) c' k) (c' k) (c (a + k)) (λ l u. alike k l h u) ∙ ap (λ (x : List ℕ). nexts x (c (a + k))) (table_on k (omega arith)))

  word_on : (k : ℕ) → k < r → word_at (table_at d c a) c' k ≡ word_at d c (a + k)
  word_on k h = word_alike (table_at (table_at d c a) c' k) (c' k) (c (a + k)) (λ l u. alike k l h u) ∙ ap (λ (x : List ℕ). word x (c (a + k))) (table_on k (omega arith))

-- ---- a part of the metrics
part : (xs : List Float) (a r k i : ℕ) → 4 * (a + r) ≤ length xs → k < r → i < 4 → get_or (take (4 * (a + r) - 4 * a) (drop (4 * a) xs)) (4 * k + i) nan ≡ get_or xs (4 * (a + k) + i) nan
part xs a r k i h hk hi =
    get_or-take (4 * (a + r) - 4 * a) (drop (4 * a) xs) (4 * k + i) nan (omega arith)
    ∙ get_or-drop (4 * a) xs (4 * k + i) nan
    ∙ (let e : 4 * a + (4 * k + i) ≡ 4 * (a + k) + i = omega arith in ap (λ (j : ℕ). get_or xs j nan) e)

part_cost : (xs : List Float) (a r k l : ℕ) → 4 * (a + r) ≤ length xs → k < r → l < 4 → cost_at (quadruple (take (4 * (a + r) - 4 * a) (drop (4 * a) xs))) k l ≡ cost_at (quadruple xs) (a + k) l
part_cost xs a r k zero h hk hl =
    let e : 4 * k + 0 ≡ 4 * k = omega arith in
    let f : 4 * (a + k) + 0 ≡ 4 * (a + k) = omega arith in
    ap cost (rw (e, f) at (part xs a r k 0 h hk hl))
part_cost xs a r k (suc zero) h hk hl = ap cost (part xs a r k 1 h hk hl)
part_cost xs a r k (suc (suc zero)) h hk hl = ap cost (part xs a r k 2 h hk hl)
part_cost xs a r k (suc (suc (suc zero))) h hk hl = ap cost (part xs a r k 3 h hk hl)
part_cost xs a r k (suc (suc (suc (suc l)))) h hk hl = absurd (omega arith)

pub part_length : (xs : List Float) (a b : ℕ) → a ≤ b → 4 * b ≤ length xs → length (take (4 * b - 4 * a) (drop (4 * a) xs)) / 4 ≡ b - a
part_length xs a b h k =
    let l : length (take (4 * b - 4 * a) (drop (4 * a) xs)) ≡ 4 * b - 4 * a = length-take-le (4 * b - 4 * a) (drop (4 * a) xs) (rw (length-drop (4 * a) xs) (omega arith)) in
    omega arith

-- ---- a slot more
module _ (d₀ : List ℕ) (xs : List Float) (a b : ℕ) (h : a ≤ b) (k : 4 * b ≤ length xs) where
  abbrev whole : ℕ → ℕ → ℕ
  whole = cost_at (quadruple xs)

  abbrev slot : ℕ → ℕ → ℕ
  slot = cost_at (quadruple (take (4 * b - 4 * a) (drop (4 * a) xs)))

  alike : (i l : ℕ) → i < b - a → l < 4 → slot i l ≡ whole (a + i) l
  alike i l hi hl =
      let e : a + (b - a) ≡ b = omega arith in
      subst (λ (n : ℕ). cost_at (quadruple (take (4 * n - 4 * a) (drop (4 * a) xs))) i l ≡ whole (a + i) l) e (part_cost xs a (b - a) i l (omega arith) hi hl)

  pub slot_table : (x new : List ℕ) → x ≡ table_at d₀ whole a → new ≡ table_at x slot (b - a) → new ≡ table_at d₀ whole b
  slot_table x new e f =
      let s : a + (b - a) ≡ b = omega arith in
      f ∙ ap (λ (y : List ℕ). table_at y slot (b - a)) e ∙ table_on d₀ whole slot a (b - a) alike (b - a) (omega arith) ∙ ap (table_at d₀ whole) s

  pub slot_words_lem : (x ds ds₀ new : List ℕ) → x ≡ table_at d₀ whole a → ds ≡ laid (upto (word_at d₀ whole) a) ds₀ → new ≡ take a ds ++ laid (upto (word_at x slot) (b - a)) (drop a ds) → new ≡ laid (upto (word_at d₀ whole) b) ds₀
  slot_words_lem x ds ds₀ new e f g =
      let s : a + (b - a) ≡ b = omega arith in
      g
      ∙ ap (λ (y : List ℕ). take a y ++ laid (upto (word_at x slot) (b - a)) (drop a y)) f
      ∙ laid_part (word_at d₀ whole) (word_at x slot) a (b - a) ds₀ (λ i l. ap (λ (y : List ℕ). word_at y slot i) e ∙ word_on d₀ whole slot a (b - a) alike i l)
      ∙ ap (λ (n : ℕ). laid (upto (word_at d₀ whole) n) ds₀) s

-- ---- room
pub room_on : (n : ℕ) (d : List ℕ) (xs : List Float) (a b : ℕ) (x : List ℕ) → RoomFor n d → a ≤ b → b ≤ n → x ≡ table_at d (cost_at (quadruple xs)) a → RoomFor (b - a) x
room_on n d xs a b x h le few e k =
    let i = room_at 0xffff_ffff_ffff_ffff n d (cost_at (quadruple xs)) h (λ t l u. cost_small (get_or (quadruple xs t) l nan)) a (omega arith) k in
    rw e (omega arith)

-- ---- the kept tables
pub saved_more : (d₀ : List ℕ) (c : ℕ → ℕ → ℕ) (marks : List ℕ) (k : ℕ) (tables new x : List ℕ) → 64 * k + 64 ≤ length tables → x ≡ table_at d₀ c (get_or marks k 0) → new ≡ take (64 * k) tables ++ laid (upto (seq x) 64) (drop (64 * k) tables)
    → Saved d₀ c marks k tables → Saved d₀ c marks (k + 1) new × (length new ≡ length tables)
saved_more d₀ c marks k tables new x h e f sv =
    (λ i s hi hs. ap (λ (y : List ℕ). get_or y (64 * i + s) 0) f ∙ at i s hi hs, ap length f ∙ long)
  where
    front : length (take (64 * k) tables) ≡ 64 * k
    front = length-take-le (64 * k) tables (omega arith)

    long : length (take (64 * k) tables ++ laid (upto (seq x) 64) (drop (64 * k) tables)) ≡ length tables
    long =
        let l = length-append (take (64 * k) tables) (laid (upto (seq x) 64) (drop (64 * k) tables)) in
        let m = length_laid (upto (seq x) 64) (drop (64 * k) tables) (rw (length_upto (seq x) 64, length-drop (64 * k) tables) (omega arith)) in
        let d = length-drop (64 * k) tables in
        let q = front in
        omega arith

    at : (i s : ℕ) → i < k + 1 → s < 64 → get_or (take (64 * k) tables ++ laid (upto (seq x) 64) (drop (64 * k) tables)) (64 * i + s) 0 ≡ get_or (table_at d₀ c (get_or marks i 0)) s 0
    at i s hi hs =
        ⊎_elim
        (λ (l : i < k).
        get_or-append (take (64 * k) tables) (laid (upto (seq x) 64) (drop (64 * k) tables)) 0 (64 * i + s) (let q = front in omega arith)
        ∙ get_or-take (64 * k) tables (64 * i + s) 0 (omega arith)
        ∙ sv i s l hs)
        (λ (l : k ≤ i).
        let e' : i ≡ k = omega arith in
        let j : 64 * i + s ≡ length (take (64 * k) tables) + s = let q = front in omega arith in
        ap (λ (n : ℕ). get_or (take (64 * k) tables ++ laid (upto (seq x) 64) (drop (64 * k) tables)) n 0) j
        ∙ get_or-append-add (take (64 * k) tables) (laid (upto (seq x) 64) (drop (64 * k) tables)) s 0
        ∙ get_or-append (upto (seq x) 64) (drop (length (upto (seq x) 64)) (drop (64 * k) tables)) 0 s (rw (length_upto (seq x) 64) hs)
        ∙ get_d_upto (seq x) 0 64 s hs
        ∙ ap (λ (y : List ℕ). get_or y s 0) (e ∙ ap (λ (n : ℕ). table_at d₀ c (get_or marks n 0)) (sym e')))
        (lt_or_ge i k)
