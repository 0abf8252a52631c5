-- The backward pass, slot by slot.
use mathlib.Core.Path.{◌≡◌, refl, sym, ap, ◌∙◌}
use mathlib.Core.Logic.{⊎_elim}
use mathlib.Core.List.{List}
use Prim.Native.Nat.{ℕ, zero, suc, ◌+◌, ◌-◌, ◌*◌, ◌≤◌, ◌<◌, min}
use native.Mathlib.Omega.{arith}
use lib.ListN.{length, get_or, take, drop, replicate, get_or-eq_default, length-drop}
use lib.Seq.{length-take-le}
use lib.Ieee.{Float}
use Rattle.trellis.specs.Run.{quadruple}
use Rattle.path_greatest.specs.declared.Start.{Start}
use Rattle.best_grid.specs.Grid.{cost_at}
use Rattle.best_grid.specs.Costs.{table_at}
use Rattle.best_grid.proofs.TableLaws.{small_start}
use Rattle.best_content.proofs.FoundLaws.{piece_at}
use Rattle.best_grid.specs.Best.{start_table}
use Rattle.best_forward.specs.Room.{RoomFor}
use Rattle.best_content.proofs.Ongoing.{room_on}
use Rattle.trellis.specs.Lists.{upto}
use Rattle.trellis.specs.ListLaws.{length_upto}
use Rattle.trellis.specs.WrittenLaws.{lt_or_ge}
use Rattle.trellis.specs.Isdb
use Rattle.best_grid.specs.Sides.{two, price_at}
use Rattle.best_grid.proofs.SideLaws.{price_small}
use Rattle.best_grid.specs.Backward.{low, onward, backs, back_at, back_run, other_run, least_of, fars}
use Rattle.best_grid.specs.RunLaws.{back_split}
use Rattle.best_grid.proofs.Sequences.{back_small}
use Rattle.best_grid.specs.Leading.{seq}
use Rattle.best_backward.specs.Prices.{Asked, BackRoom, Halved}
use Rattle.best_content.specs.Slots.{Marked, Saved, Lowered, lead_at, piece}

pub asked_part : (xs : List Float) (sides bits uncoded : List ℕ) (n a b : ℕ) → Asked xs sides bits uncoded 0 n → a ≤ b → b ≤ n → Asked xs sides bits uncoded a (b - a)
asked_part xs sides bits uncoded n a b q h k =
    let x = q.quadruples in
    let y = q.sided in
    let z = q.read in
    let w = q.beside in
    record { quadruples = omega arith; sided = omega arith; read = omega arith; beside = omega arith; bit = q.bit; second = q.second }

back_length : (m : ℕ → ℕ → ℕ) (t j : ℕ) → length (back_at m t j) ≡ 64
unfolding back_at backs
back_length m t zero = length_upto {A = ℕ} (λ s. 0) 64
back_length m t (suc j) = length_upto (λ s. min (onward (back_at m (suc t) j) (m t) 0 s) (onward (back_at m (suc t) j) (m t) 1 s)) 64

pub back_room : (xs : List Float) (sides : List ℕ) (t j r : ℕ) (b : List ℕ) → b ≡ back_at (low (two xs sides) (price_at xs sides)) t j → j + r ≤ Isdb.longest_frame → BackRoom r b
back_room xs sides t j r b e h k =
    rw e (⊎_elim
    (λ (l : k < 64).
    let s = back_small (two xs sides) (price_at xs sides) (λ i. 0) (λ i. 0) (λ i. (omega arith, omega arith)) (price_small xs sides) t j k l in
    omega arith)
    (λ (l : 64 ≤ k).
    let z = get_or-eq_default (back_at (low (two xs sides) (price_at xs sides)) t j) 0 {n = k} (rw (back_length (low (two xs sides) (price_at xs sides)) t j) l) in
    rw z (omega arith))
    (lt_or_ge k 64))

pub piece_length : (tables : List ℕ) (k : ℕ) → 64 * k + 64 ≤ length tables → length (take (64 * k + 64 - 64 * k) (drop (64 * k) tables)) ≡ 64
piece_length tables k h = length-take-le (64 * k + 64 - 64 * k) (drop (64 * k) tables) (rw (length-drop (64 * k) tables) (omega arith)) ∙ omega arith

pub piece_halved : (slots : ℕ) (tables : List ℕ) (k : ℕ) → k < slots → 64 * k + 64 ≤ length tables → Lowered slots tables → Halved (take (64 * k + 64 - 64 * k) (drop (64 * k) tables))
piece_halved slots tables k h l low s =
    ⊎_elim (λ (u : s < 64). rw (piece_at tables k s u) (low k s h u))
    (λ (u : 64 ≤ s). rw (get_or-eq_default (take (64 * k + 64 - 64 * k) (drop (64 * k) tables)) 0 {n = s} (rw (piece_length tables k l) u)) (omega arith))
    (lt_or_ge s 64)

module _ (xs : List Float) (sides bits uncoded marks tables : List ℕ) (own n : ℕ) where
  abbrev cheap : ℕ → ℕ → ℕ
  cheap = low (two xs sides) (price_at xs sides)

  pub back_slot : (a b : ℕ) (x new : List ℕ) → a ≤ b → b ≤ n → x ≡ back_at cheap b (n - b) → new ≡ back_run x cheap a (b - a) → new ≡ back_at cheap a (n - a)
  back_slot a b x new h k e f =
      let s : n - a ≡ (b - a) + (n - b) = omega arith in
      let t : a + (b - a) ≡ b = omega arith in
      f ∙ ap (λ (y : List ℕ). back_run y cheap a (b - a)) (e ∙ ap (λ (i : ℕ). back_at cheap i (n - b)) (sym t)) ∙ sym (back_split cheap a (b - a) (n - b)) ∙ ap (back_at cheap a) (sym s)

  pub lead_slot_is : (k : ℕ) (x : List ℕ) (m r : ℕ) → x ≡ back_at cheap (get_or marks (k + 1) 0) (n - get_or marks (k + 1) 0)
      → m ≡ least_of (piece (64 * k) (64 * k + 64) tables) (other_run (two xs sides) (price_at xs sides) (seq bits) (seq uncoded) fars x (get_or marks k 0) (get_or marks (k + 1) 0 - get_or marks k 0)) 64 → r ≡ m - own
      → r ≡ lead_at xs sides bits uncoded marks tables own n k
  lead_slot_is k x m r e f g = g ∙ ap (λ (i : ℕ). i - own) f ∙ ap (λ (y : List ℕ). least_of (piece (64 * k) (64 * k + 64) tables) (other_run (two xs sides) (price_at xs sides) (seq bits) (seq uncoded) fars y (get_or marks k 0) (get_or marks (k + 1) 0 - get_or marks k 0)) 64 - own) e

-- before the last slot's end nothing is left
pub nothing_left : (m : ℕ → ℕ → ℕ) (t n : ℕ) → t ≡ n → replicate 64 0 ≡ back_at m t (n - t)
unfolding back_at upto
nothing_left m t n e = let z : n - t ≡ 0 = omega arith in rw z refl

-- ---- the start has room for more than a frame
pub start_room : (start : Start) (n : ℕ) (d : List ℕ) → n ≤ 417734 → d ≡ start_table start → RoomFor n d
start_room start n d h e k = let s = small_start start k in rw e (omega arith)

-- so no kept number is large
pub lowered : (start : Start) (xs : List Float) (marks : List ℕ) (slots n : ℕ) (tables : List ℕ) → n ≤ Isdb.longest_frame → Marked marks slots n → Saved (start_table start) (cost_at (quadruple xs)) marks slots tables → Lowered slots tables
lowered start xs marks slots n tables few m sv k s h hs =
    let u = m.under k (omega arith) in
    let r = room_on 417734 (start_table start) xs (get_or marks k 0) 417734 (table_at (start_table start) (cost_at (quadruple xs)) (get_or marks k 0)) (start_room start 417734 (start_table start) (omega arith) refl) (omega arith) (omega arith) refl s in
    rw (sv k s h hs) (omega arith)
