-- The whole reading, from what its parts leave.
use mathlib.Core.Path.{◌≡◌, sym, ap, ◌∙◌, subst}
use mathlib.Core.Logic.{⊎_elim}
use mathlib.Core.List.{List, [], ◌++◌, append-nil}
use Prim.Native.Nat.{ℕ, ◌*◌, ◌≤◌, ◌<◌}
use native.Mathlib.Omega.{arith}
use lib.ListN.{length, get_or, take, drop, get_or-eq_default, drop_of_length-le}
use lib.Seq.{take_all}
use lib.Ieee.{Float}
use Rattle.trellis.specs.Lists.{upto, laid, bit}
use Rattle.trellis.specs.ListLaws.{length_upto, get_d_upto}
use Rattle.trellis.specs.LaidLaws.{take_laid}
use Rattle.trellis.specs.WrittenLaws.{lt_or_ge}
use Rattle.trellis.specs.Step.{back, input, traced}
use Rattle.trellis.specs.Run.{quadruple}
use Rattle.trellis.specs.Isdb
use Rattle.path_greatest.specs.declared.Start.{Start}
use Rattle.best_grid.specs.Grid.{cost_at}
use Rattle.best_grid.specs.Costs.{table_at, word_at, cheapest}
use Rattle.best_grid.specs.Best.{start_table, best_words, best_end, best_bits, best_start}
use Rattle.best_grid.proofs.BestLaws.{best_found}
use Rattle.best_grid.proofs.SideLaws.{Upright, chosen_small}
use Rattle.best_backward.specs.Prices.{Asked}
use Rattle.best_grid.specs.Sides.{chosen}
use Rattle.best_content.specs.Slots.{Marked, Saved, lead_at}
use Rattle.best_content.specs.Found.{Found}
use Rattle.best_content.proofs.FoundLaws.{found, own_is}

-- written over the whole of a list
over : (x w : List ℕ) → length w ≡ length x → laid x w ≡ x
over x w h = let e : drop (length x) w ≡ [] = drop_of_length-le w {i = length x} (omega arith) in ap (λ (y : List ℕ). x ++ y) e ∙ append-nil x

module _ (start : Start) (q : ℕ → List Float) (n : ℕ) where
  pub whole_words : (first ds ds₀ : List ℕ) → first ≡ start_table start → ds ≡ laid (upto (word_at first (cost_at q)) n) ds₀ → take n ds ≡ best_words start q n
  whole_words first ds ds₀ e f =
      let ws = upto (word_at first (cost_at q)) n in
      let l : length ws ≡ n = length_upto (word_at first (cost_at q)) n in
      ap (take n) f ∙ ap (λ (j : ℕ). take j (laid ws ds₀)) (sym l) ∙ take_laid ws ds₀ ∙ ap (λ (d : List ℕ). upto (word_at d (cost_at q)) n) e

  pub whole_end : (first d : List ℕ) (e : ℕ) → first ≡ start_table start → d ≡ table_at first (cost_at q) n → e ≡ cheapest d 63 → e ≡ best_end start q n
  whole_end first d e a b c = c ∙ ap (λ (x : List ℕ). cheapest x 63) (b ∙ ap (λ (x : List ℕ). table_at x (cost_at q) n) a)

  bits_length : length (best_bits start q n) ≡ n
  unfolding best_bits
  bits_length = length_upto (input 32 (best_words start q n) n (best_end start q n)) n

  pub whole_bits : (ds bits bits₀ : List ℕ) (e : ℕ) → take n ds ≡ best_words start q n → e ≡ best_end start q n → length bits₀ ≡ n → bits ≡ laid (take n (Isdb.traced (take n ds) e)) bits₀ → bits ≡ best_bits start q n
  unfolding traced best_bits
  whole_bits ds bits bits₀ e w is-e len f =
      let ws = best_words start q n in
      let l : length ws ≡ n = length_upto (word_at (start_table start) (cost_at q)) n in
      let u = length_upto (input 32 ws n (best_end start q n)) n in
      f
      ∙ ap (λ (x : List ℕ). laid (take n (Isdb.traced x e)) bits₀) w
      ∙ ap (λ (j : ℕ). laid (take n (upto (input 32 ws j e) j)) bits₀) l
      ∙ ap (λ (j : ℕ). laid (take n (upto (input 32 ws n j) n)) bits₀) is-e
      ∙ ap (λ (x : List ℕ). laid x bits₀) (take_all n (upto (input 32 ws n (best_end start q n)) n) (omega arith))
      ∙ over (upto (input 32 ws n (best_end start q n)) n) bits₀ (omega arith)

  pub whole_start_lem : (ds : List ℕ) (e s : ℕ) → take n ds ≡ best_words start q n → e ≡ best_end start q n → s ≡ back 32 (take n ds) n e n → s ≡ best_start start q n
  unfolding best_start
  whole_start_lem ds e s w is-e f = f ∙ ap (λ (x : List ℕ). back 32 x n e n) w ∙ ap (λ (j : ℕ). back 32 (best_words start q n) n j n) is-e

  pub whole_cost : (first d : List ℕ) (e : ℕ) → first ≡ start_table start → d ≡ table_at first (cost_at q) n → e ≡ best_end start q n → get_or d e 0 ≡ get_or (table_at (start_table start) (cost_at q) n) (best_end start q n) 0
  whole_cost first d e a b c = ap (λ (x : List ℕ). get_or x e 0) (b ∙ ap (λ (x : List ℕ). table_at x (cost_at q) n) a) ∙ ap (λ (j : ℕ). get_or (table_at (start_table start) (cost_at q) n) j 0) c

  pub whole_saved : (first marks tables : List ℕ) (slots : ℕ) → first ≡ start_table start → Saved first (cost_at q) marks slots tables → Saved (start_table start) (cost_at q) marks slots tables
  whole_saved first marks tables slots e s = subst (λ (d : List ℕ). Saved d (cost_at q) marks slots tables) e s

  -- its bits
  pub bits_long : (x : List ℕ) → x ≡ best_bits start q n → length x ≡ n
  bits_long x e = ap length e ∙ bits_length

  pub bits_small : n ≤ Isdb.longest_frame → (x : List ℕ) → x ≡ best_bits start q n → (k : ℕ) → get_or x k 0 < 2
  bits_small few x e k =
      rw e (⊎_elim (λ (h : k < n). (best_found start q n few).path.walk.bits k h)
      (λ (h : n ≤ k). rw (get_or-eq_default (best_bits start q n) 0 {n = k} (rw bits_length h)) (omega arith))
      (lt_or_ge k n))

-- the uncoded bits over the whole of a list
pub uncoded_whole : (f : ℕ → ℕ) (n : ℕ) (x x₀ : List ℕ) → length x₀ ≡ n → x ≡ laid (upto f n) x₀ → x ≡ upto f n
uncoded_whole f n x x₀ h e = let l = length_upto f n in e ∙ over (upto f n) x₀ (omega arith)

pub asked : (start : Start) (xs : List Float) (sides : List ℕ) (n : ℕ) (bits uncoded : List ℕ) (s : ℕ) → n ≤ Isdb.longest_frame → 4 * n ≤ length xs → n ≤ length sides → bits ≡ best_bits start (quadruple xs) n → uncoded ≡ upto (chosen sides bits s) n → Asked xs sides bits uncoded 0 n
asked start xs sides n bits uncoded s few long sided e f =
    let lb = bits_long start (quadruple xs) n bits e in
    let lu : length uncoded ≡ n = ap length f ∙ length_upto (chosen sides bits s) n in
    record {
      quadruples = omega arith;
      sided = omega arith;
      read = omega arith;
      beside = omega arith;
      bit = bits_small start (quadruple xs) n few bits e;
      second = λ k. rw f (⊎_elim (λ (h : k < n). rw (get_d_upto (chosen sides bits s) 0 n k h) (chosen_small (get_or sides k 0) (Isdb.label_at s bits k)))
          (λ (h : n ≤ k). rw (get_or-eq_default (upto (chosen sides bits s) n) 0 {n = k} (rw (length_upto (chosen sides bits s) n) h)) (omega arith))
          (lt_or_ge k n));
    }

pub whole_found : (start : Start) (xs : List Float) (sides marks : List ℕ) (slots n : ℕ) → n ≤ Isdb.longest_frame → Upright xs sides n → Marked marks slots n → (tables bits uncoded leads : List ℕ) (s cost : ℕ)
    → Saved (start_table start) (cost_at (quadruple xs)) marks slots tables → bits ≡ best_bits start (quadruple xs) n → s ≡ best_start start (quadruple xs) n → uncoded ≡ upto (chosen sides bits s) n
    → cost ≡ get_or (table_at (start_table start) (cost_at (quadruple xs)) n) (best_end start (quadruple xs) n) 0 → leads ≡ upto (lead_at xs sides bits uncoded marks tables cost n) slots
    → Found start xs sides marks slots n bits uncoded leads
whole_found start xs sides marks slots n few up marked tables bits uncoded leads s cost sv is-bits is-s is-uncoded is-cost is-leads =
    let us = best_bits start (quadruple xs) n in
    let r = best_start start (quadruple xs) n in
    let zs = upto (chosen sides us r) n in
    let u : uncoded ≡ zs = is-uncoded ∙ ap (λ (b : List ℕ). upto (chosen sides b s) n) is-bits ∙ ap (λ (j : ℕ). upto (chosen sides us j) n) is-s in
    let own = own_is start xs sides marks slots n few up marked tables sv in
    let w = found start xs sides marks slots n few up marked tables sv leads
    (λ k h. ap (λ (x : List ℕ). get_or x k 0) is-leads ∙ get_d_upto (lead_at xs sides bits uncoded marks tables cost n) 0 slots k h
    ∙ ap (λ (b : List ℕ). lead_at xs sides b uncoded marks tables cost n k) is-bits
    ∙ ap (λ (b : List ℕ). lead_at xs sides us b marks tables cost n k) u
    ∙ ap (λ (j : ℕ). lead_at xs sides us zs marks tables j n k) (is-cost ∙ sym own)) in
    subst (λ (b : List ℕ). Found start xs sides marks slots n b uncoded leads) (sym is-bits) (subst (λ (b : List ℕ). Found start xs sides marks slots n us b leads) (sym u) w)
