-- The numbers after the first k symbols of the frame; after all of them they are the slots' sums.
use mathlib.Core.Path.{◌≡◌, refl, sym, ◌∙◌, ap}
use mathlib.Core.Bool.{Bool, true, false, cond}
use mathlib.Core.List.{List}
use Prim.Native.Nat.{ℕ, zero, suc, ◌+◌, ◌-◌, ◌*◌, ◌/◌, ◌%◌, ◌<◌, ◌≤◌}
use native.Mathlib.Nat.{add-zero, add-suc}
use native.Mathlib.Omega.{arith}
use borrow.Author.Tests.{ltb-true, ltb-false}
use lib.Dec.{ltb}
use lib.ListN.{length, get_or, drop}
use lib.Seq.{ext_get_or, get_or-append-add, get_or-drop}
use lib.Ieee.{Float, nan, binary64, add}
use Rattle.trellis.specs.Lists.{upto, laid}
use Rattle.trellis.specs.ListLaws.{length_upto}
use Rattle.trellis.specs.LaidLaws.{laid_at, laid_laid, length_laid_upto}
use Rattle.isdbs_tables.specs.declared.Table.{Table}
use Rattle.isdbs_points.specs.declared.Mapping.{Mapping}
use Rattle.isdbs_points.specs.Points.{zero64}
use Rattle.margins.specs.Margins.{free_re}
use Rattle.quality_sums.specs.Adding.{point_added}
use Rattle.quality_sums.specs.AddingLaws.{length_added, added_below, added_above, added_at}
use Rattle.quality.specs.Qualities.{terms_at, slot_sum, qualities}

-- what stands behind a front that is laid
laid_past : {A : Type 0} (d : A) (f : ℕ → A) (n : ℕ) (w : List A) (i : ℕ) → n ≤ i → get_or (laid (upto f n) w) i d ≡ get_or w i d
laid_past d f n w i h =
    let l = length_upto f n in
    let e : length (upto f n) + (i - n) ≡ i = omega (arith, l) in
    ap (λ (k : ℕ). get_or (laid (upto f n) w) k d) (sym e) ∙ get_or-append-add (upto f n) (drop (length (upto f n)) w) (i - n) d ∙ get_or-drop (length (upto f n)) w (i - n) d ∙ ap (λ (k : ℕ). get_or w k d) e

-- the numbers of a point that may be left out
module _ (terms l : List Float) (k : ℕ) where
  length_either : (b : Bool) → length (cond b l (point_added terms k l)) ≡ length l
  length_either true = refl
  length_either false = length_added terms (7 * (k / 812)) l 7

  below_either : (b : Bool) (i : ℕ) → i < 7 * (k / 812) → get_or (cond b l (point_added terms k l)) i nan ≡ get_or l i nan
  below_either true i h = refl
  below_either false i h = added_below terms (7 * (k / 812)) l 7 i h

  above_either : (b : Bool) (i : ℕ) → 7 * (k / 812) + 7 ≤ i → get_or (cond b l (point_added terms k l)) i nan ≡ get_or l i nan
  above_either true i h = refl
  above_either false i h = added_above terms (7 * (k / 812)) l 7 i h

  at_either : (b : Bool) (j q : ℕ) (s : Float) → k / 812 ≡ j → q < 7 → 7 * j + 7 ≤ length l → get_or l (7 * j + q) nan ≡ s
      → get_or (cond b l (point_added terms k l)) (7 * j + q) nan ≡ cond b s (add binary64 s (get_or terms q nan))
  at_either true j q s e h room w = w
  at_either false j q s e h room w = rw e (added_at terms (7 * j) l 7 room q h ∙ ap (λ (x : Float). add binary64 x (get_or terms q nan)) w)

module _ (re im : List Float) (load : List ℕ) (t : Table) (m : Mapping) (first : Bool) (out : List Float) where
  unfoldable pub running : ℕ → List Float
  running zero = laid (upto (λ i. zero64) 336) out
  running (suc k) = cond (free_re t k) (running k) (point_added (terms_at re im load t m first k) k (running k))

  abbrev terms : ℕ → List Float
  terms k = terms_at re im load t m first k

  abbrev sum : ℕ → ℕ → ℕ → Float
  sum j q n = slot_sum re im load t m first j q n

  module _ (room : 336 ≤ length out) where
    pub length_running : (k : ℕ) → length (running k) ≡ length out
    unfolding running
    length_running zero = length_laid_upto (λ i. zero64) 336 out room
    length_running (suc k) = length_either (terms k) (running k) k (free_re t k) ∙ length_running k

    -- number q of slot j: before its symbols, among them and behind them
    module _ (j q : ℕ) (slot : j < 48) (one : q < 7) where
      before : (k : ℕ) → k ≤ 812 * j → get_or (running k) (7 * j + q) nan ≡ zero64
      unfolding running
      before zero h = laid_at nan (λ i. zero64) 336 out (7 * j + q) (omega arith)
      before (suc k) h = above_either (terms k) (running k) k (free_re t k) (7 * j + q) (omega arith) ∙ before k (omega arith)

      among : (n : ℕ) → n ≤ 812 → get_or (running (812 * j + n)) (7 * j + q) nan ≡ sum j q n
      unfolding running slot_sum
      among zero h = ap (λ (k : ℕ). get_or (running k) (7 * j + q) nan) (add-zero (812 * j)) ∙ before (812 * j) (omega arith)
      among (suc n) h =
          let k = 812 * j + n in
          ap (λ (k : ℕ). get_or (running k) (7 * j + q) nan) (add-suc (812 * j) n)
          ∙ at_either (terms k) (running k) k (free_re t k) j q (sum j q n) (omega arith) one (rw (length_running k) (omega arith)) (among n (omega arith))

      behind : (d : ℕ) → get_or (running (812 * j + 812 + d)) (7 * j + q) nan ≡ sum j q 812
      unfolding running
      behind zero = ap (λ (k : ℕ). get_or (running k) (7 * j + q) nan) (add-zero (812 * j + 812)) ∙ among 812 (omega arith)
      behind (suc d) =
          let k = 812 * j + 812 + d in
          ap (λ (k : ℕ). get_or (running k) (7 * j + q) nan) (add-suc (812 * j + 812) d)
          ∙ below_either (terms k) (running k) k (free_re t k) (7 * j + q) (omega arith) ∙ behind d

    -- what is lent past the numbers stays
    past : (k : ℕ) → k ≤ 38976 → (i : ℕ) → 336 ≤ i → get_or (running k) i nan ≡ get_or out i nan
    unfolding running
    past zero h i l = laid_past nan (λ i. zero64) 336 out i l
    past (suc k) h i l = above_either (terms k) (running k) k (free_re t k) i (omega arith) ∙ past k (omega arith) i l

    abbrev number : ℕ → Float
    number i = sum (i / 7) (i % 7) 812

    summed : (i : ℕ) → i < 336 → get_or (running 38976) i nan ≡ number i
    summed i h =
        let j = i / 7 in
        let d = 38164 - 812 * j in
        let e : 812 * j + 812 + d ≡ 38976 = omega arith in
        let s : 7 * j + i % 7 ≡ i = omega arith in
        ap (λ (k : ℕ). get_or (running 38976) k nan) (sym s) ∙ ap (λ (k : ℕ). get_or (running k) (7 * j + i % 7) nan) (sym e) ∙ behind j (i % 7) (omega arith) (omega arith) d

    pub all_running : running 38976 ≡ laid (qualities re im load t m first) out
    all_running =
        ext_get_or nan (running 38976) (laid (upto number 336) out) (length_running 38976 ∙ sym (length_laid_upto number 336 out room))
        (λ i h. by i (ltb i 336) refl)
      where
        by : (i : ℕ) (b : Bool) → ltb i 336 ≡ b → get_or (running 38976) i nan ≡ get_or (laid (upto number 336) out) i nan
        by i true e = let l = ltb-true i 336 e in summed i l ∙ sym (laid_at nan number 336 out i l)
        by i false e = let l = ltb-false i 336 e in past 38976 (omega arith) i l ∙ sym (laid_past nan number 336 out i l)

-- numbers that are begun at 0 already
module _ (re im : List Float) (load : List ℕ) (t : Table) (m : Mapping) (first : Bool) (l out : List Float) (begun : l ≡ laid (upto (λ i. zero64) 336) out) where
  pub running_start : l ≡ running re im load t m first l 0
  unfolding running
  running_start =
      let z : List Float = upto (λ i. zero64) 336 in
      sym (ap (λ (x : List Float). laid z x) begun ∙ laid_laid z z out (omega arith) ∙ sym begun)

  pub running_end : 336 ≤ length out → running re im load t m first l 38976 ≡ laid (qualities re im load t m first) out
  running_end room =
      let z : List Float = upto (λ i. zero64) 336 in
      let q = qualities re im load t m first in
      let lz : length z ≡ 336 = length_upto (λ i. zero64) 336 in
      let lq : length q ≡ 336 = length_upto (λ i. slot_sum re im load t m first (i / 7) (i % 7) 812) 336 in
      all_running re im load t m first l (rw (begun, length_laid_upto (λ i. zero64) 336 out room) room)
      ∙ ap (λ (x : List Float). laid q x) begun ∙ laid_laid z q out (omega (arith, lz, lq))
