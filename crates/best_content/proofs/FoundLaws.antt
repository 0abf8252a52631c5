-- The best bits with the better uncoded bits are the best content, and their leads are those of the two passes.
use Rattle.std.specs.Prelude.{◌≡◌, List, ℤ, ◌≤ℤ◌, get_or, drop, Float}
use Rattle.std.proofs.Math.Path.{refl}
use Rattle.std.proofs.Common.{sym, ap, ◌∙◌, subst, arith, get_or-take, get_or-drop, ext_get_or}
use Prim.Native.Nat.{ℕ, zero, suc, ◌+◌, ◌-◌, ◌*◌, ◌≤◌, ◌<◌}
use Rattle.trellis.specs.Lists.{upto}
use Rattle.trellis.specs.ListLaws.{length_upto, get_d_upto}
use Rattle.trellis.specs.Run.{quadruple}
use Rattle.trellis.specs.Isdb
use Rattle.path_greatest.specs.Paths.{First, sumℤ}
use Rattle.path_greatest.proofs.Greatest.{one_first}
use Rattle.path_greatest.proofs.Integers.{≤ℤ-antisymm}
use Rattle.path_greatest.specs.Fresh.{StartsIn}
use Rattle.path_greatest.specs.declared.Start.{Start}
use Rattle.best_grid.specs.Grid.{grid_at, cost_at}
use Rattle.best_grid.specs.Costs.{table_at, paid}
use Rattle.best_grid.specs.Best.{start_table, best_end, best_bits, best_start}
use Rattle.best_grid.proofs.BestLaws.{best_found, best_paid, starts_zero, starts_only}
use Rattle.best_grid.specs.Contents.{Content, worth, Leads}
use Rattle.best_grid.specs.Sides.{two, worth_at, price_at, chosen}
use Rattle.best_grid.proofs.SideLaws.{priced, price_small, Upright, low_is, worth_total, worth_under, chosen_small, price_chosen}
use Rattle.best_grid.proofs.TableLaws.{table_alike, cheapest_least}
use Rattle.best_grid.specs.Backward.{low, back_at, other_at, other_run, fars, least_of}
use Rattle.best_grid.specs.RunLaws.{other_split}
use Rattle.best_grid.proofs.Sequences.{spent}
use Rattle.best_grid.specs.Leading.{seq}
use Rattle.best_grid.proofs.Leading.{state_same, greatest, leads}
use Rattle.best_content.specs.Slots.{Marked, Saved, lead_at, piece}
use Rattle.best_content.specs.Found.{Found}

-- ---- tables of costs that agree
least_alike : (a a' d : List ℕ) (n : ℕ) → ((s : ℕ) → s < n → get_or a s 0 ≡ get_or a' s 0) → least_of a d n ≡ least_of a' d n
unfolding least_of
least_alike a a' d zero h = refl
least_alike a a' d (suc n) h = rw (least_alike a a' d n (λ s l. h s (omega arith)), h n (omega arith)) refl

-- ---- the table kept for slot k
pub piece_at : (tables : List ℕ) (k s : ℕ) → s < 64 → get_or (piece (64 * k) (64 * k + 64) tables) s 0 ≡ get_or tables (64 * k + s) 0
piece_at tables k s h = get_or-take (64 * k + 64 - 64 * k) (drop (64 * k) tables) s 0 (omega arith) ∙ get_or-drop (64 * k) tables s 0

-- ---- the theorem
module _ (start : Start) (xs : List Float) (sides marks : List ℕ) (slots n : ℕ) (few : n ≤ Isdb.longest_frame) (up : Upright xs sides n) (marked : Marked marks slots n) (tables : List ℕ)
    (saved : Saved (start_table start) (cost_at (quadruple xs)) marks slots tables) where
  abbrev us : List ℕ
  us = best_bits start (quadruple xs) n

  abbrev s : ℕ
  s = best_start start (quadruple xs) n

  abbrev zs : List ℕ
  zs = upto (chosen sides us s) n

  abbrev cheap : ℕ → ℕ → ℕ
  cheap = low (two xs sides) (price_at xs sides)

  abbrev own : ℕ
  own = spent (two xs sides) (price_at xs sides) s (seq us) (seq zs) n

  tables_same : (t : ℕ) → t ≤ n → table_at (start_table start) cheap t ≡ table_at (start_table start) (cost_at (quadruple xs)) t
  tables_same = table_alike (start_table start) cheap (cost_at (quadruple xs)) n (low_is xs sides n up)

  own_paid : (k : ℕ) → k ≤ n → spent (two xs sides) (price_at xs sides) s (seq us) (seq zs) k ≡ paid (cost_at (quadruple xs)) s us k
  unfolding spent paid
  own_paid zero h = refl
  own_paid (suc k) h =
      let z : seq zs k ≡ chosen sides us s k = get_d_upto (chosen sides us s) 0 n k h in
      let st = state_same s us k in
      rw (own_paid k (omega arith), z, ← st) (ap (λ (x : ℕ). paid (cost_at (quadruple xs)) s us k + x) (price_chosen xs sides k (Isdb.label_at s us k)))

  mine : Content (two xs sides) n s us zs
  mine =
      let b = best_found start (quadruple xs) n few in
      record {
        path = b.path;
        count = length_upto (chosen sides us s) n;
        uncoded = λ k h. rw (get_d_upto (chosen sides us s) 0 n k h) (chosen_small (get_or sides k 0) (Isdb.label_at s us k));
      }

  begins : StartsIn Isdb.states start s
  begins = (best_found start (quadruple xs) n few).begins

  -- its cost is the least of the last table
  pub own_is : own ≡ get_or (table_at (start_table start) (cost_at (quadruple xs)) n) (best_end start (quadruple xs) n) 0
  own_is =
      let p = best_paid start (quadruple xs) n few in
      let z = starts_zero start s begins in
      let o = own_paid n (omega arith) in
      omega arith

  lowest : (k : ℕ) → k < 64 → own ≤ get_or (table_at (start_table start) cheap n) k 0
  lowest k h =
      let c = cheapest_least (table_at (start_table start) (cost_at (quadruple xs)) n) 63 k (omega arith) in
      let o = own_is in
      rw (tables_same n (omega arith)) (omega arith)

  -- the least cost of a content that differs in slot k, as the code works it out
  slot_rival : (k : ℕ) → k < slots
      → least_of (piece (64 * k) (64 * k + 64) tables) (other_run (two xs sides) (price_at xs sides) (seq us) (seq zs) fars (back_at cheap (get_or marks (k + 1) 0) (n - get_or marks (k + 1) 0)) (get_or marks k 0) (get_or marks (k + 1) 0 - get_or marks k 0)) 64
      ≡ least_of (table_at (start_table start) cheap (get_or marks k 0)) (other_at (two xs sides) (price_at xs sides) (seq us) (seq zs) (get_or marks k 0) (get_or marks (k + 1) 0 - get_or marks k 0) (n - get_or marks k 0)) 64
  slot_rival k h =
      let a = get_or marks k 0 in
      let b = get_or marks (k + 1) 0 in
      let r = marked.rising k h in
      let u = marked.under (k + 1) (omega arith) in
      let e : n - a ≡ (b - a) + (n - b) = omega arith in
      let f : a + (b - a) ≡ b = omega arith in
      let o = other_split (two xs sides) (price_at xs sides) (seq us) (seq zs) a (b - a) (n - b) in
      let d = ap (λ (j : ℕ). other_at (two xs sides) (price_at xs sides) (seq us) (seq zs) a (b - a) j) e ∙ o ∙ ap (λ (t : ℕ). other_run (two xs sides) (price_at xs sides) (seq us) (seq zs) fars (back_at cheap t (n - b)) a (b - a)) f in
      least_alike (piece (64 * k) (64 * k + 64) tables) (table_at (start_table start) cheap a) (other_run (two xs sides) (price_at xs sides) (seq us) (seq zs) fars (back_at cheap b (n - b)) a (b - a)) 64
      (λ i hi. piece_at tables k i hi ∙ saved k i h hi ∙ ap (λ (x : List ℕ). get_or x i 0) (sym (tables_same a (omega arith))))
      ∙ ap (λ (x : List ℕ). least_of (table_at (start_table start) cheap a) x 64) (sym d)

  -- ---- of equals it is the first
  zs_chosen : (k : ℕ) → k < n → get_or zs k 0 ≡ chosen sides us s k
  zs_chosen k h = get_d_upto (chosen sides us s) 0 n k h

  abbrev total : ℕ → List ℕ → ℤ
  total r vs = sumℤ Isdb.half Isdb.labels (grid_at (quadruple xs)) r vs n

  first : (r : ℕ) (vs ys : List ℕ) → Content (two xs sides) n r vs ys → StartsIn Isdb.states start r → worth (worth_at xs sides) r vs ys n ≡ worth (worth_at xs sides) s us zs n → First Isdb.half Isdb.rule s us r vs n
  first r vs ys ct fr e =
      let b = best_found start (quadruple xs) n few in
      let own : worth (worth_at xs sides) s us zs n ≡ total s us = worth_total xs sides n s us zs zs_chosen n (omega arith) in
      let over : total s us ≤ℤ total r vs = subst (λ (x : ℤ). x ≤ℤ total r vs) (e ∙ own) (worth_under xs sides n up r vs ys) in
      b.first r vs ct.path fr tt (≤ℤ-antisymm {a = total r vs} {b = total s us} (b.most r vs ct.path fr tt) over)

  pub found : (ls : List ℕ) → ((k : ℕ) → k < slots → get_or ls k 0 ≡ lead_at xs sides us zs marks tables own n k) → Found start xs sides marks slots n us zs ls
  found ls is = record {
    s = s;
    content = mine;
    begins = begins;
    greatest = greatest (two xs sides) (worth_at xs sides) (price_at xs sides) (priced xs sides) (price_small xs sides) (StartsIn Isdb.states start) (start_table start) (starts_zero start) (starts_only start) n s us zs mine begins few lowest;
    first = first;
    uncoded = zs_chosen;
    leads = λ k h.
        let a = get_or marks k 0 in
        let b = get_or marks (k + 1) 0 in
        let r = marked.rising k h in
        let u = marked.under (k + 1) (after k h) in
        let l = leads (two xs sides) (worth_at xs sides) (price_at xs sides) (priced xs sides) (price_small xs sides) (StartsIn Isdb.states start) (start_table start) (starts_zero start) (starts_only start) n s us zs mine begins few lowest a (b - a) (n - a) (whole a b n r u) (some a b r) (fits a b n u) in
        subst (λ (g : ℕ). Leads (two xs sides) (StartsIn Isdb.states start) (worth_at xs sides) n s us zs a b g) (sym (is k h ∙ ap (λ (x : ℕ). x - own) (slot_rival k h)))
        (subst (λ (e : ℕ). Leads (two xs sides) (StartsIn Isdb.states start) (worth_at xs sides) n s us zs a e (least_of (table_at (start_table start) cheap a) (other_at (two xs sides) (price_at xs sides) (seq us) (seq zs) a (b - a) (n - a)) 64 - own)) (up_to a b r) l);
  }
    where
      after : (k : ℕ) → k < slots → k + 1 ≤ slots
      after k h = omega arith

      whole : (a b n : ℕ) → a < b → b ≤ n → n ≡ a + (n - a)
      whole a b n h k = omega arith

      some : (a b : ℕ) → a < b → 0 < b - a
      some a b h = omega arith

      fits : (a b n : ℕ) → b ≤ n → b - a ≤ n - a
      fits a b n h = omega arith

      up_to : (a b : ℕ) → a < b → a + (b - a) ≡ b
      up_to a b h = omega arith

-- ---- there is no other: two readings of the same metrics have the same start, inputs and uncoded bits
pub found_only : (start : Start) (xs : List Float) (sides marks : List ℕ) (slots n : ℕ) (us zs ls vs ys ms : List ℕ) (f : Found start xs sides marks slots n us zs ls) (g : Found start xs sides marks slots n vs ys ms)
    → (f.s ≡ g.s) × (us ≡ vs) × (zs ≡ ys)
found_only start xs sides marks slots n us zs ls vs ys ms f g =
    let w = worth_at xs sides in
    let e : worth w g.s vs ys n ≡ worth w f.s us zs n = ≤ℤ-antisymm {a = worth w g.s vs ys n} {b = worth w f.s us zs n} (f.greatest g.s vs ys g.content g.begins) (g.greatest f.s us zs f.content f.begins) in
    let o = one_first Isdb.half Isdb.rule f.s us g.s vs n f.content.path g.content.path (f.first g.s vs ys g.content g.begins e) (g.first f.s us zs f.content f.begins (sym e)) in
    let z : zs ≡ ys = ext_get_or 0 zs ys (f.content.count ∙ sym g.content.count) (λ k h. let l : k < n = rw f.content.count at h in f.uncoded k l ∙ rw (o.0, o.1) refl ∙ sym (g.uncoded k l)) in
    (o.0, o.1, z)
