-- By how much a reading leads in given steps: the least cost of a content that differs there, less its own.
use Rattle.std.specs.Prelude.{◌≡◌, Bool, List, ℤ, pos, ◌+ℤ◌, ◌≤ℤ◌, get_or}
use Rattle.std.proofs.Math.Path.{refl}
use Rattle.std.proofs.Common.{sym, ap, ◌∙◌, subst, ⊎_elim, arith}
use Prim.Native.Nat.{ℕ, zero, suc, ◌+◌, ◌-◌, ◌*◌, ◌≤◌, ◌<◌}
use Rattle.std.proofs.Math.ListN.{get_or-eq_default}
use Rattle.ieee.specs.Whole.{hi_z, lo_z}
use Rattle.ieee.proofs.Whole.{parts}
use Rattle.trellis.specs.Lists.{upto}
use Rattle.trellis.specs.ListLaws.{length_upto, get_d_upto}
use Rattle.trellis.specs.WrittenLaws.{lt_or_ge}
use Rattle.trellis.specs.Code.{moved, state_at}
use Rattle.trellis.specs.Isdb
use Rattle.path_greatest.specs.Viterbi.{Z}
use Rattle.path_greatest.proofs.Integers.{Val, le_val, ≤ℤ-antisymm}
use Rattle.best_grid.specs.Grid.{level, dearest}
use Rattle.best_grid.specs.Costs.{table_at, ruled}
use Rattle.best_grid.specs.Backward.{low}
use Rattle.best_grid.specs.Contents.{Content, worth, Leads}
use Rattle.best_grid.proofs.Sequences.{state_f, Fine, state_under, spent, spent_alike, table_least}
use Rattle.best_grid.proofs.Gaps.{rival, rival_least, rival_met, rival_bound}
use Rattle.best_grid.specs.Leading.{seq}

pub state_same : (s : ℕ) (us : List ℕ) (n : ℕ) → state_at 32 s us n ≡ state_f s (seq us) n
unfolding state_at state_f
state_same s us zero = refl
state_same s us (suc n) = ap (moved 32 (get_or us n 0)) (state_same s us n)

-- past a content all is 0
pub content_fine : (two : ℕ → Bool) (n s : ℕ) (us zs : List ℕ) → Content two n s us zs → Fine two (seq us) (seq zs)
content_fine two n s us zs ct k =
    ⊎_elim
    (λ (h : k < n). (ct.path.walk.bits k h, ct.uncoded k h))
    (λ (h : n ≤ k).
    let e = get_or-eq_default us 0 {n = k} (rw ct.path.count h) in
    let f = get_or-eq_default zs 0 {n = k} (rw ct.count h) in
    (rw e (omega arith), rw f (omega arith)))
    (lt_or_ge k n)

-- the first n of sequences as a content
pub of_fine : (two : ℕ → Bool) (n s : ℕ) (u z : ℕ → ℕ) → s < 64 → Fine two u z → Content two n s (upto u n) (upto z n)
of_fine two n s u z h f = record {
  path = record { walk = record { start = h; bits = λ k l. rw (get_d_upto u 0 n k l) (f k).0 }; count = length_upto u n };
  count = length_upto z n;
  uncoded = λ k l. rw (get_d_upto z 0 n k l) (f k).1;
}

module _ (two : ℕ → Bool) (w : ℕ → ℕ → ℕ → ℤ) (c : ℕ → ℕ → ℕ → ℕ) (priced : (t z l : ℕ) → c t z l + hi_z (w t z l) ≡ level + lo_z (w t z l)) where
  -- a sum and its cost
  pub worth_cost : (s : ℕ) (us zs : List ℕ) (n : ℕ) → Val (worth w s us zs n) (n * level, spent two c s (seq us) (seq zs) n)
  unfolding worth spent
  worth_cost s us zs zero = refl
  worth_cost s us zs (suc n) =
      let l = Isdb.labels (get_or us n 0) (state_at 32 s us n) in
      let x = worth w s us zs n in
      let y = w n (get_or zs n 0) l in
      let i = worth_cost s us zs n in
      let p = parts x y in
      let e = priced n (get_or zs n 0) l in
      rw (← state_same s us n) (omega arith)

  plus_val : (x : ℤ) (p : Z) (g : ℕ) → Val x p → Val (x +ℤ pos g) (p.0 + g, p.1)
  plus_val x p g h = let r = parts x (pos g) in omega arith

  module _ (small : (t z l : ℕ) → c t z l ≤ dearest) (from : ℕ → Type 0) (d : List ℕ)
      (zeroed : (k : ℕ) → from k → get_or d k 0 ≡ 0) (open-only : (k : ℕ) → k < 64 → get_or d k 0 < ruled → from k)
      (n s : ℕ) (us zs : List ℕ) (mine : Content two n s us zs) (begins : from s) (few : n ≤ Isdb.longest_frame)
      (lowest : (k : ℕ) → k < 64 → spent two c s (seq us) (seq zs) n ≤ get_or (table_at d (low two c) n) k 0) where
    abbrev own : ℕ
    own = spent two c s (seq us) (seq zs) n

    -- no content has a greater sum
    pub greatest : (r : ℕ) (vs ys : List ℕ) → Content two n r vs ys → from r → worth w r vs ys n ≤ℤ worth w s us zs n
    greatest r vs ys ct fr =
        let f = content_fine two n r vs ys ct in
        let hr = ct.path.walk.start in
        let a = table_least two c d r (seq vs) (seq ys) hr f n in
        let b = lowest (state_f r (seq vs) n) (state_under two r (seq vs) (seq ys) hr f n) in
        let z = zeroed r fr in
        le_val (worth w r vs ys n) (worth w s us zs n) (n * level, spent two c r (seq vs) (seq ys) n) (n * level, own) (worth_cost r vs ys n) (worth_cost s us zs n) (omega arith)

    module _ (a k j : ℕ) (all : n ≡ a + j) (some : 0 < k) (fits : k ≤ j) where
      abbrev rest : ℕ
      rest = rival two c (seq us) (seq zs) (content_fine two n s us zs mine) small d a k j

      rest_small : rest ≤ n * dearest
      rest_small =
          let b = rival_bound two c (seq us) (seq zs) (content_fine two n s us zs mine) small d a k j s mine.path.walk.start some fits in
          let z = zeroed s begins in
          omega arith

      -- the lead: what the cheapest content that differs costs more
      pub leads : Leads two from w n s us zs a (a + k) (rest - own)
      leads =
          let few' : n ≤ 68208 = few in
          let b = rest_small in
          let e = rival_met two c (seq us) (seq zs) (content_fine two n s us zs mine) small d a k j some fits (omega arith) (omega arith) in
          let n-is : a + j ≡ n = sym all in
          let cost : get_or d e.s 0 + spent two c e.s e.u e.z n ≡ rest = ap (λ (m : ℕ). get_or d e.s 0 + spent two c e.s e.u e.z m) all ∙ e.is in
          let may : from e.s = open-only e.s e.start (omega arith) in
          let z = zeroed e.s may in
          let vs = upto e.u n in
          let ys = upto e.z n in
          let alike = spent_alike two c e.s n (seq vs) (seq ys) e.u e.z (λ i l. (get_d_upto e.u 0 n i l, get_d_upto e.z 0 n i l)) in
          let t = table_least two c d e.s e.u e.z e.start e.fine n in
          let m = lowest (state_f e.s e.u n) (state_under two e.s e.u e.z e.start e.fine n) in
          let under : e.at < n = let x = e.under in omega arith in
          let val : Val (worth w e.s vs ys n +ℤ pos (rest - own)) (n * level + (rest - own), spent two c e.s (seq vs) (seq ys) n) = plus_val (worth w e.s vs ys n) (n * level, spent two c e.s (seq vs) (seq ys) n) (rest - own) (worth_cost e.s vs ys n) in
          record {
            over = λ r vs ys ct fr df.
                let f = content_fine two n r vs ys ct in
                let x = rival_least two c (seq us) (seq zs) (content_fine two n s us zs mine) small d a k j r (seq vs) (seq ys) ct.path.walk.start fits f df.at df.from df.under df.unlike in
                let y : rest ≤ get_or d r 0 + spent two c r (seq vs) (seq ys) n = subst (λ (m : ℕ). rest ≤ get_or d r 0 + spent two c r (seq vs) (seq ys) m) (sym all) x in
                let q = zeroed r fr in
                le_val (worth w r vs ys n +ℤ pos (rest - own)) (worth w s us zs n) (n * level + (rest - own), spent two c r (seq vs) (seq ys) n) (n * level, own)
                (plus_val (worth w r vs ys n) (n * level, spent two c r (seq vs) (seq ys) n) (rest - own) (worth_cost r vs ys n)) (worth_cost s us zs n) (omega arith);
            start = e.s;
            inputs = vs;
            uncoded = ys;
            content = of_fine two n e.s e.u e.z e.start e.fine;
            begins = may;
            differ = record { at = e.at; from = e.from; under = e.under; unlike = λ q. e.unlike (q.0 ∙ get_d_upto e.u 0 n e.at under, q.1 ∙ get_d_upto e.z 0 n e.at under) };
            other = ≤ℤ-antisymm
                (le_val (worth w e.s vs ys n +ℤ pos (rest - own)) (worth w s us zs n) (n * level + (rest - own), spent two c e.s (seq vs) (seq ys) n) (n * level, own) val (worth_cost s us zs n) (omega arith))
                (le_val (worth w s us zs n) (worth w e.s vs ys n +ℤ pos (rest - own)) (n * level, own) (n * level + (rest - own), spent two c e.s (seq vs) (seq ys) n) (worth_cost s us zs n) val (omega arith));
          }
