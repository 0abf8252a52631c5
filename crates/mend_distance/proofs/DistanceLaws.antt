-- Laws of the table: where a coded stretch lies within four, its number is at most 4; and by which predecessor a number came about.
use Rattle.std.specs.Prelude.{◌≡◌, refl, Bool, true, false, List, T, eqb, length}
use Rattle.std.proofs.Common.{sym, ◌∙◌, ⊎_elim, ltb-true, ltb-false, eqb-true}
use Rattle.std.proofs.Math.Bool.{cond}
use Prim.Native.Nat.{ℕ, zero, suc, ◌+◌, ◌*◌, ◌/◌, ◌%◌, ◌≤◌, ◌<◌, min}
use native.Mathlib.Omega.{arith}
use Rattle.std.proofs.Math.Dec.{eqb_refl}
use Rattle.std.proofs.Math.ListN.{get_or, get_or-eq_default}
use Rattle.trellis.specs.Code.{isdb, moved, state_at}
use Rattle.trellis.proofs.EncodedLaws.{reached_is}
use Rattle.trellis.specs.Lists.{bit}
use Rattle.trellis.specs.ListLaws.{length_upto, get_d_upto}
use Rattle.trellis.specs.Stretch.{apart, Bits}
use Rattle.trellis.proofs.DistanceLaws.{wrong, bits_at}
use Rattle.trellis.specs.WrittenLaws.{lt_or_ge}
use Rattle.mend_distance.specs.Stretches.{most_changed, WithinFour}
use Rattle.mend_distance.proofs.StretchLaws.{by_labels_lem}
use Rattle.mend_distance.specs.Distances.{pair_at, far, through, next, nexts, odd, begun, nearest, Capped, least, unmendable}
use Rattle.trellis.specs.Isdb

state_under : (us : List ℕ) → ((k : ℕ) → get_or us k 0 < 2) → (s : ℕ) → s < 64 → (n : ℕ) → state_at 32 s us n < 64
unfolding state_at
state_under us b s h zero = h
state_under us b s h (suc n) = let u = b n in let i = state_under us b s h n in omega arith

next_least : (d : List ℕ) (l k b : ℕ) → b < 2 → next d l k ≤ through d l k b
unfolding next
next_least d l k zero h = omega arith
next_least d l k (suc zero) h = omega arith
next_least d l k (suc (suc b)) h = absurd (omega arith)

-- the step into the state that the input u leads to from st
next_from : (d : List ℕ) (l u st : ℕ) → u < 2 → st < 64 → next d l (moved 32 u st) ≤ get_or d st 0 + apart (Isdb.labels u st) l
unfolding through
next_from d l u st hu hs =
    let k = moved 32 u st in
    let a : k / 32 ≡ u = omega arith in
    let b : 2 * (k % 32) + st % 2 ≡ st = omega arith in
    let m : next d l k ≤ get_or d (2 * (k % 32) + st % 2) 0 + apart (Isdb.labels (k / 32) (2 * (k % 32) + st % 2)) l = next_least d l k (st % 2) (omega arith) in
    rw (a, b) at m

-- the predecessor that the decision takes, where the number is below 5
pub chosen : (d : List ℕ) (l k : ℕ) → next d l k ≤ most_changed → next d l k ≡ through d l k (bit (odd d l k))
unfolding next
chosen d l k h = go (odd d l k) refl
  where
    go : (w : Bool) → odd d l k ≡ w → min far (min (through d l k 0) (through d l k 1)) ≡ through d l k (bit w)
    go true e = let a = ltb-true (through d l k 1) (through d l k 0) e in omega arith
    go false e = let a = ltb-false (through d l k 1) (through d l k 0) e in omega arith

-- ---- the numbers of the table
module _ (s : ℕ) (r : ℕ → ℕ) where
  pub start_at_lem : (k : ℕ) → k < 64 → get_or (nearest s r 0) k 0 ≡ cond (eqb k s) 0 far
  unfolding nearest begun
  start_at_lem k h = get_d_upto (λ j. cond (eqb j s) 0 far) 0 64 k h

  pub next_at : (n k : ℕ) → k < 64 → get_or (nearest s r (suc n)) k 0 ≡ next (nearest s r n) (r n) k
  unfolding nearest nexts
  next_at n k h = get_d_upto (next (nearest s r n) (r n)) 0 64 k h

  pub length_nearest : (n : ℕ) → length (nearest s r n) ≡ 64
  unfolding nearest begun nexts
  length_nearest zero = length_upto (λ k. cond (eqb k s) 0 far) 64
  length_nearest (suc n) = length_upto (next (nearest s r n) (r n)) 64

  at_most_far : (w : Bool) → cond w 0 far ≤ far
  at_most_far true = omega arith
  at_most_far false = omega arith

  below_far : (n k : ℕ) → k < 64 → get_or (nearest s r n) k 0 ≤ far
  unfolding next
  below_far zero k h = rw (start_at_lem k h) (at_most_far (eqb k s))
  below_far (suc n) k h = rw (next_at n k h) (omega arith)

  pub capped : (n : ℕ) → Capped (nearest s r n)
  capped n k =
      ⊎_elim (below_far n k)
      (λ past. rw (get_or-eq_default (nearest s r n) 0 {n = k} (rw (length_nearest n) past)) (omega arith))
      (lt_or_ge k 64)

  -- 0 or 5 before the first step: a number below 5 is that of the start
  start_is : (k : ℕ) (w : Bool) → eqb k s ≡ w → cond w 0 far ≤ most_changed → k ≡ s
  start_is k true e h = eqb-true k s e
  start_is k false e h = absurd (omega arith)

  pub from_start : (k : ℕ) → k < 64 → get_or (nearest s r 0) k 0 ≤ most_changed → k ≡ s
  from_start k h l = start_is k (eqb k s) refl (rw (start_at_lem k h) at l)

  -- ---- no way differs less
  at_start : (w : Bool) → T w → cond w 0 far ≤ 0
  at_start true t = omega arith
  at_start false t = absurd t

  at_most : s < 64 → (us : List ℕ) → Bits us → (n : ℕ) → get_or (nearest s r n) (state_at 32 s us n) 0 ≤ wrong (Isdb.label_at s us) r n
  unfolding state_at wrong
  at_most hs us b zero = let a = start_at_lem s hs in let c = at_start (eqb s s) (eqb_refl s) in omega arith
  at_most hs us b (suc n) =
      let st = state_at 32 s us n in
      let u = get_or us n 0 in
      let hu : u < 2 = bits_at us b n in
      let ht : st < 64 = state_under us (bits_at us b) s hs n in
      let i = at_most hs us b n in
      let a = next_at n (moved 32 u st) (omega arith) in
      let c = next_from (nearest s r n) (r n) u st hu ht in
      omega arith

-- where a coded stretch lies within four, the number of the end state is at most 4
pub within_least : (s e : ℕ) (bits us : List ℕ) → s < 64 → Bits bits → WithinFour s e bits us → least s e bits ≤ most_changed
within_least s e bits us hs hb w =
    let c : length bits / 2 ≡ length us = let a = w.count in omega arith in
    let a = at_most s (pair_at bits) hs us w.inputs (length us) in
    let b : state_at 32 s us (length us) ≡ e = sym (reached_is isdb s us) ∙ w.ends in
    let d = by_labels_lem s us bits hb w.count in
    let f = w.four in
    let g : get_or (nearest s (pair_at bits) (length us)) e 0 ≤ most_changed = rw b at (let x : get_or (nearest s (pair_at bits) (length us)) (state_at 32 s us (length us)) 0 ≤ most_changed = omega arith in x) in
    rw c g

-- "15 if .. no coded stretch between those states lies within four bits": where the table says so, there is none
pub none_within : (s e : ℕ) (bits : List ℕ) → s < 64 → Bits bits → unmendable s e bits ≡ true → (us : List ℕ) → WithinFour s e bits us → ⊥
unfolding unmendable
none_within s e bits hs hb h us w =
    let a = ltb-true most_changed (least s e bits) h in
    let b = within_least s e bits us hs hb w in
    omega arith
