-- Two soft values that speak for a pair (X, Y), one of them at least, make four metrics that favour the pair. Every metric is a rounded sum of ±lx and ±ly, so all follows
-- from the exact sums, since rounding keeps the order.
use Rattle.std.specs.Prelude.{◌≡◌, refl, ◌⊎◌, Bool, true, false, cond, List, ℕ, zero, suc, ◌+◌, ◌*◌, ◌-◌, ◌/◌, ◌%◌, ◌≤◌, ◌<◌, eqb, Float}
use Rattle.std.proofs.Common.{sym, subst, inl, inr, mul-le-mul_right, arith, lit≤}
use Rattle.std.specs.Float.{binary32}
use Rattle.std.specs.Float.Ieee.{fits, neg, add, sub, of_bits}
use Rattle.ieee.specs.Value.{hi, lo, Num, hi_neg, lo_neg, num_neg}
use Rattle.ieee.specs.Order.{Le, le→value, value→le}
use Rattle.ieee.specs.Rounding.{pow2, Rounds, fine_between, rounds_mono, rounds_le, rounds_ge}
use Rattle.ieee.proofs.Sums.{add_rounds}
use Rattle.trellis.specs.Lists.{upto}
use Rattle.trellis.specs.Step.{term}
use Rattle.isdbs_metrics.specs.Reading.{pair_metrics}
use Rattle.path_lead.specs.Favour.{none, most, least, margin, Above, Favour}
use Rattle.margins.proofs.Speaks.{clearly, fully, Speaks, Said}
use Rattle.margins.specs.Metrics.{unit, Sixteenths, none_is, most_is, least_is, above_by, favour_upto}

clearly_is : Sixteenths clearly 87 0
unfolding hi lo fits pow2
clearly_is = record { num = record { fin_x = tt; fits_x = tt }; hi_is = refl; lo_is = refl }

minus_clearly_is : Sixteenths (neg clearly) 0 87
unfolding hi lo fits neg pow2
minus_clearly_is = record { num = record { fin_x = tt; fits_x = tt }; hi_is = refl; lo_is = refl }

fully_is : Sixteenths fully 132 0
unfolding hi lo fits pow2
fully_is = record { num = record { fin_x = tt; fits_x = tt }; hi_is = refl; lo_is = refl }

-- ---- a soft value x for the bit b, in f32: the term of b is the greatest, from 0 to 8.25, and w sixteenths at least
pub record Part (b : ℕ) (x : Float) (w : ℕ) : Type 0 where
  pub num : (c : ℕ) → Num binary32 (term c x)
  pub best : (c : ℕ) → Le binary32 (term c x) (term b x)
  pub least : (c : ℕ) → lo binary32 (term c x) ≤ hi binary32 (term c x) + 132 * unit
  pub to : hi binary32 (term b x) ≤ lo binary32 (term b x) + 132 * unit
  pub from : w * unit + lo binary32 (term b x) ≤ hi binary32 (term b x)
  pub other : w * unit + hi binary32 (term (1 - b) x) ≤ lo binary32 (term (1 - b) x)

turn_num : (s : Bool) (x : Float) → Num binary32 x → Num binary32 (cond s (neg x) x)
turn_num true x p = num_neg p
turn_num false x p = p

turn_best : (s t : Bool) (x : Float) → lo binary32 (cond t (neg x) x) ≤ hi binary32 (cond t (neg x) x) → Le binary32 (cond s (neg x) x) (cond t (neg x) x)
turn_best true true x h = omega arith
turn_best false false x h = omega arith
turn_best true false x h = omega (arith, hi_neg binary32 x, lo_neg binary32 x)
turn_best false true x h = omega (arith, hi_neg binary32 x, lo_neg binary32 x)

turn_least : (s t : Bool) (x : Float) (n : ℕ) → lo binary32 (cond t (neg x) x) ≤ hi binary32 (cond t (neg x) x) → hi binary32 (cond t (neg x) x) ≤ lo binary32 (cond t (neg x) x) + n → lo binary32 (cond s (neg x) x) ≤ hi binary32 (cond s (neg x) x) + n
turn_least true true x n h k = omega arith
turn_least false false x n h k = omega arith
turn_least true false x n h k = omega (arith, hi_neg binary32 x, lo_neg binary32 x)
turn_least false true x n h k = omega (arith, hi_neg binary32 x, lo_neg binary32 x)

turn_other : (b : ℕ) (x : Float) (n : ℕ) → b < 2 → n + lo binary32 (term b x) ≤ hi binary32 (term b x) → n + hi binary32 (term (1 - b) x) ≤ lo binary32 (term (1 - b) x)
turn_other zero x n h k = omega (arith, hi_neg binary32 x, lo_neg binary32 x)
turn_other (suc zero) x n h k = omega (arith, hi_neg binary32 x, lo_neg binary32 x)
turn_other (suc (suc b)) x n h k = absurd (omega arith)

part_from : (b : ℕ) (x : Float) (w : ℕ) → b < 2 → Num binary32 x → hi binary32 (term b x) ≤ lo binary32 (term b x) + 132 * unit → w * unit + lo binary32 (term b x) ≤ hi binary32 (term b x) → Part b x w
part_from b x w h p to from =
    let z : lo binary32 (term b x) ≤ hi binary32 (term b x) = omega arith in
    record {
      num = λ c. turn_num (eqb c 1) x p;
      best = λ c. turn_best (eqb c 1) (eqb b 1) x z;
      least = λ c. turn_least (eqb c 1) (eqb b 1) x (132 * unit) z to;
      to = to;
      from = from;
      other = turn_other b x (w * unit) h from;
    }

-- what speaks has 87 sixteenths, what is erased none
speaks_part : (b : ℕ) (x : Float) → b < 2 → Speaks b x → Part b x 87
speaks_part b x h s =
    let p = turn_num (eqb b 1) x s.num in
    let c = clearly_is in
    let f = fully_is in
    let u = le→value binary32 clearly (term b x) c.num p s.inside.from in
    let v = le→value binary32 (term b x) fully p f.num s.inside.to in
    part_from b x 87 h s.num (omega arith) (omega arith)

erased_part : (b : ℕ) (x : Float) → b < 2 → x ≡ of_bits binary32 0 → Part b x 0
unfolding of_bits
erased_part b x h e =
    subst (λ (z : Float). Part b z 0) (sym e)
    (let z = none_is in
    part_from b none 0 h z.num (small (eqb b 1)) (omega (arith, flat (eqb b 1))))
  where
    flat : (s : Bool) → lo binary32 (cond s (neg none) none) ≤ hi binary32 (cond s (neg none) none)
    flat true = let z = none_is in omega (arith, hi_neg binary32 none, lo_neg binary32 none)
    flat false = let z = none_is in omega arith

    small : (s : Bool) → hi binary32 (cond s (neg none) none) ≤ lo binary32 (cond s (neg none) none) + 132 * unit
    small true = let z = none_is in omega (arith, hi_neg binary32 none, lo_neg binary32 none)
    small false = let z = none_is in omega arith

said_part : (b : ℕ) (x : Float) → b < 2 → Said b x → Part b x 0
said_part b x h (inl e) = erased_part b x h e
said_part b x h (inr s) = let p = speaks_part b x h s in part_from b x 0 h s.num p.to (omega arith)

-- ---- the four metrics
halves : (l : ℕ) → l < 4 → ((3 - l) / 2 ≡ 1 - l / 2) × ((3 - l) % 2 ≡ 1 - l % 2)
halves l h = (omega arith, omega arith)

module _ (lx ly : Float) (l : ℕ) (small : l < 4) (v w : ℕ) (a : Part (l / 2) lx v) (b : Part (l % 2) ly w) (clear : 87 ≤ v + w) where
  abbrev m : ℕ → Float
  m k = add binary32 (term (k / 2) lx) (term (k % 2) ly)

  rounds : (k : ℕ) → Rounds binary32 (m k) (hi binary32 (term (k / 2) lx) + hi binary32 (term (k % 2) ly)) (lo binary32 (term (k / 2) lx) + lo binary32 (term (k % 2) ly))
  rounds k =
      let t = most_is in
      let s = least_is in
      add_rounds binary32 (term (k / 2) lx) (term (k % 2) ly) (a.num (k / 2)) (b.num (k % 2))
      (fine_between (hi binary32 (term (k / 2) lx) + hi binary32 (term (k % 2) ly)) (lo binary32 (term (k / 2) lx) + lo binary32 (term (k % 2) ly)) t.num s.num
      (omega (arith, a.best (k / 2), b.best (k % 2))) (omega (arith, a.least (k / 2), b.least (k % 2))))

  -- the sum for the pair itself has 87 sixteenths at least
  enough : 87 * unit + (lo binary32 (term (l / 2) lx) + lo binary32 (term (l % 2) ly)) ≤ hi binary32 (term (l / 2) lx) + hi binary32 (term (l % 2) ly)
  enough = let x = a.from in let y = b.from in omega (arith, mul-le-mul_right unit clear)

  -- and for the complement -87 at most
  enough' : 87 * unit + (hi binary32 (term ((3 - l) / 2) lx) + hi binary32 (term ((3 - l) % 2) ly)) ≤ lo binary32 (term ((3 - l) / 2) lx) + lo binary32 (term ((3 - l) % 2) ly)
  enough' =
      let e = halves l small in
      rw (e.0, e.1) (let x = a.other in let y = b.other in omega (arith, mul-le-mul_right unit clear))

  clear_by : Above margin (m l) (m (3 - l))
  clear_by =
      let c = clearly_is in
      let d = minus_clearly_is in
      let x = rounds_ge (rounds l) c.num (omega (arith, enough)) in
      let y = rounds_le (rounds (3 - l)) d.num (omega (arith, enough')) in
      above_by (m l) (m (3 - l)) 87 0 87 (omega arith) (omega arith) (lit≤ tt)

  favours : Favour (upto m 4) l
  favours =
      let t = most_is in
      let s = least_is in
      let z = none_is in
      favour_upto m l small
      (λ k h. (rounds k).num)
      (λ k h. value→le binary32 least (m k) s.num (rounds k).num (rounds_ge (rounds k) s.num (omega (arith, a.least (k / 2), b.least (k % 2)))))
      (λ k h. value→le binary32 (m k) (m l) (rounds k).num (rounds l).num (rounds_mono (rounds k) (rounds l) (omega (arith, a.best (k / 2), b.best (k % 2)))))
      (value→le binary32 none (m l) z.num (rounds l).num (rounds_ge (rounds l) z.num (omega (arith, enough))))
      (value→le binary32 (m l) most (rounds l).num t.num (rounds_le (rounds l) t.num (omega arith)))
      clear_by

metrics_are : (lx ly : Float) → pair_metrics lx ly ≡ upto (λ k. add binary32 (term (k / 2) lx) (term (k % 2) ly)) 4
unfolding upto sub
metrics_are lx ly = refl

pub pair_favours : (lx ly : Float) (l : ℕ) → l < 4 → (Speaks (l / 2) lx × Said (l % 2) ly) ⊎ (Said (l / 2) lx × Speaks (l % 2) ly) → Favour (pair_metrics lx ly) l
pair_favours lx ly l h (inl s) =
    subst (λ (ms : List Float). Favour ms l) (sym (metrics_are lx ly))
    (favours lx ly l h 87 0 (speaks_part (l / 2) lx (omega arith) s.0) (said_part (l % 2) ly (omega arith) s.1) (lit≤ tt))
pair_favours lx ly l h (inr s) =
    subst (λ (ms : List Float). Favour ms l) (sym (metrics_are lx ly))
    (favours lx ly l h 0 87 (said_part (l / 2) lx (omega arith) s.0) (speaks_part (l % 2) ly (omega arith) s.1) (lit≤ tt))
