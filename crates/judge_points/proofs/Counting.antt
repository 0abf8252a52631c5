-- Counts that grow by one point, and what stands in a list.
use mathlib.Core.Path.{◌≡◌, refl, sym, ◌∙◌, ap}
use mathlib.Core.Bool.{Bool, true, false, ◌&&◌}
use mathlib.Core.List.{List, [], ◌∷◌, ◌++◌}
use Rattle.std.proofs.Common.{replicate}
use Rattle.std.proofs.lemmas.List.{replicate-append-replicate}
use Prim.Native.Nat.{ℕ, zero, suc, ◌+◌, ◌-◌, ◌/◌, ◌<◌, ◌≤◌}
use native.Mathlib.Nat.{not-suc-le-zero}
use native.Mathlib.Numerals.{add-one}
use native.Mathlib.Omega.{arith}
use mir.Val.{bool_byte}
use lib.Dec.{eqb}
use lib.Ieee.{Float, nan}
use lib.ListN.{get_or, length, set, length-set}
use lib.Seq.{get_or-set_same, get_or-set_other}
use borrow.Author.Tests.{eqb-true, eqb-false}
use Rattle.trellis.specs.Lists.{bit, upto}
use Rattle.isdbs_metrics.specs.DigitLaws.{bool_bit}
use Rattle.strain_marks.specs.Counts.{summed, counted}
use Rattle.isdbs_combination.specs.Combinations.{slot_symbols}
use Rattle.isdbs_plan.specs.declared.Run.{Run}
use Rattle.isdbs_points.specs.Points.{zero64}
use Rattle.judge_points.specs.Given.{outside_given, given_at, added, Counted}

-- a filled front
pub filled : {A : Type 0} (v : A) (n : ℕ) → replicate n v ≡ upto (λ _. v) n
unfolding upto
filled {A} v zero = refl
filled {A} v (suc n) = ap (λ (k : ℕ). replicate k v) (sym (add-one n)) ∙ sym (replicate-append-replicate n 1 v) ∙ ap (λ (l : List A). l ++ (v ∷ [])) (filled v n)

pub bool_few : (b : Bool) → bool_byte b ≤ 1
bool_few true = omega arith
bool_few false = omega arith

one_here : (b : Bool) → bool_byte b ≡ bit (b && true)
one_here true = refl
one_here false = refl

none_here : (b : Bool) → bit (b && false) ≡ 0
none_here true = refl
none_here false = refl

-- a count at place q that grows by a point
grown : (counts : List ℕ) (q j : ℕ) (b t : Bool) → q < length counts → eqb q j ≡ t → get_or (set counts q (get_or counts q 0 + bool_byte b)) j 0 ≡ get_or counts j 0 + bit (b && t)
grown counts q j b true l e =
    rw (← eqb-true q j e) (get_or-set_same counts q (get_or counts q 0 + bool_byte b) 0 l ∙ ap (λ (x : ℕ). get_or counts q 0 + x) (one_here b))
grown counts q j b false l e =
    get_or-set_other counts q j (get_or counts q 0 + bool_byte b) 0 (λ z. eqb-false q j e (sym z)) ∙ omega (arith, none_here b)

pub counted_more : (f : ℕ → Bool) (from i : ℕ) (counts₀ counts : List ℕ) (sum : ℕ) (b : Bool) → Counted f from i counts₀ counts sum → b ≡ f (from + i) → (from + i) / slot_symbols < length counts
    → Counted f from (i + 1) counts₀ (set counts ((from + i) / slot_symbols) (get_or counts ((from + i) / slot_symbols) 0 + bool_byte b)) (sum + bool_byte b)
unfolding summed
counted_more f from i counts₀ counts sum b w e l =
    let q = (from + i) / slot_symbols in
    record {
      size = length-set counts q (get_or counts q 0 + bool_byte b) ∙ w.size;
      each = λ j.
          let more : added f from (i + 1) j ≡ added f from i j + bit (b && eqb q j) = rw (add-one i, e) in
          omega (arith, grown counts q j b (eqb q j) l refl, w.each j, more);
      sum_is = rw (add-one i, bool_bit b, ← e, w.sum_is);
    }

-- what stands in a list, whatever would stand past it
pub in_list : {A : Type 0} (l : List A) (i : ℕ) (d e : A) → i < length l → get_or l i d ≡ get_or l i e
in_list [] i d e h = absurd (not-suc-le-zero h)
in_list (x ∷ l) zero d e h = refl
in_list (x ∷ l) (suc i) d e h = in_list l i d e (omega arith)

-- point i of a block is point `from` + i of the frame
pub given_is : (rs : List Run) (xs ys re im : List Float) (from i : ℕ) (x y : Float) (b : Bool) → x ≡ get_or xs i zero64 → y ≡ get_or ys i zero64
    → b ≡ outside_given rs x y (get_or re (from + i) nan) (get_or im (from + i) nan) (from + i) → b ≡ given_at rs xs ys re im from (from + i)
given_is rs xs ys re im from i x y b ex ey e =
    let s : from + i - from ≡ i = omega arith in
    e ∙ rw (ex, ey) (ap (λ (j : ℕ). outside_given rs (get_or xs j zero64) (get_or ys j zero64) (get_or re (from + i) nan) (get_or im (from + i) nan) (from + i)) (sym s))
