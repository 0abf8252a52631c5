use mathlib.Core.Path.{◌≡◌, refl, sym, ◌∙◌, ap}
use Prim.Native.Nat.{ℕ, suc, ◌+◌, ◌-◌, ◌<◌}
use native.Mathlib.Omega.{arith}
use borrow.Author.Rules.{rules}
use mathlib.Core.Bool.{Bool, true, false, not, ◌||◌, or_assoc}
use mathlib.Core.List.{List}
use lib.ListN.{length, get_or, drop}
use lib.Seq.{drop-cons, drop-length}
use lib.Ieee.{Float, nan}
use native.Mathlib.Numerals.{add-one}
use Rattle.ieee.specs.Within.{within}
use Rattle.viterbi_rows.specs.Values.{some_beyond}
use Rattle.viterbi_rows.proofs.some_beyond.Goals as goal

-- at an element of the list
here : (limit : Float) (xs : List Float) (i : ℕ) (t : Bool) → i < length xs → t ≡ not (within limit (get_or xs i nan)) → some_beyond limit (drop i xs) ≡ (t || some_beyond limit (drop (suc i) xs))
unfolding some_beyond
here limit xs i t h e = rw (drop-cons xs i nan h, e) refl

-- one value more
more : (limit : Float) (xs : List Float) (i : ℕ) (some t : Bool) → i < length xs → t ≡ not (within limit (get_or xs i nan)) → some_beyond limit xs ≡ (some || some_beyond limit (drop i xs))
    → some_beyond limit xs ≡ ((some || t) || some_beyond limit (drop (i + 1) xs))
more limit xs i some t h e inv =
    inv ∙ ap (λ (w : Bool). some || w) (here limit xs i t h e) ∙ rw (add-one i) (sym (or_assoc some t (some_beyond limit (drop (suc i) xs))))

-- at its end
over : (limit : Float) (xs : List Float) (some : Bool) → (some || some_beyond limit (drop (length xs) xs)) ≡ some
unfolding some_beyond
over limit xs true = refl
over limit xs false = rw (drop-length xs) refl

pub loop-i-init : goal.loop-i-init
loop-i-init c = (search rules, refl)

pub beyond-some-requires : goal.beyond-some-requires
beyond-some-requires c = tt

pub loop-i-preserved : goal.loop-i-preserved
loop-i-preserved c =
    let at = c in
    let a = at.args in
    let h : at.loop-i.i < length a.xs.now = search rules in
    (search rules, more a.limit a.xs.now at.loop-i.i at.loop-i.some c.beyond-some.result h c.beyond-some.ensures at.loop-i.invariant.1)

pub returns : goal.returns
returns c =
    let at = c in
    let xs = at.args.xs.now in
    let e : at.loop-i.i ≡ length xs = omega arith in
    sym (rw e at at.loop-i.invariant.1 ∙ over at.args.limit xs at.loop-i.some)
