use native.Mathlib.Numerals.{add-one}
use Prim.Native.Nat.{ℕ, suc, ◌+◌}
use Rattle.header_sync.proofs.SearchLaws.{best_at, best_next, first_greatest}
use Rattle.header_sync.specs.Search.{peak_by, found_by}
use native.Mathlib.Omega.{arith}
use mathlib.Core.Path.{◌≡◌, refl, ◌∙◌}
use Rattle.header_sync.proofs.best_of.Goals as goal

pub loop-k-init : goal.loop-k-init
unfolding found_by
loop-k-init c =
    (omega arith, rw (c.squares_of-peak.ensures, c.fit_at-fit.ensures.0) refl, omega arith)

pub loop-k-preserved : goal.loop-k-preserved
loop-k-preserved c =
    let at = c in
    let x = at.args in
    let f : ℕ → ℕ = λ p. peak_by x.tail1.now x.tail2.now x.re.now x.im.now p in
    let k = at.loop-k.k in
    let e : x.from + k + 1 ≡ x.from + suc k = omega arith in
    let b : c.better_of-best.result ≡ best_at f x.from (k + 1) =
    c.better_of-best.ensures ∙ rw (at.loop-k.invariant.1, c.squares_of-high.ensures, c.fit_at-next.ensures.0, e, add-one k) (best_next f x.from k) in
    (omega arith, b, rw b (first_greatest f x.from (k + 1)).early)

pub returns : goal.returns
returns c =
    let at = c in
    let e : at.loop-k.k ≡ at.args.count = omega arith in
    (rw (at.loop-k.invariant.1, e) refl, omega arith)
