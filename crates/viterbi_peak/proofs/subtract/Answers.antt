use mathlib.Core.Path.{◌≡◌, refl, sym, ◌∙◌, ap}
use mathlib.Core.List.{List, map}
use Prim.Native.Nat.{◌-◌, ◌<◌}
use native.Mathlib.Omega.{arith}
use lib.ListN.{length, get_or, length-set, length-map, get_or-map}
use lib.Seq.{ext_get_or}
use lib.Ieee.{Float, nan, binary32, sub, add}
use Rattle.trellis.specs.WrittenLaws.{Written, written_none, written_more, kept_more}
use Rattle.viterbi_peak.proofs.subtract.Goals as goal

-- a list whose entries are those of another less t is that list, each entry less t
less : (pm new : List Float) (t : Float) → length pm ≡ 64 → length new ≡ 64 → Written nan (λ i. sub binary32 (get_or pm i nan) t) 64 new
    → new ≡ map (λ x. sub binary32 x t) pm
unfolding sub add
less pm new t hp hn w =
    ext_get_or nan new (map (λ x. sub binary32 x t) pm)
    (hn ∙ sym hp ∙ sym (length-map pm (λ x. sub binary32 x t)))
    (λ i h. w i (rw hn at h) ∙ sym (get_or-map (λ x. sub binary32 x t) pm i nan))

pub loop-s-init : goal.loop-s-init
loop-s-init c =
    let start = c in
    let pm = start.args.pm.now in
    (omega arith, c.states-n.ensures.1, written_none nan (λ i. sub binary32 (get_or pm i nan) start.args.t) pm, λ i h. refl)

pub loop-s-preserved : goal.loop-s-preserved
loop-s-preserved c =
    let at = c in
    let start = at in
    let pm₀ = start.args.pm.now in
    let t = start.args.t in
    let s = at.loop-s.s in
    let inv = at.loop-s.invariant in
    let h : s < length at.loop-s.pm = omega arith in (
      omega arith,
      simp length-set inv.1,
      written_more nan (λ i. sub binary32 (get_or pm₀ i nan) t) s at.loop-s.pm _ h inv.2 (ap (λ (x : Float). sub binary32 x t) (inv.3 s (omega arith))),
      kept_more nan pm₀ s at.loop-s.pm _ inv.3,
    )

pub returns : goal.returns
returns c =
    let at = c in
    let inv = at.loop-s.invariant in
    let e : at.loop-s.s ≡ 64 = omega arith in
    let start = at in
    less start.args.pm.now at.loop-s.pm start.args.t at.states-n.ensures.1 inv.1 (rw e at inv).2
