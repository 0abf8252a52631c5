use mathlib.Core.Path.{◌≡◌, refl, sym, ◌∙◌, ap}
use mathlib.Core.List.{List, map}
use Prim.Native.Nat.{◌-◌, ◌<◌}
use native.Mathlib.Omega.{arith}
use lib.ListN.{length, get_or, length-set, length-map, get_or-map}
use lib.Seq.{ext_get_or}
use lib.Ieee.{Float, nan, binary32, add, sub}
use Rattle.trellis.specs.Step.{renormalised, top}
use Rattle.trellis.specs.WrittenLaws.{Written, written_none, written_more, kept_more}
use Rattle.short_step.proofs.renormalise.Goals as goal

-- a list whose entries are those of another less t is that list, each entry less t
less : (pm new : List Float) (t : Float) → length new ≡ length pm → Written nan (λ i. sub binary32 (get_or pm i nan) t) (length pm) new
    → new ≡ map (λ x. sub binary32 x t) pm
unfolding sub add
less pm new t long w =
    ext_get_or nan new (map (λ x. sub binary32 x t) pm)
    (long ∙ sym (length-map pm (λ x. sub binary32 x t)))
    (λ i h. w i (rw long at h) ∙ sym (get_or-map (λ x. sub binary32 x t) pm i nan))

pub loop-v-init : goal.loop-v-init
loop-v-init c =
    let pm = c.args.pm.now in
    (omega arith, refl, written_none nan (λ i. sub binary32 (get_or pm i nan) c.greatest-t.result) pm, λ i h. refl)

pub loop-v-preserved : goal.loop-v-preserved
loop-v-preserved c =
    let at = c in
    let pm₀ = at.args.pm.now in
    let t = at.greatest-t.result in
    let s = at.loop-v.v-index in
    let inv = at.loop-v.invariant in
    let h : s < length at.loop-v.pm = omega arith in (
      omega arith,
      simp length-set inv.1,
      written_more nan (λ i. sub binary32 (get_or pm₀ i nan) t) s at.loop-v.pm _ h inv.2 (ap (λ (x : Float). sub binary32 x t) (inv.3 s (omega arith))),
      kept_more nan pm₀ s at.loop-v.pm _ inv.3,
    )

pub shape_of-pm : goal.shape_of-pm
shape_of-pm c = c.loop-v.invariant.1

pub returns : goal.returns
unfolding renormalised
returns c =
    let at = c in
    let inv = at.loop-v.invariant in
    let start = at in
    let pm = start.args.pm.now in
    let e : at.loop-v.v-index ≡ length pm = omega arith in
    less pm at.loop-v.pm at.greatest-t.result inv.1 (rw e at inv).2
    ∙ ap (λ (t : Float). map (λ x. sub binary32 x t) pm) (at.greatest-t.ensures ∙ ap (top pm) start.requires)
