use mathlib.Core.Path.{◌≡◌, refl, sym, ◌∙◌, ap}
use Prim.Native.Nat.{ℕ, suc, ◌+◌, ◌-◌, ◌<◌}
use native.Mathlib.Omega.{arith}
use borrow.Author.Rules.{rules}
use mathlib.Core.List.{List}
use native.Mathlib.Numerals.{add-one}
use lib.ListN.{length, get_or, take, drop, set, length-drop, length-set}
use lib.Seq.{length-take-le, get_or-drop, get_or-append-add}
use Rattle.trellis.specs.Lists.{laid}
use Rattle.trellis.specs.LaidLaws.{laid_next}
use Rattle.viterbi_release.proofs.move_down.Goals as goal

-- the word at its new place, b below the old one
one_more : (d : List ℕ) (b t : ℕ) → 0 < b → b + t < length d → set (laid (take t (drop b d)) d) t (get_or (laid (take t (drop b d)) d) (b + t) 0) ≡ laid (take (suc t) (drop b d)) d
one_more d b t p h =
    let s = drop b d in
    let g : t < length s = rw (length-drop b d) (omega arith) in
    let l : length (take t s) ≡ t = length-take-le t s (omega arith) in
    let place : b + t ≡ length (take t s) + b = omega arith in
    let old : get_or (laid (take t s) d) (b + t) 0 ≡ get_or s t 0 =
    ap (λ (k : ℕ). get_or (laid (take t s) d) k 0) place ∙ get_or-append-add (take t s) (drop (length (take t s)) d) b 0
    ∙ get_or-drop (length (take t s)) d b 0 ∙ ap (λ (k : ℕ). get_or d k 0) (sym place) ∙ sym (get_or-drop b d t 0) in
    ap (λ (v : ℕ). set (laid (take t s) d) t v) old ∙ laid_next s d t 0 g (omega arith)

pub loop-t-init : goal.loop-t-init
loop-t-init c = (search rules, refl, refl)

pub loop-t-preserved : goal.loop-t-preserved
loop-t-preserved c =
    let at = c in
    let d = at.args.decisions.now in
    let t = at.loop-t.t in
    let inv = at.loop-t.invariant in
    let h : 4096 + t < length d = omega arith in (
      omega arith,
      rw (inv.1, add-one t) (one_more d 4096 t (search rules) h),
      length-set at.loop-t.decisions t (get_or at.loop-t.decisions (4096 + t) 0) ∙ inv.2,
    )

pub shape_of-decisions : goal.shape_of-decisions
shape_of-decisions c = c.loop-t.invariant.2

pub returns : goal.returns
returns c =
    let at = c in
    let e : at.loop-t.t ≡ at.args.n = omega arith in
    rw e at at.loop-t.invariant.1
