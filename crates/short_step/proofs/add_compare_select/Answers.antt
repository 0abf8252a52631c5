-- `short_step::add_compare_select` meets its contract.
use mathlib.Core.Path.{◌≡◌, ◌∙◌}
use mathlib.Core.List.{List}
use Prim.Native.Nat.{ℕ, ◌*◌}
use lib.ListN.{length, get_or}
use lib.Ieee.{Float, nan}
use Rattle.trellis.specs.Lists.{upto}
use Rattle.trellis.specs.ListLaws.{length_upto, get_d_upto}
use Rattle.trellis.specs.Step.{next, nexts}
use Rattle.trellis.specs.Isdb.{rule}
use Rattle.trellis.specs.WrittenLaws.{Written, written_whole}
use Rattle.viterbi_core.specs.Calls.{step_of}
use Rattle.short_code.specs.Codes.{labels}
use Rattle.short_step.proofs.add_compare_select.Goals as goal

-- what is copied of values that are written
copied : (new : List Float) (f : ℕ → Float) (n m : ℕ) → m ≡ n → Written nan f n new → upto (λ i. get_or new i nan) m ≡ upto f n
copied new f n m e w =
    rw e (written_whole nan f n (upto (λ i. get_or new i nan) n) (length_upto (λ i. get_or new i nan) n) (λ i h. get_d_upto (λ j. get_or new j nan) nan n i h ∙ w i h))

pub returns : goal.returns
unfolding nexts
returns c =
    let select = c in
    let start = select in
    let a = start.args in
    let selected = select.select-w in
    (c.copy.ensures ∙ copied selected.new.new (next a.h (labels a.code) rule a.pm.now (step_of a.x)) (2 * a.h) (length a.pm.now) start.requires.3 selected.ensures.0, selected.ensures.1)
