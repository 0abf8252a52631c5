-- `short_fec::flush_from` meets its contract.
use mathlib.Core.Path.{refl, sym, ◌∙◌, ap}
use native.Mathlib.Omega.{arith}
use Prim.Native.Nat.{ℕ}
use Rattle.short_code.specs.CodeLaws.{states_are, good_length_lem}
use lib.ListN.{take}
use native.Mathlib.Nat.{zero-add}
use Rattle.trellis.specs.Lists.{laid}
use Rattle.trellis.specs.Step.{traced}
use Rattle.short_fec.proofs.flush_from.Goals as goal

pub half-requires : goal.half-requires
half-requires c = good_length_lem c.args.code c.requires.0

pub finish_at-count-requires : goal.finish_at-count-requires
finish_at-count-requires c =
    let start = c in
    let half = c.half in
    let e = states_are start.args.code half.result half.ensures.2 in
    (half.ensures.0, half.ensures.1, rw (sym e) at start.requires.1, start.requires.2, omega arith)

pub returns : goal.returns
returns c =
    let finish-at = c in
    let at-half = finish-at in
    let start = at-half in
    let a = start.args in
    let half = at-half.half in
    let done = finish-at.finish_at-count.ensures in
    record {
      values = refl;
      held_is = refl;
      traceback_is = refl;
      count_is = done.0 ∙ zero-add a.dec.held;
      words = done.1;
      bits = done.2 ∙ ap (λ (k : ℕ). laid (traced k (take a.dec.held a.decisions.now) a.state) a.out.now) half.ensures.2.half_is;
    }
