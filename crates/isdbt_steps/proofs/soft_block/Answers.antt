use mathlib.Core.Path.{◌≡◌, ◌∙◌, ap}
use Prim.Native.Nat.{ℕ, ◌+◌, ◌-◌, ◌*◌, ◌/◌, ◌%◌}
use native.Mathlib.Omega.{arith}
use Rattle.isdbt_table.specs.WrittenLaws.{written_none}
use Rattle.isdbt_steps.specs.declared.Standing.{Standing}
use Rattle.isdbt_steps.specs.Soft.{placed_by, next_of, standing_at}
use Rattle.isdbt_steps.proofs.Blocks.{block_steps_lem, step_written}
use Rattle.isdbt_steps.proofs.Places.{second, next_standing}
use Rattle.isdbt_steps.proofs.soft_block.Goals as goal

pub overflow_mul-at-3 : goal.overflow_mul-at-3
overflow_mul-at-3 c =
    let start = c in
    let r = start.requires.6 (2 * start.args.i) (omega arith) in
    omega arith

pub loop-k-init : goal.loop-k-init
loop-k-init c =
    let start = c in
    let a = start.args in
    let z : a.i ≡ a.i + 0 = omega arith in
    (omega arith, c.values_of.ensures.1, ap (λ (m : ℕ). standing_at a.period a.n m) z, written_none (λ j. placed_by a.period a.n a.places.now a.llrs.now (2 * a.i + j)) a.pairs.now)

pub offset_bounds-places-place : goal.offset_bounds-places-place
offset_bounds-places-place c =
    let at = c in
    let start = at in
    let own : at.loop-k.at.place ≡ 2 * (start.args.i + at.loop-k.k) % (2 * start.args.period) = ap (λ (s : Standing). s.place) at.loop-k.invariant.2 in
    let below = (second start.args.period (start.args.i + at.loop-k.k) start.requires.1 start.requires.2).below in
    omega arith

pub bounds-places-place : goal.bounds-places-place
bounds-places-place c =
    let at = c in
    let start = at in
    let own : at.loop-k.at.place ≡ 2 * (start.args.i + at.loop-k.k) % (2 * start.args.period) = ap (λ (s : Standing). s.place) at.loop-k.invariant.2 in
    let below = (second start.args.period (start.args.i + at.loop-k.k) start.requires.1 start.requires.2).below in
    omega arith

pub value_of-requires : goal.value_of-requires
value_of-requires c =
    let tested = c in
    let at = tested in
    let start = at in
    let l = tested.loop-k-test.true in
    let base : at.loop-k.at.base ≡ start.args.n * (2 * (start.args.i + at.loop-k.k) / (2 * start.args.period)) = ap (λ (s : Standing). s.base) at.loop-k.invariant.2 in
    rw base (start.requires.6 (2 * (start.args.i + at.loop-k.k)) (omega arith))

pub overflow_add-place : goal.overflow_add-place
overflow_add-place c =
    let tested = c in
    let at = tested in
    let start = at in
    let l = tested.loop-k-test.true in
    let own : at.loop-k.at.place ≡ 2 * (start.args.i + at.loop-k.k) % (2 * start.args.period) = ap (λ (s : Standing). s.place) at.loop-k.invariant.2 in
    let below = (second start.args.period (start.args.i + at.loop-k.k) start.requires.1 start.requires.2).below in
    omega arith

pub offset_bounds-places-place-in-loop-k : goal.offset_bounds-places-place-in-loop-k
offset_bounds-places-place-in-loop-k c =
    let tested = c in
    let at = tested in
    let start = at in
    let l = tested.loop-k-test.true in
    let own : at.loop-k.at.place ≡ 2 * (start.args.i + at.loop-k.k) % (2 * start.args.period) = ap (λ (s : Standing). s.place) at.loop-k.invariant.2 in
    let below = (second start.args.period (start.args.i + at.loop-k.k) start.requires.1 start.requires.2).below in
    omega arith

pub bounds-places-place-in-loop-k : goal.bounds-places-place-in-loop-k
bounds-places-place-in-loop-k c =
    let tested = c in
    let at = tested in
    let start = at in
    let l = tested.loop-k-test.true in
    let own : at.loop-k.at.place ≡ 2 * (start.args.i + at.loop-k.k) % (2 * start.args.period) = ap (λ (s : Standing). s.place) at.loop-k.invariant.2 in
    let below = (second start.args.period (start.args.i + at.loop-k.k) start.requires.1 start.requires.2).below in
    omega arith

pub value_of-requires-in-loop-k : goal.value_of-requires-in-loop-k
value_of-requires-in-loop-k c =
    let tested = c in
    let at = tested in
    let start = at in
    let l = tested.loop-k-test.true in
    let base : at.loop-k.at.base ≡ start.args.n * (2 * (start.args.i + at.loop-k.k) / (2 * start.args.period)) = ap (λ (s : Standing). s.base) at.loop-k.invariant.2 in
    rw base (start.requires.6 (2 * (start.args.i + at.loop-k.k)) (omega arith))

pub next_of-at-requires : goal.next_of-at-requires
next_of-at-requires c =
    let tested = c in
    let at = tested in
    let start = at in
    let l = tested.loop-k-test.true in
    let own : at.loop-k.at.place ≡ 2 * (start.args.i + at.loop-k.k) % (2 * start.args.period) = ap (λ (s : Standing). s.place) at.loop-k.invariant.2 in
    let below = (second start.args.period (start.args.i + at.loop-k.k) start.requires.1 start.requires.2).below in
    let base : at.loop-k.at.base ≡ start.args.n * (2 * (start.args.i + at.loop-k.k) / (2 * start.args.period)) = ap (λ (s : Standing). s.base) at.loop-k.invariant.2 in
    let fits = start.requires.6 (2 * (start.args.i + at.loop-k.k)) (omega arith) in
    (omega arith, omega arith, omega arith)

pub loop-k-preserved : goal.loop-k-preserved
loop-k-preserved c =
    let last = c in
    let first = last in
    let tested = first in
    let at = tested in
    let start = at in
    let a = start.args in
    let l = tested.loop-k-test.true in
    let few = start.requires.4 in
    let stood = at.loop-k.invariant.2 in
    let long = at.loop-k.invariant.1 in
    let on : a.i + at.loop-k.k + 1 ≡ a.i + (at.loop-k.k + 1) = omega arith in (
      omega arith,
      long,
      c.next_of-at.ensures ∙ ap (λ (s : Standing). next_of s (2 * a.period) a.n) stood ∙ next_standing a.period a.n (a.i + at.loop-k.k) start.requires.1 start.requires.2 ∙ ap (λ (j : ℕ). standing_at a.period a.n j) on,
      step_written a.period a.n a.places.now a.llrs.now a.i at.loop-k.k a.pairs.now at.loop-k.pairs at.loop-k.at first.value_of.result last.value_of-in-loop-k.result stood start.requires.1 start.requires.2 first.value_of.ensures last.value_of-in-loop-k.ensures at.loop-k.invariant.3 (omega arith),
    )

pub returns : goal.returns
returns c =
    let at = c in
    let start = at in
    let a = start.args in
    let end : at.loop-k.k ≡ a.len = omega arith in
    (at.loop-k.invariant.3.long ∙ at.loop-k.invariant.1, block_steps_lem a.period a.n a.places.now a.llrs.now a.i a.len a.pairs.now at.loop-k.pairs (rw end at at.loop-k.invariant.3))
