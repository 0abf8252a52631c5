-- `viterbi_steps::step_at` meets its contract.
use mathlib.Core.Path.{refl}
use Prim.Native.Nat.{◌/◌, ◌<◌}
use native.Mathlib.Omega.{arith}
use lib.ListN.{length}
use Rattle.viterbi_steps.proofs.step_at.Goals as goal

pub pair_at-requires : goal.pair_at-requires
pair_at-requires c =
    let start = c in
    let h : start.args.k < length start.args.values.now / 2 = rw c.in-Pairs.is at start.requires in
    omega arith

pub four_at-requires : goal.four_at-requires
four_at-requires c =
    let start = c in
    let h : start.args.k < length start.args.values.now / 4 = rw c.in-Fours.is at start.requires in
    omega arith

pub bounds-bits-k : goal.bounds-bits-k
bounds-bits-k c =
    let start = c in
    rw c.in-Knowns.is at start.requires

pub returns-in-Pairs : goal.returns-in-Pairs
returns-in-Pairs c = rw c.in-Pairs.is c.pair_at.ensures

pub returns-in-Fours : goal.returns-in-Fours
returns-in-Fours c = rw c.in-Fours.is c.four_at.ensures

pub returns-in-Knowns : goal.returns-in-Knowns
returns-in-Knowns c = rw c.in-Knowns.is refl
