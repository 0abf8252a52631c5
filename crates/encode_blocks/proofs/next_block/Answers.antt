-- `next_block` meets its contract.
use mathlib.Core.Path.{◌≡◌}
use native.Mathlib.Omega.{arith}
use Prim.Native.Nat.{ℕ, ◌-◌}
use lib.ListN.{get_or}
use Rattle.isdbs_plan.specs.declared.Run.{Run}
use Rattle.isdbs_plan.specs.RunsOf.{steps_of, no_run}
use Rattle.encode_blocks.specs.Blocks.{block_for, block_steps, place_after}
use Rattle.encode_blocks.specs.PlaceLaws.{a, x, symbol_few, bit_few, After, after, made, facts}
use Rattle.encode_blocks.proofs.next_block.Goals as goal

pub overflow_mul-left : goal.overflow_mul-left
overflow_mul-left c =
    let q = c in
    let list = q.args.p.runs in
    let count = q.args.p.count in
    let at₀ = q.args.at in
    let el = q.requires.1 in
    let tl = q.requires.2 in
    let hr = q.requires.3 in
    let lt = q.requires.4 in
    let run : Run = get_or list at₀.run no_run in
    rw c.steps_per_slot.ensures (omega (arith, (a list count at₀ el tl hr lt).few_steps))

pub overflow_sub-left : goal.overflow_sub-left
overflow_sub-left c =
    let q = c in
    let list = q.args.p.runs in
    let count = q.args.p.count in
    let at₀ = q.args.at in
    let el = q.requires.1 in
    let tl = q.requires.2 in
    let hr = q.requires.3 in
    let lt = q.requires.4 in
    let run : Run = get_or list at₀.run no_run in
    rw c.steps_per_slot.ensures hr.within

pub encode_run-state-requires : goal.encode_run-state-requires
encode_run-state-requires c =
    let steps-per-slot = c in
    let q = steps-per-slot in
    let list = q.args.p.runs in
    let count = q.args.p.count in
    let at₀ = q.args.at in
    let el = q.requires.1 in
    let tl = q.requires.2 in
    let hr = q.requires.3 in
    let lt = q.requires.4 in
    let run : Run = get_or list at₀.run no_run in
    let steps = steps-per-slot.steps_per_slot.ensures in
    let block = c.block_of-b.ensures in
    let k : ℕ = block_steps (steps_of run - at₀.step) (block_for run.combination).steps in
    let e : c.block_steps-n.result ≡ k = rw (steps, block) at c.block_steps-n.ensures in
    let n = x list count at₀ el tl hr lt in
    rw e (
      hr.small,
      omega (arith, n.few, hr.bit_few, symbol_few list count at₀ el tl hr lt),
      n.whole,
      omega (arith, n.fits, q.requires.5),
      omega (arith, n.fits, q.requires.6),
      hr.byte,
      n.fours,
    )

pub place_after-requires : goal.place_after-requires
place_after-requires c =
    let block-steps = c in
    let steps-per-slot = block-steps in
    let q = steps-per-slot in
    let list = q.args.p.runs in
    let count = q.args.p.count in
    let at₀ = q.args.at in
    let el = q.requires.1 in
    let tl = q.requires.2 in
    let hr = q.requires.3 in
    let lt = q.requires.4 in
    let run : Run = get_or list at₀.run no_run in
    let steps = steps-per-slot.steps_per_slot.ensures in
    let block = block-steps.block_of-b.ensures in
    let k : ℕ = block_steps (steps_of run - at₀.step) (block_for run.combination).steps in
    let e : block-steps.block_steps-n.result ≡ k = rw (steps, block) at block-steps.block_steps-n.ensures in
    let n = x list count at₀ el tl hr lt in
    let f = facts run.combination in
    rw (block, e) (
      f.period,
      omega (arith, f.bits_are k, f.bits_few k, n.few),
      omega (arith, f.symbols_are k, n.fits),
      n.few,
      omega (arith, lt, q.requires.0),
      omega (arith, hr.within, (a list count at₀ el tl hr lt).few_steps),
      omega (arith, hr.bit_few, symbol_few list count at₀ el tl hr lt),
      omega (arith, symbol_few list count at₀ el tl hr lt),
    )

pub returns : goal.returns
returns c =
    let encode-run = c in
    let block-steps = encode-run in
    let steps-per-slot = block-steps in
    let q = steps-per-slot in
    let list = q.args.p.runs in
    let count = q.args.p.count in
    let at₀ = q.args.at in
    let el = q.requires.1 in
    let tl = q.requires.2 in
    let hr = q.requires.3 in
    let lt = q.requires.4 in
    let run : Run = get_or list at₀.run no_run in
    let steps = steps-per-slot.steps_per_slot.ensures in
    let block = block-steps.block_of-b.ensures in
    let k : ℕ = block_steps (steps_of run - at₀.step) (block_for run.combination).steps in
    let e : block-steps.block_steps-n.result ≡ k = rw (steps, block) at block-steps.block_steps-n.ensures in
    let n = x list count at₀ el tl hr lt in
    let run-made = encode-run.encode_run-state in
    let state = run-made.result in
    let piece = rw e at run-made.ensures in
    let is : c.place_after.result ≡ place_after at₀ (block_for run.combination) k (steps_of run - at₀.step) state = rw (steps, block, e) at c.place_after.ensures in
    let w : After list count at₀ el tl hr lt state piece.small c.place_after.result = rw is (after list count at₀ el tl hr lt state piece.small) in
    record {
      place = (w.here, omega (arith, w.symbol_is), omega (arith, w.symbol_is, n.fits), w.on);
      block = made list count at₀ el tl hr lt state piece.small q.args.m q.args.bytes.now q.args.xs.now _ q.args.ys.now _ piece c.place_after.result w;
    }
