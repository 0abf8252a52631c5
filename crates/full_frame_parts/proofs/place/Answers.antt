-- `place` meets its contract.
use native.Mathlib.Omega.{arith}
use Prim.Native.Nat.{◌<◌}
use mathlib.Core.Path.{refl}
use Rattle.full_frame_parts.proofs.place.Goals as goal

pub overflow_mul-result : goal.overflow_mul-result
overflow_mul-result c = let h : c.args.i < 38976 = rw c.in-Main.is at c.requires in omega arith

pub overflow_add-result : goal.overflow_add-result
overflow_add-result c = let h : c.args.i < 38976 = rw c.in-Main.is at c.requires in omega arith

pub overflow_add-result-in-Main : goal.overflow_add-result-in-Main
overflow_add-result-in-Main c = let h : c.args.i < 38976 = rw c.in-Main.is at c.requires in omega arith

pub overflow_mul-result-in-Burst : goal.overflow_mul-result-in-Burst
overflow_mul-result-in-Burst c = let h : c.args.i < 768 = rw c.in-Burst.is at c.requires in omega arith

pub overflow_add-result-in-Burst : goal.overflow_add-result-in-Burst
overflow_add-result-in-Burst c = let h : c.args.i < 768 = rw c.in-Burst.is at c.requires in omega arith

pub overflow_add-result-in-Burst-2 : goal.overflow_add-result-in-Burst-2
overflow_add-result-in-Burst-2 c = let h : c.args.i < 768 = rw c.in-Burst.is at c.requires in omega arith

pub overflow_add-result-in-Burst-3 : goal.overflow_add-result-in-Burst-3
overflow_add-result-in-Burst-3 c = let h : c.args.i < 768 = rw c.in-Burst.is at c.requires in omega arith

pub returns-in-Header : goal.returns-in-Header
returns-in-Header c = let h : c.args.i < 192 = rw c.in-Header.is at c.requires in (rw c.in-Header.is refl, omega arith)

pub returns-in-Main : goal.returns-in-Main
returns-in-Main c = let h : c.args.i < 38976 = rw c.in-Main.is at c.requires in (rw c.in-Main.is refl, omega arith)

pub returns-in-Burst : goal.returns-in-Burst
returns-in-Burst c = let h : c.args.i < 768 = rw c.in-Burst.is at c.requires in (rw c.in-Burst.is refl, omega arith)
