-- `subset_point` meets its contract.
use mathlib.Core.Path.{◌≡◌, ap}
use Prim.Native.Nat.{◌%◌}
use native.Mathlib.Omega.{arith}
use Rattle.isdbs_points.specs.Points.{psk8_of}
use Rattle.decode_block.proofs.subset_point.Goals as goal

pub returns : goal.returns
returns c =
    let few = c.requires in
    let e : c.args.label % 4 ≡ c.args.label = omega arith in
    let o = c.subset_of.ensures in
    let low = o.1 in
    let q : c.subset_of.result % 8 ≡ c.subset_of.result = omega arith in
    rw (c.psk8_point.ensures, q) (ap psk8_of (rw e at o.0))
