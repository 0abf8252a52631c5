use lib.Ieee.{lt, of_bits, binary64}
use mathlib.Core.Path.{◌≡◌, ◌∙◌}
use Rattle.isdbs_metrics.specs.DigitLaws.{bool_bit}
use Rattle.trellis.specs.ListLaws.{bit_is}
use native.Mathlib.Omega.{arith}
use Prim.Native.Nat.{◌%◌}
use Rattle.best_sides.proofs.better_bit.Goals as goal

pub returns : goal.returns
returns c = let s = c.subset_of in
    let r : s.result % 8 ≡ s.result = let l = s.ensures.1 in omega arith in
    let q : c.args.label % 4 ≡ c.args.label = let h = c.requires.0 in omega arith in
    let e = bool_bit (lt c.correlation.result (of_bits binary64 0)) in
    (rw e (bit_is (lt c.correlation.result (of_bits binary64 0))).0, e ∙ rw (c.correlation.ensures, c.psk8_point-p.ensures, r, s.ensures.0, q, c.symbol-v.ensures))
