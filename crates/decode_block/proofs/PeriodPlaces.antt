-- The soft values of a period's mother bits, written one after the other.
use mathlib.Core.Path.{◌≡◌, refl}
use mathlib.Core.List.{List}
use Prim.Native.Nat.{ℕ, ◌≤◌}
use native.Mathlib.Omega.{arith}
use lib.ListN.{length, get_or, set}
use lib.Ieee.{Float, nan, binary32, of_bits}
use Rattle.trellis.specs.Lists.{upto, laid, first_place}
use Rattle.isdbs_combination.specs.declared.Combination.TheVariants.{Qpsk1_2, Qpsk2_3, Qpsk3_4, Qpsk5_6, Qpsk7_8}
use Rattle.isdbs_points.specs.Layout.{sent_order}
use Rattle.decode_parts.specs.FilledLaws.{put_one}
use Rattle.decode_block.specs.Blocks.{period_soft}

none : (f : ℕ → Float) (w : List Float) → w ≡ laid (upto f 0) w
unfolding upto
none f w = refl

abbrev zero_f : Float
zero_f = of_bits binary32 0

pub period_1_2 : (softs w : List Float) → 2 ≤ length w
    → set (set w 0 (get_or softs 0 nan)) 1 (get_or softs 1 nan) ≡ laid (upto (period_soft Qpsk1_2 softs) 2) w
unfolding sent_order first_place
period_1_2 softs w h =
    let f = period_soft Qpsk1_2 softs in
    let e0 = none f w in
    let e1 = put_one f 0 (get_or softs 0 nan) w w (omega arith) e0 refl in
    let l1 = set w 0 (get_or softs 0 nan) in
    put_one f 1 (get_or softs 1 nan) l1 w (omega arith) e1 refl

pub period_2_3 : (softs w : List Float) → 8 ≤ length w
    → set (set (set (set (set (set (set (set w 0 (get_or softs 0 nan)) 1 (get_or softs 1 nan)) 2 zero_f) 3 (get_or softs 2 nan)) 4 (get_or softs 3 nan)) 5 (get_or softs 4 nan)) 6 zero_f) 7 (get_or softs 5 nan) ≡ laid (upto (period_soft Qpsk2_3 softs) 8) w
unfolding sent_order first_place
period_2_3 softs w h =
    let f = period_soft Qpsk2_3 softs in
    let e0 = none f w in
    let e1 = put_one f 0 (get_or softs 0 nan) w w (omega arith) e0 refl in
    let l1 = set w 0 (get_or softs 0 nan) in
    let e2 = put_one f 1 (get_or softs 1 nan) l1 w (omega arith) e1 refl in
    let l2 = set l1 1 (get_or softs 1 nan) in
    let e3 = put_one f 2 zero_f l2 w (omega arith) e2 refl in
    let l3 = set l2 2 zero_f in
    let e4 = put_one f 3 (get_or softs 2 nan) l3 w (omega arith) e3 refl in
    let l4 = set l3 3 (get_or softs 2 nan) in
    let e5 = put_one f 4 (get_or softs 3 nan) l4 w (omega arith) e4 refl in
    let l5 = set l4 4 (get_or softs 3 nan) in
    let e6 = put_one f 5 (get_or softs 4 nan) l5 w (omega arith) e5 refl in
    let l6 = set l5 5 (get_or softs 4 nan) in
    let e7 = put_one f 6 zero_f l6 w (omega arith) e6 refl in
    let l7 = set l6 6 zero_f in
    put_one f 7 (get_or softs 5 nan) l7 w (omega arith) e7 refl

pub period_3_4 : (softs w : List Float) → 6 ≤ length w
    → set (set (set (set (set (set w 0 (get_or softs 0 nan)) 1 (get_or softs 1 nan)) 2 zero_f) 3 (get_or softs 2 nan)) 4 (get_or softs 3 nan)) 5 zero_f ≡ laid (upto (period_soft Qpsk3_4 softs) 6) w
unfolding sent_order first_place
period_3_4 softs w h =
    let f = period_soft Qpsk3_4 softs in
    let e0 = none f w in
    let e1 = put_one f 0 (get_or softs 0 nan) w w (omega arith) e0 refl in
    let l1 = set w 0 (get_or softs 0 nan) in
    let e2 = put_one f 1 (get_or softs 1 nan) l1 w (omega arith) e1 refl in
    let l2 = set l1 1 (get_or softs 1 nan) in
    let e3 = put_one f 2 zero_f l2 w (omega arith) e2 refl in
    let l3 = set l2 2 zero_f in
    let e4 = put_one f 3 (get_or softs 2 nan) l3 w (omega arith) e3 refl in
    let l4 = set l3 3 (get_or softs 2 nan) in
    let e5 = put_one f 4 (get_or softs 3 nan) l4 w (omega arith) e4 refl in
    let l5 = set l4 4 (get_or softs 3 nan) in
    put_one f 5 zero_f l5 w (omega arith) e5 refl

pub period_5_6 : (softs w : List Float) → 10 ≤ length w
    → set (set (set (set (set (set (set (set (set (set w 0 (get_or softs 0 nan)) 1 (get_or softs 1 nan)) 2 zero_f) 3 (get_or softs 2 nan)) 4 (get_or softs 3 nan)) 5 zero_f) 6 zero_f) 7 (get_or softs 4 nan)) 8 (get_or softs 5 nan)) 9 zero_f ≡ laid (upto (period_soft Qpsk5_6 softs) 10) w
unfolding sent_order first_place
period_5_6 softs w h =
    let f = period_soft Qpsk5_6 softs in
    let e0 = none f w in
    let e1 = put_one f 0 (get_or softs 0 nan) w w (omega arith) e0 refl in
    let l1 = set w 0 (get_or softs 0 nan) in
    let e2 = put_one f 1 (get_or softs 1 nan) l1 w (omega arith) e1 refl in
    let l2 = set l1 1 (get_or softs 1 nan) in
    let e3 = put_one f 2 zero_f l2 w (omega arith) e2 refl in
    let l3 = set l2 2 zero_f in
    let e4 = put_one f 3 (get_or softs 2 nan) l3 w (omega arith) e3 refl in
    let l4 = set l3 3 (get_or softs 2 nan) in
    let e5 = put_one f 4 (get_or softs 3 nan) l4 w (omega arith) e4 refl in
    let l5 = set l4 4 (get_or softs 3 nan) in
    let e6 = put_one f 5 zero_f l5 w (omega arith) e5 refl in
    let l6 = set l5 5 zero_f in
    let e7 = put_one f 6 zero_f l6 w (omega arith) e6 refl in
    let l7 = set l6 6 zero_f in
    let e8 = put_one f 7 (get_or softs 4 nan) l7 w (omega arith) e7 refl in
    let l8 = set l7 7 (get_or softs 4 nan) in
    let e9 = put_one f 8 (get_or softs 5 nan) l8 w (omega arith) e8 refl in
    let l9 = set l8 8 (get_or softs 5 nan) in
    put_one f 9 zero_f l9 w (omega arith) e9 refl

pub period_7_8 : (softs w : List Float) → 14 ≤ length w
    → set (set (set (set (set (set (set (set (set (set (set (set (set (set w 0 (get_or softs 0 nan)) 1 (get_or softs 1 nan)) 2 zero_f) 3 (get_or softs 2 nan)) 4 zero_f) 5 (get_or softs 3 nan)) 6 zero_f) 7 (get_or softs 4 nan)) 8 (get_or softs 5 nan)) 9 zero_f) 10 zero_f) 11 (get_or softs 6 nan)) 12 (get_or softs 7 nan)) 13 zero_f ≡ laid (upto (period_soft Qpsk7_8 softs) 14) w
unfolding sent_order first_place
period_7_8 softs w h =
    let f = period_soft Qpsk7_8 softs in
    let e0 = none f w in
    let e1 = put_one f 0 (get_or softs 0 nan) w w (omega arith) e0 refl in
    let l1 = set w 0 (get_or softs 0 nan) in
    let e2 = put_one f 1 (get_or softs 1 nan) l1 w (omega arith) e1 refl in
    let l2 = set l1 1 (get_or softs 1 nan) in
    let e3 = put_one f 2 zero_f l2 w (omega arith) e2 refl in
    let l3 = set l2 2 zero_f in
    let e4 = put_one f 3 (get_or softs 2 nan) l3 w (omega arith) e3 refl in
    let l4 = set l3 3 (get_or softs 2 nan) in
    let e5 = put_one f 4 zero_f l4 w (omega arith) e4 refl in
    let l5 = set l4 4 zero_f in
    let e6 = put_one f 5 (get_or softs 3 nan) l5 w (omega arith) e5 refl in
    let l6 = set l5 5 (get_or softs 3 nan) in
    let e7 = put_one f 6 zero_f l6 w (omega arith) e6 refl in
    let l7 = set l6 6 zero_f in
    let e8 = put_one f 7 (get_or softs 4 nan) l7 w (omega arith) e7 refl in
    let l8 = set l7 7 (get_or softs 4 nan) in
    let e9 = put_one f 8 (get_or softs 5 nan) l8 w (omega arith) e8 refl in
    let l9 = set l8 8 (get_or softs 5 nan) in
    let e10 = put_one f 9 zero_f l9 w (omega arith) e9 refl in
    let l10 = set l9 9 zero_f in
    let e11 = put_one f 10 zero_f l10 w (omega arith) e10 refl in
    let l11 = set l10 10 zero_f in
    let e12 = put_one f 11 (get_or softs 6 nan) l11 w (omega arith) e11 refl in
    let l12 = set l11 11 (get_or softs 6 nan) in
    let e13 = put_one f 12 (get_or softs 7 nan) l12 w (omega arith) e12 refl in
    let l13 = set l12 12 (get_or softs 7 nan) in
    put_one f 13 zero_f l13 w (omega arith) e13 refl
