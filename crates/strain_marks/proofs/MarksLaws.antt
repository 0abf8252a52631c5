-- A mark says whether its step is strained.
use Rattle.std.specs.Prelude.{◌≡◌, List, get_or, Float}
use Prim.Native.Nat.{ℕ, zero, suc, ◌+◌, ◌*◌, ◌/◌, ◌%◌, ◌^◌, ◌<◌, ◌≤◌}
use Rattle.std.proofs.Common.{arith, mod-lt, lit<}
use Rattle.trellis.specs.Lists.{bit}
use Rattle.trellis.specs.Code.{isdb, output, label, state_at}
use Rattle.isdbs_tables.specs.declared.Table.{Table}
use Rattle.isdbs_points.specs.Frame.{label_at}
use Rattle.isdbs_metrics.specs.Reading.{Received, metrics_at}
use Rattle.strain_marks.specs.CountsLaws.{bit_few}
use Rattle.strain_marks.specs.Strain.{strained_by, strained_at}
use Rattle.strain_marks.specs.Marks.{mark_of, frame_mark, marked}
use Rattle.trellis.specs.Isdb
use Rattle.trellis.proofs.RunLaws.{label_under}

-- the digits of a number of four
module _ (x y z w : ℕ) (X : x ≤ 1) (Y : y ≤ 1) (Z : z ≤ 1) (W : w ≤ 1) where
  digit_0 : (x + 2 * y + 4 * z + 8 * w) / 1 % 2 ≡ x
  digit_0 = omega arith

  digit_1 : (x + 2 * y + 4 * z + 8 * w) / 2 % 2 ≡ y
  digit_1 = omega arith

  digit_2 : (x + 2 * y + 4 * z + 8 * w) / 4 % 2 ≡ z
  digit_2 = omega arith

  digit_3 : (x + 2 * y + 4 * z + 8 * w) / 8 % 2 ≡ w
  digit_3 = omega arith

  four_few : x + 2 * y + 4 * z + 8 * w < 16
  four_few = omega arith

module _ (m : List Float) where
  abbrev at : ℕ → ℕ
  at c = bit (strained_by m c)

  abbrev few : (c : ℕ) → at c ≤ 1
  few c = bit_few (strained_by m c)

  -- bit c of a mark
  pub mark_bit : (c : ℕ) → c < 4 → mark_of m / 2 ^ c % 2 ≡ bit (strained_by m c)
  unfolding mark_of
  mark_bit zero l = digit_0 (at 0) (at 1) (at 2) (at 3) (few 0) (few 1) (few 2) (few 3)
  mark_bit (suc zero) l = digit_1 (at 0) (at 1) (at 2) (at 3) (few 0) (few 1) (few 2) (few 3)
  mark_bit (suc (suc zero)) l = digit_2 (at 0) (at 1) (at 2) (at 3) (few 0) (few 1) (few 2) (few 3)
  mark_bit (suc (suc (suc zero))) l = digit_3 (at 0) (at 1) (at 2) (at 3) (few 0) (few 1) (few 2) (few 3)
  mark_bit (suc (suc (suc (suc c)))) l = absurd (omega arith)

  -- a mark has four bits
  pub mark_few : mark_of m < 16
  unfolding mark_of
  mark_few = four_few (at 0) (at 1) (at 2) (at 3) (few 0) (few 1) (few 2) (few 3)

-- step k of a frame whose marks are kept
pub marked_is : (t : Table) (r : Received) (s : ℕ) (us ms : List ℕ) (k : ℕ) → get_or ms k 0 ≡ frame_mark t r k → marked ms s us k ≡ bit (strained_at t r s us k)
marked_is t r s us ms k e = rw e (mark_bit (metrics_at t r k) (label_at s us k) (label_under isdb (get_or us k 0) (state_at 32 s us k)))
