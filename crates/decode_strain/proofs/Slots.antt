-- A slot more of a run.
use mathlib.Core.Path.{◌≡◌, refl, sym, ◌∙◌}
use mathlib.Core.List.{List}
use Prim.Native.Nat.{ℕ, ◌+◌, ◌-◌, ◌*◌, ◌<◌, ◌≤◌}
use native.Mathlib.Nat.{mul-zero, mul-suc, mul-le-mul_left, mul-le-mul}
use native.Mathlib.Numerals.{add-one}
use native.Mathlib.Omega.{arith}
use lib.ListN.{length, take, drop, set, length-drop}
use lib.Seq.{get_or-drop}
use Rattle.trellis.specs.Lists.{upto}
use Rattle.trellis.specs.Code.{state_at}
use Rattle.isdbs_points.specs.StateLaws.{label_shift}
use Rattle.isdbs_metrics.specs.Steps.{Bits}
use Rattle.decode_bytes.specs.PackingLaws.{state_more, byte_more}
use Rattle.isdbs_metrics.specs.FrameRunLaws.{tail_is}
use Rattle.strain_marks.specs.Counts.{summed}
use Rattle.strain_marks.specs.CountsLaws.{summed_same, summed_parts, summed_few}
use Rattle.strain_marks.specs.Marks.{marked}
use Rattle.decode_strain.specs.declared.Slot.{Slot}
use Rattle.decode_strain.specs.declared.RunCount.{RunCount}
use Rattle.decode_strain.specs.Counted.{Counted}
use Rattle.decode_strain.specs.Pieces.{run_strain, RunCounted}
use Rattle.decode_strain.specs.CountingLaws.{marked_few}

abbrev pub run_count : ℕ → ℕ → RunCount
run_count sum state = record { sum = sum; state = state }

-- slot v of n lies within the run's steps
pub slot_fits : (w v n : ℕ) → v < n → w * v + w ≤ w * n
slot_fits w v n h = rw (mul-suc w v) at (mul-le-mul_left w h)

-- a run has few steps
pub run_steps_few : (w n : ℕ) → w ≤ 1624 → n ≤ 48 → w * n ≤ 77952
run_steps_few w n g h = mul-le-mul g h

pub next_slot : (w v : ℕ) → w * (v + 1) ≡ w * v + w
next_slot w v = rw (add-one v) (mul-suc w v)

-- what is known of slot v of n
pub record Within (w v n : ℕ) : Type 0 where
  pub fits : w * v + w ≤ w * n
  pub few : w * n ≤ 77952

pub within : (w v n : ℕ) → w ≤ 1624 → n ≤ 48 → v < n → Within w v n
within w v n g h l = record { fits = slot_fits w v n l; few = run_steps_few w n g h }

-- what stands from a place of a slice on
abbrev pub from : ℕ → List ℕ → List ℕ
from step l = take (length l - step) (drop step l)

-- slot v of n lies within what stands from its first step on
pub marks_from : (w v n : ℕ) (ms : List ℕ) → Within w v n → w * n ≤ length ms → w ≤ length (from (w * v) ms)
marks_from w v n ms q g =
    let f = q.fits in
    let d = length-drop (w * v) ms in
    rw (tail_is (w * v) ms) (omega arith)

pub bits_from_lem : (w v n : ℕ) (us : List ℕ) → Within w v n → w * n ≤ length us → Bits us (w * n) → Bits (from (w * v) us) w
bits_from_lem w v n us q g b =
    let f = q.fits in
    rw (tail_is (w * v) us) (λ i h. rw (get_or-drop (w * v) us i 0) (b (w * v + i) (omega arith)))

module _ (w : ℕ) (ms us : List ℕ) (start : ℕ) (counts₀ : List ℕ) where
  pub run_first : start < 64 → RunCounted w ms us start 0 (run_count 0 start) counts₀ counts₀
  unfolding summed state_at upto
  run_first l = record { small = l; state_is = rw (mul-zero w); sum_is = refl; counts_are = refl }

  pub run_few : (n : ℕ) (r : RunCount) (counts : List ℕ) → RunCounted w ms us start n r counts₀ counts → r.sum ≤ w * n
  run_few n r counts h = rw (h.sum_is, summed_parts (marked ms start us) w n) (summed_few (marked ms start us) (w * n) (marked_few ms start us))

  slot_is : (v state : ℕ) → state ≡ state_at 32 start us (w * v) → summed (marked (drop (w * v) ms) state (drop (w * v) us)) w ≡ run_strain w ms start us v
  slot_is v state e =
      summed_same (marked (drop (w * v) ms) state (drop (w * v) us)) (λ i. marked ms start us (w * v + i)) w
      (λ i l. rw (get_or-drop (w * v) ms i 0, e, ← label_shift start us (w * v) (drop (w * v) us) w (λ j g. sym (get_or-drop (w * v) us j 0)) i l))

  pub run_next : (v sum state : ℕ) (counts : List ℕ) (r : Slot) → v < length counts₀ → RunCounted w ms us start v (run_count sum state) counts₀ counts
      → Counted (from (w * v) ms) (from (w * v) us) state w r
      → RunCounted w ms us start (v + 1) (run_count (sum + r.count) r.state) counts₀ (set counts v r.count)
  unfolding summed
  run_next v sum state counts r room h own =
      let k : Counted (drop (w * v) ms) (drop (w * v) us) state w r = rw (tail_is (w * v) ms, tail_is (w * v) us) at own in
      let e : r.count ≡ run_strain w ms start us v = k.count_is ∙ slot_is v state h.state_is in
      record {
        small = k.small;
        state_is = state_more start us (w * v) w (w * (v + 1)) state r.state (next_slot w v) h.state_is k.state_is;
        sum_is = rw (add-one v, e, h.sum_is);
        counts_are = byte_more (run_strain w ms start us) v r.count counts counts₀ room h.counts_are e;
      }
