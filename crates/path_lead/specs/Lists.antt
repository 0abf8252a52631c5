-- The entries of the new path values and the bits of a decision word.
use Rattle.std.specs.Prelude.{◌≡◌, List, ℕ, ◌*◌, ◌/◌, ◌%◌, ◌^◌, ◌<◌, get_or, Float}
use Rattle.std.specs.Float.Ieee.{nan}
use Rattle.trellis.specs.Lists.{bit}
use Rattle.trellis.specs.ListLaws.{get_d_upto, packed_bit}
use Rattle.trellis.specs.Step.{Step, Tie, wins, next, nexts, word}

module _ (half : ℕ) (out : ℕ → ℕ → ℕ) (t : Tie) (pm : List Float) (x : Step) (k : ℕ) (h : k < 2 * half) where
  pub get_d_nexts : get_or (nexts half out t pm x) k nan ≡ next half out t pm x k
  unfolding nexts
  get_d_nexts = get_d_upto (next half out t pm x) nan (2 * half) k h

  pub word_bit_lem : word half out t pm x / 2 ^ k % 2 ≡ bit (wins half out t pm x k)
  unfolding word
  word_bit_lem = packed_bit (wins half out t pm x) (2 * half) k h
