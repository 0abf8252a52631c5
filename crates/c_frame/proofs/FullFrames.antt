-- What a call on full frames leaves in a lent slice, by the number of its answer.
use mathlib.Core.Path.{◌≡◌, sym, ◌∙◌, ap}
use mathlib.Core.List.{List}
use Prim.Native.Nat.{ℕ}
use lib.Ieee.{Float}
use Rattle.refusal.specs.Rows.{Answer, number_of}
use Rattle.trellis.specs.Lists.{laid}
use Rattle.full_frame_parts.specs.Rows.{leaves}
use Rattle.c_answers.specs.Answers.{left}

pub by_number : (n : ℕ) (a : Answer) → n ≡ number_of a → {x : List Float} (new old : List Float) → x ≡ leaves a new old → x ≡ left n (laid new old) old
by_number n a e new old h = h ∙ ap (λ (k : ℕ). left k (laid new old) old) (sym e)
