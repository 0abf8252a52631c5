-- The coded tail of a sync word: its last 10 bits after the inner code, X then Y of each. The 6 bits before them fix the state, so the start does not matter.
--
use Rattle.std.specs.Prelude.{ℕ, zero, suc, ◌+◌, ◌*◌}
use Rattle.trellis.specs.Lists.{upto}
use Rattle.isdbs_points.specs.Layout.{word_bit}
use Rattle.isdbs_points.specs.Frame.{label_at}

-- the coded bits of n steps after the first 6, high bit first
unfoldable pub tail_of : ℕ → ℕ → ℕ
tail_of w zero = 0
tail_of w (suc n) = 4 * tail_of w n + label_at 0 (upto (word_bit w) 16) (6 + n)

abbrev pub coded_tail : ℕ → ℕ
coded_tail w = tail_of w 10
