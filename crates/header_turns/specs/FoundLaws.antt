-- "of all places from `from` on at which a frame still fits, the first with the greatest A A + B B": the place that a search finds is it.
use Rattle.std.specs.Prelude.{List, ℕ, ◌+◌, ◌<◌, ◌≤◌, length, Float}
use Rattle.std.proofs.Common.{arith}
use Rattle.isdbs_frame.specs.Frame.{frame_symbols}
use Rattle.header_sync.specs.Search.{peak_at, further_of, found_at}
use Rattle.header_sync.proofs.SearchLaws.{first_greatest}

-- p is such a place; at none of them is A A + B B greater, and at each before p it is less
pub record FirstFound (re im : List Float) (from p : ℕ) : Type 0 where
  pub late : from ≤ p
  pub real : p + frame_symbols ≤ length re
  pub imaginary : p + frame_symbols ≤ length im
  pub greatest : (q : ℕ) → from ≤ q → q + frame_symbols ≤ length re → q + frame_symbols ≤ length im → peak_at re im q ≤ peak_at re im p
  pub first : (q : ℕ) → from ≤ q → q < p → peak_at re im q < peak_at re im p

pub found_first : (re im : List Float) (from : ℕ) → from + frame_symbols ≤ length re → from + frame_symbols ≤ length im → FirstFound re im from (found_at re im from)
found_first re im from d e =
    let f : ℕ → ℕ = λ p. peak_at re im p in
    let g = first_greatest f from (further_of (length re) (length im) from) in
    let x : found_at re im from ≤ from + further_of (length re) (length im) from = g.early in
    record {
      late = g.late;
      real = omega arith;
      imaginary = omega arith;
      greatest = λ q h k l. g.greatest q h (omega arith);
      first = g.first;
    }
