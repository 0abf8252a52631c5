-- The library's version.
use Rattle.std.specs.Prelude.{ℕ}

-- "a version": three numbers, the first changed where a caller must change (issue 47, item 1)
abbrev pub major : ℕ
major = 1

abbrev pub minor : ℕ
minor = 0

abbrev pub patch : ℕ
patch = 0
