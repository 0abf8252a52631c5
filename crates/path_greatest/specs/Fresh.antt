-- The path values of a fresh decoder, and the states in which a path may start, by what is known of the start; n is the number of states.
use Rattle.std.specs.Prelude.{◌≡◌, List, ℕ, ◌%◌, Float}
use Rattle.trellis.specs.Run.{start_at, start_unknown}
use Rattle.path_greatest.specs.declared.Start.{Start}
use Rattle.path_greatest.specs.declared.Start.TheVariants.{Given, Unknown}

-- document 01: "Path values start 0 at the given state", and "Unknown start sets all 64 path values to 0"
abbrev pub start_values : ℕ → Start → List Float
start_values n (Given s) = start_at n s
start_values n Unknown = start_unknown n

-- document 01: "the given state (mod 64)"; document 02, P7: "decoder start .. states are taken mod 2^(length-1)"
abbrev pub StartsIn : ℕ → Start → ℕ → Type 0
StartsIn n (Given s) z = z ≡ s % n
StartsIn n Unknown z = Unit {0}
