-- The state of a window from its numbers.
use Rattle.std.specs.Prelude.{ℕ}
use Rattle.strain_window.specs.declared.WindowState.{WindowState}

abbrev pub window_of : ℕ → ℕ → ℕ → WindowState
window_of window fill next = record { window = window; fill = fill; next = next }
