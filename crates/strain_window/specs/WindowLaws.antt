-- Laws of totals, greatest sums and rows.
use Rattle.std.specs.Prelude.{◌≡◌, ◌≤◌, ◌<◌}
use Rattle.strain_window.specs.declared.WindowState.{WindowState}

-- the numbers of a state that row 14 allows
pub record Sound (v : WindowState) : Type 0 where
  pub least : 1 ≤ v.window
  pub most : v.window ≤ 256
  pub filled : v.fill ≤ v.window
  pub below : v.next < v.window
  pub level : v.fill < v.window → v.next ≡ v.fill
