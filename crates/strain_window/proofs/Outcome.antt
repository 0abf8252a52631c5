-- How a push's outcome follows from its rows.
use mathlib.Core.Path.{◌≡◌, refl, sym}
use mathlib.Core.Bool.{Bool, false}
use mathlib.Core.List.{List}
use Prim.Native.Nat.{ℕ, ◌≤◌}
use borrow.Author.Tests.{le-ltb}
use lib.ListN.{length}
use Rattle.std.specs.Prelude.{Ok, Err}
use Rattle.refusal.specs.declared.Refusal.{Refusal}
use Rattle.refusal.specs.Rows.{first_row}
use Rattle.refusal.proofs.RowLaws.{none_accepted}
use Rattle.strain_window.specs.declared.WindowState.{WindowState}
use Rattle.strain_window.specs.declared.Pushed.{Pushed}
use Rattle.strain_window.specs.Rows.{bad_window, push_rows}
use Rattle.strain_window.specs.Calls.{Pushes, Called}

pub turned_back : (row : Refusal) (v : WindowState) (clear : Bool) (sum : ℕ) (kept : List ℕ) → Err row ≡ first_row (push_rows v sum kept) → Called v clear sum kept (Err row) kept
turned_back row v clear sum kept e = record { answers = e; leaves = refl }

pub carried_out : {v : WindowState} {clear : Bool} {sum : ℕ} {kept₀ kept : List ℕ} {r : Pushed} → bad_window v sum kept₀ ≡ false → v.window ≤ length kept₀
    → Pushes v clear sum r kept₀ kept → Called v clear sum kept₀ (Ok r) kept
carried_out {v} {clear} {sum} {kept₀} {kept} {r} o room p =
    record { answers = sym (none_accepted (push_rows v sum kept₀) (o, (le-ltb (length kept₀) v.window room, tt))); leaves = p }
