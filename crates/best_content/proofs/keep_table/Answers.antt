-- `best_content::keep_table` meets its contract.
use mathlib.Core.Path.{◌≡◌, refl, sym, ◌∙◌}
use mathlib.Core.List.{List}
use Prim.Native.Nat.{ℕ}
use native.Mathlib.Omega.{arith}
use lib.ListN.{length}
use lib.Seq.{length-take-le}
use Rattle.std.proofs.lemmas.Grind.{same_number_lists}
use Rattle.trellis.specs.Lists.{upto}
use Rattle.trellis.specs.ListLaws.{get_d_upto, length_upto}
use Rattle.best_grid.specs.Leading.{seq}
use Rattle.best_content.proofs.keep_table.Goals as goal

-- a table by its states
by_states : (d : List ℕ) → length d ≡ 64 → d ≡ upto (seq d) 64
by_states d l = same_number_lists d (upto (seq d) 64) (l ∙ sym (length_upto (seq d) 64)) (λ k h. sym (get_d_upto (seq d) 0 64 k (omega arith)))

pub copy_from_slice-requires : goal.copy_from_slice-requires
copy_from_slice-requires c = length-take-le 64 c.args.tables.now (omega arith) ∙ sym c.told-d

pub returns : goal.returns
returns c =
    rw (c.copy_from_slice.ensures.after, length_upto (seq c.args.d.now) 64, ← by_states c.args.d.now c.told-d) refl
