-- What the C call leaves, from what `mend` leaves and its answer's number.
use mathlib.Core.Path.{◌≡◌, refl, sym, ◌∙◌}
use mathlib.Core.List.{List}
use Prim.Native.Nat.{ℕ}
use native.Mathlib.Omega.{arith}
use Rattle.std.specs.Prelude.{Ok, Err}
use Rattle.refusal.specs.declared.Refusal.{Refusal}
use Rattle.refusal.specs.Rows.{number_of, Unmendable}
use Rattle.refusal.proofs.RowLaws.{zero_accepted, err_refuses, same_number}
use Rattle.mend.specs.Calls.{Called}
use Rattle.c_mend.specs.Calls.{Left}

module _ (s e : ℕ) (bits decisions₀ decisions out₀ out list₀ list : List ℕ) where
  pub left_refused : (row : Refusal) → Called s e bits (Err row) decisions₀ decisions out₀ out list₀ list → (n : ℕ) → n ≡ number_of (Err row)
      → (count : ℕ) → Left s e bits n count count decisions₀ decisions out₀ out list₀ list
  left_refused row call n is count =
      let k = call.leaves in
      record {
        mends = λ z. absurd (err_refuses {row = row} (zero_accepted (Err row) (sym is ∙ z)));
        keeps = λ z. (refl, k.decisions_is, k.out_is, k.list_is);
        none = λ z. call.none (same_number (Err row) Unmendable (sym is ∙ z));
      }

  pub left_accepted : (changed : ℕ) → Called s e bits (Ok changed) decisions₀ decisions out₀ out list₀ list
      → (count₀ : ℕ) → Left s e bits 0 count₀ changed decisions₀ decisions out₀ out list₀ list
  left_accepted changed call count₀ =
      record {
        mends = λ y. call.leaves;
        keeps = λ y. absurd (y refl);
        none = λ y. absurd (omega arith);
      }
