-- The C call's contract follows from the library's.
use mathlib.Core.Path.{◌≡◌, refl, sym, ◌∙◌, ap}
use mathlib.Core.Logic.{◌⊎◌, inl, inr}
use mathlib.Core.Bool.{Bool}
use mathlib.Core.List.{List, [], ◌∷◌}
use Prim.Native.Nat.{ℕ}
use native.Mathlib.Omega.{arith}
use lib.ListN.{length}
use lib.Ieee.{Float}
use Rattle.refusal.specs.Rows.{Accepted, number_of, first_row, Either, Said, answer_of}
use Rattle.refusal.proofs.RowLaws.{zero_accepted, decided, says_number}
use Rattle.isdbs_tables.specs.declared.Table.{Table}
use Rattle.isdbs_plan.specs.RunsOf.{load_bytes}
use Rattle.isdbs_points.specs.declared.Mapping.{Mapping}
use Rattle.std.specs.Prelude.{Result, Ok, Err}
use Rattle.refusal.specs.declared.Refusal.{Refusal}
use Rattle.wanted_load.specs.Rows.{earlier_rows, wanted_rows}
use Rattle.wanted_load.specs.Found.{load_said, Answered, Outcome, found, none, Turned}
use Rattle.c_wanted.specs.Calls.{AnsweredC, Left}

said_number : (f : Result ℕ Refusal) → (load_said f).0 ≡ number_of (answer_of f)
said_number (Ok n) = refl
said_number (Err row) = refl

module _ (t : Table) (m : Mapping) (first : Bool) (re im : List Float) (bytes₀ bytes : List ℕ) (f : Result ℕ Refusal) (r : ℕ) (e : r ≡ (load_said f).0) where
  pub answered_c : Answered t m first re im (length bytes₀) f → AnsweredC t m first re im (length bytes₀) r
  answered_c a b h = e ∙ ap (λ (s : Said). s.0) (a b h) ∙ says_number (first_row (wanted_rows t (length re) (length im) (length bytes₀) b)) (load_bytes t ∷ [])

  of_outcome : Outcome t m first re im f bytes₀ bytes → Left t m first re im r bytes₀ bytes
  of_outcome (found q load w b) = record { accepted = λ z. (load, w, b); refused = λ n. absurd (n (e ∙ ap (λ (x : Result ℕ Refusal). (load_said x).0) q)) }
  of_outcome (none q u b) = record { accepted = λ z. absurd (let x : 0 ≡ 13 = sym z ∙ e ∙ ap (λ (x : Result ℕ Refusal). (load_said x).0) q in omega arith); refused = λ n. b }

  pub left_c : Either (first_row (earlier_rows t (length re) (length im) (length bytes₀))) (Outcome t m first re im f bytes₀ bytes) (Turned (first_row (earlier_rows t (length re) (length im) (length bytes₀))) f bytes₀ bytes)
      → Left t m first re im r bytes₀ bytes
  left_c c = go (decided (first_row (earlier_rows t (length re) (length im) (length bytes₀))))
    where
      go : (first_row (earlier_rows t (length re) (length im) (length bytes₀)) ≡ Accepted) ⊎ (first_row (earlier_rows t (length re) (length im) (length bytes₀)) ≡ Accepted → ⊥) → Left t m first re im r bytes₀ bytes
      go (inl a) = of_outcome (c.0 a)
      go (inr n) =
          let k = c.1 n in
          record {
            accepted = λ z. absurd (n (zero_accepted (first_row (earlier_rows t (length re) (length im) (length bytes₀))) (sym (said_number f ∙ ap number_of k.answer) ∙ sym e ∙ z)));
            refused = λ q. k.kept;
          }
