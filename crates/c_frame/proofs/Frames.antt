-- What `decode_frame` answers, as a number.
use mathlib.Core.Path.{◌≡◌, sym, ◌∙◌, ap}
use mathlib.Core.List.{List, [], ◌∷◌}
use Prim.Native.Nat.{ℕ}
use lib.ListN.{get_or}
use Rattle.refusal.specs.Rows.{Answer, Accepted, number_of}
use Rattle.refusal.proofs.RowLaws.{said_some, said_none}
use Rattle.isdbs_tables.specs.declared.Table.{Table}
use Rattle.isdbs_plan.specs.RunsOf.{frame_steps, load_bytes}
use Rattle.isdbs_phy.specs.declared.demod.FrameDecoded.{FrameDecoded}
use Rattle.refusal.specs.declared.Refusal.{Refusal}
use Rattle.std.specs.Prelude.{Result, Ok, Err}
use Rattle.isdbs_phy.specs.DecodeRows.{frame_said, frame_answer}

module _ (a : Answer) (t : Table) (sum : ℕ) (r : Result FrameDecoded Refusal) (e : frame_said r ≡ frame_answer a t sum) where
  pub decoded : (f : FrameDecoded) → r ≡ Ok f → (a ≡ Accepted) × (f.strained ≡ sum)
  decoded f q =
      let s = said_some a (load_bytes t ∷ frame_steps t ∷ sum ∷ []) 0 f.bytes (f.steps ∷ f.strained ∷ []) (sym (ap frame_said q) ∙ e) in
      (s.0, sym (ap (λ (l : List ℕ). get_or l 2 0) s.2))

  pub refused : (row : Refusal) → r ≡ Err row → (number_of (Err row) ≡ number_of a) × (a ≡ Accepted → ⊥)
  refused row q = said_none a (load_bytes t) (frame_steps t ∷ sum ∷ []) (number_of (Err row)) (sym (ap frame_said q) ∙ e)
