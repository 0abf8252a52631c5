-- What `mend` answers and leaves. Request P13, "Mending stored coded stretches".
use Rattle.std.specs.Prelude.{◌≡◌, Bool, List, ℕ, ◌%◌, length, replicate, Result, MatchResult}
use Rattle.refusal.specs.declared.Refusal.{Refusal}
use Rattle.refusal.specs.Rows.{first_row, answer_of, Unmendable}
use Rattle.trellis.specs.Lists.{laid}
use Rattle.mend_distance.specs.Stretches.{sent_from, changed, WithinFour}
use Rattle.mend.specs.Rows.{mend_rows}
use Rattle.trellis.specs.Isdb.{frame_words}
use Rattle.trellis.specs.Isdb

-- what an accepted call leaves. "return the coded stretch that differs in at most four bits, with the changed positions in rising order"; "the first 4,224 decision words are 0, and
-- list places past the changed positions are as before"
pub record Mends (s e : ℕ) (bits : List ℕ) (count : ℕ) (decisions₀ decisions out₀ out list₀ list : List ℕ) : Type 0 where
  pub inputs : List ℕ
  pub within : WithinFour (s % Isdb.states) (e % Isdb.states) bits inputs
  pub out_is : out ≡ laid (sent_from (s % Isdb.states) inputs) out₀
  pub count_is : count ≡ length (changed 0 (sent_from (s % Isdb.states) inputs) bits)
  pub list_is : list ≡ laid (changed 0 (sent_from (s % Isdb.states) inputs) bits) list₀
  pub decisions_is : decisions ≡ laid (replicate frame_words 0) decisions₀

-- what a refused one leaves
pub record Unchanged (decisions₀ decisions out₀ out list₀ list : List ℕ) : Type 0 where
  pub decisions_is : decisions ≡ decisions₀
  pub out_is : out ≡ out₀
  pub list_is : list ≡ list₀

-- A call: its answer, what it leaves, and "15 if and only if no coded stretch between those states lies within four bits". `far` is row 15's condition. Where no row above it holds, the
-- answer is 15 or accepted by it; then `none` says that there is no such stretch, and `leaves` names one.
pub record Called (s e : ℕ) (bits : List ℕ) (r : Result ℕ Refusal) (decisions₀ decisions out₀ out list₀ list : List ℕ) : Type 0 where
  pub far : Bool
  pub answers : answer_of r ≡ first_row (mend_rows bits (length decisions₀) (length out₀) (length list₀) far)
  pub leaves : MatchResult r (λ count. Mends s e bits count decisions₀ decisions out₀ out list₀ list) (λ _. Unchanged decisions₀ decisions out₀ out list₀ list)
  pub none : answer_of r ≡ Unmendable → (us : List ℕ) → WithinFour (s % Isdb.states) (e % Isdb.states) bits us → ⊥
