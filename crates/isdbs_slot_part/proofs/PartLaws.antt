-- Laws of the rows of a slot part, and of the part.
use mathlib.Core.Path.{◌≡◌, refl, sym, ◌∙◌}
use mathlib.Core.Bool.{true, false, not}
use mathlib.Core.List.{List, [], ◌∷◌, ◌++◌}
use Prim.Native.Nat.{ℕ, zero, suc, ◌+◌, ◌-◌, ◌*◌, ◌≤◌, ◌<◌}
use native.Mathlib.Omega.{arith}
use lib.Dec.{leb, eqb}
use lib.ListN.{length, get_or, take, drop, length-take, length-drop}
use lib.Seq.{get_or-take, get_or-drop, take-add}
use borrow.Author.Tests.{leb-false, eqb-true, not-false, le-leb, lt-leb, eq-eqb, ne_eqb}
use Rattle.refusal.specs.Rows.{Accepted, Position, Length, accepted, Row, first_row}
use Rattle.refusal.proofs.RowLaws.{accepted_is, refused_is, passed}
use Rattle.isdbs_tables.specs.declared.Table as declared
use Rattle.isdbs_tables.specs.Tables.{table_answer}
use Rattle.isdbs_tables.proofs.TableLaws.{then_rows, before_rows, then_accepted}
use Rattle.isdbs_plan.specs.RunsOf.{valid_total, load_bytes}
use Rattle.isdbs_slot_part.specs.SlotPart.{slot_part_answer, slot_part}

-- ---- the part

-- what an accepted part rests on
pub record Part (bytes : List ℕ) (t : declared.Table) (k : ℕ) : Type 0 where
  pub below : k < valid_total t
  pub whole : length bytes ≡ load_bytes t

-- its rows below those of the table
abbrev part_rows : List ℕ → declared.Table → ℕ → List Row
part_rows bytes t k = (Position, leb (valid_total t) k) ∷ (Length, not (eqb (length bytes) (load_bytes t))) ∷ []

pub part_whole : (bytes : List ℕ) (t : declared.Table) (k : ℕ) → accepted (slot_part_answer bytes t k) ≡ true → Part bytes t k
part_whole bytes t k h =
    let e = then_accepted t (part_rows bytes t k) (accepted_is (slot_part_answer bytes t k) h) in
    let p = passed (part_rows bytes t k) tt e.1 in
    record { below = leb-false (valid_total t) k (p Position); whole = eqb-true (length bytes) (load_bytes t) (not-false (eqb (length bytes) (load_bytes t)) (p Length)) }

-- the answer by its rows
module _ (bytes : List ℕ) (t : declared.Table) (k : ℕ) where
  pub by_table : accepted (table_answer t) ≡ false → slot_part_answer bytes t k ≡ table_answer t
  by_table h = before_rows t (part_rows bytes t k) (refused_is (table_answer t) h)

  module _ (h : accepted (table_answer t) ≡ true) where
    by_rest : slot_part_answer bytes t k ≡ first_row (part_rows bytes t k)
    by_rest = then_rows t (part_rows bytes t k) (accepted_is (table_answer t) h)

    pub by_position : valid_total t ≤ k → slot_part_answer bytes t k ≡ Position
    by_position l = by_rest ∙ rw (le-leb (valid_total t) k l)

    pub by_length : k < valid_total t → (length bytes ≡ load_bytes t → ⊥) → slot_part_answer bytes t k ≡ Length
    by_length l n = by_rest ∙ rw (lt-leb (valid_total t) k l, ne_eqb (length bytes) (load_bytes t) n)

    pub by_none : k < valid_total t → length bytes ≡ load_bytes t → slot_part_answer bytes t k ≡ Accepted
    by_none l e = by_rest ∙ rw (lt-leb (valid_total t) k l, eq-eqb (length bytes) (load_bytes t) e)

module _ (bytes : List ℕ) (t : declared.Table) (k : ℕ) (h : accepted (slot_part_answer bytes t k) ≡ true) where
  pub part_is : slot_part bytes t k ≡ take 203 (drop (203 * k) bytes)
  part_is = rw h

  -- it has 203 bytes, so that only a refused part is empty
  pub part_length : length (slot_part bytes t k) ≡ 203
  part_length =
      let p = part_whole bytes t k h in
      rw part_is (simp (length-take, length-drop) (omega arith))

  -- byte i of it is byte 203 k + i of the load
  pub part_at : (i : ℕ) → i < 203 → get_or (slot_part bytes t k) i 0 ≡ get_or bytes (203 * k + i) 0
  part_at i l = rw (part_is, get_or-take 203 (drop (203 * k) bytes) i 0 l, get_or-drop (203 * k) bytes i 0)

-- the parts of slots 0 to n - 1 one after the other
unfoldable pub parts : List ℕ → declared.Table → ℕ → List ℕ
parts bytes t zero = []
parts bytes t (suc n) = parts bytes t n ++ slot_part bytes t n

-- the parts of a load are the load, cut in 203s
pub parts_are : (bytes : List ℕ) (t : declared.Table) → ((k : ℕ) → k < valid_total t → accepted (slot_part_answer bytes t k) ≡ true) →
    (n : ℕ) → n ≤ valid_total t → parts bytes t n ≡ take (203 * n) bytes
unfolding parts
parts_are bytes t a zero h = refl
parts_are bytes t a (suc n) h =
    let e : 203 * suc n ≡ 203 * n + 203 = omega arith in
    rw (parts_are bytes t a n (omega arith), part_is bytes t n (a n (omega arith)), e) (sym (take-add (203 * n) 203 bytes))
