-- What the three encodings leave, by the contract of each.
use mathlib.Core.Path.{◌≡◌, ap, ◌∙◌}
use mathlib.Core.Bool.{true, not}
use mathlib.Core.List.{List}
use Prim.Native.Nat.{ℕ, ◌*◌, ◌≤◌, ◌<◌}
use native.Mathlib.Omega.{arith}
use borrow.Author.Tests.{le-ltb, lt-leb}
use lib.Bits.{bit_xor}
use lib.ListN.{length}
use Rattle.std.specs.Prelude.{Result, Ok, Err, IfOk, MatchResult}
use Rattle.refusal.specs.declared.Refusal.{Refusal}
use Rattle.refusal.specs.Rows.{first_row, answer_of}
use Rattle.refusal.proofs.RowLaws.{none_accepted, err_refuses}
use Rattle.trellis.specs.Lists.{laid}
use Rattle.trellis.specs.Encoded.{coded_bits, last_state}
use Rattle.short_code.specs.declared.Code.{Code}
use Rattle.short_code.specs.Codes.{code_of, good_code, states_of}
use Rattle.short_fec.specs.Rows.{encode_rows}
use Rattle.isdb_fec.specs.declared.conv.ConvEncoder.{ConvEncoder}
use Rattle.overlay_laws.specs.Overlaid.{overlaid}
use Rattle.overlay_laws.specs.OverlaidLaws.{length_overlaid}
use Rattle.overlay_laws.proofs.CodingLaws.{state_sum}
use Rattle.overlay_parts.specs.Calls.{lent, Three, Encodes}

module _ (c : Code) (s r : ℕ) (us vs : List ℕ) where
  -- ---- one encoding
  -- the contract of `encode`
  abbrev pub Said : ℕ → List ℕ → Result ConvEncoder Refusal → List ℕ → List ℕ → Type 0
  Said t ts e out₀ out =
      (answer_of e ≡ first_row (encode_rows c t (length ts) (length out₀)))
      × (IfOk e (λ x. x.state ≡ last_state (code_of c) t ts) × MatchResult e (λ _. out ≡ laid (coded_bits (code_of c) t ts) out₀) (λ _. out ≡ out₀))

  -- with what it asks it is not refused
  taken : (t : ℕ) (ts : List ℕ) (row : Refusal) (out₀ out : List ℕ) → good_code c ≡ true → t < states_of c → 2 * length ts ≤ length out₀ → Said t ts (Err row) out₀ out → ⊥
  taken t ts row out₀ out g h room said =
      let rows = encode_rows c t (length ts) (length out₀) in
      err_refuses {row = row} (said.0 ∙ none_accepted rows (ap not g, (lt-leb (states_of c) t h, (le-ltb (length out₀) (2 * length ts) room, tt))))

  module _ (ws x₀ y₀ z₀ : List ℕ) (p : Three c s r us vs ws (length x₀) (length y₀) (length z₀)) where
    pub first_taken : (row : Refusal) (x : List ℕ) → Said s us (Err row) x₀ x → ⊥
    first_taken row x = taken s us row x₀ x p.good p.first_state p.first_room

    pub second_taken : (row : Refusal) (y : List ℕ) → Said r vs (Err row) y₀ y → ⊥
    second_taken row y = let n = p.long in let room = p.second_room in taken r vs row y₀ y p.good p.second_state (omega arith)

    pub third_taken : (row : Refusal) (z : List ℕ) → Said (bit_xor s r) ws (Err row) z₀ z → ⊥
    third_taken row z said =
        let n = p.long in
        let m = length_overlaid us vs n in
        let room = p.third_room in
        let w = p.sum in
        taken (bit_xor s r) (overlaid us vs) row z₀ z p.good (state_sum c p.good us vs s r n p.first_state p.second_state) (omega arith) (rw w at said)

    pub three : (x y z : List ℕ) (e f g : ConvEncoder) → Said s us (Ok e) x₀ x → Said r vs (Ok f) y₀ y → Said (bit_xor s r) ws (Ok g) z₀ z
        → Encodes c s r us vs (record { first = e; second = f; third = g }) (lent x₀ y₀ z₀) (lent x y z)
    three x y z e f g h k l =
        let w = p.sum in
        let d = rw w at l in
        record { first_end = h.1.0; second_end = k.1.0; third_end = d.1.0; first_are = h.1.1; second_are = k.1.1; third_are = d.1.1 }
