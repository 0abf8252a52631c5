-- What an accepted call has, and the theorem of what it leaves.
use mathlib.Core.Path.{◌≡◌, sym, ap, ◌∙◌}
use mathlib.Core.Bool.{true, ◌||◌}
use mathlib.Core.List.{List}
use Prim.Native.Nat.{ℕ, ◌-◌, ◌*◌, ◌≤◌, ◌<◌}
use native.Mathlib.Omega.{arith}
use borrow.Author.Tests.{ltb-false, leb-false, eqb-true, not-false}
use lib.Bits.{bit_xor}
use lib.Dec.{eqb, leb, ltb}
use lib.ListN.{length, take}
use Rattle.std.specs.Prelude.{refl, Result, Ok, Err, IsOk}
use Rattle.std.proofs.Common.{true≢false}
use Rattle.refusal.specs.declared.Refusal.{Refusal}
use Rattle.refusal.specs.Rows.{first_row}
use Rattle.refusal.proofs.RowLaws.{neither, passed}
use Rattle.refusal.specs.Rows as answer
use Rattle.trellis.specs.Lists.{laid}
use Rattle.trellis.specs.Encoded.{coded_bits, last_state}
use Rattle.trellis.specs.LaidLaws.{take_laid}
use Rattle.short_code.specs.declared.Code.{Code}
use Rattle.short_code.specs.Codes.{code_of, good_code, states_of}
use Rattle.overlay_laws.specs.Overlaid.{overlaid}
use Rattle.overlay_laws.specs.OverlaidLaws.{length_overlaid}
use Rattle.overlay_laws.proofs.CodingLaws.{length_outputs, code_overlays}
use Rattle.overlay_parts.specs.declared.Encodings.{Encodings}
use Rattle.overlay_parts.specs.Rows.{overlay_rows}
use Rattle.overlay_parts.specs.Calls.{Lent, Three, Encodes, Overlays}

-- the encodings that are there
pub made : (m : Result Encodings Refusal) → IsOk m → (e : Encodings) × (m ≡ Ok e)
made (Ok e) h = (e, refl)
made (Err row) h = absurd (true≢false (sym h))

-- ---- the rows
pub record Enough (c : Code) (s r n m bits x y z : ℕ) : Type 0 where
  pub good : good_code c ≡ true
  pub first_state : s < states_of c
  pub second_state : r < states_of c
  pub long : n ≡ m
  pub bits_room : n ≤ bits
  pub first_room : 2 * n ≤ x
  pub second_room : 2 * n ≤ y
  pub third_room : 2 * n ≤ z

pub enough : (c : Code) (s r n m bits x y z : ℕ) → answer.Accepted ≡ first_row (overlay_rows c s r n m bits x y z) → Enough c s r n m bits x y z
enough c s r n m bits x y z e =
    let p = passed (overlay_rows c s r n m bits x y z) tt (sym e) in
    let states = neither (leb (states_of c) s) (leb (states_of c) r) (p answer.State) in
    let one = neither (ltb bits n) (ltb x (2 * n) || (ltb y (2 * n) || ltb z (2 * n))) (p answer.Space) in
    let two = neither (ltb x (2 * n)) (ltb y (2 * n) || ltb z (2 * n)) one.1 in
    let three = neither (ltb y (2 * n)) (ltb z (2 * n)) two.1 in
    record {
      good = not-false (good_code c) (p answer.Code);
      first_state = leb-false (states_of c) s states.0;
      second_state = leb-false (states_of c) r states.1;
      long = eqb-true n m (not-false (eqb n m) (p answer.Length));
      bits_room = ltb-false bits n one.0;
      first_room = ltb-false x (2 * n) two.0;
      second_room = ltb-false y (2 * n) three.0;
      third_room = ltb-false z (2 * n) three.1;
    }

-- a list of n elements at the front
front : (a w : List ℕ) (n : ℕ) → length a ≡ n → take n (laid a w) ≡ a
front a w n e = ap (λ (k : ℕ). take k (laid a w)) (sym e) ∙ take_laid a w

module _ (c : Code) (s r : ℕ) (us vs : List ℕ) where
  -- the exclusive-or is laid, so the encodings have what they ask
  pub asks : (ws₀ ws : List ℕ) (x y z : ℕ) → Enough c s r (length us) (length vs) (length ws₀) x y z → ws ≡ laid (overlaid us vs) ws₀ → Three c s r us vs (take (length us - 0) ws) x y z
  asks ws₀ ws x y z e w =
      let m = length_overlaid us vs e.long in
      record {
        good = e.good;
        first_state = e.first_state;
        second_state = e.second_state;
        long = e.long;
        sum = ap (λ (l : List ℕ). take (length us - 0) l) w ∙ front (overlaid us vs) ws₀ (length us - 0) (omega arith);
        first_room = e.first_room;
        second_room = e.second_room;
        third_room = e.third_room;
      }

  -- ---- THE THEOREM, of what is written
  pub overlaps : (e : Encodings) (before after : Lent) → good_code c ≡ true → s < states_of c → r < states_of c → length us ≡ length vs → Encodes c s r us vs e before after → Overlays (length us) e after
  overlaps e before after g hs hr n done =
      let law = code_overlays c g us vs s r n hs hr in
      let x = coded_bits (code_of c) s us in
      let y = coded_bits (code_of c) r vs in
      let z = coded_bits (code_of c) (bit_xor s r) (overlaid us vs) in
      let m = length_overlaid us vs n in
      let lx : length x ≡ 2 * length us = length_outputs (code_of c) s us in
      let ly : length y ≡ 2 * length us = length_outputs (code_of c) r vs ∙ ap (λ (k : ℕ). 2 * k) (sym n) in
      let lz : length z ≡ 2 * length us = length_outputs (code_of c) (bit_xor s r) (overlaid us vs) ∙ ap (λ (k : ℕ). 2 * k) m in
      let tx : take (2 * length us) after.first ≡ x = ap (λ (l : List ℕ). take (2 * length us) l) done.first_are ∙ front x before.first (2 * length us) lx in
      let ty : take (2 * length us) after.second ≡ y = ap (λ (l : List ℕ). take (2 * length us) l) done.second_are ∙ front y before.second (2 * length us) ly in
      let tz : take (2 * length us) after.third ≡ z = ap (λ (l : List ℕ). take (2 * length us) l) done.third_are ∙ front z before.third (2 * length us) lz in
      record {
        outputs = tz ∙ law.outputs ∙ sym (ap (λ (l : List ℕ). overlaid l (take (2 * length us) after.second)) tx ∙ ap (λ (l : List ℕ). overlaid x l) ty);
        end = done.third_end ∙ law.end ∙ sym (ap (λ (k : ℕ). bit_xor k e.second.state) done.first_end ∙ ap (λ (k : ℕ). bit_xor (last_state (code_of c) s us) k) done.second_end);
      }
