-- What rows 5 and 9 leave of a call.
use Rattle.std.specs.Prelude.{◌≡◌, refl, false, not, ◌||◌, List, [], ◌∷◌, ℕ, ◌%◌, ◌≤◌, eqb, ltb, length}
use Rattle.std.proofs.Common.{arith, ltb-false, eqb-true, le-ltb}
use Rattle.std.proofs.lemmas.Bool.{not-false}
use Rattle.refusal.specs.Rows.{first_row, Accepted, Length, Space}
use Rattle.refusal.proofs.RowLaws as row
use Rattle.refusal.proofs.RowLaws.{neither}
use Rattle.trellis.specs.Stretch.{Bits}
use Rattle.mend.specs.Rows.{some_no_bit, most_bits, places, lent_rows}
use Rattle.trellis.specs.Isdb.{frame_words}

pub record Allowed (bits : List ℕ) (decisions out list : ℕ) : Type 0 where
  pub are_bits : Bits bits
  pub even : length bits % 2 ≡ 0
  pub few : length bits ≤ most_bits
  pub out_room : length bits ≤ out
  pub list_room : places ≤ list
  pub words_room : frame_words ≤ decisions

pub bits_only : (bits : List ℕ) → some_no_bit bits ≡ false → Bits bits
bits_only [] e = tt
bits_only (b ∷ bs) e =
    let n = neither (ltb 1 b) (some_no_bit bs) e in
    let h = ltb-false 1 b n.0 in
    (omega arith, bits_only bs n.1)

pub no_other : (bits : List ℕ) → Bits bits → some_no_bit bits ≡ false
no_other [] h = refl
no_other (b ∷ bs) h = let l = h.0 in rw (le-ltb 1 b (omega arith), no_other bs h.1) refl

pub allowed : (bits : List ℕ) (decisions out list : ℕ) → first_row (lent_rows bits decisions out list) ≡ Accepted → Allowed bits decisions out list
allowed bits decisions out list e =
    let p = row.passed (lent_rows bits decisions out list) tt e in
    let a = neither (not (eqb (length bits % 2) 0) || ltb most_bits (length bits)) (some_no_bit bits) (p Length) in
    let b = neither (not (eqb (length bits % 2) 0)) (ltb most_bits (length bits)) a.0 in
    let c = neither (ltb out (length bits) || ltb list places) (ltb decisions frame_words) (p Space) in
    let d = neither (ltb out (length bits)) (ltb list places) c.0 in
    record {
      are_bits = bits_only bits a.1;
      even = eqb-true (length bits % 2) 0 (not-false (eqb (length bits % 2) 0) b.0);
      few = ltb-false most_bits (length bits) b.1;
      out_room = ltb-false out (length bits) d.0;
      list_room = ltb-false list places d.1;
      words_room = ltb-false decisions frame_words c.1;
    }
