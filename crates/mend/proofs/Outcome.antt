-- How a call's outcome follows from its rows and from what was written.
use mathlib.Core.Path.{◌≡◌, refl, sym, ap, ◌∙◌}
use mathlib.Core.Bool.{true, false}
use mathlib.Core.List.{List, [], ◌∷◌}
use Prim.Native.Nat.{ℕ, ◌%◌, ◌≤◌, ◌<◌}
use native.Mathlib.Omega.{arith}
use borrow.Author.Tests.{lt-ltb, le-ltb}
use lib.ListN.{length, take, replicate, length-replicate}
use Rattle.std.specs.Prelude.{Ok, Err}
use Rattle.refusal.specs.declared.Refusal.{Refusal}
use Rattle.refusal.specs.declared.Refusal.TheVariants as refusal
use Rattle.refusal.specs.Rows.{first_row, Row, Accepted, Unmendable}
use Rattle.refusal.proofs.RowLaws as rows
use Rattle.refusal.proofs.RowLaws.{numbered, passed_by, not_answered}
use Rattle.trellis.specs.Lists.{upto, laid}
use Rattle.trellis.specs.ListLaws.{length_upto}
use Rattle.trellis.specs.LaidLaws.{laid_laid, take_laid}
use Rattle.mend_distance.specs.Stretches.{most_changed, unlike, sent_from}
use Rattle.mend_distance.proofs.StretchLaws.{length_sent}
use Rattle.mend_distance.specs.Distances.{least, unmendable}
use Rattle.mend_distance.proofs.DistanceLaws.{none_within}
use Rattle.mend.specs.Rows.{lent_rows}
use Rattle.trellis.specs.Isdb.{frame_words}
use Rattle.mend.specs.Allowed.{allowed}
use Rattle.mend.specs.Tail.{Writes}
use Rattle.mend.specs.Calls.{Mends, Unchanged, Called}

-- ---- what was written, as the places of the output
pub front_is : (s e : ℕ) (bits out₀ out : List ℕ) (w : Writes s e bits out₀ out) → take (length bits) out ≡ sent_from s w.inputs
front_is s e bits out₀ out w =
    let sent = sent_from s w.inputs in
    let l : length sent ≡ length bits = length_sent s w.inputs ∙ sym w.within.count in
    ap (λ (k : ℕ). take k out) (sym l) ∙ ap (take (length sent)) w.out_is ∙ take_laid sent out₀

pub front_long : (s e : ℕ) (bits out₀ out : List ℕ) → Writes s e bits out₀ out → length (take (length bits) out) ≡ length bits
front_long s e bits out₀ out w = ap length (front_is s e bits out₀ out w) ∙ length_sent s w.inputs ∙ sym w.within.count

pub front_near : (s e : ℕ) (bits out₀ out : List ℕ) → Writes s e bits out₀ out → unlike (take (length bits) out) bits ≤ most_changed
front_near s e bits out₀ out w = rw (front_is s e bits out₀ out w) w.within.four

-- the words that were kept are cleared
pub cleared : (f : ℕ → ℕ) (n : ℕ) (ds₀ ds ds' : List ℕ) → n ≤ frame_words → ds ≡ laid (upto f n) ds₀ → ds' ≡ laid (replicate frame_words 0) ds → ds' ≡ laid (replicate frame_words 0) ds₀
cleared f n ds₀ ds ds' h e c =
    let l = length_upto f n in
    let r = length-replicate {A = ℕ} frame_words 0 in
    c ∙ ap (laid (replicate frame_words 0)) e ∙ laid_laid (upto f n) (replicate frame_words 0) ds₀ (omega arith)

-- ---- the answer
module _ (s e : ℕ) (bits decisions₀ out₀ list₀ : List ℕ) where
  abbrev above : List Row
  above = lent_rows bits (length decisions₀) (length out₀) (length list₀)

  abbrev last : List Row
  last = (Unmendable, unmendable (s % 64) (e % 64) bits) ∷ []

  kept : Unchanged decisions₀ decisions₀ out₀ out₀ list₀ list₀
  kept = record { decisions_is = refl; out_is = refl; list_is = refl }

  pub turned_back : (row : Refusal) → Err row ≡ first_row above → Called s e bits (Err row) decisions₀ decisions₀ out₀ out₀ list₀ list₀
  turned_back row q =
      record {
        far = unmendable (s % 64) (e % 64) bits;
        answers = rows.turned_back above last row q;
        leaves = kept;
        none = λ z. absurd (not_answered above Unmendable tt (numbered Unmendable (omega arith)) (sym q ∙ z));
      }

  pub unmended : first_row above ≡ Accepted → most_changed < least (s % 64) (e % 64) bits → Called s e bits (Err refusal.Unmendable) decisions₀ decisions₀ out₀ out₀ list₀ list₀
  unfolding unmendable
  unmended q h =
      let t : unmendable (s % 64) (e % 64) bits ≡ true = lt-ltb most_changed (least (s % 64) (e % 64) bits) h in
      record {
        far = unmendable (s % 64) (e % 64) bits;
        answers = passed_by above last {a = Unmendable} tt (sym q) (rw t refl);
        leaves = kept;
        none = λ z. none_within (s % 64) (e % 64) bits (omega arith) (allowed bits (length decisions₀) (length out₀) (length list₀) q).are_bits t;
      }

  pub mended : (count : ℕ) (decisions out list : List ℕ) → first_row above ≡ Accepted → least (s % 64) (e % 64) bits ≤ most_changed
      → Mends s e bits count decisions₀ decisions out₀ out list₀ list → Called s e bits (Ok count) decisions₀ decisions out₀ out list₀ list
  unfolding unmendable
  mended count decisions out list q h m =
      let t : unmendable (s % 64) (e % 64) bits ≡ false = le-ltb most_changed (least (s % 64) (e % 64) bits) h in
      record {
        far = unmendable (s % 64) (e % 64) bits;
        answers = passed_by above last {a = Accepted} tt (sym q) (rw t refl);
        leaves = m;
        none = λ z. absurd (numbered Unmendable (omega arith) (sym z));
      }
