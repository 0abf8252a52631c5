-- Demand 3 about the C calls `isdbs_encode_frame` and `isdbs_decode_frame`, from their contracts.
use mathlib.Core.Path.{◌≡◌, refl, sym, ◌∙◌, ap}
use mathlib.Core.Bool.{Bool, true, false, cond}
use mathlib.Core.List.{List, [], ◌∷◌}
use Prim.Native.Nat.{ℕ, ◌<◌}
use lib.ListN.{length, get_or, drop, replicate, get_or-append}
use lib.Ieee.{Float, nan}
use borrow.Author.Tests.{eq-eqb, ne_eqb}
use Rattle.refusal.specs.Rows.{Answer, number_of, accepted, first_row, Said}
use Rattle.refusal.proofs.RowLaws.{zero_accepted, says_number, said_some, is_refused, err_refuses}
use Rattle.trellis.specs.Lists.{laid, upto}
use Rattle.trellis.specs.ListLaws.{length_upto, get_d_upto}
use Rattle.isdbs_tables.specs.declared.Table as tmcc
use Rattle.isdbs_plan.specs.RunsOf.{frame_steps, load_bytes}
use Rattle.isdbs_points.specs.declared.Mapping.{Mapping}
use Rattle.isdbs_points.specs.Frame.{point_at, frame_re, frame_im, start_state}
use Rattle.isdbs_metrics.specs.Reading.{decoded_bits, decoded_bytes}
use Rattle.isdbs_phy.specs.declared.demod.FrameDecoded.{FrameDecoded}
use Rattle.refusal.specs.declared.Refusal.{Refusal}
use Rattle.refusal.specs.Rows as row
use Rattle.std.specs.Prelude.{Result, Ok, Err}
use Rattle.isdbs_phy.specs.DecodeRows.{decode_rows, frame_said, frame_answer}
use Rattle.margins.specs.Margins.{Within}
use Rattle.isdbs_metrics.specs.Scales.{received_by}
use Rattle.strain_marks.specs.Strain.{strain_counts, strain_sum}
use Rattle.exact_frame.specs.Frames.{encoded_within}
use Rattle.exact_frame.specs.Call.{eights, ReadsBack, exactly, short}
use Rattle.exact_frame.proofs.CallLaws.{read_back}
use Rattle.c_answers.specs.Answers.{answered, left}
use Rattle.c_exact.specs.Call.{Lays, ReadsBackC, exactly_c, short_c, ExactC, WithinLaid}

-- ---- what is laid

laid_at : (f : ℕ → Float) (w : List Float) (k : ℕ) → k < 38976 → get_or (laid (upto f 38976) w) k nan ≡ f k
laid_at f w k h =
    get_or-append (upto f 38976) (drop (length (upto f 38976)) w) nan k (rw (length_upto f 38976) h) ∙ get_d_upto f nan 38976 k h

module _ (t : tmcc.Table) (m : Mapping) (load : List ℕ) (first : Bool) (re₀ im₀ : List Float) where
  abbrev re_part : ℕ → Float
  re_part k = (point_at t m load (start_state first) k).re

  abbrev im_part : ℕ → Float
  im_part k = (point_at t m load (start_state first) k).im

  received_within : (re im : List Float) → WithinLaid t (laid (frame_re t m load (start_state first)) re₀) (laid (frame_im t m load (start_state first)) im₀) re im → Within re im load t m first
  received_within re im r = record {
    re_count = r.re_count;
    im_count = r.im_count;
    re_parts = λ k l. rw (laid_at re_part re₀ k l) at (r.re_parts k l);
    im_parts = λ k l. rw (laid_at im_part im₀ k l) at (r.im_parts k l);
  }

pub lays : (answer : ℕ) (t : tmcc.Table) (m : Mapping) (load : List ℕ) (state : ℕ) (re₀ im₀ re im : List Float)
    → re ≡ left answer (laid (frame_re t m load state) re₀) re₀ → im ≡ left answer (laid (frame_im t m load state) im₀) im₀ → Lays answer t m load state re im
lays answer t m load state re₀ im₀ re im er ei = record {
  own = λ z first s. rw (er, ei, z, s) (encoded_within t m load first (drop (length (frame_re t m load (start_state first))) re₀) (drop (length (frame_im t m load (start_state first))) im₀));
  received = λ z first s re' im' r. received_within t m load first re₀ im₀ re' im' (rw (er, ei, z, s) at r);
}

-- ---- what is read

-- the answer of `decode_frame` whose rows answer a
answer_of : Answer → tmcc.Table → ℕ → Result FrameDecoded Refusal
answer_of a t n = row.answered a (record { bytes = load_bytes t; steps = frame_steps t; strained = n })

answer_said : (a : Answer) (t : tmcc.Table) (n : ℕ) → frame_said (answer_of a t n) ≡ frame_answer a t n
unfolding answer_of
answer_said (Ok _) t n = refl
answer_said (Err row) t n = rw (is_refused (Err row) err_refuses)

-- THE THEOREM about the call: whatever the lent slices held, the load comes back without strain, or a slice is too short
module _
    (t : tmcc.Table) (m : Mapping) (first : Bool) (re im : List Float) (decisions₀ decisions bits₀ bits bytes₀ bytes counts₀ counts : List ℕ) (sum₀ sum answer : ℕ)
    (answers : answer ≡ answered (decode_rows t re im eights (length decisions₀) (length bits₀) (length bytes₀) (length counts₀)))
    (words_are : decisions ≡ left answer (laid (replicate 4224 0) decisions₀) decisions₀)
    (bits_are : bits ≡ left answer (laid (decoded_bits t (received_by re im m eights) true first) bits₀) bits₀)
    (bytes-are : bytes ≡ left answer (laid (decoded_bytes t (received_by re im m eights) true first) bytes₀) bytes₀)
    (counts-are : counts ≡ left answer (laid (strain_counts t (received_by re im m eights) true first) counts₀) counts₀)
    (sum_is_lem : sum ≡ left answer (strain_sum t (received_by re im m eights) true first) sum₀) where
  abbrev a : Answer
  a = first_row (decode_rows t re im eights (length decisions₀) (length bits₀) (length bytes₀) (length counts₀))

  abbrev strain : ℕ
  strain = strain_sum t (received_by re im m eights) true first

  told : (n : ℕ) (values : List ℕ) → frame_said (answer_of a t strain) ≡ (n, values) → frame_answer a t strain ≡ (n, values)
  told n values e = sym (answer_said a t strain) ∙ e

  said : (n : ℕ) (values : List ℕ) → frame_said (answer_of a t strain) ≡ (n, values) → answer ≡ n
  said n values e = answers ∙ sym (says_number a (load_bytes t ∷ frame_steps t ∷ strain ∷ [])) ∙ ap (λ (x : Said). x.0) (told n values e)

  -- the third value of an accepted answer is the sum
  no_strain : frame_said (answer_of a t strain) ≡ (0, load_bytes t ∷ frame_steps t ∷ 0 ∷ []) → sum ≡ 0
  no_strain e =
      let z = eq-eqb answer 0 (said 0 (load_bytes t ∷ frame_steps t ∷ 0 ∷ []) e) in
      let s = said_some a (load_bytes t ∷ frame_steps t ∷ strain ∷ []) 0 (load_bytes t) (frame_steps t ∷ 0 ∷ []) (sym (told 0 (load_bytes t ∷ frame_steps t ∷ 0 ∷ []) e)) in
      sum_is_lem ∙ rw z (ap (λ (l : List ℕ). get_or l 2 0) s.2)

  number_of_lem : (load : List ℕ) → ReadsBack t load (length decisions₀) (length bits₀) (length bytes₀) (length counts₀) (answer_of a t strain) bytes counts
      → ReadsBackC t load (length decisions₀) (length bits₀) (length bytes₀) (length counts₀) answer bytes counts sum
  number_of_lem load (exactly e h k) = exactly_c (said 0 (load_bytes t ∷ frame_steps t ∷ 0 ∷ []) e) h k (no_strain e)
  number_of_lem load (short e h) = short_c (said 9 [] e) h

  pub reads_back : ExactC t m first re im (length decisions₀) (length bits₀) (length bytes₀) (length counts₀) answer bytes counts sum
  reads_back load fit full w =
      number_of_lem load
      (read_back t fit m first load full re im w decisions₀ decisions bits₀ bits bytes₀ bytes counts₀ counts (answer_of a t strain) (answer_said a t strain) (
        (λ y.
            let z = eq-eqb answer 0 (answers ∙ ap number_of y) in
            record { read = record { words = words_are ∙ rw z refl; decoded = bits_are ∙ rw z refl; load = bytes-are ∙ rw z refl }; strain = counts-are ∙ rw z refl }),
        (λ n.
            let z = ne_eqb answer 0 (λ q. n (zero_accepted a (sym answers ∙ q))) in
            record { words = words_are ∙ rw z refl; decoded = bits_are ∙ rw z refl; load = bytes-are ∙ rw z refl; strain = counts-are ∙ rw z refl }),
      ))
