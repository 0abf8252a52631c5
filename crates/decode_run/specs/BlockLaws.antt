-- Blocks of a run's steps carry the decoder on.
use Rattle.std.specs.Prelude.{◌≡◌, refl, ◌⊎◌, List, ℕ, ◌+◌, ◌-◌, ◌*◌, ◌<◌, ◌≤◌, Float}
use Rattle.std.proofs.Common.{sym, ◌∙◌, ap, ⊎_elim, add-zero, add_assoc, arith}
use Rattle.trellis.specs.Step.{Step}
use Rattle.viterbi_core.specs.declared.At.{At}
use Rattle.viterbi_core.specs.Calls as viterbi
use Rattle.viterbi_core.specs.Calls.{steps}
use Rattle.trellis.specs.Run.{four_steps}
use Rattle.viterbi_core.specs.BlockLaws.{from_steps}
use Rattle.isdbs_combination.specs.declared.Combination.{Combination}
use Rattle.isdbs_combination.specs.declared.Combination.TheVariants.{Bpsk1_2, Qpsk1_2, Qpsk2_3, Qpsk3_4, Qpsk5_6, Qpsk7_8, Tc8psk2_3}
use Rattle.isdbs_points.specs.Layout.{steps_per_period}
use Rattle.decode_block.specs.Blocks.{Periods, BlockMade}
use Rattle.decode_run.specs.Carried.{Carried}
use Rattle.trellis.specs.Isdb.{frame_traceback, frame_words}

-- ---- whole periods
left_periods : (c : Combination) (n k : ℕ) → Periods c n → Periods c k → k ≤ n → Periods c (n - k)
left_periods Bpsk1_2 n k p q h = omega arith
left_periods Qpsk1_2 n k p q h = omega arith
left_periods Qpsk2_3 n k p q h = omega arith
left_periods Qpsk3_4 n k p q h = omega arith
left_periods Qpsk5_6 n k p q h = omega arith
left_periods Qpsk7_8 n k p q h = omega arith
left_periods Tc8psk2_3 n k p q h = omega arith

most_periods : (c : Combination) → Periods c (64 * steps_per_period c)
most_periods Bpsk1_2 = refl
most_periods Qpsk1_2 = refl
most_periods Qpsk2_3 = refl
most_periods Qpsk3_4 = refl
most_periods Qpsk5_6 = refl
most_periods Qpsk7_8 = refl
most_periods Tc8psk2_3 = refl

pub block_periods : (c : Combination) (n k r : ℕ) → Periods c n → Periods c k → k ≤ n → (r ≡ n - k) ⊎ (r ≡ 64 * steps_per_period c) → Periods c r
block_periods c n k r p q h o = ⊎_elim (λ e. rw e (left_periods c n k p q h)) (λ e. rw e (most_periods c)) o

pub no_periods : (c : Combination) → Periods c 0
no_periods Bpsk1_2 = refl
no_periods Qpsk1_2 = refl
no_periods Qpsk2_3 = refl
no_periods Qpsk3_4 = refl
no_periods Qpsk5_6 = refl
no_periods Qpsk7_8 = refl
no_periods Tc8psk2_3 = refl

-- ---- the decoder
pub read_start : (ys : ℕ → Step) (i0 : ℕ) (pm₀ : List Float) (at : At) (dec₀ out₀ : List ℕ) → at.held < frame_words → Carried ys i0 0 pm₀ at dec₀ out₀ at pm₀ dec₀ out₀
read_start ys i0 pm₀ at dec₀ out₀ h = record { few = h; sum = omega arith; carries = λ xs d dec out e z. rw (add-zero i0) z }

pub read_block : (ys : ℕ → Step) (i0 : ℕ) (pm₀ : List Float) (at : At) (dec₀ out₀ : List ℕ) (k len : ℕ) (r r' : At) (pm pm' : List Float) (dec dec' out out' : List ℕ) (block : List Float)
    → Carried ys i0 k pm₀ at dec₀ out₀ r pm dec out → BlockMade ys k len block
    → viterbi.Carried frame_traceback (four_steps block) (i0 + k) len pm r dec out r' pm' dec' out'
    → Carried ys i0 (k + len) pm₀ at dec₀ out₀ r' pm' dec' out'
read_block ys i0 pm₀ at dec₀ out₀ k len r r' pm pm' dec dec' out out' block z b v =
    let u = z.sum in
    let left = v.left in
    let gone = v.gone in
    record {
      few = v.few;
      sum = omega arith;
      carries = λ xs d dec₁ out₁ e h.
          let before = z.carries xs d dec₁ out₁ (λ j g. e j (omega arith)) h in
          let same : (j : ℕ) → j < len → xs (i0 + k + j) ≡ four_steps block j = λ j g.
          ap xs (add_assoc i0 k j) ∙ e (k + j) (omega arith) ∙ sym (b.made j g) in
          let to : i0 + (k + len) ≡ i0 + k + len = sym (add_assoc i0 k len) in
          rw (to, from_steps frame_traceback xs (four_steps block) d (i0 + k) len same) (v.carries (steps frame_traceback xs d (i0 + k)) dec₁ out₁ before);
    }
