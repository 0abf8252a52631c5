-- A whole call of n steps on a handed decoder: how it begins and what it leaves.
use Rattle.std.specs.Prelude.{◌≡◌, refl, List, ℕ, ◌+◌, ◌*◌, ◌<◌, ◌≤◌, length, take, Float}
use Rattle.std.proofs.Common.{sym, ◌∙◌, ap, arith, zero-add, length-take-le}
use Rattle.trellis.specs.Isdb
use Rattle.trellis.specs.Step as trellis
use Rattle.trellis.specs.Step.{renormalised}
use Rattle.trellis.specs.Run.{after, block, releases}
use Rattle.viterbi_core.specs.declared.At.{At}
use Rattle.isdb_fec.specs.declared.conv.ViterbiDecoder.{ViterbiDecoder}
use Rattle.isdb_fec.specs.Calls.{steps, call, handed, Holds, Leaves, Unchanged}
use Rattle.isdb_fec.specs.AnswerLaws.{Enough}
use Rattle.viterbi_core.specs.Calls.{steps_from, Carried}
use Rattle.viterbi_core.specs.BlockLaws.{from_steps}
use Rattle.viterbi_core.specs.HoldingLaws.{holds_start, steps_lengths}

-- the words that a handed decoder holds
pub taken : {v : ViterbiDecoder} {n space : ℕ} (dec₀ : List ℕ) → Enough v n (length dec₀) space → length (take v.held dec₀) ≡ v.held
taken {v} dec₀ e = let f = e.fewer in let g = e.fits in length-take-le v.held dec₀ (omega arith)

pub few : {v : ViterbiDecoder} {n space : ℕ} (dec₀ : List ℕ) → Enough v n (length dec₀) space → length (handed v dec₀).words < block + v.traceback
few dec₀ e = rw (taken dec₀ e) e.fewer

module _ (v : ViterbiDecoder) (xs : ℕ → trellis.Step) (n : ℕ) (dec₀ out₀ : List ℕ) (e : Enough v n (length dec₀) (length out₀)) where
  space : length (handed v dec₀).bits + block * releases v.traceback (length (handed v dec₀).words) n ≤ length out₀
  space = rw (taken dec₀ e) (let r = e.room in omega arith)

  pub begins : Holds v.traceback dec₀ out₀ (steps v.traceback xs (handed v dec₀) 0) v.pm v.held 0 dec₀ out₀
  unfolding after
  begins = let f = e.fewer in let g = e.fits in holds_start v.traceback v.pm v.held dec₀ out₀ (omega arith)

  module _ (pm : List Float) (at : At) (dec out : List ℕ) (i : ℕ) (h : Holds v.traceback dec₀ out₀ (steps v.traceback xs (handed v dec₀) i) pm at.held at.count dec out) where
    pub lengths : i ≤ n → (length dec ≡ length dec₀) × (length out ≡ length out₀)
    lengths = steps_lengths Isdb.half Isdb.labels Isdb.rule v.traceback xs (handed v dec₀) dec₀ out₀ n e.least e.most (few dec₀ e) e.fits space pm at.held at.count dec out i h

  -- all steps at once, as `run_steps` takes them
  pub runs : (r : At) (pm : List Float) (dec out : List ℕ) → Carried v.traceback xs 0 n v.pm (record { held = v.held; count = 0 }) dec₀ out₀ r pm dec out
      → Holds v.traceback dec₀ out₀ (steps v.traceback xs (handed v dec₀) n) pm r.held r.count dec out
  runs r pm dec out c =
      let d = handed v dec₀ in
      let same : steps v.traceback xs d n ≡ steps_from v.traceback 0 xs (steps v.traceback xs d 0) n =
      ap (λ (k : ℕ). steps v.traceback xs d k) (sym (zero-add n)) ∙ from_steps v.traceback xs xs d 0 n (λ k h. ap xs (zero-add k)) in
      rw same (c.carries (steps v.traceback xs d 0) dec₀ out₀ begins)

  -- the end, of known bits and of soft values or metrics
  pub ends : (pm : List Float) (at : At) (dec out : List ℕ) → Holds v.traceback dec₀ out₀ (steps v.traceback xs (handed v dec₀) n) pm at.held at.count dec out
      → Leaves v.traceback (steps v.traceback xs (handed v dec₀) n) (record { dec = record { pm = pm; held = at.held; traceback = v.traceback }; count = at.count }) dec₀ dec out₀ out
  ends pm at dec out h =
      record { values = h.values; held_is = h.held_is; traceback_is = refl; count_is = h.count_is; words = h.words; bits = h.bits }

  pub closes : (pm low : List Float) (at : At) (dec out : List ℕ) → Holds v.traceback dec₀ out₀ (steps v.traceback xs (handed v dec₀) n) pm at.held at.count dec out
      → low ≡ renormalised 32 pm
      → Leaves v.traceback (call v.traceback xs (handed v dec₀) n) (record { dec = record { pm = low; held = at.held; traceback = v.traceback }; count = at.count }) dec₀ dec out₀ out
  closes pm low at dec out h r =
      record {
        values = r ∙ ap (λ (y : List Float). renormalised 32 y) h.values;
        held_is = h.held_is;
        traceback_is = refl;
        count_is = h.count_is;
        words = h.words;
        bits = h.bits;
      }

-- "no buffer changes"
pub as_given : (dec out : List ℕ) → Unchanged dec dec out out
as_given dec out = record { words = refl; bits = refl }
