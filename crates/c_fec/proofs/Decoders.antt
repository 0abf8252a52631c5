-- A call of the decoder as the C call hands it back: answered, and the lent places, from what the library's call leaves.
use mathlib.Core.Path.{◌≡◌, refl, sym, ◌∙◌, ap}
use mathlib.Core.List.{List}
use Prim.Native.Nat.{ℕ}
use native.Mathlib.Omega.{arith}
use lib.ListN.{length, take}
use lib.Seq.{take_all}
use lib.Ieee.{Float}
use borrow.Author.Tests.{eq-eqb, ne_eqb}
use Rattle.std.specs.Prelude.{Result, Ok, Err, MatchResult}
use Rattle.refusal.specs.declared.Refusal.{Refusal}
use Rattle.refusal.specs.Rows.{Row, number_of, first_row, answer_of}
use Rattle.refusal.proofs.RowLaws.{zero_accepted, err_refuses}
use Rattle.trellis.specs.Run.{Decoder}
use Rattle.isdb_fec.specs.declared.conv.ViterbiDecoder.{ViterbiDecoder}
use Rattle.isdb_fec.specs.declared.conv.Released.{Released}
use Rattle.isdb_fec.specs.Calls.{Leaves, Emits, Unchanged}
use Rattle.c_answers.specs.Answers.{answered}
use Rattle.c_answers.specs.Lengths.{with_states}
use Rattle.c_decoder.specs.Decoders.{decoder_of, Stored, Emitted}
use Rattle.c_answers.proofs.LengthLaws.{states_answer}

-- the lent places after `store`
abbrev pub Places : Result Released Refusal → List Float → List Float → ℕ → ℕ → ℕ → ℕ → Type 0
Places r pm₀ pm held₀ held count₀ count =
    MatchResult r (λ x. (pm ≡ x.dec.pm) × (held ≡ x.dec.held) × (count ≡ x.count)) (λ _. (pm ≡ pm₀) × (held ≡ held₀) × (count ≡ count₀))

refuses : {n : ℕ} (row : Refusal) → n ≡ number_of (Err row) → n ≡ 0 → ⊥
refuses row en z = err_refuses {row = row} (zero_accepted (Err row) (sym en ∙ z))

module _ (v : ViterbiDecoder) (n : ℕ) (pm : List Float) (held count₀ count : ℕ) (decisions₀ decisions out₀ out : List ℕ) where
  pub stored : (d : Decoder) (r : Result Released Refusal) → n ≡ number_of (answer_of r) → Places r v.pm pm v.held held count₀ count
      → MatchResult r (λ x. Leaves v.traceback d x decisions₀ decisions out₀ out) (λ _. Unchanged decisions₀ decisions out₀ out)
      → Stored n v.traceback d v.pm pm v.held held count₀ count decisions₀ decisions out₀ out
  stored d (Ok x) en p l =
      let e = eq-eqb n 0 en in
      record { values = p.0 ∙ rw e l.values; held_is = p.1 ∙ rw e l.held_is; count_is = p.2 ∙ rw e l.count_is; words = rw e l.words; bits = rw e l.bits }
  stored d (Err row) en p u =
      let e = ne_eqb n 0 (refuses row en) in
      record { values = p.0 ∙ rw e refl; held_is = p.1 ∙ rw e refl; count_is = p.2 ∙ rw e refl; words = rw e u.words; bits = rw e u.bits }

  pub flushed : (emitted : List ℕ) (r : Result Released Refusal) → n ≡ number_of (answer_of r) → Places r v.pm pm v.held held count₀ count
      → MatchResult r (λ x. Emits emitted v x decisions₀ decisions out₀ out) (λ _. Unchanged decisions₀ decisions out₀ out)
      → Emitted emitted n v pm held count₀ count decisions₀ decisions out₀ out
  flushed emitted (Ok x) en p l =
      let e = eq-eqb n 0 en in
      record { values = p.0 ∙ l.values; held_is = p.1 ∙ rw e l.held_is; count_is = p.2 ∙ rw e l.count_is; words = rw e l.words; bits = rw e l.bits }
  flushed emitted (Err row) en p u =
      let e = ne_eqb n 0 (refuses row en) in
      record { values = p.0; held_is = p.1 ∙ rw e refl; count_is = p.2 ∙ rw e refl; words = rw e u.words; bits = rw e u.bits }

module _ (v w : ViterbiDecoder) (ev : v ≡ w) (rows : ViterbiDecoder → List Row) (r : Result Released Refusal) (n : ℕ) (pm : List Float) (held count₀ count : ℕ) (decisions₀ decisions out₀ out : List ℕ)
    (states : length w.pm ≡ 64) (en : n ≡ number_of (answer_of r)) (ep : Places r w.pm pm w.held held count₀ count)
    (ea : answer_of r ≡ first_row (rows v)) where
  -- the first 64 of the 64 path values
  first : decoder_of (take 64 w.pm) w.held w.traceback ≡ w
  first = ap (λ (l : List Float). decoder_of l w.held w.traceback) (take_all 64 w.pm (omega arith))

  number : n ≡ answered (with_states w.pm (rows (decoder_of (take 64 w.pm) w.held w.traceback)))
  number = states_answer w.pm (rows (decoder_of (take 64 w.pm) w.held w.traceback)) n (answer_of r) states en (ea ∙ ap (λ (x : ViterbiDecoder). first_row (rows x)) (ev ∙ sym first))

  -- a call on the decoder w, of which v is a copy
  pub pushed : (d : ViterbiDecoder → Decoder) → MatchResult r (λ x. Leaves v.traceback (d v) x decisions₀ decisions out₀ out) (λ _. Unchanged decisions₀ decisions out₀ out)
      → (n ≡ answered (with_states w.pm (rows (decoder_of (take 64 w.pm) w.held w.traceback)))) × Stored n w.traceback (d w) w.pm pm w.held held count₀ count decisions₀ decisions out₀ out
  pushed d l = (number, stored w n pm held count₀ count decisions₀ decisions out₀ out (d w) r en ep (rw ev at l))

  pub flush_done : (emitted : ViterbiDecoder → List ℕ) → MatchResult r (λ x. Emits (emitted v) v x decisions₀ decisions out₀ out) (λ _. Unchanged decisions₀ decisions out₀ out)
      → (n ≡ answered (with_states w.pm (rows (decoder_of (take 64 w.pm) w.held w.traceback)))) × Emitted (emitted w) n w pm held count₀ count decisions₀ decisions out₀ out
  flush_done emitted l = (number, flushed w n pm held count₀ count decisions₀ decisions out₀ out (emitted w) r en ep (rw ev at l))
