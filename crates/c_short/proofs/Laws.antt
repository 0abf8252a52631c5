-- A call of a code's decoder as the C call hands it back: answered, and the lent places, from what the library's call leaves.
use mathlib.Core.Path.{◌≡◌, refl, sym, ◌∙◌, ap}
use mathlib.Core.List.{List}
use Prim.Native.Nat.{ℕ}
use lib.ListN.{length}
use lib.Ieee.{Float}
use borrow.Author.Tests.{eq-eqb, ne_eqb}
use Rattle.refusal.specs.Rows.{Row, number_of, first_row, answer_of}
use Rattle.refusal.specs.Rows as answer
use Rattle.refusal.proofs.RowLaws.{zero_accepted, err_refuses}
use Rattle.refusal.specs.declared.Refusal.{Refusal}
use Rattle.std.specs.Prelude.{Result, Ok, Err, MatchResult}
use Rattle.trellis.specs.Run.{Decoder}
use Rattle.isdb_fec.specs.declared.conv.ViterbiDecoder.{ViterbiDecoder}
use Rattle.isdb_fec.specs.declared.conv.Released.{Released}
use Rattle.isdb_fec.specs.Calls.{Unchanged}
use Rattle.short_code.specs.declared.Code.{Code}
use Rattle.short_code.specs.Codes.{code_of}
use Rattle.short_fec.specs.Rows.{encode_rows}
use Rattle.trellis.specs.Lists.{laid}
use Rattle.trellis.specs.Encoded.{coded_bits, last_state}
use Rattle.short_fec.specs.Calls.{Leaves, Flushes}
use Rattle.c_answers.specs.Answers.{answered, left}
use Rattle.c_answers.specs.AnswerLaws.{kept}
use Rattle.c_answers.specs.Lengths.{with_states}
use Rattle.c_answers.proofs.LengthLaws.{states_answer}
use Rattle.c_short.specs.Stored.{Stored, Traced}

-- ---- what is handed back
-- the lent places after `store`
abbrev pub Places : Result Released Refusal → List Float → List Float → ℕ → ℕ → ℕ → ℕ → Type 0
Places r pm₀ pm held₀ held count₀ count =
    MatchResult r (λ x. (pm ≡ x.dec.pm) × (held ≡ x.dec.held) × (count ≡ x.count)) (λ _. (pm ≡ pm₀) × (held ≡ held₀) × (count ≡ count₀))

refuses : {n : ℕ} (row : Refusal) → n ≡ number_of (Err row) → n ≡ 0 → ⊥
refuses row en z = err_refuses {row = row} (zero_accepted (Err row) (sym en ∙ z))

module _ (v : ViterbiDecoder) (n : ℕ) (pm : List Float) (held count₀ count : ℕ) (decisions₀ decisions out₀ out : List ℕ) where
  stored : (d : Decoder) (r : Result Released Refusal) → n ≡ number_of (answer_of r) → Places r v.pm pm v.held held count₀ count
      → MatchResult r (λ x. Leaves v d x decisions₀ decisions out₀ out) (λ _. Unchanged decisions₀ decisions out₀ out)
      → Stored n v.traceback d v.pm pm v.held held count₀ count decisions₀ decisions out₀ out
  stored d (Ok x) en p l =
      let e = eq-eqb n 0 en in
      record { values = p.0 ∙ rw e l.values; held_is = p.1 ∙ rw e l.held_is; count_is = p.2 ∙ rw e l.count_is; words = rw e l.words; bits = rw e l.bits }
  stored d (Err row) en p u =
      let e = ne_eqb n 0 (refuses row en) in
      record { values = p.0 ∙ rw e refl; held_is = p.1 ∙ rw e refl; count_is = p.2 ∙ rw e refl; words = rw e u.words; bits = rw e u.bits }

  traced : (c : Code) (s : ℕ) (r : Result Released Refusal) → n ≡ number_of (answer_of r) → Places r v.pm pm v.held held count₀ count
      → MatchResult r (λ x. Flushes c v s x decisions₀ decisions out₀ out) (λ _. Unchanged decisions₀ decisions out₀ out)
      → Traced c s n v pm held count₀ count decisions₀ decisions out₀ out
  traced c s (Ok x) en p l =
      let e = eq-eqb n 0 en in
      record { values = p.0 ∙ l.values; held_is = p.1 ∙ rw e l.held_is; count_is = p.2 ∙ rw e l.count_is; words = rw e l.words; bits = rw e l.bits }
  traced c s (Err row) en p u =
      let e = ne_eqb n 0 (refuses row en) in
      record { values = p.0; held_is = p.1 ∙ rw e refl; count_is = p.2 ∙ rw e refl; words = rw e u.words; bits = rw e u.bits }

-- a call by the code c, of which k is a copy, on the decoder w, of which v is one
module _ (k c : Code) (ek : k ≡ c) (v w : ViterbiDecoder) (ev : v ≡ w) (rows : Code → ViterbiDecoder → List Row) (r : Result Released Refusal) (n : ℕ) (pm : List Float) (held count₀ count : ℕ)
    (decisions₀ decisions out₀ out : List ℕ) (states : length w.pm ≡ 64) (en : n ≡ number_of (answer_of r)) (ep : Places r w.pm pm w.held held count₀ count)
    (ea : answer_of r ≡ first_row (rows k v)) where
  number : n ≡ answered (with_states w.pm (rows c w))
  number = states_answer w.pm (rows c w) n (answer_of r) states en (rw (ek, ev) at ea)

  pub pushed : (d : Code → ViterbiDecoder → Decoder) → MatchResult r (λ x. Leaves v (d k v) x decisions₀ decisions out₀ out) (λ _. Unchanged decisions₀ decisions out₀ out)
      → (n ≡ answered (with_states w.pm (rows c w))) × Stored n w.traceback (d c w) w.pm pm w.held held count₀ count decisions₀ decisions out₀ out
  pushed d l = (number, stored w n pm held count₀ count decisions₀ decisions out₀ out (d c w) r en ep (rw (ek, ev) at l))

  pub flushed : (s : Code → ViterbiDecoder → ℕ) → MatchResult r (λ x. Flushes k v (s k v) x decisions₀ decisions out₀ out) (λ _. Unchanged decisions₀ decisions out₀ out)
      → (n ≡ answered (with_states w.pm (rows c w))) × Traced c (s c w) n w pm held count₀ count decisions₀ decisions out₀ out
  flushed s l = (number, traced w n pm held count₀ count decisions₀ decisions out₀ out c (s c w) r en ep (rw (ek, ev) at l))

-- ---- the list encoder
module _ (k c : Code) (ek : k ≡ c) (s : ℕ) (us out₀ out : List ℕ) where
  pub encode_done : (s' : ℕ) → answer.Accepted ≡ first_row (encode_rows k s (length us) (length out₀)) → s' ≡ last_state (code_of k) s us → out ≡ laid (coded_bits (code_of k) s us) out₀
      → (0 ≡ answered (encode_rows c s (length us) (length out₀))) × (s' ≡ last_state (code_of c) s us) × (out ≡ laid (coded_bits (code_of c) s us) out₀)
  encode_done s' ea es eo = (ap number_of (rw ek at ea), rw ek at es, rw ek at eo)

  pub encode_refused : (row : Refusal) (n : ℕ) → n ≡ number_of (Err row) → Err row ≡ first_row (encode_rows k s (length us) (length out₀)) → out ≡ out₀
      → (n ≡ answered (encode_rows c s (length us) (length out₀))) × (s ≡ left n (last_state (code_of c) s us) s) × (out ≡ left n (laid (coded_bits (code_of c) s us) out₀) out₀)
  encode_refused row n en ea eo =
      let h : n ≡ 0 → ⊥ = λ z. err_refuses {row = row} (zero_accepted (Err row) (sym en ∙ z)) in
      (en ∙ ap number_of (rw ek at ea), kept n (last_state (code_of c) s us) s h, eo ∙ kept n (laid (coded_bits (code_of c) s us) out₀) out₀ h)
