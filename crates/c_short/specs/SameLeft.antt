-- P7: "length 7 with 171 and 133 octal agrees with the existing pair on every input", of the C calls: what meets the contract of the call of the code at these numbers and what
-- meets that of ISDB's call on the same lent values is equal: the answer, the path values, the held count, the count and both slices.
use Rattle.std.specs.Prelude.{◌≡◌, Bool, true, false, not, cond, ℕ, ◌/◌, T, eqb, take, replicate, Float}
use Rattle.std.proofs.Math.Path.{refl, sym, ap}
use Rattle.std.proofs.Common.{◌∙◌, arith, drop_of_length-le, take_all, eqb-true}
use mathlib.Core.List.{List, ◌++◌, append-nil}
use Rattle.std.proofs.Math.ListN.{length}
use Rattle.refusal.specs.Rows.{Length, Row, first_row}
use Rattle.refusal.specs.RowLaws.{refusing, condition_of}
use Rattle.refusal.proofs.RowLaws.{zero_accepted, passed}
use Rattle.trellis.specs.Lists.{first_place, laid}
use Rattle.trellis.specs.Step.{Step, traced}
use Rattle.trellis.specs.Run.{Decoder, decisions_after, pair_steps, four_steps, known_steps, holding}
use Rattle.trellis.proofs.RunLaws.{renormalised_length}
use Rattle.trellis.specs.Isdb as isdb
use Rattle.isdb_fec.specs.declared.conv.ViterbiDecoder.{ViterbiDecoder}
use Rattle.isdb_fec.specs.Rows as fec
use Rattle.isdb_fec.specs.Calls as fec-calls
use Rattle.short_fec.specs.Rows as short
use Rattle.short_fec.specs.Calls as short-calls
use Rattle.short_same_code.specs.IsdbCode.{isdb_code}
use Rattle.short_same_code.specs.SameLaws.{after_length}
use Rattle.c_answers.specs.Answers.{answered, left}
use Rattle.c_answers.specs.Lengths.{with_states}
use Rattle.c_decoder.specs.Decoders as lent
use Rattle.c_decoder.specs.Decoders.{decoder_of, Emitted}
use Rattle.c_short.specs.Stored.{Stored, Traced}
use Rattle.c_short.specs.SameAnswers.{stream_answers, push_known_answers, flush_answers}

left_by : {A : Type 0} (b : Bool) (x y z : A) → (b ≡ true → x ≡ y) → cond b x z ≡ cond b y z
left_by true x y z h = h refl
left_by false x y z h = refl

left_same : {A : Type 0} (n n' : ℕ) (x y z : A) → n ≡ n' → (n ≡ 0 → x ≡ y) → left n x z ≡ left n' y z
left_same n n' x y z e h = left_by (eqb n 0) x y z (λ t. h (eqb-true n 0 t)) ∙ ap (λ (m : ℕ). left m y z) e

not_false : (b : Bool) → not b ≡ false → b ≡ true
not_false true h = refl
not_false false h = sym h

-- an accepted call was lent 64 path values
states_of_lem : (pm : List Float) (n : ℕ) (rows : List Row) → T (refusing (with_states pm rows)) → condition_of Length (with_states pm rows) ≡ not (eqb (length pm) 64)
    → n ≡ answered (with_states pm rows) → n ≡ 0 → length pm ≡ 64
states_of_lem pm n rows r c a z =
    eqb-true (length pm) 64 (not_false (eqb (length pm) 64) (sym c ∙ passed (with_states pm rows) r (zero_accepted (first_row (with_states pm rows)) (sym a ∙ z)) Length))

-- the values that C lends; what the call of the code leaves of them, and that of ISDB
module _ (pm₀ : List Float) (held₀ tb n n' : ℕ) (pm pm' : List Float) (held held' count₀ count count' : ℕ) (dec₀ dec dec' out₀ out out' : List ℕ) where
  abbrev v : ViterbiDecoder
  v = decoder_of pm₀ held₀ tb

  abbrev pub Same : Type 0
  Same = (n ≡ n') × (pm ≡ pm') × (held ≡ held') × (count ≡ count') × (dec ≡ dec') × (out ≡ out')

  stored_same : (d d' : Decoder) → n ≡ n' → (n ≡ 0 → d ≡ d') → (n ≡ 0 → length pm₀ ≡ length d'.values)
      → Stored n tb d pm₀ pm held₀ held count₀ count dec₀ dec out₀ out
      → lent.Stored n' tb d' pm₀ pm' held₀ held' count₀ count' dec₀ dec' out₀ out'
      → Same
  stored_same d d' e h long s f =
      let over : n ≡ 0 → laid d'.values pm₀ ≡ d'.values = λ z. let l = long z in ap (λ (y : List Float). d'.values ++ y) (drop_of_length-le pm₀ {i = length d'.values} (omega arith)) ∙ append-nil d'.values in (
        e,
        s.values ∙ left_same n n' (laid d.values pm₀) d'.values pm₀ e (λ z. ap (λ (x : Decoder). laid x.values pm₀) (h z) ∙ over z) ∙ sym f.values,
        s.held_is ∙ left_same n n' (length d.words) (length d'.words) held₀ e (λ z. ap (λ (x : Decoder). length x.words) (h z)) ∙ sym f.held_is,
        s.count_is ∙ left_same n n' (length d.bits) (length d'.bits) count₀ e (λ z. ap (λ (x : Decoder). length x.bits) (h z)) ∙ sym f.count_is,
        s.words ∙ left_same n n' (decisions_after tb d.words d.bits dec₀) (decisions_after tb d'.words d'.bits dec₀) dec₀ e (λ z. ap (λ (x : Decoder). decisions_after tb x.words x.bits dec₀) (h z)) ∙ sym f.words,
        s.bits ∙ left_same n n' (laid d.bits out₀) (laid d'.bits out₀) out₀ e (λ z. ap (λ (x : Decoder). laid x.bits out₀) (h z)) ∙ sym f.bits,
      )

  emitted_same : (b b' : List ℕ) → n ≡ n' → (n ≡ 0 → b ≡ b')
      → Emitted b n v pm held count₀ count dec₀ dec out₀ out
      → Emitted b' n' v pm' held' count₀ count' dec₀ dec' out₀ out'
      → Same
  emitted_same b b' e h s f = (
    e,
    s.values ∙ sym f.values,
    s.held_is ∙ ap (λ (m : ℕ). left m 0 held₀) e ∙ sym f.held_is,
    s.count_is ∙ ap (λ (m : ℕ). left m held₀ count₀) e ∙ sym f.count_is,
    s.words ∙ ap (λ (m : ℕ). left m (laid (replicate held₀ 0) dec₀) dec₀) e ∙ sym f.words,
    s.bits ∙ left_same n n' (laid b out₀) (laid b' out₀) out₀ e (λ z. ap (λ (x : List ℕ). laid x out₀) (h z)) ∙ sym f.bits,
  )

  whole : length pm₀ ≡ 64 → take 64 pm₀ ≡ pm₀
  whole l = take_all 64 pm₀ (omega arith)

  soft_same : (per : ℕ) (xs : List Float) (steps : ℕ → Step) (k : ℕ)
      → n ≡ answered (with_states pm₀ (short.stream_rows isdb_code per v xs (length dec₀) (length out₀)))
      → Stored n tb (short-calls.call isdb_code tb steps (short-calls.handed isdb_code v dec₀) k) pm₀ pm held₀ held count₀ count dec₀ dec out₀ out
      → n' ≡ answered (with_states pm₀ (fec.stream_rows per (decoder_of (take isdb.states pm₀) held₀ tb) xs (length dec₀) (length out₀)))
      → lent.Stored n' tb (isdb.call tb steps (fec-calls.handed v dec₀) k) pm₀ pm' held₀ held' count₀ count' dec₀ dec' out₀ out'
      → Same
  unfolding first_place
  soft_same per xs steps k a s a' f =
      let e : n ≡ n' = a ∙ stream_answers pm₀ held₀ tb (length dec₀) (length out₀) per xs ∙ sym a' in
      let long : n ≡ 0 → length pm₀ ≡ 64 = λ z. states_of_lem pm₀ n (short.stream_rows isdb_code per v xs (length dec₀) (length out₀)) tt refl a z in
      stored_same (short-calls.call isdb_code tb steps (short-calls.handed isdb_code v dec₀) k) (isdb.call tb steps (fec-calls.handed v dec₀) k) e
      (λ z. ap (λ (y : List Float). isdb.call tb steps (holding y held₀ dec₀) k) (whole (long z)))
      (λ z. long z ∙ sym (renormalised_length isdb.half (isdb.steps tb steps (fec-calls.handed v dec₀) k).values ∙ after_length isdb.half isdb.labels isdb.rule tb steps (fec-calls.handed v dec₀) k (long z)))
      s f

  -- `isdb_code_push` and `isdb_push`; `isdb_code_push_metrics` and `isdb_push_metrics`
  pub push_same : (xs : List Float)
      → n ≡ answered (with_states pm₀ (short.stream_rows isdb_code 2 v xs (length dec₀) (length out₀)))
      → Stored n tb (short-calls.call isdb_code tb (pair_steps xs) (short-calls.handed isdb_code v dec₀) (length xs / 2)) pm₀ pm held₀ held count₀ count dec₀ dec out₀ out
      → n' ≡ answered (with_states pm₀ (fec.push_rows (decoder_of (take isdb.states pm₀) held₀ tb) xs (length dec₀) (length out₀)))
      → lent.Stored n' tb (fec-calls.call tb (pair_steps xs) (fec-calls.handed v dec₀) (length xs / 2)) pm₀ pm' held₀ held' count₀ count' dec₀ dec' out₀ out'
      → Same
  push_same xs = soft_same 2 xs (pair_steps xs) (length xs / 2)

  pub push_metrics_same : (xs : List Float)
      → n ≡ answered (with_states pm₀ (short.stream_rows isdb_code 4 v xs (length dec₀) (length out₀)))
      → Stored n tb (short-calls.call isdb_code tb (four_steps xs) (short-calls.handed isdb_code v dec₀) (length xs / 4)) pm₀ pm held₀ held count₀ count dec₀ dec out₀ out
      → n' ≡ answered (with_states pm₀ (fec.push_metrics_rows (decoder_of (take isdb.states pm₀) held₀ tb) xs (length dec₀) (length out₀)))
      → lent.Stored n' tb (fec-calls.call tb (four_steps xs) (fec-calls.handed v dec₀) (length xs / 4)) pm₀ pm' held₀ held' count₀ count' dec₀ dec' out₀ out'
      → Same
  push_metrics_same xs = soft_same 4 xs (four_steps xs) (length xs / 4)

  -- `isdb_code_push_known` and `isdb_push_known`
  pub push_known_same : (bits : List ℕ)
      → n ≡ answered (with_states pm₀ (short.known_rows isdb_code v (length bits) (length dec₀) (length out₀)))
      → Stored n tb (short-calls.steps isdb_code tb (known_steps bits) (short-calls.handed isdb_code v dec₀) (length bits)) pm₀ pm held₀ held count₀ count dec₀ dec out₀ out
      → n' ≡ answered (with_states pm₀ (fec.push_known_rows (decoder_of (take isdb.states pm₀) held₀ tb) (length bits) (length dec₀) (length out₀)))
      → lent.Stored n' tb (fec-calls.steps tb (known_steps bits) (fec-calls.handed v dec₀) (length bits)) pm₀ pm' held₀ held' count₀ count' dec₀ dec' out₀ out'
      → Same
  unfolding first_place
  push_known_same bits a s a' f =
      let k = length bits in
      let e : n ≡ n' = a ∙ push_known_answers pm₀ held₀ tb (length dec₀) (length out₀) k ∙ sym a' in
      let long : n ≡ 0 → length pm₀ ≡ 64 = λ z. states_of_lem pm₀ n (short.known_rows isdb_code v k (length dec₀) (length out₀)) tt refl a z in
      stored_same (short-calls.steps isdb_code tb (known_steps bits) (short-calls.handed isdb_code v dec₀) k) (isdb.steps tb (known_steps bits) (fec-calls.handed v dec₀) k) e
      (λ z. ap (λ (y : List Float). isdb.steps tb (known_steps bits) (holding y held₀ dec₀) k) (whole (long z)))
      (λ z. long z ∙ sym (after_length isdb.half isdb.labels isdb.rule tb (known_steps bits) (fec-calls.handed v dec₀) k (long z)))
      s f

  -- `isdb_code_flush` and `isdb_flush`
  pub flush_same :
      n ≡ answered (with_states pm₀ (short.flush_rows isdb_code v (length dec₀) (length out₀)))
      → Traced isdb_code (short-calls.best_of isdb_code v) n v pm held count₀ count dec₀ dec out₀ out
      → n' ≡ answered (with_states pm₀ (fec.flush_rows (decoder_of (take isdb.states pm₀) held₀ tb) (length dec₀) (length out₀)))
      → lent.Flushed n' v pm' held' count₀ count' dec₀ dec' out₀ out'
      → Same
  unfolding first_place
  flush_same a s a' f =
      emitted_same (traced isdb.half (take held₀ dec₀) (short-calls.best_of isdb_code v)) (isdb.flush (fec-calls.handed v dec₀)).bits
      (a ∙ flush_answers pm₀ held₀ tb (length dec₀) (length out₀) ∙ sym a')
      (λ z. ap (λ (y : List Float). traced isdb.half (take held₀ dec₀) (isdb.best y 63)) (whole (states_of_lem pm₀ n (short.flush_rows isdb_code v (length dec₀) (length out₀)) tt refl a z)))
      s f

  -- `isdb_code_flush_at` and `isdb_flush_at`
  pub flush_at_same : (end : ℕ)
      → n ≡ answered (with_states pm₀ (short.flush_rows isdb_code v (length dec₀) (length out₀)))
      → Traced isdb_code (short-calls.end_of isdb_code end) n v pm held count₀ count dec₀ dec out₀ out
      → n' ≡ answered (with_states pm₀ (fec.flush_rows (decoder_of (take isdb.states pm₀) held₀ tb) (length dec₀) (length out₀)))
      → lent.FlushedAt end n' v pm' held' count₀ count' dec₀ dec' out₀ out'
      → Same
  flush_at_same end a s a' f =
      emitted_same (traced isdb.half (take held₀ dec₀) (short-calls.end_of isdb_code end)) (isdb.flush_at end (fec-calls.handed v dec₀)).bits
      (a ∙ flush_answers pm₀ held₀ tb (length dec₀) (length out₀) ∙ sym a') (λ z. refl) s f
