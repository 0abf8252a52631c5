-- P7: "length 7 with 171 and 133 octal agrees with the existing pair on every input": two results that meet the contracts of the two calls are one, accepted
-- or refused: the answer, the state, the count and both lent slices. The path values are the 64 of the state's type.
use Rattle.std.specs.Prelude.{◌≡◌, refl, Bool, true, false, List, ◌++◌, eqb, length, get_or, replicate, take, Float, Result, Ok, Err, IfOk, MatchResult}
use Rattle.std.proofs.Common.{sym, ◌∙◌, ap, append-nil, arith, drop_of_length-le, take_all}
use Rattle.std.proofs.Math.Bool.{cond}
use Prim.Native.Nat.{ℕ, zero, suc, ◌*◌, ◌/◌, ◌%◌, ◌≤◌}
use Rattle.std.proofs.lemmas.List.{length-replicate}
use Rattle.std.specs.Float.{nan}
use Rattle.std.specs.Float.Ieee.{binary32, of_bits}
use Rattle.refusal.specs.declared.Refusal.{Refusal}
use Rattle.refusal.specs.Rows.{first_row, answer_of, Answer}
use Rattle.refusal.proofs.RowLaws.{err_refuses}
use Rattle.trellis.specs.Lists.{laid}
use Rattle.trellis.specs.ListLaws.{length_upto}
use Rattle.trellis.specs.Step.{Step, Tie, pair, four, known, nexts, renormalised, ruled, traced}
use Rattle.trellis.specs.Run.{Decoder, settled, values_at, after, start_at, start_unknown, pair_steps, four_steps, known_steps, holding}
use Rattle.trellis.proofs.RunLaws.{after_values, renormalised_length, nexts_length}
use Rattle.trellis.specs.Isdb as isdb
use Rattle.isdb_fec.specs.declared.conv.ViterbiDecoder.{ViterbiDecoder}
use Rattle.isdb_fec.specs.declared.conv.Released.{Released}
use Rattle.isdb_fec.specs.Rows as fec
use Rattle.isdb_fec.specs.Calls as fec-calls
use Rattle.isdb_fec.specs.declared.conv.Pushed.{Pushed}
use Rattle.isdb_fec.specs.Calls.{Unchanged, Fresh}
use Rattle.isdb_fec.proofs.TwoCallLaws.{leaves_same}
use Rattle.trellis.specs.Code as trellis
use Rattle.trellis.specs.Code.{output, moved}
use Rattle.short_code.specs.Codes.{code_of, half_of}
use Rattle.short_fec.specs.Rows as short
use Rattle.short_fec.specs.Calls as short-calls
use Rattle.short_same_code.specs.IsdbCode.{isdb_code}
use Rattle.short_same_code.specs.Agree.{Agree, MadeAlike, SentAlike}

-- ---- the rows
module _ (v : ViterbiDecoder) (long : length v.pm ≡ 64) where
  whole : take 64 v.pm ≡ v.pm
  whole = take_all 64 v.pm (omega arith)

  pub stream_rows_lem : (per : ℕ) (xs : List Float) (decisions out : ℕ) → first_row (short.stream_rows isdb_code per v xs decisions out) ≡ first_row (fec.stream_rows per v xs decisions out)
  stream_rows_lem per xs decisions out = rw whole refl

  pub known_rows_lem : (n decisions out : ℕ) → first_row (short.known_rows isdb_code v n decisions out) ≡ first_row (fec.push_known_rows v n decisions out)
  known_rows_lem n decisions out = rw whole refl

  pub flush_rows_lem : (decisions out : ℕ) → first_row (short.flush_rows isdb_code v decisions out) ≡ first_row (fec.flush_rows v decisions out)
  flush_rows_lem decisions out = rw whole refl

-- ---- the path values of a call keep their number
module _ (half : ℕ) (out : ℕ → ℕ → ℕ) (t : Tie) where
  ruled_length : (b : ℕ) (pm : List Float) → length (ruled half b pm) ≡ 2 * half
  unfolding ruled
  ruled_length b pm = length_upto (λ k. cond (eqb (k / half) (b % 2)) (get_or pm k nan) (of_bits binary32 0xce6e_6b28)) (2 * half)

  either_length : (w : Bool) (pm : List Float) → length (cond w (renormalised half pm) pm) ≡ length pm
  either_length true pm = renormalised_length half pm
  either_length false pm = refl

  settled_length : (i : ℕ) (x : Step) (pm : List Float) → length pm ≡ 2 * half → length (settled half out t i x pm) ≡ 2 * half
  unfolding settled
  settled_length i (pair lx ly) pm e = either_length (eqb (i % 64) 63) pm ∙ e
  settled_length i (four m) pm e = either_length (eqb (i % 64) 63) pm ∙ e
  settled_length i (known b) pm e = renormalised_length half (ruled half b pm) ∙ ruled_length b pm

  values_length : (steps : ℕ → Step) (pm : List Float) (n : ℕ) → length pm ≡ 2 * half → length (values_at half out t steps pm n) ≡ 2 * half
  unfolding values_at
  values_length steps pm zero e = e
  values_length steps pm (suc n) e = settled_length n (steps n) (nexts half out t (values_at half out t steps pm n) (steps n)) (nexts_length half out t (values_at half out t steps pm n) (steps n))

  pub after_length : (tb : ℕ) (steps : ℕ → Step) (d : Decoder) (n : ℕ) → length d.values ≡ 2 * half → length (after half out t tb steps d n).values ≡ 2 * half
  after_length tb steps d n e = ap length (after_values half out t tb steps d n) ∙ values_length steps d.values n e

-- ---- what both calls leave
module _ (v : ViterbiDecoder) (long : length v.pm ≡ 64) (r r' : Result Released Refusal) (dec₀ dec dec' out₀ out out' : List ℕ) where
  all_laid : (front : List Float) → length front ≡ 64 → laid front v.pm ≡ front
  all_laid front e = ap (λ (y : List Float). front ++ y) (drop_of_length-le v.pm {i = length front} (omega arith)) ∙ append-nil front

  -- a call that leaves the decoder d, of 64 path values
  agree : (d d' : Decoder) → d ≡ d' → length d'.values ≡ 64 → (r r' : Result Released Refusal) → answer_of r ≡ answer_of r'
      → MatchResult r (λ x. short-calls.Leaves v d x dec₀ dec out₀ out) (λ _. Unchanged dec₀ dec out₀ out)
      → MatchResult r' (λ x. fec-calls.Leaves v.traceback d' x dec₀ dec' out₀ out') (λ _. Unchanged dec₀ dec' out₀ out')
      → Agree r r' dec dec' out out'
  agree d d' e all (Ok x) (Ok y) a s l =
      let k = rw e at s in
      let whole-leaves : fec-calls.Leaves v.traceback d' x dec₀ dec out₀ out = record { values = k.values ∙ all_laid d'.values all; held_is = k.held_is; traceback_is = k.traceback_is; count_is = k.count_is; words = k.words; bits = k.bits } in
      let m = leaves_same {tb = v.traceback} {d = d'} {r = x} {r' = y} {dec₀ = dec₀} {dec = dec} {dec' = dec'} {out₀ = out₀} {out = out} {out' = out'} whole-leaves l in
      let p = m.0 in
      let q = m.1 in
      (λ i. Ok (record { dec = p i; count = q i }), m.2, m.3)
  agree d d' e all (Ok x) (Err row) a s l = absurd (err_refuses {row = row} (sym a))
  agree d d' e all (Err row) (Ok y) a s l = absurd (err_refuses {row = row} a)
  agree d d' e all (Err row) (Err other) a s l =
      let same : ◌≡◌ {A = Answer} (Err row) (Err other) = a in
      (cc, s.words ∙ sym l.words, s.bits ∙ sym l.bits)

  -- soft values or metrics
  soft_agree : (per : ℕ) (xs : List Float) (steps : ℕ → Step) (n : ℕ)
      → answer_of r ≡ first_row (short.stream_rows isdb_code per v xs (length dec₀) (length out₀))
      → MatchResult r (λ x. short-calls.Leaves v (short-calls.call isdb_code v.traceback steps (short-calls.handed isdb_code v dec₀) n) x dec₀ dec out₀ out) (λ _. Unchanged dec₀ dec out₀ out)
      → answer_of r' ≡ first_row (fec.stream_rows per v xs (length dec₀) (length out₀))
      → MatchResult r' (λ x. fec-calls.Leaves v.traceback (isdb.call v.traceback steps (fec-calls.handed v dec₀) n) x dec₀ dec' out₀ out') (λ _. Unchanged dec₀ dec' out₀ out')
      → Agree r r' dec dec' out out'
  soft_agree per xs steps n a s a' f =
      agree (short-calls.call isdb_code v.traceback steps (short-calls.handed isdb_code v dec₀) n) (isdb.call v.traceback steps (fec-calls.handed v dec₀) n)
      (ap (λ (y : List Float). isdb.call v.traceback steps (holding y v.held dec₀) n) (whole v long))
      (renormalised_length isdb.half (isdb.steps v.traceback steps (fec-calls.handed v dec₀) n).values ∙ after_length isdb.half isdb.labels isdb.rule v.traceback steps (fec-calls.handed v dec₀) n long)
      r r' (a ∙ stream_rows_lem v long per xs (length dec₀) (length out₀) ∙ sym a') s f

  -- `push` and `push_metrics`: the contracts of the two calls
  pub push_agrees : (xs : List Float)
      → answer_of r ≡ first_row (short.stream_rows isdb_code 2 v xs (length dec₀) (length out₀))
      → MatchResult r (λ x. short-calls.Leaves v (short-calls.call isdb_code v.traceback (pair_steps xs) (short-calls.handed isdb_code v dec₀) (length xs / 2)) x dec₀ dec out₀ out) (λ _. Unchanged dec₀ dec out₀ out)
      → answer_of r' ≡ first_row (fec.push_rows v xs (length dec₀) (length out₀))
      → MatchResult r' (λ x. fec-calls.Leaves v.traceback (isdb.call v.traceback (pair_steps xs) (fec-calls.handed v dec₀) (length xs / 2)) x dec₀ dec' out₀ out') (λ _. Unchanged dec₀ dec' out₀ out')
      → Agree r r' dec dec' out out'
  push_agrees xs = soft_agree 2 xs (pair_steps xs) (length xs / 2)

  pub push_metrics_agrees : (xs : List Float)
      → answer_of r ≡ first_row (short.stream_rows isdb_code 4 v xs (length dec₀) (length out₀))
      → MatchResult r (λ x. short-calls.Leaves v (short-calls.call isdb_code v.traceback (four_steps xs) (short-calls.handed isdb_code v dec₀) (length xs / 4)) x dec₀ dec out₀ out) (λ _. Unchanged dec₀ dec out₀ out)
      → answer_of r' ≡ first_row (fec.push_metrics_rows v xs (length dec₀) (length out₀))
      → MatchResult r' (λ x. fec-calls.Leaves v.traceback (isdb.call v.traceback (four_steps xs) (fec-calls.handed v dec₀) (length xs / 4)) x dec₀ dec' out₀ out') (λ _. Unchanged dec₀ dec' out₀ out')
      → Agree r r' dec dec' out out'
  push_metrics_agrees xs = soft_agree 4 xs (four_steps xs) (length xs / 4)

  pub push_known_agrees : (bits : List ℕ)
      → answer_of r ≡ first_row (short.known_rows isdb_code v (length bits) (length dec₀) (length out₀))
      → MatchResult r (λ x. short-calls.Leaves v (short-calls.steps isdb_code v.traceback (known_steps bits) (short-calls.handed isdb_code v dec₀) (length bits)) x dec₀ dec out₀ out) (λ _. Unchanged dec₀ dec out₀ out)
      → answer_of r' ≡ first_row (fec.push_known_rows v (length bits) (length dec₀) (length out₀))
      → MatchResult r' (λ x. fec-calls.Leaves v.traceback (isdb.steps v.traceback (known_steps bits) (fec-calls.handed v dec₀) (length bits)) x dec₀ dec' out₀ out') (λ _. Unchanged dec₀ dec' out₀ out')
      → Agree r r' dec dec' out out'
  push_known_agrees bits a s a' f =
      let n = length bits in
      agree (short-calls.steps isdb_code v.traceback (known_steps bits) (short-calls.handed isdb_code v dec₀) n) (isdb.steps v.traceback (known_steps bits) (fec-calls.handed v dec₀) n)
      (ap (λ (y : List Float). isdb.steps v.traceback (known_steps bits) (holding y v.held dec₀) n) (whole v long))
      (after_length isdb.half isdb.labels isdb.rule v.traceback (known_steps bits) (fec-calls.handed v dec₀) n long)
      r r' (a ∙ known_rows_lem v long n (length dec₀) (length out₀) ∙ sym a') s f

  -- a flush that traces from the state e, which puts out what the other does
  flushed_agree : (e : ℕ) (emitted : List ℕ) → traced isdb.half (take v.held dec₀) e ≡ emitted
      → answer_of r ≡ first_row (short.flush_rows isdb_code v (length dec₀) (length out₀))
      → MatchResult r (λ x. short-calls.Flushes isdb_code v e x dec₀ dec out₀ out) (λ _. Unchanged dec₀ dec out₀ out)
      → answer_of r' ≡ first_row (fec.flush_rows v (length dec₀) (length out₀))
      → MatchResult r' (λ x. fec-calls.Emits emitted v x dec₀ dec' out₀ out') (λ _. Unchanged dec₀ dec' out₀ out')
      → Agree r r' dec dec' out out'
  flushed_agree e emitted is a s a' f = go r r' (a ∙ flush_rows_lem v long (length dec₀) (length out₀) ∙ sym a') s f
    where
      go : (r r' : Result Released Refusal) → answer_of r ≡ answer_of r'
          → MatchResult r (λ x. short-calls.Flushes isdb_code v e x dec₀ dec out₀ out) (λ _. Unchanged dec₀ dec out₀ out)
          → MatchResult r' (λ x. fec-calls.Emits emitted v x dec₀ dec' out₀ out') (λ _. Unchanged dec₀ dec' out₀ out')
          → Agree r r' dec dec' out out'
      go (Ok x) (Ok y) same k l =
          let p = k.values ∙ sym l.values in
          let h = k.held_is ∙ sym l.held_is in
          let t = k.traceback_is ∙ sym l.traceback_is in
          let c = k.count_is ∙ sym l.count_is in
          (λ i. Ok (record { dec = record { pm = p i; held = h i; traceback = t i }; count = c i }), k.words ∙ sym l.words, k.bits ∙ ap (λ (x : List ℕ). laid x out₀) is ∙ sym l.bits)
      go (Ok x) (Err row) same k l = absurd (err_refuses {row = row} (sym same))
      go (Err row) (Ok y) same k l = absurd (err_refuses {row = row} same)
      go (Err row) (Err other) same k l =
          let one : ◌≡◌ {A = Answer} (Err row) (Err other) = same in
          (cc, k.words ∙ sym l.words, k.bits ∙ sym l.bits)

  -- `flush`, and `flush_at` with a known end
  pub flush_agrees :
      answer_of r ≡ first_row (short.flush_rows isdb_code v (length dec₀) (length out₀))
      → MatchResult r (λ x. short-calls.Flushes isdb_code v (short-calls.best_of isdb_code v) x dec₀ dec out₀ out) (λ _. Unchanged dec₀ dec out₀ out)
      → answer_of r' ≡ first_row (fec.flush_rows v (length dec₀) (length out₀))
      → MatchResult r' (λ x. fec-calls.Flushes v x dec₀ dec' out₀ out') (λ _. Unchanged dec₀ dec' out₀ out')
      → Agree r r' dec dec' out out'
  flush_agrees =
      flushed_agree (short-calls.best_of isdb_code v) (isdb.flush (fec-calls.handed v dec₀)).bits
      (ap (λ (y : List Float). traced isdb.half (take v.held dec₀) (isdb.best y 63)) (whole v long))

  pub flush_at_agrees : (end : ℕ)
      → answer_of r ≡ first_row (short.flush_rows isdb_code v (length dec₀) (length out₀))
      → MatchResult r (λ x. short-calls.Flushes isdb_code v (short-calls.end_of isdb_code end) x dec₀ dec out₀ out) (λ _. Unchanged dec₀ dec out₀ out)
      → answer_of r' ≡ first_row (fec.flush_rows v (length dec₀) (length out₀))
      → MatchResult r' (λ x. fec-calls.FlushesAt end v x dec₀ dec' out₀ out') (λ _. Unchanged dec₀ dec' out₀ out')
      → Agree r r' dec dec' out out'
  flush_at_agrees end = flushed_agree (short-calls.end_of isdb_code end) (isdb.flush_at end (fec-calls.handed v dec₀)).bits refl

-- ---- fresh decoders
front_alone : (front back : List Float) → length back ≤ length front → laid front back ≡ front
front_alone front back h = ap (λ (y : List Float). front ++ y) (drop_of_length-le back {i = length front} h) ∙ append-nil front

start_same : (s : ℕ) → short-calls.start_values isdb_code s ≡ start_at 64 s
unfolding start_at
start_same s =
    let l = length_upto (λ k. cond (eqb k (s % 64)) (of_bits binary32 0) (of_bits binary32 0xc974_2400)) 64 in
    let z = length-replicate 64 (of_bits binary32 0) in
    front_alone (start_at 64 s) (replicate 64 (of_bits binary32 0)) (omega arith)

unknown_same : short-calls.unknown_values isdb_code ≡ start_unknown 64
unfolding start_unknown
unknown_same =
    let l = length_upto (λ k. of_bits binary32 0) 64 in
    let z = length-replicate 64 (of_bits binary32 0) in
    front_alone (start_unknown 64) (replicate 64 (of_bits binary32 0)) (omega arith)

module _ (tb : ℕ) where
  -- decoders with the path values pm and pm'
  fresh_agree : (pm pm' : List Float) → pm ≡ pm' → (r r' : Result ViterbiDecoder Refusal)
      → answer_of r ≡ first_row (short.fresh_rows isdb_code tb) → IfOk r (λ v. Fresh tb pm v)
      → answer_of r' ≡ first_row (fec.fresh_rows tb) → IfOk r' (λ v. Fresh tb pm' v)
      → MadeAlike r r'
  fresh_agree pm pm' e (Ok x) (Ok y) a k a' l =
      let p = k.values ∙ e ∙ sym l.values in
      let h = k.held_is ∙ sym l.held_is in
      let t = k.traceback_is ∙ sym l.traceback_is in
      λ i. Ok (record { pm = p i; held = h i; traceback = t i })
  fresh_agree pm pm' e (Ok x) (Err row) a k a' l = absurd (err_refuses {row = row} (a' ∙ sym a))
  fresh_agree pm pm' e (Err row) (Ok y) a k a' l = absurd (err_refuses {row = row} (a ∙ sym a'))
  fresh_agree pm pm' e (Err row) (Err other) a k a' l = let same : ◌≡◌ {A = Answer} (Err row) (Err other) = a ∙ sym a' in cc

  -- `with_state` and `new_unknown_state`
  pub with_state_agrees : (r r' : Result ViterbiDecoder Refusal) (s : ℕ)
      → answer_of r ≡ first_row (short.fresh_rows isdb_code tb) → IfOk r (λ v. Fresh tb (short-calls.start_values isdb_code s) v)
      → answer_of r' ≡ first_row (fec.fresh_rows tb) → IfOk r' (λ v. Fresh tb (start_at 64 s) v)
      → MadeAlike r r'
  with_state_agrees r r' s = fresh_agree (short-calls.start_values isdb_code s) (start_at 64 s) (start_same s) r r'

  pub unknown_state_agrees : (r r' : Result ViterbiDecoder Refusal)
      → answer_of r ≡ first_row (short.fresh_rows isdb_code tb) → IfOk r (λ v. Fresh tb (short-calls.unknown_values isdb_code) v)
      → answer_of r' ≡ first_row (fec.fresh_rows tb) → IfOk r' (λ v. Fresh tb (start_unknown 64) v)
      → MadeAlike r r'
  unknown_state_agrees r r' = fresh_agree (short-calls.unknown_values isdb_code) (start_unknown 64) unknown_same r r'

-- ---- the encoder
-- what `push_bit` and `ConvEncoder::push` say of the code c of crate trellis with half h of its states, the state s and the input byte u
abbrev Coded : trellis.Code → ℕ → ℕ → ℕ → Result Pushed Refusal → Type 0
Coded c h s u r = IfOk r (λ p. (p.x ≡ output c c.g1 (u % 2) s) × (p.y ≡ output c c.g2 (u % 2) s) × (p.enc.state ≡ moved h (u % 2) s))

pub bit_agrees : (s u : ℕ) (r r' : Result Pushed Refusal)
    → answer_of r ≡ first_row (short.encoder_rows isdb_code s) → Coded (code_of isdb_code) (half_of isdb_code) s u r
    → answer_of r' ≡ first_row (fec.encoder_rows s) → Coded trellis.isdb 32 s u r'
    → SentAlike r r'
bit_agrees s u (Ok p) (Ok q) a k a' l =
    let x = k.0 ∙ sym l.0 in
    let y = k.1 ∙ sym l.1 in
    let z = k.2 ∙ sym l.2 in
    λ i. Ok (record { enc = record { state = z i }; x = x i; y = y i })
bit_agrees s u (Ok p) (Err row) a k a' l = absurd (err_refuses {row = row} (a' ∙ sym a))
bit_agrees s u (Err row) (Ok q) a k a' l = absurd (err_refuses {row = row} (a ∙ sym a'))
bit_agrees s u (Err row) (Err other) a k a' l = let same : ◌≡◌ {A = Answer} (Err row) (Err other) = a ∙ sym a' in cc
