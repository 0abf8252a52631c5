-- P7: "The best-path statement is established over the length": of the calls of short_fec in a row, a fresh decoder of traceback 128, `push_metrics` and `flush`. Of at most 4,096
-- quadruples of whole numbers within 16, with memory enough lent, all accept, and the bits are those of the first path of greatest sum.
use Rattle.std.specs.Prelude.{◌≡◌, refl, true, false, cond, List, [], ◌++◌, ℕ, ◌-◌, ◌*◌, ◌/◌, ◌%◌, ◌≤◌, ◌<◌, ℤ, eqb, length, get_or, take, replicate, Float, Result, Ok, Err, IfOk, IfErr, MatchResult}
use Rattle.std.proofs.Common.{sym, ap, ◌∙◌, subst, arith, le_refl, le_of_eq, le-ltb, pow_pos, lit<, lit≤}
use Rattle.std.proofs.lemmas.Bool.{lt-leb}
use Rattle.std.specs.Float.{nan, binary32}
use Rattle.std.specs.Float.Ieee.{neg, le, of_bits, fits}
use Rattle.std.specs.Float.Ieee.Fits.{and_i}
use Rattle.ieee.specs.Value.{hi, lo}
use Rattle.ieee.specs.Rounding.{pow2}
use Rattle.ieee.proofs.Whole.{on_neg}
use Rattle.refusal.specs.declared.Refusal.{Refusal}
use Rattle.refusal.specs.Rows.{first_row, answer_of}
use Rattle.refusal.proofs.RowLaws.{passed, err_refuses}
use Rattle.refusal.specs.Rows as answer
use Rattle.trellis.specs.Isdb.{rule, frame_traceback, frame_words}
use Rattle.trellis.specs.Lists.{laid}
use Rattle.trellis.specs.ListLaws.{length_upto, none_listed}
use Rattle.trellis.proofs.RunLaws.{label_under, after_values, renormalised_length}
use Rattle.trellis.specs.Step.{Step, four, renormalised, traced, best}
use Rattle.trellis.specs.Run.{Decoder, block, start_at, start_unknown, values_at, decisions_after, four_steps, releases, quadruple, fresh_from}
use Rattle.viterbi_core.specs.CountLaws.{counted, releases_is}
use Rattle.trellis.specs.LaidLaws.{take_laid, length_laid}
use Rattle.path_greatest.specs.Paths.{longest, Quadruples, Reading}
use Rattle.path_greatest.specs.Viterbi.{Z, value}
use Rattle.path_greatest.proofs.Exact.{Whole, le_from}
use Rattle.path_greatest.proofs.Tracks.{Tracks, times, times_step, tracks}
use Rattle.path_greatest.proofs.Decoded.{Started, start_tracks}
use Rattle.path_greatest.specs.Starts.{given, level}
use Rattle.path_greatest.proofs.Starts.{given_started, unknown_started}
use Rattle.path_greatest.proofs.Integers.{parts_of_lem, quadruples}
use Rattle.path_greatest.proofs.Calls.{plain_four, follows, start_given, start_unknown_lem}
use Rattle.isdb_fec.specs.declared.conv.ViterbiDecoder.{ViterbiDecoder}
use Rattle.isdb_fec.specs.declared.conv.Released.{Released}
use Rattle.isdb_fec.specs.Values.{some_beyond, path_limit}
use Rattle.isdb_fec.specs.Calls.{Fresh, Unchanged}
use Rattle.range_calls.specs.Inside.{none_beyond}
use Rattle.short_code.specs.declared.Code.{Code}
use Rattle.short_code.specs.Codes.{code_of, labels, half_of, states_of, good_code}
use Rattle.short_code.specs.CodeLaws.{good_states}
use Rattle.short_fec.specs.Rows as short
use Rattle.short_fec.specs.Calls.{call, handed, best_of, Leaves, Flushes}
use Rattle.path_greatest.specs.declared.Start.{Start}
use Rattle.path_greatest.specs.declared.Start.TheVariants.{Given, Unknown}
use Rattle.path_greatest.specs.Fresh.{start_values, StartsIn}
use Rattle.short_best.specs.Readings.{read, read_bits, reading_rows}
use Rattle.range_calls.specs.Handed.{decoder_after}
use Rattle.short_calls.specs.Calls.{made_or_zeros}
use Rattle.short_same_code.specs.SameLaws.{after_length}
use Rattle.short_best.specs.BestLaws.{accepts, reads}

-- ---- path values that are whole numbers within 2,131,072 are within row 4's limit
path_limit_lem : Whole path_limit 4294967296 0
unfolding of_bits fits hi lo pow2
path_limit_lem = record { num = record { fin_x = tt; fits_x = tt }; hi_is = refl; lo_is = refl }

inside : (half : ℕ) (pm : List Float) (val : ℕ → Z) (off : Z) (k : ℕ) → Tracks half pm val off k → k ≤ longest → length pm ≡ 2 * half → some_beyond path_limit pm ≡ false
inside half pm val off k tr few long =
    none_beyond path_limit pm
    (λ i h.
    let l : i < 2 * half = rw long at h in
    let x = get_or pm i nan in
    let q = tr.each i l in
    let a = tr.high i l in
    let b = tr.deep i l in
    let e = q.same in
    let f = tr.off_high in
    let g = tr.off_deep in
    and_i (le (neg path_limit) x) (le x path_limit)
    (le_from (neg path_limit) x 0 4294967296 q.p q.n (on_neg path_limit_lem) q.on (omega arith))
    (le_from x path_limit q.p q.n 4294967296 0 q.on path_limit_lem (omega arith)))

-- the start values as whole numbers
abbrev whole_start : ℕ → Start → ℕ → Z
whole_start n (Given s) = given (s % n)
whole_start n Unknown = level

begins : (half : ℕ) → 0 < half → (start : Start) → Started half (start_values (2 * half) start) (whole_start (2 * half) start)
begins half some (Given s) = given_started half (s % (2 * half)) (start_at (2 * half) s) (start_given half s some)
begins half some Unknown = unknown_started half (start_unknown (2 * half)) (start_unknown_lem half)

start_length : (n : ℕ) (start : Start) → length (start_values n start) ≡ n
unfolding start_at start_unknown
start_length n (Given s) = length_upto (λ k. cond (eqb k (s % n)) (of_bits binary32 0) (of_bits binary32 0xc974_2400)) n
start_length n Unknown = length_upto (λ k. of_bits binary32 0) n

module _ (c : Code) (start : Start) (xs : List Float) (n : ℕ) (m : ℕ → ℕ → ℤ) (good : good_code c ≡ true) (count : length xs ≡ 4 * n) (few : n ≤ longest) (quads : Quadruples (quadruple xs) m n) where
  abbrev half : ℕ
  half = half_of c

  some : 0 < half
  some = pow_pos (c.constraint - 2)

  abbrev begun : Decoder
  begun = fresh_from (start_values (states_of c) start)

  start_tracked : Tracks half (start_values (states_of c) start) (whole_start (2 * half) start) (0, 0) 0
  start_tracked = subst (λ (k : ℕ). Tracks half (start_values k start) (whole_start (2 * half) start) (0, 0) 0) (good_states c good) (start_tracks half (start_values (2 * half) start) (whole_start (2 * half) start) (begins half some start))

  long : length (start_values (states_of c) start) ≡ 2 * half
  long = start_length (states_of c) start ∙ sym (good_states c good)

  start_inside : some_beyond path_limit (start_values (states_of c) start) ≡ false
  start_inside = inside half (start_values (states_of c) start) (whole_start (2 * half) start) (0, 0) 0 start_tracked (lit≤ tt) long

  -- the values after all steps, less their greatest
  abbrev steps : ℕ → Step
  steps k = four (quadruple xs k)

  abbrev last : List Float
  last = values_at half (labels c) rule steps (start_values (states_of c) start) n

  end_tracked : (o : Z) × Tracks half (renormalised half last) (value half (labels c) rule (whole_start (2 * half) start) (λ k l. parts_of_lem (m k l)) n) o n
  unfolding times values_at
  end_tracked =
      let fo = follows half (labels c) rule steps n (λ k h. plain_four half (labels c) rule (quadruple xs k)) (start_values (states_of c) start) (le_of_eq (sym long)) in
      let r = tracks half some (labels c) (label_under (code_of c)) rule (whole_start (2 * half) start) (λ k l. parts_of_lem (m k l)) steps n (values_at half (labels c) rule steps (start_values (states_of c) start)) fo few start_tracked (quadruples (quadruple xs) m n quads) n (le_refl n) in
      times_step half some (labels c) (label_under (code_of c)) rule last (value half (labels c) rule (whole_start (2 * half) start) (λ k l. parts_of_lem (m k l)) n) n few 1 r

  last_length : length last ≡ 2 * half
  last_length = ap length (sym (after_values half (labels c) rule frame_traceback steps begun n)) ∙ after_length half (labels c) rule frame_traceback steps begun n long

  read_values : (read c start xs).values ≡ renormalised half last
  read_values =
      let e : length xs / 4 ≡ n = omega arith in
      ap (λ (v : List Float). renormalised half v) (after_values half (labels c) rule frame_traceback (four_steps xs) begun (length xs / 4) ∙ ap (λ (k : ℕ). values_at half (labels c) rule steps (start_values (states_of c) start) k) e)

  renormalised_long : length (renormalised half last) ≡ 2 * half
  renormalised_long = renormalised_length half last ∙ last_length

  read_length : length (read c start xs).values ≡ states_of c
  read_length = ap length read_values ∙ renormalised_long ∙ good_states c good

  end_inside : some_beyond path_limit (read c start xs).values ≡ false
  end_inside = ap (λ (v : List Float). some_beyond path_limit v) read_values ∙ inside half (renormalised half last) (value half (labels c) rule (whole_start (2 * half) start) (λ k l. parts_of_lem (m k l)) n) end_tracked.0 n end_tracked.1 few renormalised_long

  -- ---- the fresh decoder
  abbrev pub values : List Float
  values = laid (start_values (states_of c) start) (replicate 64 (of_bits binary32 0))

  abbrev pub fresh : ViterbiDecoder
  fresh = record { pm = values; held = 0; traceback = frame_traceback }

  -- it is what `with_state` and `new_unknown_state` make
  pub made_is : (made : Result ViterbiDecoder Refusal) → answer_of made ≡ first_row (short.fresh_rows c frame_traceback) → IfOk made (λ v. Fresh frame_traceback values v) → made ≡ Ok fresh
  made_is (Err row) a f = absurd (err_refuses {row = row} (a ∙ rw good refl))
  made_is (Ok v) a f =
      let x = f.values in
      let y = f.held_is in
      let z = f.traceback_is in
      λ i. Ok (record { pm = x i; held = y i; traceback = z i })

  front : take (states_of c) values ≡ start_values (states_of c) start
  front = ap (λ (k : ℕ). take k values) (sym (start_length (states_of c) start)) ∙ take_laid (start_values (states_of c) start) (replicate 64 (of_bits binary32 0))

  handed_is : (dec₀ : List ℕ) → handed c fresh dec₀ ≡ begun
  handed_is dec₀ = let f = front in λ i. record { values = f i; words = []; bits = [] }

  push_accepts : (D O : ℕ) → frame_words ≤ D → n ≤ O → first_row (short.stream_rows c 4 fresh xs D O) ≡ answer.Accepted
  push_accepts D O hd ho =
      let p = passed (reading_rows c xs D O) tt (accepts c xs n m good count few quads D O hd ho) in
      let r : releases frame_traceback 0 (length xs / 4) ≡ 0 = releases_is frame_traceback 0 (length xs / 4) (lit≤ tt) ∙ omega arith in
      rw (good, front, start_inside, p answer.Length, p answer.Sample, le-ltb O (block * releases frame_traceback 0 (length xs / 4)) (omega arith), le-ltb D frame_words hd) refl

  -- ---- the two calls on it: once the first has accepted
  module _ (p : Released) (dec₀ dec₁ out₀ out₁ : List ℕ) (hd : frame_words ≤ length dec₀) (ho : n ≤ length out₀)
      (pl : Leaves fresh (call c frame_traceback (four_steps xs) (handed c fresh dec₀) (length xs / 4)) p dec₀ dec₁ out₀ out₁) where
    abbrev d : Decoder
    d = read c start xs

    left : Leaves fresh d p dec₀ dec₁ out₀ out₁
    left = subst (λ (x : Decoder). Leaves fresh (call c frame_traceback (four_steps xs) x (length xs / 4)) p dec₀ dec₁ out₀ out₁) (handed_is dec₀) pl

    sizes : (length d.words ≡ n) × (length d.bits ≡ 0)
    sizes =
        let k = counted half (labels c) rule frame_traceback (four_steps xs) begun (lit≤ tt) (lit≤ tt) (lit< tt) (length xs / 4) in
        let w = k.words_left in
        let b = k.bits_out in
        let e : releases frame_traceback 0 (length xs / 4) ≡ 0 = releases_is frame_traceback 0 (length xs / 4) (lit≤ tt) ∙ omega arith in
        (omega arith, omega arith)

    none_out : d.bits ≡ []
    none_out = none_listed d.bits sizes.1

    out_is : out₁ ≡ out₀
    out_is = left.bits ∙ ap (λ (b : List ℕ). laid b out₀) none_out

    dec_is : dec₁ ≡ laid d.words dec₀
    dec_is = left.words ∙ ap (λ (b : List ℕ). decisions_after frame_traceback d.words b dec₀) none_out

    pm_is : take (states_of c) p.dec.pm ≡ d.values
    pm_is = ap (λ (v : List Float). take (states_of c) v) left.values ∙ ap (λ (k : ℕ). take k (laid d.values values)) (sym read_length) ∙ take_laid d.values values

    flush_accepts : first_row (short.flush_rows c p.dec (length dec₁) (length out₁)) ≡ answer.Accepted
    flush_accepts =
        let z = sizes.0 in
        let h : p.dec.held ≡ n = left.held_is ∙ z in
        let lo : length out₁ ≡ length out₀ = ap length out_is in
        let ld : length dec₁ ≡ length dec₀ = ap length dec_is ∙ length_laid d.words dec₀ (omega arith) in
        rw (left.traceback_is, good, pm_is, end_inside, h, lt-leb frame_words n (omega arith), le-ltb (length out₁) n (omega arith), le-ltb (length dec₁) frame_words (omega arith)) refl

    traced_is : traced half (take p.dec.held dec₁) (best_of c p.dec) ≡ read_bits c start xs
    traced_is =
        let w : take p.dec.held dec₁ ≡ d.words = ap (λ (k : ℕ). take k dec₁) left.held_is ∙ ap (λ (l : List ℕ). take (length d.words) l) dec_is ∙ take_laid d.words dec₀ in
        ap (λ (l : List ℕ). traced half l (best_of c p.dec)) w
        ∙ ap (λ (v : List Float). traced half d.words (best rule v (states_of c - 1))) pm_is
        ∙ ap (λ (k : ℕ). traced half d.words (best rule d.values (k - 1))) (sym (good_states c good))
        ∙ ap (λ (b : List ℕ). b ++ traced half d.words (best rule d.values (2 * half - 1))) (sym none_out)

    -- all bits come with the flush: they are the inputs of the first path of greatest sum
    all_read : (r : Released) (dec₂ out₂ : List ℕ) → Flushes c p.dec (best_of c p.dec) r dec₁ dec₂ out₁ out₂ → (p.count ≡ 0) × (r.count ≡ n) × Reading half (labels c) rule (StartsIn (states_of c) start) m n (take n out₂)
    all_read r dec₂ out₂ done =
        let b = reads c xs n m good count few quads start in
        let k : length (read_bits c start xs) ≡ n = b.best.path.count in
        let o : out₂ ≡ laid (read_bits c start xs) out₁ = done.bits ∙ ap (λ (l : List ℕ). laid l out₁) traced_is in
        let t : take n out₂ ≡ read_bits c start xs = ap (λ (x : List ℕ). take n x) o ∙ ap (λ (j : ℕ). take j (laid (read_bits c start xs) out₁)) (sym k) ∙ take_laid (read_bits c start xs) out₁ in
        (left.count_is ∙ sizes.1, done.count_is ∙ left.held_is ∙ sizes.0, subst (λ (x : List ℕ). Reading half (labels c) rule (StartsIn (states_of c) start) m n x) (sym t) b)

  -- both accept
  pub three_calls : (p r : Result Released Refusal) (dec₀ dec₁ dec₂ out₀ out₁ out₂ : List ℕ) → frame_words ≤ length dec₀ → n ≤ length out₀
      → answer_of p ≡ first_row (short.stream_rows c 4 fresh xs (length dec₀) (length out₀))
      → MatchResult p (λ x. Leaves fresh (call c frame_traceback (four_steps xs) (handed c fresh dec₀) (length xs / 4)) x dec₀ dec₁ out₀ out₁) (λ _. Unchanged dec₀ dec₁ out₀ out₁)
      → answer_of r ≡ first_row (short.flush_rows c (decoder_after fresh p) (length dec₁) (length out₁))
      → MatchResult r (λ y. Flushes c (decoder_after fresh p) (best_of c (decoder_after fresh p)) y dec₁ dec₂ out₁ out₂) (λ _. Unchanged dec₁ dec₂ out₁ out₂)
      → (x : Released) × (p ≡ Ok x) × (x.count ≡ 0) × (y : Released) × (r ≡ Ok y) × (y.count ≡ n) × Reading half (labels c) rule (StartsIn (states_of c) start) m n (take n out₂)
  three_calls (Err row) r dec₀ dec₁ dec₂ out₀ out₁ out₂ hd ho pa pl ra rl = absurd (err_refuses {row = row} (pa ∙ push_accepts (length dec₀) (length out₀) hd ho))
  three_calls (Ok x) (Err row) dec₀ dec₁ dec₂ out₀ out₁ out₂ hd ho pa pl ra rl = absurd (err_refuses {row = row} (ra ∙ flush_accepts x dec₀ dec₁ out₀ out₁ hd ho pl))
  three_calls (Ok x) (Ok y) dec₀ dec₁ dec₂ out₀ out₁ out₂ hd ho pa pl ra rl =
      let a = all_read x dec₀ dec₁ out₀ out₁ hd ho pl y dec₂ out₂ rl in
      (x, refl, a.0, y, refl, a.1, a.2)

-- ---- where the start is refused
pub unmade : (c : Code) (xs : List Float) (made : Result ViterbiDecoder Refusal) (p r : Result Released Refusal) (dec₀ dec₁ dec₂ out₀ out₁ out₂ : List ℕ)
    → answer_of p ≡ first_row (short.stream_rows c 4 (made_or_zeros made) xs (length dec₀) (length out₀))
    → MatchResult p
    (λ x. Leaves (made_or_zeros made) (call c (made_or_zeros made).traceback (four_steps xs) (handed c (made_or_zeros made) dec₀) (length xs / 4)) x dec₀ dec₁ out₀ out₁)
    (λ _. Unchanged dec₀ dec₁ out₀ out₁)
    → answer_of r ≡ first_row (short.flush_rows c (decoder_after (made_or_zeros made) p) (length dec₁) (length out₁))
    → MatchResult r
    (λ y. Flushes c (decoder_after (made_or_zeros made) p) (best_of c (decoder_after (made_or_zeros made) p)) y dec₁ dec₂ out₁ out₂)
    (λ _. Unchanged dec₁ dec₂ out₁ out₂)
    → IfErr made (λ _. (answer_of p ≡ answer.Traceback) × (answer_of r ≡ answer.Traceback) × Unchanged dec₀ dec₂ out₀ out₂)
unmade c xs (Ok v) p r dec₀ dec₁ dec₂ out₀ out₁ out₂ pa pl ra rl = tt
unmade c xs (Err row) (Ok x) r dec₀ dec₁ dec₂ out₀ out₁ out₂ pa pl ra rl = absurd (err_refuses (sym pa))
unmade c xs (Err row) (Err why) (Ok y) dec₀ dec₁ dec₂ out₀ out₁ out₂ pa pl ra rl = absurd (err_refuses (sym ra))
unmade c xs (Err row) (Err why) (Err other) dec₀ dec₁ dec₂ out₀ out₁ out₂ pa pl ra rl = (pa, ra, record { words = rl.words ∙ pl.words; bits = rl.bits ∙ pl.bits })
