-- Points that are counted part after part: all of them, with the runs of a table and the frame that a load encodes to, are those of the verdict.
use Rattle.std.specs.Prelude.{◌≡◌, Bool, true, false, ◌&&◌, eqb, ltb, get_or, length, drop, replicate, Float, Option, Some, None}
use Rattle.std.proofs.Math.Path.{refl}
use Rattle.std.proofs.Common.{sym, ◌∙◌, ap, zero-add, ext_get_or, get_or-append-add, get_or-drop, le-ltb, eq-eqb, ne_eqb, ltb-true, ltb-false}
use mathlib.Core.List.{List, [], ◌∷◌, ◌++◌}
use Prim.Native.Nat.{ℕ, zero, suc, ◌+◌, ◌-◌, ◌*◌, ◌/◌, ◌<◌, ◌≤◌}
use native.Mathlib.Omega.{arith}
use Rattle.std.specs.Float.{nan}
use Rattle.trellis.specs.Lists.{bit, upto, laid, padded}
use Rattle.trellis.specs.ListLaws.{length_upto}
use Rattle.isdbs_combination.specs.declared.Combination.{Combination}
use Rattle.isdbs_plan.specs.declared.Run.{Run}
use Rattle.isdbs_tables.specs.declared.Entry.{Entry}
use Rattle.isdbs_tables.specs.declared.Table.{Table}
use Rattle.isdbs_frame.specs.Frame.{main_symbols}
use Rattle.isdbs_tables.specs.Tables.{entry_combination}
use Rattle.isdbs_combination.specs.Combinations.{modulation_of, slot_symbols, frame_slots, slot_bits}
use Rattle.isdbs_plan.specs.RunsOf.{run_of, entry_runs, entry_symbols, runs_from, runs_of, steps_of, no_run}
use Rattle.isdbs_points.specs.declared.Mapping.{Mapping}
use Rattle.isdbs_points.specs.Layout.{segments_from, among, at_symbol}
use Rattle.trellis.specs.LaidLaws.{laid_at, length_laid_upto}
use Rattle.isdbs_points.specs.declared.Cplx.{Cplx}
use Rattle.isdbs_points.specs.Frame.{point_at, start_state}
use Rattle.margins.specs.Margins.{is_bpsk, free_re, free_im}
use Rattle.strain_marks.specs.Counts.{summed, counted}
use Rattle.strain_marks.specs.CountsLaws.{summed_same, summed_append, summed_zero, counted_few}
use Rattle.judge_points.specs.Outside.{outside, outside_of, outside_counts, outside_sum}
use Rattle.judge_points.proofs.OutsideLaws.{outside_sum_lem}
use Rattle.judge_points.specs.Given.{run_at, outside_given, added, Counted}

-- ---- the run of a symbol: among a table's runs, and among those and the empty ones past them
module _ {A : Type 0} (none : A) (f : Combination → A) (k : ℕ) where
  abbrev in_runs : List Run → A
  in_runs rs = run_at none (λ r. f r.combination) rs k

  abbrev in_segments : List Run → ℕ → ℕ → A
  in_segments rs s b = among (λ g. g.symbol) (λ g. g.symbols) none (λ g j. f g.combination) (segments_from rs s b) k

  past_runs : (n : ℕ) → in_runs (replicate n no_run) ≡ none
  unfolding run_at
  past_runs zero = refl
  past_runs (suc n) = rw (le-ltb k 0 (omega arith)) (past_runs n)

  padded_run : (rs : List Run) (n : ℕ) → in_runs (rs ++ replicate n no_run) ≡ in_runs rs
  unfolding run_at
  padded_run [] n = past_runs n
  padded_run (r ∷ rs) n = rw (padded_run rs n)

  entry_run : (c : Option Combination) (n slot symbol : ℕ) (rs : List Run) → ((s b : ℕ) → in_segments rs s b ≡ in_runs rs) → (s b : ℕ)
      → in_segments (entry_runs c n slot symbol ++ rs) s b ≡ in_runs (entry_runs c n slot symbol ++ rs)
  unfolding run_at among segments_from
  entry_run (Some c) n slot symbol rs h s b =
      let e : symbol + (symbol + n * slot_symbols - symbol) ≡ symbol + n * slot_symbols = omega arith in
      let r = run_of c n slot symbol in
      rw (e, h (s + steps_of r) (b + slot_bits * r.valid_slots))
  entry_run None n slot symbol rs h s b = h s b

  run_of_lem : (es : List Entry) (slot symbol s b : ℕ) → in_segments (runs_from es slot symbol) s b ≡ in_runs (runs_from es slot symbol)
  unfolding runs_from run_at among segments_from
  run_of_lem [] slot symbol s b = refl
  run_of_lem (e ∷ es) slot symbol s b =
      let c = entry_combination e in
      entry_run c e.slots slot symbol (runs_from es (slot + e.slots) (symbol + entry_symbols c e.slots))
      (run_of_lem es (slot + e.slots) (symbol + entry_symbols c e.slots)) s b

  pub run_at_symbol : (t : Table) → in_runs (padded 4 no_run (runs_of t)) ≡ at_symbol none (λ g j. f g.combination) t k
  run_at_symbol t = padded_run (runs_of t) (4 - length (runs_of t)) ∙ sym (run_of_lem t.entries 0 0 0 0)

-- ---- points counted part after part
-- a test that fails counts nothing, and one that passes leaves the other
unless : (b t : Bool) → t ≡ false → bit (b && t) ≡ 0
unless true t e = ap bit e
unless false t e = refl

where_passed : (b t : Bool) → t ≡ true → bit (b && t) ≡ bit b
where_passed true t e = ap bit e
where_passed false t e = refl

-- of all points those in slot j are its own
module _ (f : ℕ → Bool) (j : ℕ) where
  abbrev own : ℕ → ℕ
  own k = bit (f (0 + k) && eqb ((0 + k) / slot_symbols) j)

  pub added_all : j < frame_slots → added f 0 main_symbols j ≡ counted (λ i. f (slot_symbols * j + i)) slot_symbols
  added_all l =
      let rest = main_symbols - slot_symbols * j - slot_symbols in
      let all : main_symbols ≡ slot_symbols * j + (slot_symbols + rest) = omega arith in
      let first : summed own (slot_symbols * j) ≡ 0 = summed_zero own (slot_symbols * j) (λ k h. unless (f (0 + k)) (eqb ((0 + k) / slot_symbols) j) (ne_eqb ((0 + k) / slot_symbols) j (λ e. omega arith))) in
      let here : summed (λ i. own (slot_symbols * j + i)) slot_symbols ≡ counted (λ i. f (slot_symbols * j + i)) slot_symbols =
      summed_same (λ i. own (slot_symbols * j + i)) (λ i. bit (f (slot_symbols * j + i))) slot_symbols
      (λ i h.
      where_passed (f (0 + (slot_symbols * j + i))) (eqb ((0 + (slot_symbols * j + i)) / slot_symbols) j) (eq-eqb ((0 + (slot_symbols * j + i)) / slot_symbols) j (omega arith))
      ∙ ap (λ (k : ℕ). bit (f k)) (zero-add (slot_symbols * j + i))) in
      let last : summed (λ i. own (slot_symbols * j + (slot_symbols + i))) rest ≡ 0 =
      summed_zero (λ i. own (slot_symbols * j + (slot_symbols + i))) rest
      (λ i h. unless (f (0 + (slot_symbols * j + (slot_symbols + i)))) (eqb ((0 + (slot_symbols * j + (slot_symbols + i))) / slot_symbols) j) (ne_eqb ((0 + (slot_symbols * j + (slot_symbols + i))) / slot_symbols) j (λ e. omega arith))) in
      ap (λ (n : ℕ). summed own n) all ∙ summed_append own (slot_symbols * j) (slot_symbols + rest)
      ∙ omega (arith, first, here, last, summed_append (λ i. own (slot_symbols * j + i)) slot_symbols rest)

  pub added_past : frame_slots ≤ j → added f 0 main_symbols j ≡ 0
  added_past l = summed_zero own main_symbols (λ k h. unless (f (0 + k)) (eqb ((0 + k) / slot_symbols) j) (ne_eqb ((0 + k) / slot_symbols) j (λ e. omega arith)))

-- nothing counted; the same by another test that says the same; and two parts, one after the other
pub counted_nothing : (f : ℕ → Bool) (from : ℕ) (counts : List ℕ) → Counted f from 0 counts counts 0
unfolding summed
counted_nothing f from counts = record { size = refl; each = λ j. omega arith; sum_is = refl }

pub counted_same : (f g : ℕ → Bool) (from n : ℕ) (counts₀ counts : List ℕ) (sum : ℕ) → ((i : ℕ) → i < n → f (from + i) ≡ g (from + i)) → Counted f from n counts₀ counts sum → Counted g from n counts₀ counts sum
counted_same f g from n counts₀ counts sum h w =
    record {
      size = w.size;
      each = λ j.
          w.each j
          ∙ ap (λ (x : ℕ). get_or counts₀ j 0 + x)
          (summed_same (λ i. bit (f (from + i) && eqb ((from + i) / slot_symbols) j)) (λ i. bit (g (from + i) && eqb ((from + i) / slot_symbols) j)) n (λ i l. ap (λ (x : Bool). bit (x && eqb ((from + i) / slot_symbols) j)) (h i l)));
      sum_is = w.sum_is ∙ summed_same (λ i. bit (f (from + i))) (λ i. bit (g (from + i))) n (λ i l. ap bit (h i l));
    }

pub counted_both : (f : ℕ → Bool) (a n : ℕ) (counts₀ counts₁ counts : List ℕ) (sum₁ sum : ℕ) → Counted f 0 a counts₀ counts₁ sum₁ → Counted f a n counts₁ counts sum → Counted f 0 (a + n) counts₀ counts (sum₁ + sum)
counted_both f a n counts₀ counts₁ counts sum₁ sum v w =
    let later : (k : ℕ) → 0 + (a + k) ≡ a + k = λ k. zero-add (a + k) in
    record {
      size = w.size ∙ v.size;
      each = λ j.
          let own : ℕ → ℕ = λ k. bit (f (0 + k) && eqb ((0 + k) / slot_symbols) j) in
          let second : summed (λ i. own (a + i)) n ≡ added f a n j = summed_same (λ i. own (a + i)) (λ i. bit (f (a + i) && eqb ((a + i) / slot_symbols) j)) n (λ i l. ap (λ (k : ℕ). bit (f k && eqb (k / slot_symbols) j)) (later i)) in
          omega (arith, w.each j, v.each j, second, summed_append own a n);
      sum_is =
          let out : ℕ → ℕ = λ k. bit (f (0 + k)) in
          let second : summed (λ i. out (a + i)) n ≡ counted (λ i. f (a + i)) n = summed_same (λ i. out (a + i)) (λ i. bit (f (a + i))) n (λ i l. ap (λ (k : ℕ). bit (f k)) (later i)) in
          omega (arith, w.sum_is, v.sum_is, second, summed_append out a n);
    }

-- counts are at most the points counted
pub counts_few : (f : ℕ → Bool) (from n : ℕ) (counts₀ counts : List ℕ) (sum most : ℕ) → Counted f from n counts₀ counts sum → ((j : ℕ) → j < frame_slots → get_or counts₀ j 0 ≤ most) → (j : ℕ) → j < frame_slots → get_or counts j 0 ≤ most + n
counts_few f from n counts₀ counts sum most w h j l = omega (arith, w.each j, h j l, counted_few (λ i. f (from + i) && eqb ((from + i) / slot_symbols) j) n)

pub sum_few : (f : ℕ → Bool) (from n : ℕ) (counts₀ counts : List ℕ) (sum : ℕ) → Counted f from n counts₀ counts sum → sum ≤ n
sum_few f from n counts₀ counts sum w = omega (arith, w.sum_is, counted_few (λ i. f (from + i)) n)

-- ---- all points, from counts that were cleared
pub laid_past : (f : ℕ → ℕ) (n : ℕ) (w : List ℕ) (k : ℕ) → n ≤ k → get_or (laid (upto f n) w) k 0 ≡ get_or w k 0
laid_past f n w k h =
    let e : k ≡ length (upto f n) + (k - n) = omega (arith, length_upto f n) in
    let d : length (upto f n) + (k - n) ≡ k = sym e in
    ap (λ (i : ℕ). get_or (laid (upto f n) w) i 0) e ∙ get_or-append-add (upto f n) (drop (length (upto f n)) w) (k - n) 0
    ∙ get_or-drop (length (upto f n)) w (k - n) 0 ∙ ap (λ (i : ℕ). get_or w i 0) d

module _ (f : ℕ → Bool) (counts₀ counts : List ℕ) (sum : ℕ) (room : frame_slots ≤ length counts₀) (w : Counted f 0 main_symbols (laid (upto (λ _. 0) frame_slots) counts₀) counts sum) where
  abbrev slot : ℕ → ℕ
  slot j = counted (λ i. f (slot_symbols * j + i)) slot_symbols

  at_slot : (j : ℕ) → (t : Bool) → ltb j frame_slots ≡ t → get_or counts j 0 ≡ get_or (laid (upto slot frame_slots) counts₀) j 0
  at_slot j true e =
      let l = ltb-true j frame_slots e in
      omega (arith, w.each j, laid_at 0 (λ _. 0) frame_slots counts₀ j l, laid_at 0 slot frame_slots counts₀ j l, added_all f j l)
  at_slot j false e =
      let l = ltb-false j frame_slots e in
      omega (arith, w.each j, laid_past (λ _. 0) frame_slots counts₀ j l, laid_past slot frame_slots counts₀ j l, added_past f j l)

  pub all_counts : counts ≡ laid (upto slot frame_slots) counts₀
  all_counts =
      let zeros = length_laid_upto (λ (_ : ℕ). 0) frame_slots counts₀ room in
      let slots = length_laid_upto slot frame_slots counts₀ room in
      ext_get_or 0 counts (laid (upto slot frame_slots) counts₀) (w.size ∙ zeros ∙ sym slots) (λ j l. at_slot j (ltb j frame_slots) refl)

  pub all_sum : sum ≡ counted f main_symbols
  all_sum = w.sum_is ∙ summed_same (λ i. bit (f (0 + i))) (λ i. bit (f i)) main_symbols (λ i l. ap (λ (k : ℕ). bit (f k)) (zero-add i))

-- ---- over the frame of a load
module _ (re im : List Float) (load : List ℕ) (t : Table) (m : Mapping) (first : Bool) where
  abbrev list : List Run
  list = padded 4 no_run (runs_of t)

  abbrev point : ℕ → Cplx
  point = point_at t m load (start_state first)

  -- where the clean parts are those of the frame
  pub outside_is : (k : ℕ) (x y : Float) → x ≡ (point k).re → y ≡ (point k).im → outside_given list x y (get_or re k nan) (get_or im k nan) k ≡ outside re im load t m first k
  outside_is k x y ex ey = rw (ex, ey, run_at_symbol true (λ c. false) k t, run_at_symbol true (λ c. is_bpsk (modulation_of c)) k t)

  -- and where both parts are free
  pub outside_free : (k : ℕ) (x y : Float) → free_re t k ≡ true → free_im t k ≡ true → outside_given list x y (get_or re k nan) (get_or im k nan) k ≡ outside re im load t m first k
  outside_free k x y ex ey = rw (run_at_symbol true (λ c. false) k t, run_at_symbol true (λ c. is_bpsk (modulation_of c)) k t, ex, ey)

  -- all of them counted are the verdict
  module _ (counts₀ counts : List ℕ) (sum : ℕ) (room : frame_slots ≤ length counts₀) (w : Counted (outside re im load t m first) 0 main_symbols (laid (upto (λ _. 0) frame_slots) counts₀) counts sum) where
    pub counts_are : counts ≡ laid (outside_counts re im load t m first) counts₀
    unfolding outside_of
    counts_are = all_counts (outside re im load t m first) counts₀ counts sum room w

    pub sum_is : sum ≡ outside_sum re im load t m first
    sum_is = all_sum (outside re im load t m first) counts₀ counts sum room w ∙ sym (outside_sum_lem re im load t m first)
