-- "the header that W1, any TMCC bytes and W2 or W3 encode to, from any state, has turn 0, the right kind and |A| = 40".
use Rattle.std.specs.Prelude.{◌≡◌, Bool, cond, ◌&&◌, ℕ, zero, suc, ◌+◌, ◌*◌, ◌/◌, ◌%◌, ◌<◌, T, eqb, Float, length, get_or, take, drop}
use Rattle.std.proofs.Math.Path.{refl, ap}
use Rattle.std.proofs.Common.{sym, ◌∙◌, zero-mul, suc-mul, eqb→eq, get_or-append-add, get_or-take, get_or-drop}
use Rattle.std.proofs.Math.Bool.{true, false}
use mathlib.Core.List.{List, [], ◌∷◌, ◌++◌}
use native.Mathlib.Omega.{arith}
use Rattle.std.specs.Float.{nan, binary64}
use Rattle.std.specs.Float.Ieee.{neg, add, mul, div, lt, le, of_bits, of_fields, odd}
use Rattle.std.specs.Float.Ieee.Fits.{and_l, and_r}
use Rattle.std.proofs.Math.ListN.{get_or-append}
use Rattle.trellis.specs.Code.{isdb, half, label, output, tapped, moved}
use Rattle.trellis.specs.Lists.{upto}
use Rattle.trellis.specs.Step.{term}
use Rattle.trellis.specs.Encoded.{bits_of, encoded, reached}
use Rattle.trellis.proofs.EncodedLaws.{length_bits, length_encoded, encoded_append}
use Rattle.trellis.specs.ListLaws.{every, every_at, length_upto, get_d_upto}
use Rattle.isdbs_frame.specs.Frame.{w1, w2, w3}
use Rattle.isdbs_points.specs.Layout.{word_bit, load_bit}
use Rattle.isdbs_points.specs.Points.{one64, bpsk_of}
use Rattle.header_sync.specs.declared.Fit.{Fit}
use Rattle.header_sync.specs.Signs.{tail1, tail2, tail3, place1, place2, zero64, side, mark, marks}
use Rattle.header_sync.specs.Fits.{is_first, joined, fit_of, fit_by, fit_at}
use Rattle.header_sync.specs.Search.{squares}
use Rattle.header_mean.specs.declared.Mean.{Mean}
use Rattle.header_mean.specs.Means.{last_tail, sum_from, forty64, mean_part, power_of, mean_of, mean_at, near_axis, size_of, by_sign, turn_by, turn_of}
use Rattle.header_find.specs.Headers.{header_of, header_at}
use Rattle.header_turns.specs.SignLaws.{neg_neg}
use Rattle.header_turns.specs.Turning.{both_axes}
use Rattle.header_turns.specs.Sent.{word_bits, tmcc_bits, last_word, coded_header, Begins}

-- ---- the coded tails of the sync words: one computed test over the 64 states for each word
alike : List ℕ → List ℕ → Bool
alike [] [] = true
alike [] (y ∷ ys) = false
alike (x ∷ xs) [] = false
alike (x ∷ xs) (y ∷ ys) = eqb x y && alike xs ys

alike_same : (xs ys : List ℕ) → T (alike xs ys) → xs ≡ ys
unfolding alike
alike_same [] [] t = refl
alike_same [] (y ∷ ys) t = absurd t
alike_same (x ∷ xs) [] t = absurd t
alike_same (x ∷ xs) (y ∷ ys) t = rw (eqb→eq x y (and_l (eqb x y) (alike xs ys) t), alike_same xs ys (and_r (eqb x y) (alike xs ys) t)) refl

-- the coded bits of a word, and the last 20 of them
unfoldable pub word : ℕ → ℕ → List ℕ
word w s = bits_of (encoded isdb s (word_bits w))

unfoldable pub tail_from : ℕ → ℕ → List ℕ
tail_from w s = take 20 (drop 12 (word w s))

passes1 : T (every (λ s. alike (tail_from w1 s) tail1) 64)
unfolding every alike tail_from word encoded label output tapped upto
passes1 = tt

passes2 : T (every (λ s. alike (tail_from w2 s) tail2) 64)
unfolding every alike tail_from word encoded label output tapped upto
passes2 = tt

passes3 : T (every (λ s. alike (tail_from w3 s) tail3) 64)
unfolding every alike tail_from word encoded label output tapped upto
passes3 = tt

pub first_tail : (s : ℕ) → s < 64 → tail_from w1 s ≡ tail1
first_tail s h = alike_same (tail_from w1 s) tail1 (every_at (λ s. alike (tail_from w1 s) tail1) 64 passes1 s h)

pub last_tail_lem : (first : Bool) (s : ℕ) → s < 64 → tail_from (last_word first) s ≡ last_tail first
last_tail_lem true s h = alike_same (tail_from w2 s) tail2 (every_at (λ s. alike (tail_from w2 s) tail2) 64 passes2 s h)
last_tail_lem false s h = alike_same (tail_from w3 s) tail3 (every_at (λ s. alike (tail_from w3 s) tail3) 64 passes3 s h)

tail_at : (w s j : ℕ) → j < 20 → get_or (word w s) (12 + j) 0 ≡ get_or (tail_from w s) j 0
unfolding tail_from
tail_at w s j h = sym (get_or-take 20 (drop 12 (word w s)) j 0 h ∙ get_or-drop 12 (word w s) j 0)

-- ---- where they stand in the header
under : (us : List ℕ) → ((k : ℕ) → k < length us → get_or us k 0 < 2) → (s : ℕ) → s < 64 → reached isdb s us < 64
unfolding reached
under [] h s l = l
under (u ∷ us) h s l = let z : u < 2 = h 0 (omega arith) in under us (λ k m. h (suc k) (omega arith)) (moved (half isdb) u s) (omega arith)

upto_under : (f : ℕ → ℕ) (n : ℕ) → ((i : ℕ) → f i < 2) → (s : ℕ) → s < 64 → reached isdb s (upto f n) < 64
upto_under f n h s l = under (upto f n) (λ k m. let e = get_d_upto f 0 n k (rw (length_upto f n) at m) in rw e (h k)) s l

bits_append : (xs ys : List ℕ) → bits_of (xs ++ ys) ≡ bits_of xs ++ bits_of ys
bits_append [] ys = refl
bits_append (x ∷ xs) ys = ap (λ (l : List ℕ). x / 2 ∷ x % 2 ∷ l) (bits_append xs ys)

length_coded : (f : ℕ → ℕ) (n s : ℕ) → length (bits_of (encoded isdb s (upto f n))) ≡ 2 * n
length_coded f n s = length_bits (encoded isdb s (upto f n)) ∙ ap (λ (k : ℕ). 2 * k) (length_encoded isdb s (upto f n) ∙ length_upto f n)

module _ (s : ℕ) (first : Bool) (tmcc : List ℕ) (h : s < 64) where
  -- the states after W1 and after TMCC
  after1 : ℕ
  after1 = reached isdb s (word_bits w1)

  after2 : ℕ
  after2 = reached isdb after1 (tmcc_bits tmcc)

  middle : List ℕ
  middle = bits_of (encoded isdb after1 (tmcc_bits tmcc))

  under1 : after1 < 64
  unfolding after1
  under1 = upto_under (word_bit w1) 16 (λ i. omega arith) s h

  under2 : after2 < 64
  unfolding after2
  under2 = upto_under (load_bit tmcc) 64 (λ i. omega arith) after1 under1

  parts : coded_header s first tmcc ≡ word w1 s ++ (middle ++ word (last_word first) after2)
  unfolding coded_header word middle after1 after2
  parts =
      ap bits_of (encoded_append isdb s (word_bits w1) (tmcc_bits tmcc ++ word_bits (last_word first)))
      ∙ bits_append (encoded isdb s (word_bits w1)) (encoded isdb after1 (tmcc_bits tmcc ++ word_bits (last_word first)))
      ∙ ap (λ (l : List ℕ). word w1 s ++ l)
      (ap bits_of (encoded_append isdb after1 (tmcc_bits tmcc) (word_bits (last_word first)))
      ∙ bits_append (encoded isdb after1 (tmcc_bits tmcc)) (encoded isdb after2 (word_bits (last_word first))))

  word_long : (w r : ℕ) → length (word w r) ≡ 32
  unfolding word
  word_long w r = length_coded (word_bit w) 16 r

  middle_long : length middle ≡ 128
  unfolding middle
  middle_long = length_coded (load_bit tmcc) 64 after1

  -- "Header symbols 12 to 31 carry W1's tail"
  pub early : (j : ℕ) → j < 20 → get_or (coded_header s first tmcc) (12 + j) 0 ≡ get_or tail1 j 0
  early j l =
      ap (λ (x : List ℕ). get_or x (12 + j) 0) parts
      ∙ get_or-append (word w1 s) (middle ++ word (last_word first) after2) 0 (12 + j) (rw (word_long w1 s) (omega arith))
      ∙ tail_at w1 s j l
      ∙ ap (λ (x : List ℕ). get_or x j 0) (first_tail s h)

  -- "172 to 191 W2's 0B677h or its complement (W3's F4988h)"
  pub late : (j : ℕ) → j < 20 → get_or (coded_header s first tmcc) (172 + j) 0 ≡ get_or (last_tail first) j 0
  late j l =
      let e : 172 + j ≡ length (word w1 s) + (length middle + (12 + j)) = rw (word_long w1 s, middle_long) (omega arith) in
      ap (λ (x : List ℕ). get_or x (172 + j) 0) parts
      ∙ ap (λ (k : ℕ). get_or (word w1 s ++ (middle ++ word (last_word first) after2)) k 0) e
      ∙ get_or-append-add (word w1 s) (middle ++ word (last_word first) after2) (length middle + (12 + j)) 0
      ∙ get_or-append-add middle (word (last_word first) after2) (12 + j) 0
      ∙ tail_at (last_word first) after2 j l
      ∙ ap (λ (x : List ℕ). get_or x j 0) (last_tail_lem first after2 under2)

-- ---- the scores
pub marks_each : (tail : List ℕ) (part : List Float) (at m n : ℕ) → ((j : ℕ) → j < n → mark (get_or tail j 0) (get_or part (at + j) nan) ≡ m) → marks tail part at n ≡ n * m
unfolding marks
marks_each tail part at m zero e = sym (zero-mul m)
marks_each tail part at m (suc n) e =
    let h = marks_each tail part at m n (λ j l. e j (omega arith)) in
    let k = e n (omega arith) in
    let z = suc-mul n m in
    omega arith

-- the sign of each tail's bit scores 1 against itself, and -1 against its complement's: 2 and 0, with 1 more
scores : List ℕ → List ℕ → ℕ → ℕ → Bool
scores tail sent m j = eqb (mark (get_or tail j 0) (term (get_or sent j 0) one64)) m

agree1 : T (every (scores tail1 tail1 2) 20)
unfolding every scores mark side lt neg of_bits of_fields odd upto
agree1 = tt

agree2 : T (every (scores tail2 tail2 2) 20)
unfolding every scores mark side lt neg of_bits of_fields odd upto
agree2 = tt

differ3 : T (every (scores tail2 tail3 0) 20)
unfolding every scores mark side lt neg of_bits of_fields odd upto
differ3 = tt

score_at : (tail sent : List ℕ) (m : ℕ) → T (every (scores tail sent m) 20) → (j : ℕ) → j < 20 → mark (get_or tail j 0) (term (get_or sent j 0) one64) ≡ m
unfolding scores
score_at tail sent m t j h = eqb→eq (mark (get_or tail j 0) (term (get_or sent j 0) one64)) m (every_at (scores tail sent m) 20 t j h)

none_scored : (b : ℕ) → mark b zero64 ≡ 1
unfolding mark side lt of_bits of_fields odd
none_scored b = by (eqb b 0)
  where
    by : (t : Bool) → cond {A = ℕ} t 1 1 ≡ 1
    by true = refl
    by false = refl

-- what W2's symbols score against W2's tail: 20 where W2 was sent, -20 where W3 was; with 20 more
abbrev last_score : Bool → ℕ
last_score first = cond first 2 0

last_scores : (first : Bool) (j : ℕ) → j < 20 → mark (get_or tail2 j 0) (term (get_or (last_tail first) j 0) one64) ≡ last_score first
last_scores true j h = score_at tail2 tail2 2 agree2 j h
last_scores false j h = score_at tail2 tail3 0 differ3 j h

-- ---- the mean
unfoldable pub ones : Float → ℕ → Float
ones s zero = s
ones s (suc n) = add binary64 (ones s n) one64

sum_ones : (s : Float) (tail : List ℕ) (part : List Float) (at n : ℕ) → ((j : ℕ) → j < n → term (get_or tail j 0) (get_or part (at + j) nan) ≡ one64) → sum_from s tail part at n ≡ ones s n
unfolding sum_from ones
sum_ones s tail part at zero e = refl
sum_ones s tail part at (suc n) e = rw (sum_ones s tail part at n (λ j l. e j (omega arith)), e n (omega arith)) refl

stays_zero : (b : ℕ) → add binary64 zero64 (term b zero64) ≡ zero64
unfolding of_bits add neg
stays_zero b = by (eqb b 1)
  where
    by : (t : Bool) → add binary64 zero64 (cond t (neg zero64) zero64) ≡ zero64
    by true = refl
    by false = refl

sum_nothing : (tail : List ℕ) (part : List Float) (at n : ℕ) → ((j : ℕ) → j < n → get_or part (at + j) nan ≡ zero64) → sum_from zero64 tail part at n ≡ zero64
unfolding sum_from
sum_nothing tail part at zero e = refl
sum_nothing tail part at (suc n) e = rw (sum_nothing tail part at n (λ j l. e j (omega arith)), e n (omega arith)) (stays_zero (get_or tail n 0))

forty_ones : div binary64 (ones (ones zero64 20) 20) forty64 ≡ one64
unfolding of_bits div ones add
forty_ones = refl

nothing_mean : div binary64 zero64 forty64 ≡ zero64
unfolding of_bits div
nothing_mean = refl

one_power : power_of one64 zero64 ≡ one64
unfolding of_bits power_of add mul
one_power = refl

twice : (b : ℕ) → term b (term b one64) ≡ one64
twice b = by (eqb b 1)
  where
    by : (t : Bool) → cond t (neg (cond t (neg one64) one64)) (cond t (neg one64) one64) ≡ one64
    by true = neg_neg one64
    by false = refl

sent_mean : Mean
sent_mean = record { re = one64; im = zero64; power = one64 }

sent_turn : turn_of 1600 sent_mean ≡ 0
unfolding turn_of lt of_bits sent_mean turn_by near_axis le size_of mul by_sign
sent_turn = refl

sent_axes : both_axes sent_mean ≡ false
unfolding both_axes lt of_bits sent_mean near_axis le size_of mul
sent_axes = refl

-- ---- the header
module _ (s : ℕ) (first : Bool) (tmcc : List ℕ) (re im : List Float) (at : ℕ) (h : s < 64) (b : Begins s first tmcc re im at) where
  real_at : (i : ℕ) → i < 192 → get_or re (at + i) nan ≡ term (get_or (coded_header s first tmcc) i 0) one64
  real_at i l = b.real i l ∙ get_d_upto (λ i. (bpsk_of (get_or (coded_header s first tmcc) i 0)).re) nan 192 i l

  imaginary_at : (i : ℕ) → i < 192 → get_or im (at + i) nan ≡ zero64
  imaginary_at i l = b.imaginary i l ∙ get_d_upto (λ i. (bpsk_of (get_or (coded_header s first tmcc) i 0)).im) nan 192 i l

  re_early : marks tail1 re (at + place1) 20 ≡ 40
  re_early =
      marks_each tail1 re (at + 12) 2 20
      (λ j l.
      let e : at + 12 + j ≡ at + (12 + j) = omega arith in
      rw (e, real_at (12 + j) (omega arith), early s first tmcc h j l) (score_at tail1 tail1 2 agree1 j l))

  re_late : marks tail2 re (at + place2) 20 ≡ 20 * last_score first
  re_late =
      marks_each tail2 re (at + 172) (last_score first) 20
      (λ j l.
      let e : at + 172 + j ≡ at + (172 + j) = omega arith in
      rw (e, real_at (172 + j) (omega arith), late s first tmcc h j l) (last_scores first j l))

  im_early : marks tail1 im (at + place1) 20 ≡ 20
  im_early =
      marks_each tail1 im (at + 12) 1 20
      (λ j l.
      let e : at + 12 + j ≡ at + (12 + j) = omega arith in
      rw (e, imaginary_at (12 + j) (omega arith)) (none_scored (get_or tail1 j 0)))

  im_late : marks tail2 im (at + place2) 20 ≡ 20
  im_late =
      marks_each tail2 im (at + 172) 1 20
      (λ j l.
      let e : at + 172 + j ≡ at + (172 + j) = omega arith in
      rw (e, imaginary_at (172 + j) (omega arith)) (none_scored (get_or tail2 j 0)))

  -- A = 40, B = 0, both held with 40 more; the kind is the word's
  pub sent_fit : fit_by tail1 tail2 re im at ≡ record { first = first; re = 80; im = 40 }
  unfolding fit_by fit_of is_first joined
  sent_fit = rw (re_early, re_late, im_early, im_late) (by first)
    where
      by : (t : Bool) → fit_of 40 (20 * last_score t) 20 20 ≡ record { first = t; re = 80; im = 40 }
      by true = refl
      by false = refl

  kind_is : (fit_at re im at).first ≡ first
  kind_is = ap (λ (f : Fit). f.first) sent_fit

  re_mean : mean_part first re at ≡ one64
  unfolding mean_part
  re_mean =
      rw (
        sum_ones zero64 tail1 re (at + 12) 20
            (λ j l.
            let e : at + 12 + j ≡ at + (12 + j) = omega arith in
            rw (e, real_at (12 + j) (omega arith), early s first tmcc h j l) (twice (get_or tail1 j 0))),
        sum_ones (ones zero64 20) (last_tail first) re (at + 172) 20
            (λ j l.
            let e : at + 172 + j ≡ at + (172 + j) = omega arith in
            rw (e, real_at (172 + j) (omega arith), late s first tmcc h j l) (twice (get_or (last_tail first) j 0))),
      )
      forty_ones

  im_mean : mean_part first im at ≡ zero64
  unfolding mean_part
  im_mean =
      rw (
        sum_nothing tail1 im (at + 12) 20 (λ j l. let e : at + 12 + j ≡ at + (12 + j) = omega arith in rw e (imaginary_at (12 + j) (omega arith))),
        sum_nothing (last_tail first) im (at + 172) 20 (λ j l. let e : at + 172 + j ≡ at + (172 + j) = omega arith in rw e (imaginary_at (172 + j) (omega arith))),
      )
      nothing_mean

  -- c = (1, 0), d = 1
  pub sent_mean_lem : mean_at re im at ≡ record { re = one64; im = zero64; power = one64 }
  unfolding mean_of
  sent_mean_lem = rw (kind_is, re_mean, im_mean, one_power) refl

  pub sent_header : header_at re im at ≡ record { first = first; turn = 0; re = 80; im = 40 }
  unfolding header_of squares sent_mean
  sent_header = rw (sent_mean_lem, sent_fit, sent_turn) refl

  pub sent_plain : both_axes (mean_at re im at) ≡ false
  unfolding sent_mean
  sent_plain = ap both_axes sent_mean_lem ∙ sent_axes
