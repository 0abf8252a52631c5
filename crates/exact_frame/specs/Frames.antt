-- Which frames lie within the margins. Each part of such a frame is one that decoding accepts; the encoded frame is one, whatever is lent past it; and so are
-- the frames with each part at an end of its margin, in which every part is another one.
use Rattle.std.specs.Prelude.{◌≡◌, Bool, true, false, not, List, ◌++◌, ℕ, ◌+◌, ◌*◌, ◌<◌, ◌≤◌, T, get_or, length, drop, Float}
use Rattle.std.proofs.Common.{◌∙◌, arith, length-append}
use Rattle.std.proofs.Math.ListN.{get_or-append}
use Rattle.std.specs.Float.{nan, binary64}
use Rattle.std.specs.Float.Ieee.{fits, neg, eq, le, of_bits}
use Rattle.trellis.specs.Lists.{upto}
use Rattle.trellis.specs.Code.{state_at, isdb}
use Rattle.trellis.specs.ListLaws.{length_upto, get_d_upto}
use Rattle.isdbs_combination.specs.declared.Modulation.{Modulation}
use Rattle.isdbs_combination.specs.declared.Modulation.TheVariants.{Bpsk, Qpsk, Tc8psk}
use Rattle.isdbs_tables.specs.declared.Table.{Table}
use Rattle.isdbs_combination.specs.Combinations.{modulation_of}
use Rattle.isdbs_tables.specs.Tables.{TableAccepted}
use Rattle.isdbs_plan.specs.RunsOf.{load_bytes}
use Rattle.isdbs_points.specs.declared.Cplx.{Cplx}
use Rattle.isdbs_points.specs.declared.Mapping.{Mapping}
use Rattle.isdbs_points.specs.Points.{unused, zero64, one64, root64, qpsk_of, subset}
use Rattle.isdbs_points.specs.Layout.{Segment, segments, at_symbol, load_bit, FullLoad}
use Rattle.isdbs_points.specs.Frame.{inputs, label_at, sent_bit, point_by, point_in, point_at, frame_re, frame_im, start_state}
use Rattle.isdbs_metrics.specs.Reading.{decoded_bytes, received}
use Rattle.margins.specs.Margins.{keeps, any_accepted, holds, free_re, free_im, Within}
use Rattle.margins.proofs.Clean.{Clean, clean_zero, clean_minus_zero, clean_one, clean_minus_one, clean_root, clean_minus_root, conjugated_clean, term_clean, psk8_clean, low_end, high_end, keeps_accepted, clean_within, Other}
use Rattle.isdbs_points.specs.PlaceLaws.{among_all}
use Rattle.isdbs_points.specs.BitLaws.{subset_small, load_bit_small}
use Rattle.encode_main.specs.Laid.{FrameLaid}
use Rattle.exact_load.specs.Exact.{decoded_load}
use Rattle.isdbs_frame.specs.Frame.{main_symbols}
use Rattle.margin_ends.specs.Ends.{eight}
use Rattle.trellis.proofs.RunLaws.{label_under}

-- ---- row 7, "not finite; beyond" 65,536: no part within the margins is so
holds_accepted : (free : Bool) (clean x : Float) → T (holds free clean x) → T (any_accepted x)
holds_accepted true clean x h = h
holds_accepted false clean x h = keeps_accepted clean x h

module _ {re im : List Float} {load : List ℕ} {t : Table} {m : Mapping} {first : Bool} (w : Within re im load t m first) (k : ℕ) (h : k < main_symbols) where
  pub re_accepted : T (any_accepted (get_or re k nan))
  re_accepted = holds_accepted (free_re t k) (point_at t m load (start_state first) k).re (get_or re k nan) (w.re_parts k h)

  pub im_accepted : T (any_accepted (get_or im k nan))
  im_accepted = holds_accepted (free_im t k) (point_at t m load (start_state first) k).im (get_or im k nan) (w.im_parts k h)

-- ---- the parts of an encoded frame are clean
abbrev CleanPoint : Cplx → Type 0
CleanPoint p = Clean p.re × Clean p.im

qpsk_clean : (reverse : Bool) (p1 p0 : ℕ) → CleanPoint (qpsk_of reverse p1 p0)
qpsk_clean true p1 p0 = (term_clean p0 root64 clean_root, term_clean p1 root64 clean_root)
qpsk_clean false p1 p0 = (term_clean p1 root64 clean_root, term_clean p0 root64 clean_root)

module _ (t : Table) (m : Mapping) (load : List ℕ) (s : ℕ) where
  abbrev at : ℕ → ℕ
  at = label_at s (inputs t load)

  by_clean : (n : Modulation) (g : Segment) (j : ℕ) → CleanPoint (point_by n m load at g j)
  unfolding point_by
  by_clean Bpsk g j = (term_clean (sent_bit at g j) one64 clean_one, clean_zero)
  by_clean Qpsk g j = qpsk_clean m.qpsk_p1_on_q (sent_bit at g (2 * j)) (sent_bit at g (2 * j + 1))
  by_clean Tc8psk g j =
      let k = g.step + j in
      let l = label_under isdb (get_or (inputs t load) k 0) (state_at 32 s (inputs t load) k) in
      psk8_clean (4 * load_bit load (g.bit + 2 * j) + subset m.tc8psk_c1_is_y (at k))
      (omega (arith, load_bit_small load (g.bit + 2 * j), subset_small m.tc8psk_c1_is_y (at k) l))

  pub point_clean : (k : ℕ) → CleanPoint (point_at t m load s k)
  unfolding point_at
  point_clean k =
      let p = at_symbol unused (point_in m load at) t k in
      let c : CleanPoint p = among_all CleanPoint (λ g. g.symbol) (λ g. g.symbols) unused (point_in m load at) (clean_zero, clean_zero) (λ g j. by_clean (modulation_of g.combination) g j) (segments t) k in
      (c.0, conjugated_clean m.conjugate p.im c.1)

-- ---- a frame made of the encoded one, part by part, by a function that keeps the margins
abbrev pub Keeping : (Float → Float) → Type 0
Keeping f = (y : Float) → Clean y → T (keeps y (f y))

keeping_holds : (f : Float → Float) → Keeping f → (free : Bool) (y : Float) → Clean y → T (holds free y (f y))
keeping_holds f h true y c = keeps_accepted y (f y) (h y c)
keeping_holds f h false y c = h y c

-- the parts through f, and after them what is lent
abbrev pub shifted : (Float → Float) → (ℕ → Float) → List Float → List Float
shifted f part more = upto (λ k. f (part k)) main_symbols ++ more

shifted_count : (f : Float → Float) (part : ℕ → Float) (more : List Float) → main_symbols ≤ length (shifted f part more)
shifted_count f part more = omega (arith, length-append (upto (λ k. f (part k)) main_symbols) more, length_upto (λ k. f (part k)) main_symbols)

shifted_at : (f : Float → Float) (part : ℕ → Float) (more : List Float) (k : ℕ) → k < main_symbols → get_or (shifted f part more) k nan ≡ f (part k)
shifted_at f part more k h =
    get_or-append (upto (λ k. f (part k)) main_symbols) more nan k (rw (length_upto (λ k. f (part k)) main_symbols) h) ∙ get_d_upto (λ k. f (part k)) nan main_symbols k h

module _ (t : Table) (m : Mapping) (load : List ℕ) (first : Bool) where
  abbrev pub re_part : ℕ → Float
  re_part k = (point_at t m load (start_state first) k).re

  abbrev pub im_part : ℕ → Float
  im_part k = (point_at t m load (start_state first) k).im

  pub shifted_within : (f h : Float → Float) → Keeping f → Keeping h → (xs ys : List Float) → Within (shifted f re_part xs) (shifted h im_part ys) load t m first
  shifted_within f h F H xs ys = record {
    re_count = shifted_count f re_part xs;
    im_count = shifted_count h im_part ys;
    re_parts = λ k l. rw (shifted_at f re_part xs k l) (keeping_holds f F (free_re t k) (re_part k) (point_clean t m load (start_state first) k).0);
    im_parts = λ k l. rw (shifted_at h im_part ys k l) (keeping_holds h H (free_im t k) (im_part k) (point_clean t m load (start_state first) k).1);
  }

  -- THE ENCODED FRAME lies within its own margins, whatever is lent past it
  pub encoded_within : (xs ys : List Float) → Within (frame_re t m load (start_state first) ++ xs) (frame_im t m load (start_state first) ++ ys) load t m first
  encoded_within = shifted_within (λ y. y) (λ y. y) clean_within clean_within

-- so does what `encode_frame_with_state` leaves in the lent parts, by its contract, from the start state for `first`
pub laid_within : (t : Table) (m : Mapping) (load : List ℕ) (first : Bool) {re₀ re im₀ im : List Float} → FrameLaid t m load (start_state first) re₀ re im₀ im → Within re im load t m first
laid_within t m load first {re₀} {re} {im₀} {im} l =
    rw (l.re_is, l.im_is)
    (encoded_within t m load first (drop (length (frame_re t m load (start_state first))) re₀) (drop (length (frame_im t m load (start_state first))) im₀))

-- ---- other frames: each part at the lower or the upper end of its margin
-- a test that the six clean parts pass
clean_all : (test : Float → Bool) → T (test zero64) → T (test (neg zero64)) → T (test one64) → T (test (neg one64)) → T (test root64) → T (test (neg root64)) → (y : Float) → Clean y → T (test y)
clean_all test a b c d e f y clean_zero = a
clean_all test a b c d e f y clean_minus_zero = b
clean_all test a b c d e f y clean_one = c
clean_all test a b c d e f y clean_minus_one = d
clean_all test a b c d e f y clean_root = e
clean_all test a b c d e f y clean_minus_root = f

low_other : (y : Float) → Clean y → Other y (low_end y)
unfolding keeps eq le neg of_bits fits
low_other y c = record {
  holds = clean_all (λ y. fits binary64 (low_end y)) tt tt tt tt tt tt y c;
  apart = clean_all (λ y. not (eq (low_end y) y)) tt tt tt tt tt tt y c;
  keeps_it = clean_all (λ y. keeps y (low_end y)) tt tt tt tt tt tt y c;
}

high_other : (y : Float) → Clean y → Other y (high_end y)
unfolding keeps eq le neg of_bits fits
high_other y c = record {
  holds = clean_all (λ y. fits binary64 (high_end y)) tt tt tt tt tt tt y c;
  apart = clean_all (λ y. not (eq (high_end y) y)) tt tt tt tt tt tt y c;
  keeps_it = clean_all (λ y. keeps y (high_end y)) tt tt tt tt tt tt y c;
}

module _ (t : Table) (m : Mapping) (load : List ℕ) (first : Bool) (xs ys : List Float) where
  -- the real parts at the lower ends, the imaginary ones at the upper ends
  pub ends_within : Within (shifted low_end (re_part t m load first) xs) (shifted high_end (im_part t m load first) ys) load t m first
  ends_within = shifted_within t m load first low_end high_end (λ y c. (low_other y c).keeps_it) (λ y c. (high_other y c).keeps_it) xs ys

  -- each of its parts is an f64 that is not the encoded frame's
  pub re_other : (k : ℕ) → k < main_symbols → Other (re_part t m load first k) (get_or (shifted low_end (re_part t m load first) xs) k nan)
  re_other k h = rw (shifted_at low_end (re_part t m load first) xs k h) (low_other (re_part t m load first k) (point_clean t m load (start_state first) k).0)

  pub im_other : (k : ℕ) → k < main_symbols → Other (im_part t m load first k) (get_or (shifted high_end (im_part t m load first) ys) k nan)
  im_other k h = rw (shifted_at high_end (im_part t m load first) ys k h) (high_other (im_part t m load first k) (point_clean t m load (start_state first) k).1)

-- ---- so the encoded frame decodes to its load
pub encoded_decodes : (t : Table) → TableAccepted t → (m : Mapping) (first : Bool) (load : List ℕ) → FullLoad load (load_bytes t) → (xs ys : List Float)
    → decoded_bytes t (received (frame_re t m load (start_state first) ++ xs) (frame_im t m load (start_state first) ++ ys) m eight) true first ≡ load
encoded_decodes t fit m first load full xs ys =
    decoded_load t fit m first load full (frame_re t m load (start_state first) ++ xs) (frame_im t m load (start_state first) ++ ys) (encoded_within t m load first xs ys)
