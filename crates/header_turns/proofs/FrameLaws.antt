-- The header of a frame that is laid by P1 and stands anywhere in a capture, turned by quarters; and where the search finds it.
use Rattle.std.specs.Prelude.{◌≡◌, refl, Bool, List, ℕ, zero, suc, ◌+◌, ◌<◌, ◌≤◌, length, get_or, Float}
use Rattle.std.proofs.Common.{◌∙◌, ap, arith, lt-ltb}
use Rattle.std.specs.Float.{nan}
use Rattle.trellis.specs.Lists.{laid}
use Rattle.trellis.specs.LaidLaws.{laid_at}
use Rattle.isdbs_frame.specs.Frame.{frame_symbols, header_symbols}
use Rattle.full_frame_parts.specs.declared.Input.{Input}
use Rattle.full_frame_parts.specs.declared.Input.TheVariants.{Header}
use Rattle.full_frame_parts.specs.Places.{lent_point, source_at, full_part}
use Rattle.header_find.specs.declared.Header as h
use Rattle.header_find.specs.Headers.{header_of, header_at}
use Rattle.header_sync.specs.Search.{squares, peak_at, further_of, found_at}
use Rattle.header_sync.proofs.SearchLaws.{first_greatest}
use Rattle.header_turns.specs.Turning.{Quarters, turned_header}
use Rattle.header_turns.proofs.TurnLaws.{header_quarters}
use Rattle.header_turns.specs.Sent.{sent_re, sent_im, Begins}
use Rattle.header_turns.proofs.SentLaws.{sent_header, sent_plain}

-- what the header of a sent frame says once it is turned by n quarters: turn 0, 2, 4 or 6; (A, B) = (40, 0), (0, 40), (-40, 0) or (0, -40)
abbrev pub sent_turned : Bool → ℕ → h.Header
sent_turned first n = turned_header n (record { first = first; turn = 0; re = 80; im = 40 })

pub sent_turned_lem : (s : ℕ) (first : Bool) (tmcc : List ℕ) (re im : List Float) (at : ℕ) → s < 64 → Begins s first tmcc re im at
    → {n : ℕ} {x y : List Float} → Quarters re im n x y → header_at x y at ≡ sent_turned first n
sent_turned_lem s first tmcc re im at l b {n} q = (header_quarters re im at (sent_plain s first tmcc re im at l b) q).0 ∙ ap (turned_header n) (sent_header s first tmcc re im at l b)

pub quarter_says : (first : Bool) → sent_turned first 1 ≡ record { first = first; turn = 2; re = 40; im = 80 }
unfolding turned_header
quarter_says first = refl

pub half_says : (first : Bool) → sent_turned first 2 ≡ record { first = first; turn = 4; re = 0; im = 40 }
unfolding turned_header
half_says first = refl

pub three_say : (first : Bool) → sent_turned first 3 ≡ record { first = first; turn = 6; re = 40; im = 0 }
unfolding turned_header
three_say first = refl

-- A A + B B of a header
abbrev pub squares_of : h.Header → ℕ
squares_of g = squares g.re g.im

-- ---- laid by P1: header point i stands at place i
pub laid_header : (ins : Input → List Float) (out : List Float) (i : ℕ) → i < header_symbols → get_or (laid (full_part ins) out) i nan ≡ get_or (ins Header) i nan
laid_header ins out i l = laid_at nan (λ p. lent_point ins (source_at p)) frame_symbols out i (omega arith) ∙ rw (lt-ltb i 192 l) refl

-- a capture whose points from `at` on are a laid frame, whose header input is a sent header
pub laid_begins : (s : ℕ) (first : Bool) (tmcc : List ℕ) (res ims : Input → List Float) (outRe outIm re im : List Float) (at : ℕ)
    → res Header ≡ sent_re s first tmcc
    → ims Header ≡ sent_im s first tmcc
    → ((i : ℕ) → i < frame_symbols → get_or re (at + i) nan ≡ get_or (laid (full_part res) outRe) i nan)
    → ((i : ℕ) → i < frame_symbols → get_or im (at + i) nan ≡ get_or (laid (full_part ims) outIm) i nan)
    → Begins s first tmcc re im at
laid_begins s first tmcc res ims outRe outIm re im at e f p q =
    record {
      real = λ i l. p i (omega arith) ∙ laid_header res outRe i l ∙ ap (λ (x : List Float). get_or x i nan) e;
      imaginary = λ i l. q i (omega arith) ∙ laid_header ims outIm i l ∙ ap (λ (x : List Float). get_or x i nan) f;
    }

-- ---- the place found
-- where a sent header begins, turned by any quarters, A A + B B is 1,600: so the place found has no less
sent_peak : (first : Bool) (n : ℕ) → n < 4 → squares_of (sent_turned first n) ≡ 1600
unfolding turned_header squares
sent_peak first zero l = refl
sent_peak first (suc zero) l = refl
sent_peak first (suc (suc zero)) l = refl
sent_peak first (suc (suc (suc zero))) l = refl
sent_peak first (suc (suc (suc (suc n)))) l = absurd (omega arith)

peak_by_lem : (re im : List Float) (at : ℕ) (g : h.Header) → header_at re im at ≡ g → peak_at re im at ≡ squares_of g
unfolding header_of
peak_by_lem re im at g e = ap squares_of e

pub sent_found : (s : ℕ) (first : Bool) (tmcc : List ℕ) (re im : List Float) (at : ℕ) → s < 64 → Begins s first tmcc re im at
    → {n : ℕ} {x y : List Float} → Quarters re im n x y → n < 4
    → (from : ℕ) → from ≤ at → at + frame_symbols ≤ length x → at + frame_symbols ≤ length y
    → 1600 ≤ peak_at x y (found_at x y from)
sent_found s first tmcc re im at l b {n} {x} {y} q m from c d e =
    let f : ℕ → ℕ = λ p. peak_at x y p in
    let g = first_greatest f from (further_of (length x) (length y) from) in
    let k : peak_at x y at ≡ 1600 = peak_by_lem x y at (sent_turned first n) (sent_turned_lem s first tmcc re im at l b q) ∙ sent_peak first n m in
    let v : peak_at x y at ≤ peak_at x y (found_at x y from) = g.greatest at c (omega arith) in
    omega arith
