-- Each place of the frame takes its point from exactly one place of the three inputs, and each input place is used exactly once.
use Rattle.std.specs.Prelude.{[], ◌∷◌, ◌≡◌, refl, ℕ, ◌+◌, ◌*◌, ◌/◌, ◌%◌, ◌<◌}
use Rattle.std.proofs.Common.{sym, ◌∙◌, ap, arith}
use Rattle.std.proofs.lemmas.Bool.{lt-leb}
use Rattle.isdbs_frame.specs.Frame.{Symbol, header, main, burst, place_of, main_symbol_position, burst_symbol_position, symbol_at, frame_symbols, main_symbols}
use Rattle.isdbs_frame.specs.PlaceLaws.{InFrame, place_below, holds_symbol, placed}
use Rattle.full_frame_parts.specs.declared.Input.TheVariants.{Header, Main, Burst}
use Rattle.full_frame_parts.specs.Places.{Source, from, InInput, source_of, symbol_of, source_at, place_in}

-- ---- symbols and input places
symbol_in : (s : Source) → InInput s → InFrame (symbol_of s)
symbol_in (from Header i) h = h
symbol_in (from Main k) h = h
symbol_in (from Burst q) h = (omega arith, omega arith)

symbol_source_in : (s : Symbol) → InFrame s → InInput (source_of s)
symbol_source_in (header i) h = h
symbol_source_in (main k) h = h
symbol_source_in (burst b j) h = omega arith

source_symbol : (s : Source) → source_of (symbol_of s) ≡ s
source_symbol (from Header i) = refl
source_symbol (from Main k) = refl
source_symbol (from Burst q) = let e : 4 * (q / 4) + q % 4 ≡ q = omega arith in rw e

symbol_source : (s : Symbol) → InFrame s → symbol_of (source_of s) ≡ s
symbol_source (header i) h = refl
symbol_source (main k) h = refl
symbol_source (burst b j) h =
    let d : (4 * b + j) / 4 ≡ b = omega arith in
    let r : (4 * b + j) % 4 ≡ j = omega arith in
    rw (d, r)

-- ---- places of the frame and input places
pub place_in_lem : (s : Source) → InInput s → place_in s < frame_symbols
place_in_lem s h = place_below (symbol_of s) (symbol_in s h)

pub source_in : (p : ℕ) → p < frame_symbols → InInput (source_at p)
source_in p h = symbol_source_in (symbol_at p) (placed p h).known

pub source_place : (s : Source) → InInput s → source_at (place_in s) ≡ s
source_place s h = ap source_of (holds_symbol (symbol_of s) (symbol_in s h)) ∙ source_symbol s

pub place_source : (p : ℕ) → p < frame_symbols → place_in (source_at p) ≡ p
place_source p h = ap place_of (symbol_source (symbol_at p) (placed p h).known) ∙ (placed p h).place

-- "every place takes its point from exactly one place of the three inputs"
pub record OneSource (p : ℕ) (s : Source) : Type 0 where
  pub known : InInput s
  pub place : place_in s ≡ p
  pub only : (r : Source) → InInput r → place_in r ≡ p → r ≡ s

pub one_source : (p : ℕ) → p < frame_symbols → OneSource p (source_at p)
one_source p h =
    record {
      known = source_in p h;
      place = place_source p h;
      only = λ r k e. sym (source_place r k) ∙ ap source_at e;
    }

-- and every place of the three inputs is used, at exactly one place
pub record OnePlace (s : Source) (p : ℕ) : Type 0 where
  pub below : p < frame_symbols
  pub source : source_at p ≡ s
  pub only : (q : ℕ) → q < frame_symbols → source_at q ≡ s → q ≡ p

pub one_place : (s : Source) → InInput s → OnePlace s (place_in s)
one_place s h =
    record {
      below = place_in_lem s h;
      source = source_place s h;
      only = λ q k e. sym (place_source q k) ∙ ap place_in e;
    }

-- ---- which places
-- "192 header points in order at places 0 to 191"
pub header_position : (i : ℕ) → place_in (from Header i) ≡ i
header_position i = refl

-- "at the places of `main_symbol_position` and `burst_symbol_position`"
pub main_position : (k : ℕ) → k < main_symbols → main_symbol_position k ≡ (0, place_in (from Main k) ∷ [])
main_position k h = simp (lt-leb main_symbols k h)

pub burst_position : (b j : ℕ) → b < 192 → j < 4 → burst_symbol_position b j ≡ (0, place_in (from Burst (4 * b + j)) ∷ [])
burst_position b j h k =
    let d : (4 * b + j) / 4 ≡ b = omega arith in
    let r : (4 * b + j) % 4 ≡ j = omega arith in
    rw (d, r) (simp (lt-leb 192 b h, lt-leb 4 j k))
