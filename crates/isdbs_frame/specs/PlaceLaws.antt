-- The places of a frame: each of the 39,936 holds exactly one symbol of the header, the main signal or the bursts.
use Rattle.std.specs.Prelude.{◌≡◌, refl, Bool, true, false, cond, ℕ, ◌+◌, ◌-◌, ◌*◌, ◌/◌, ◌%◌, ◌<◌, ltb}
use Rattle.std.proofs.Common.{sym, ◌∙◌, ap, arith, lt-ltb, le-ltb, ltb-true, ltb-false}
use Rattle.isdbs_frame.specs.Frame.{main_symbols, Symbol, header, main, burst, place_of, in_period, symbol_at}

-- the symbols that a frame has: 192 of the header, 38,976 of the main signal, 192 bursts of 4
abbrev pub InFrame : Symbol → Type 0
InFrame (header i) = i < 192
InFrame (main k) = k < main_symbols
InFrame (burst b j) = (b < 192) × (j < 4)

pub place_below : (s : Symbol) → InFrame s → place_of s < 39936
place_below (header i) h = omega arith
place_below (main k) h = omega arith
place_below (burst b j) h = omega arith

-- the place of a symbol holds it
pub holds_symbol : (s : Symbol) → InFrame s → symbol_at (place_of s) ≡ s
holds_symbol (header i) h = rw (lt-ltb i 192 h)
holds_symbol (main k) h =
    let p = 192 + k / 203 * 207 + k % 203 in
    let b : (p - 192) / 207 ≡ k / 203 = omega arith in
    let q : (p - 192) % 207 ≡ k % 203 = omega arith in
    let e : 203 * (k / 203) + k % 203 ≡ k = omega arith in
    rw (le-ltb p 192 (omega arith), b, q, lt-ltb (k % 203) 203 (omega arith), e)
holds_symbol (burst b j) h =
    let p = 192 + b * 207 + 203 + j in
    let e : (p - 192) / 207 ≡ b = omega arith in
    let q : (p - 192) % 207 ≡ 203 + j = omega arith in
    let z : 203 + j - 203 ≡ j = omega arith in
    rw (le-ltb p 192 (omega arith), e, q, le-ltb (203 + j) 203 (omega arith), z)

-- what stands at a place belongs to the frame, and has that place
pub record Placed (p : ℕ) (s : Symbol) : Type 0 where
  pub known : InFrame s
  pub place : place_of s ≡ p

in_period_lem : (p b q : ℕ) (t : Bool) → ltb q 203 ≡ t → b < 192 → q < 207 → 192 + 207 * b + q ≡ p → Placed p (cond t (main (203 * b + q)) (burst b (q - 203)))
in_period_lem p b q true e h l z =
    let k = ltb-true q 203 e in
    let d : (203 * b + q) / 203 ≡ b = omega arith in
    let r : (203 * b + q) % 203 ≡ q = omega arith in
    record { known = omega arith; place = rw (d, r) (omega arith) }
in_period_lem p b q false e h l z =
    let k = ltb-false q 203 e in
    record { known = (h, omega arith); place = omega arith }

at_place : (p : ℕ) (t : Bool) → ltb p 192 ≡ t → p < 39936 → Placed p (cond t (header p) (in_period ((p - 192) / 207) ((p - 192) % 207)))
at_place p true e h = record { known = ltb-true p 192 e; place = refl }
at_place p false e h =
    let k = ltb-false p 192 e in
    in_period_lem p ((p - 192) / 207) ((p - 192) % 207) (ltb ((p - 192) % 207) 203) refl (omega arith) (omega arith) (omega arith)

pub placed : (p : ℕ) → p < 39936 → Placed p (symbol_at p)
placed p h = at_place p (ltb p 192) refl h

-- so two symbols of the frame with one place are one symbol
pub one_place : (s r : Symbol) → InFrame s → InFrame r → place_of s ≡ place_of r → s ≡ r
one_place s r h k e = sym (holds_symbol s h) ∙ ap symbol_at e ∙ holds_symbol r k
