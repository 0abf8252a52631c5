-- The frame: a header of 192 symbols, then 192 times 203 main-signal symbols and a burst of 4. Document 01, P1 and its examples; for the numbers the Rust cites ITU-R BO.1408-1, Appendix 1,
-- Table 3, and section 7 (bursts), for the layout MIC Ordinance No. 87 of 2011, annexed tables 45, 50 and 51.
use Rattle.std.specs.Prelude.{cond, ◌||◌, List, [], ◌∷◌, ℕ, ◌+◌, ◌-◌, ◌*◌, ◌/◌, ◌%◌, ◌^◌, leb, ltb}
use Rattle.refusal.specs.Rows.{Position, Row, first_row, Said, says}
use Rattle.trellis.specs.Lists.{upto}

-- a header; 192 stretches of 203 main-signal symbols, each with a burst of 4 symbols behind it
abbrev pub header_symbols : ℕ
header_symbols = 192

abbrev pub bursts : ℕ
bursts = 192

abbrev pub burst_period : ℕ
burst_period = 203

abbrev pub burst_symbols : ℕ
burst_symbols = 4

-- the symbols of all bursts
abbrev pub burst_points : ℕ
burst_points = bursts * burst_symbols

-- the symbols from one burst to the next, and those of a whole frame
abbrev pub burst_spacing : ℕ
burst_spacing = burst_period + burst_symbols

abbrev pub frame_symbols : ℕ
frame_symbols = header_symbols + bursts * burst_spacing

-- the main-signal symbols of a frame, and the bytes of a slot on air
abbrev pub main_symbols : ℕ
main_symbols = 38976

abbrev pub slot_bytes : ℕ
slot_bytes = 203

-- the sync words of a header (document 01, example A; BO.1408-1, section 6.3): W1 begins every one, W2 ends that of the first frame of a superframe, W3 the others
abbrev pub w1 : ℕ
w1 = 0x1b95

abbrev pub w2 : ℕ
w2 = 0xa340

abbrev pub w3 : ℕ
w3 = 0x5cbf

-- the bits of a sync word
abbrev pub sync_bits : ℕ
sync_bits = 16

-- a symbol of the frame: one of the header, main-signal symbol k, or symbol j of burst b
pub data Symbol : Type 0 where
  header : ℕ → Symbol
  main : ℕ → Symbol
  burst : ℕ → ℕ → Symbol

-- the place of a symbol in the frame: each burst stands after 203 main-signal symbols, so that 207 symbols lie from one burst to the next
abbrev pub place_of : Symbol → ℕ
place_of (header i) = i
place_of (main k) = header_symbols + k / burst_period * burst_spacing + k % burst_period
place_of (burst b j) = header_symbols + b * burst_spacing + burst_period + j

-- what stands at place q of the 207 from burst to burst
abbrev pub in_period : ℕ → ℕ → Symbol
in_period b q = cond (ltb q burst_period) (main (burst_period * b + q)) (burst b (q - burst_period))

-- what stands at a place of the frame
abbrev pub symbol_at : ℕ → Symbol
symbol_at p = cond (ltb p header_symbols) (header p) (in_period ((p - header_symbols) / burst_spacing) ((p - header_symbols) % burst_spacing))

-- refusal 2: "main symbol 38,976 or more"
abbrev pub main_rows : ℕ → List Row
main_rows k = (Position, leb main_symbols k) ∷ []

-- refusal 2: "burst 192 or its symbol 4 or more"
abbrev pub burst_rows : ℕ → ℕ → List Row
burst_rows b j = (Position, leb bursts b || leb burst_symbols j) ∷ []

abbrev pub main_symbol_position : ℕ → Said
main_symbol_position k = says (first_row (main_rows k)) (place_of (main k) ∷ [])

abbrev pub burst_symbol_position : ℕ → ℕ → Said
burst_symbol_position b j = says (first_row (burst_rows b j)) (place_of (burst b j) ∷ [])

-- "the low 20 bits, high bit first": the low n bits of v
abbrev pub high_first : ℕ → ℕ → List ℕ
high_first n v = upto (λ i. v / 2 ^ (n - 1 - i) % 2) n
