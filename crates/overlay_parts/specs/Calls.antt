-- What the three encodings leave. Request P14, "Overlaying two test patterns".
use Rattle.std.specs.Prelude.{◌≡◌, true, List, ℕ, ◌*◌, ◌≤◌, ◌<◌, length, take}
use Rattle.std.specs.Int.Bits.{bit_xor}
use Rattle.trellis.specs.Lists.{laid}
use Rattle.short_code.specs.declared.Code.{Code}
use Rattle.short_code.specs.Codes.{code_of, good_code, states_of}
use Rattle.overlay_laws.specs.Overlaid.{overlaid}
use Rattle.trellis.specs.Encoded.{coded_bits, last_state}
use Rattle.overlay_parts.specs.declared.Encodings.{Encodings}

-- the three lent outputs, as they were or as they are
pub record Lent : Type 0 where
  pub first : List ℕ
  pub second : List ℕ
  pub third : List ℕ

abbrev pub lent : List ℕ → List ℕ → List ℕ → Lent
lent x y z = record { first = x; second = y; third = z }

-- accepted: the strings us from the state s, vs from r, and their exclusive-or from that of the states; in each output what lies past is as before
pub record Encodes (c : Code) (s r : ℕ) (us vs : List ℕ) (e : Encodings) (before after : Lent) : Type 0 where
  pub first_end : e.first.state ≡ last_state (code_of c) s us
  pub second_end : e.second.state ≡ last_state (code_of c) r vs
  pub third_end : e.third.state ≡ last_state (code_of c) (bit_xor s r) (overlaid us vs)
  pub first_are : after.first ≡ laid (coded_bits (code_of c) s us) before.first
  pub second_are : after.second ≡ laid (coded_bits (code_of c) r vs) before.second
  pub third_are : after.third ≡ laid (coded_bits (code_of c) (bit_xor s r) (overlaid us vs)) before.third

-- "gives the exclusive-or of both outputs and both end states", of n inputs
pub record Overlays (n : ℕ) (e : Encodings) (after : Lent) : Type 0 where
  pub outputs : take (2 * n) after.third ≡ overlaid (take (2 * n) after.first) (take (2 * n) after.second)
  pub end : e.third.state ≡ bit_xor e.first.state e.second.state

-- what the three encodings ask: a good code, two of its states, the exclusive-or of strings of equal length, and places for X and Y of each input
pub record Three (c : Code) (s r : ℕ) (us vs ws : List ℕ) (x y z : ℕ) : Type 0 where
  pub good : good_code c ≡ true
  pub first_state : s < states_of c
  pub second_state : r < states_of c
  pub long : length us ≡ length vs
  pub sum : ws ≡ overlaid us vs
  pub first_room : 2 * length us ≤ x
  pub second_room : 2 * length us ≤ y
  pub third_room : 2 * length us ≤ z
