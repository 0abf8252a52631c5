-- Request P14, "the kept bits of each .. ISDB-T puncturing": at each of the five rates, what is sent for the exclusive-or of two strings from the
-- exclusive-or of two states is the exclusive-or of what is sent for both, in order; so is the state after it.
use Rattle.std.specs.Prelude.{◌≡◌, refl, Bool, true, false, cond, List, ℕ, ◌+◌, ◌*◌, ◌/◌, ◌%◌, ◌<◌, eqb, length, get_or}
use Rattle.std.proofs.Common.{sym, ap, ◌∙◌, arith}
use Rattle.std.specs.Int.Bits.{bit_xor}
use Rattle.std.proofs.lemmas.List.{length-map}
use Rattle.trellis.specs.Lists.{upto}
use Rattle.trellis.specs.Code.{isdb, output, label, state_at}
use Rattle.trellis.proofs.EncodedLaws.{reached_is}
use Rattle.isdbs_points.specs.Frame.{label_at, coded_bit}
use Rattle.isdbt_table.specs.declared.CodeRate.{CodeRate}
use Rattle.isdbt_table.specs.declared.CodeRate.TheVariants.{R1_2, R2_3, R3_4, R5_6, R7_8}
use Rattle.isdbt_table.specs.Table.{bit_order, period, sent}
use Rattle.isdbt_table.specs.Puncture.{mother, bit_place, punctured}
use Rattle.isdbt_table.specs.SizeLaws.{order_below}
use Rattle.overlay_laws.specs.Overlaid.{overlaid, chosen}
use Rattle.overlay_laws.specs.OverlaidLaws.{length_overlaid}
use Rattle.trellis.specs.Encoded.{coded_bits, last_state, low_bits}
use Rattle.overlay_laws.proofs.CodingLaws.{overlays, overlays_chosen}
use Rattle.overlay_frames.specs.Kept.{kept_is}
use Rattle.trellis.specs.Isdb

-- mother bit k is X or Y of step k / 2
pick : (w : Bool) (u st : ℕ) → output isdb (cond w 0o171 0o133) u st ≡ cond w (Isdb.labels u st / 2) (Isdb.labels u st % 2)
unfolding label output
pick true u st = omega arith
pick false u st = omega arith

mother_is : (s : ℕ) (us : List ℕ) (k : ℕ) → mother s us k ≡ coded_bit k (label_at s us (k / 2))
unfolding mother
mother_is s us k = pick (eqb (k % 2) 0) (get_or us (k / 2) 0) (state_at 32 s us (k / 2))

place_below : (rate : CodeRate) (m j : ℕ) → get_or (bit_order rate) (j % sent rate) 0 < 2 * period rate → j < m / period rate * sent rate → bit_place rate j < 2 * m
place_below R1_2 m j b h = omega arith
place_below R2_3 m j b h = omega arith
place_below R3_4 m j b h = omega arith
place_below R5_6 m j b h = omega arith
place_below R7_8 m j b h = omega arith

turn : (rate : CodeRate) (j : ℕ) → j % sent rate < sent rate
turn R1_2 j = omega arith
turn R2_3 j = omega arith
turn R3_4 j = omega arith
turn R5_6 j = omega arith
turn R7_8 j = omega arith

-- the places of the mother bits that are sent for n inputs
abbrev pub sent_places : CodeRate → ℕ → List ℕ
sent_places rate n = upto (bit_place rate) (n / period rate * sent rate)

pub punctured_chosen : (rate : CodeRate) (s : ℕ) (us : List ℕ) → punctured rate s us ≡ chosen (sent_places rate (length us)) (coded_bits isdb s us)
unfolding punctured
punctured_chosen rate s us =
    kept_is s us (λ j. mother s (low_bits us) (bit_place rate j)) (bit_place rate) (length us / period rate * sent rate)
    (λ j h. (place_below rate (length us) j (order_below rate (j % sent rate) (turn rate j)) h, mother_is s (low_bits us) (bit_place rate j)))

module _ (us vs : List ℕ) (e : length us ≡ length vs) (s r : ℕ) (hs : s < 64) (hr : r < 64) where
  -- THE THEOREM
  pub punctured_overlaid : (rate : CodeRate) → punctured rate (bit_xor s r) (overlaid us vs) ≡ overlaid (punctured rate s us) (punctured rate r vs)
  punctured_overlaid rate =
      let ps = sent_places rate (length us) in
      punctured_chosen rate (bit_xor s r) (overlaid us vs)
      ∙ ap (λ (n : ℕ). chosen (sent_places rate n) (coded_bits isdb (bit_xor s r) (overlaid us vs))) (length_overlaid us vs e)
      ∙ overlays_chosen isdb us vs s r e hs hr ps
      ∙ sym
      (ap (λ (l : List ℕ). overlaid l (punctured rate r vs)) (punctured_chosen rate s us)
      ∙ ap (λ (l : List ℕ). overlaid (chosen ps (coded_bits isdb s us)) l) (punctured_chosen rate r vs)
      ∙ ap (λ (n : ℕ). overlaid (chosen ps (coded_bits isdb s us)) (chosen (sent_places rate n) (coded_bits isdb r vs))) (sym e))

  last_is : (t : ℕ) (ws : List ℕ) → state_at 32 t (low_bits ws) (length ws) ≡ state_at 32 t (low_bits ws) (length (low_bits ws))
  last_is t ws = ap (λ (n : ℕ). state_at 32 t (low_bits ws) n) (sym (length-map ws (λ b. b % 2)))

  -- the state that `encode_punctured` leaves
  pub state_overlaid : state_at 32 (bit_xor s r) (low_bits (overlaid us vs)) (length (overlaid us vs)) ≡ bit_xor (state_at 32 s (low_bits us) (length us)) (state_at 32 r (low_bits vs) (length vs))
  state_overlaid =
      last_is (bit_xor s r) (overlaid us vs) ∙ sym (reached_is isdb (bit_xor s r) (low_bits (overlaid us vs))) ∙ (overlays isdb us vs s r e hs hr).end
      ∙ ap (λ (x : ℕ). bit_xor x (last_state isdb r vs)) (reached_is isdb s (low_bits us) ∙ sym (last_is s us))
      ∙ ap (λ (x : ℕ). bit_xor (state_at 32 s (low_bits us) (length us)) x) (reached_is isdb r (low_bits vs) ∙ sym (last_is r vs))
