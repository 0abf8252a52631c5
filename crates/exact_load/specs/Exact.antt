-- Demand 3 for the whole frame: the bytes that decoding reads from points within the margins of a full load are that load. "This is a single claim about the whole
-- frame with all its runs": for every accepted table, every `Mapping`, both values of `first`, a known start and the scale 8 for every combination.
--
use Rattle.std.specs.Prelude.{◌≡◌, Bool, true, false, List, ℕ, ◌+◌, ◌*◌, ◌/◌, ◌<◌, get_or, Float}
use Rattle.std.proofs.Math.Path.{sym, ap}
use Rattle.std.proofs.Common.{◌∙◌, lit<}
use native.Mathlib.Omega.{arith}
use Rattle.std.specs.Float.{binary32}
use Rattle.std.specs.Float.Ieee.{of_bits}
use Rattle.trellis.specs.Lists.{upto}
use Rattle.trellis.specs.Code.{state_at}
use Rattle.trellis.specs.Isdb.{rule, frame_traceback}
use Rattle.path_lead.specs.Favour.{Favours}
use Rattle.path_lead.proofs.Frame.{decoded_sent}
use Rattle.isdbs_combination.specs.declared.Modulation.{Modulation}
use Rattle.isdbs_tables.specs.declared.Table.{Table}
use Rattle.isdbs_combination.specs.Combinations.{modulation_of, unit_of, slot_steps, slot_bits}
use Rattle.isdbs_tables.specs.Tables.{TableAccepted}
use Rattle.isdbs_plan.specs.RunsOf.{frame_steps, load_bytes}
use Rattle.isdbs_points.specs.declared.Mapping.{Mapping}
use Rattle.isdbs_points.specs.Layout.{Segment, segments, at_bit, load_bit, FullLoad, word_bit, In}
use Rattle.isdbs_points.specs.Frame.{coded, input_in, inputs, label_at, state_after, start_state}
use Rattle.isdbs_metrics.specs.Reading.{Received, metrics_at, decoded_bits, uncoded, bit_by, bit_in, bytes_from, decoded_bytes, received}
use Rattle.margins.specs.Margins.{Within}
use Rattle.isdbs_points.specs.SizeLaws.{table_whole, few_steps, step_fits, at_bit_lem, find_bit}
use Rattle.isdbs_points.specs.OrderLaws.{Pairs, Kind, one, two, three, kind}
use Rattle.isdbs_points.specs.BitLaws.{of_pair, bytes_are}
use Rattle.isdbs_points.specs.InputLaws.{label_alike, input_at, input_small}
use Rattle.exact_load.specs.Steps.{step_favours, tc_bit}
use Rattle.margin_ends.specs.Ends.{eight}
use Rattle.isdbs_frame.specs.Frame.{w1}

pub start_small : (first : Bool) → start_state first < 64
unfolding state_after state_at upto
start_small true = lit< tt
start_small false = lit< tt

module _ (t : Table) (fit : TableAccepted t) (m : Mapping) (first : Bool) (load : List ℕ) (re im : List Float) (within : Within re im load t m first) where
  abbrev r : Received
  r = received re im m eight

  -- ---- the decoder's bits
  favours : Favours (start_state first) (inputs t load) (metrics_at t r) (frame_steps t)
  favours = record { start = start_small first; bits = input_small t load; steps = step_favours t fit m first load re im within }

  abbrev us : List ℕ
  us = decoded_bits t r true first

  pub sent_bits : (i : ℕ) → i < frame_steps t → get_or us i 0 ≡ get_or (inputs t load) i 0
  unfolding decoded_bits
  sent_bits = (decoded_sent rule frame_traceback (start_state first) (inputs t load) (metrics_at t r) (frame_steps t) (few_steps t fit) favours (word_bit w1) 16).sent

  -- ---- the bits of the bytes
  module _ (g : Segment) (i : In g (segments t)) where
    sent_input : (k : ℕ) → k < g.steps → get_or us (g.step + k) 0 ≡ input_in load g k
    sent_input k l = sent_bits (g.step + k) (step_fits t g i k l) ∙ input_at t load g i k l

    sent_label : (k : ℕ) → k < g.steps → label_at (start_state first) us (g.step + k) ≡ label_at (start_state first) (inputs t load) (g.step + k)
    sent_label k l = label_alike (start_state first) us (inputs t load) (frame_steps t) sent_bits (g.step + k) (step_fits t g i k l)

    bit_in_lem : (k : ℕ) → k < g.bits → bit_in r (label_at (start_state first) us) us g k ≡ load_bit load (g.bit + k)
    unfolding bit_by
    bit_in_lem k K = go (kind g.combination)
      where
        plain : slot_steps g.combination ≡ slot_bits → k < g.steps
        plain e = let o = table_whole t fit g i in let s : g.steps ≡ g.bits = o.steps_are ∙ ap (λ (x : ℕ). x * (o.units * (unit_of g.combination).valid)) e ∙ sym o.bits_are in omega arith

        half : Pairs g.combination → k / 2 < g.steps
        half s = let o = table_whole t fit g i in let b = s.bits o.units in omega (arith, o.steps_are, o.bits_are)

        go : Kind g.combination → bit_by (modulation_of g.combination) r (label_at (start_state first) us) us g k ≡ load_bit load (g.bit + k)
        go (one e s) =
            rw e (sent_input k (plain s.steps) ∙ ap (λ (x : Modulation). load_bit load (g.bit + coded x k)) e)
        go (two e s) =
            rw e (sent_input k (plain s.steps) ∙ ap (λ (x : Modulation). load_bit load (g.bit + coded x k)) e)
        go (three e s) =
            let c2 : uncoded r (label_at (start_state first) us) g (k / 2) ≡ load_bit load (g.bit + 2 * (k / 2)) =
            rw (sent_label (k / 2) (half s)) (tc_bit t fit m first load re im within g i e s (k / 2) (half s)) in
            let u : get_or us (g.step + k / 2) 0 ≡ load_bit load (g.bit + (2 * (k / 2) + 1)) =
            sent_input (k / 2) (half s) ∙ ap (λ (x : Modulation). load_bit load (g.bit + coded x (k / 2))) e in
            rw e
            (rw (c2, u) (of_pair (λ n. load_bit load (g.bit + n)) k))

  bit_at : (n : ℕ) → n < 8 * load_bytes t → at_bit 0 (bit_in r (label_at (start_state first) us) us) t n ≡ load_bit load n
  bit_at n l =
      let f = find_bit t n l in
      rw (f.place_is, at_bit_lem t 0 (bit_in r (label_at (start_state first) us) us) f.segment f.member f.place f.small) (bit_in_lem f.segment f.member f.place f.small)

  exact : FullLoad load (load_bytes t) → decoded_bytes t r true first ≡ load
  unfolding bytes_from
  exact full = bytes_are load (load_bytes t) (λ n. at_bit 0 (bit_in r (label_at (start_state first) us) us) t n) full bit_at

-- THE THEOREM: "Demand 3 compares the whole load, byte by byte, with as many bytes at the front of the byte output"
pub decoded_load : (t : Table) → TableAccepted t → (m : Mapping) (first : Bool) (load : List ℕ) → FullLoad load (load_bytes t) → (re im : List Float)
    → Within re im load t m first → decoded_bytes t (record { re = re; im = im; mapping = m; scale = λ c. of_bits binary32 0x4100_0000 }) true first ≡ load
decoded_load t fit m first load full re im within = exact t fit m first load re im within full

-- so points lie within the margins of at most one full load
pub one_load : (t : Table) → TableAccepted t → (m : Mapping) (first : Bool) (load1 load2 : List ℕ) → FullLoad load1 (load_bytes t) → FullLoad load2 (load_bytes t)
    → (re im : List Float) → Within re im load1 t m first → Within re im load2 t m first → load1 ≡ load2
one_load t fit m first load1 load2 full1 full2 re im within1 within2 =
    sym (decoded_load t fit m first load1 full1 re im within1) ∙ decoded_load t fit m first load2 full2 re im within2
