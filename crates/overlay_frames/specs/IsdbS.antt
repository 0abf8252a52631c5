-- Request P14, "the kept bits of each ISDB-S .. puncturing": BPSK, QPSK 1/2 to 7/8 and TC8PSK's pairs, of a string. Frames has the frame of two loads.
--
use Rattle.std.specs.Prelude.{◌≡◌, refl, Bool, true, false, cond, List, ℕ, ◌+◌, ◌*◌, ◌/◌, ◌%◌, ◌<◌, T, eqb, ltb, length, get_or}
use Rattle.std.proofs.Common.{sym, ap, ◌∙◌, arith, ltb→lt}
use Rattle.std.specs.Int.Bits.{bit_xor}
use Rattle.trellis.specs.Lists.{upto}
use Rattle.trellis.specs.Code.{isdb}
use Rattle.trellis.specs.EachLaws.{all, each}
use Rattle.isdbs_combination.specs.declared.Combination.{Combination}
use Rattle.isdbs_combination.specs.declared.Combination.TheVariants.{Bpsk1_2, Qpsk1_2, Qpsk2_3, Qpsk3_4, Qpsk5_6, Qpsk7_8, Tc8psk2_3}
use Rattle.isdbs_points.specs.Layout.{sent_order, order_of, steps_per_period}
use Rattle.isdbs_points.specs.Frame.{label_at, coded_bit, sent_bit}
use Rattle.isdbs_points.specs.Pieces.{piece}
use Rattle.overlay_laws.specs.Overlaid.{overlaid, chosen}
use Rattle.overlay_laws.specs.OverlaidLaws.{length_overlaid}
use Rattle.trellis.specs.Encoded.{low_bits, coded_bits}
use Rattle.overlay_laws.proofs.CodingLaws.{overlays_chosen}
use Rattle.overlay_frames.specs.Kept.{kept_is}

-- ---- definitions
-- the bits of n inputs in whole periods
abbrev pub kept_count : Combination → ℕ → ℕ
kept_count c n = n / steps_per_period c * length (order_of c)

-- the bits that are sent for the whole periods of a string from the state s, in their order, under the combination c
unfoldable pub kept_bits : Combination → ℕ → List ℕ → List ℕ
kept_bits c s us = upto (sent_bit (label_at s (low_bits us)) (piece c 0)) (kept_count c (length us))

-- the output X, Y, X, Y, .. of the string that is sent i-th
abbrev pub kept_place : Combination → ℕ → ℕ
kept_place c i = 2 * (i / length (order_of c) * steps_per_period c) + get_or (order_of c) (i % length (order_of c)) 0

abbrev pub kept_places : Combination → ℕ → List ℕ
kept_places c n = upto (kept_place c) (kept_count c n)

-- ---- the kept bits are chosen from the outputs
inside : (c : Combination) → T (all (length (order_of c)) (λ j. ltb (get_or (order_of c) j 0) (2 * steps_per_period c)))
unfolding sent_order
inside Bpsk1_2 = tt
inside Qpsk1_2 = tt
inside Qpsk2_3 = tt
inside Qpsk3_4 = tt
inside Qpsk5_6 = tt
inside Qpsk7_8 = tt
inside Tc8psk2_3 = tt

turn : (c : Combination) (i : ℕ) → i % length (order_of c) < length (order_of c)
unfolding sent_order
turn Bpsk1_2 i = omega arith
turn Qpsk1_2 i = omega arith
turn Qpsk2_3 i = omega arith
turn Qpsk3_4 i = omega arith
turn Qpsk5_6 i = omega arith
turn Qpsk7_8 i = omega arith
turn Tc8psk2_3 i = omega arith

order_below : (c : Combination) (i : ℕ) → get_or (order_of c) (i % length (order_of c)) 0 < 2 * steps_per_period c
order_below c i =
    ltb→lt (get_or (order_of c) (i % length (order_of c)) 0) (2 * steps_per_period c)
    (each (length (order_of c)) (λ j. ltb (get_or (order_of c) j 0) (2 * steps_per_period c)) (inside c) (i % length (order_of c)) (turn c i))

place_below : (c : Combination) (m i : ℕ) → get_or (order_of c) (i % length (order_of c)) 0 < 2 * steps_per_period c → i < kept_count c m → kept_place c i < 2 * m
unfolding sent_order
place_below Bpsk1_2 m i b h = omega arith
place_below Qpsk1_2 m i b h = omega arith
place_below Qpsk2_3 m i b h = omega arith
place_below Qpsk3_4 m i b h = omega arith
place_below Qpsk5_6 m i b h = omega arith
place_below Qpsk7_8 m i b h = omega arith
place_below Tc8psk2_3 m i b h = omega arith

-- mother bit a of a period belongs to its step a / 2
sent_is : (c : Combination) (f : ℕ → ℕ) (i : ℕ) → sent_bit f (piece c 0) i ≡ coded_bit (kept_place c i) (f (kept_place c i / 2))
sent_is c f i =
    let n = length (order_of c) in
    let q = i / n * steps_per_period c in
    let a = get_or (order_of c) (i % n) 0 in
    let x : (2 * q + a) / 2 ≡ 0 + (q + a / 2) = omega arith in
    let y : (2 * q + a) % 2 ≡ a % 2 = omega arith in
    sym
    (ap (λ (k : ℕ). cond (eqb ((2 * q + a) % 2) 0) (f k / 2) (f k % 2)) x
    ∙ ap (λ (k : ℕ). cond (eqb k 0) (f (0 + (q + a / 2)) / 2) (f (0 + (q + a / 2)) % 2)) y)

pub kept_chosen : (c : Combination) (s : ℕ) (us : List ℕ) → kept_bits c s us ≡ chosen (kept_places c (length us)) (coded_bits isdb s us)
unfolding kept_bits
kept_chosen c s us =
    kept_is s us (sent_bit (label_at s (low_bits us)) (piece c 0)) (kept_place c) (kept_count c (length us))
    (λ i h. (place_below c (length us) i (order_below c i) h, sent_is c (label_at s (low_bits us)) i))

-- ---- THE THEOREM, for each of the seven combinations
pub kept_overlaid : (us vs : List ℕ) → length us ≡ length vs → (s r : ℕ) → s < 64 → r < 64 → (c : Combination)
    → kept_bits c (bit_xor s r) (overlaid us vs) ≡ overlaid (kept_bits c s us) (kept_bits c r vs)
kept_overlaid us vs e s r hs hr c =
    let ps = kept_places c (length us) in
    kept_chosen c (bit_xor s r) (overlaid us vs)
    ∙ ap (λ (n : ℕ). chosen (kept_places c n) (coded_bits isdb (bit_xor s r) (overlaid us vs))) (length_overlaid us vs e)
    ∙ overlays_chosen isdb us vs s r e hs hr ps
    ∙ sym
    (ap (λ (l : List ℕ). overlaid l (kept_bits c r vs)) (kept_chosen c s us)
    ∙ ap (λ (l : List ℕ). overlaid (chosen ps (coded_bits isdb s us)) l) (kept_chosen c r vs)
    ∙ ap (λ (n : ℕ). overlaid (chosen ps (coded_bits isdb s us)) (chosen (kept_places c n) (coded_bits isdb r vs))) (sym e))
