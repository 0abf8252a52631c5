-- Request P14 proved, over every code of request P7.
use Rattle.std.specs.Prelude.{◌≡◌, refl, true, List, [], ◌∷◌, ℕ, zero, suc, ◌+◌, ◌-◌, ◌*◌, ◌%◌, ◌^◌, ◌<◌, length}
use Rattle.std.proofs.Common.{sym, ap, ◌∙◌, arith}
use Rattle.std.specs.Int.Bits.{bit_xor}
use Rattle.std.proofs.lemmas.Nat.{xor_block, xor_lt}
use Rattle.std.proofs.lemmas.List.{length-map}
use Rattle.trellis.specs.Code as trellis
use Rattle.trellis.specs.Code.{half, output, label, moved}
use Rattle.trellis.specs.Encoded.{encoded, reached, low_bits, bits_of, coded_bits}
use Rattle.trellis.proofs.EncodedLaws.{length_bits, length_encoded}
use Rattle.trellis.proofs.LinearLaws.{xor_low, xor_bit, output_xor, moved_xor}
use Rattle.short_code.specs.declared.Code.{Code}
use Rattle.short_code.specs.Codes.{code_of, states_of, good_code}
use Rattle.short_code.specs.CodeLaws.{good_states}
use Rattle.overlay_laws.specs.Overlaid.{overlaid, chosen}
use Rattle.overlay_laws.specs.OverlaidLaws.{chosen_overlaid, parts_overlaid}
use Rattle.overlay_laws.specs.Coding.{Overlays}
use Rattle.trellis.proofs.RunLaws.{output_bit_lem}

-- ---- one input
-- the pair of the exclusive-or
pub label_xor : (c : trellis.Code) (u v s r : ℕ) → label c ((u + v) % 2) (bit_xor s r) ≡ bit_xor (label c u s) (label c v r)
unfolding label
label_xor c u v s r =
    let x = output c c.g1 u s in
    let y = output c c.g2 u s in
    let z = output c c.g1 v r in
    let w = output c c.g2 v r in
    let hx : x < 2 = output_bit_lem c c.g1 u s in
    let hy : y < 2 = output_bit_lem c c.g2 u s in
    let hz : z < 2 = output_bit_lem c c.g1 v r in
    let hw : w < 2 = output_bit_lem c c.g2 v r in
    let a : 2 * x ≡ x * 2 ^ 1 = omega arith in
    let b : 2 * z ≡ z * 2 ^ 1 = omega arith in
    let p = xor_bit x z hx hz in
    let q = xor_bit y w hy hw in
    let d : bit_xor (2 * x + y) (2 * z + w) ≡ (x + z) % 2 * 2 ^ 1 + (y + w) % 2 =
    ap (λ (i : ℕ). bit_xor (i + y) (2 * z + w)) a ∙ ap (λ (i : ℕ). bit_xor (x * 2 ^ 1 + y) (i + w)) b ∙ xor_block 1 x z y w hy hw
    ∙ ap (λ (i : ℕ). i * 2 ^ 1 + bit_xor y w) p ∙ ap (λ (i : ℕ). (x + z) % 2 * 2 ^ 1 + i) q in
    let e = output_xor c c.g1 u v s r in
    let f = output_xor c c.g2 u v s r in
    ap (λ (i : ℕ). 2 * i + output c c.g2 ((u + v) % 2) (bit_xor s r)) e ∙ ap (λ (i : ℕ). 2 * ((x + z) % 2) + i) f ∙ omega arith ∙ sym d

-- a state stays a state
pub moved_under : (h u s : ℕ) → u < 2 → s < 2 * h → moved h u s < 2 * h
moved_under h zero s l m = omega arith
moved_under h (suc zero) s l m = omega arith
moved_under h (suc (suc u)) s l m = absurd (omega arith)

-- the low bit of an exclusive-or
pub low_xor : (u v : ℕ) → bit_xor u v % 2 ≡ (u % 2 + v % 2) % 2
low_xor u v = let e = xor_low u v in omega arith

next_xor : (c : trellis.Code) (u v s r : ℕ) → s < 2 * half c → r < 2 * half c
    → moved (half c) (bit_xor u v % 2) (bit_xor s r) ≡ bit_xor (moved (half c) (u % 2) s) (moved (half c) (v % 2) r)
next_xor c u v s r hs hr =
    ap (λ (i : ℕ). moved (half c) i (bit_xor s r)) (low_xor u v)
    ∙ moved_xor c (u % 2) (v % 2) s r (omega arith) (omega arith) (omega arith) (omega arith)

-- ---- a string
encoded_overlaid : (c : trellis.Code) (us vs : List ℕ) (s r : ℕ) → s < 2 * half c → r < 2 * half c
    → encoded c (bit_xor s r) (low_bits (overlaid us vs)) ≡ overlaid (encoded c s (low_bits us)) (encoded c r (low_bits vs))
unfolding encoded
encoded_overlaid c [] vs s r hs hr = refl
encoded_overlaid c (u ∷ us) [] s r hs hr = refl
encoded_overlaid c (u ∷ us) (v ∷ vs) s r hs hr =
    let l : label c (bit_xor u v % 2) (bit_xor s r) ≡ bit_xor (label c (u % 2) s) (label c (v % 2) r) =
    ap (λ (i : ℕ). label c i (bit_xor s r)) (low_xor u v) ∙ label_xor c (u % 2) (v % 2) s r in
    let m = next_xor c u v s r hs hr in
    let i = encoded_overlaid c us vs (moved (half c) (u % 2) s) (moved (half c) (v % 2) r) (moved_under (half c) (u % 2) s (omega arith) hs) (moved_under (half c) (v % 2) r (omega arith) hr) in
    ap (λ (x : ℕ). x ∷ encoded c (moved (half c) (bit_xor u v % 2) (bit_xor s r)) (low_bits (overlaid us vs))) l
    ∙ ap (λ (x : ℕ). bit_xor (label c (u % 2) s) (label c (v % 2) r) ∷ encoded c x (low_bits (overlaid us vs))) m
    ∙ ap (λ (x : List ℕ). bit_xor (label c (u % 2) s) (label c (v % 2) r) ∷ x) i

reached_overlaid : (c : trellis.Code) (us vs : List ℕ) (s r : ℕ) → length us ≡ length vs → s < 2 * half c → r < 2 * half c
    → reached c (bit_xor s r) (low_bits (overlaid us vs)) ≡ bit_xor (reached c s (low_bits us)) (reached c r (low_bits vs))
unfolding reached
reached_overlaid c [] [] s r e hs hr = refl
reached_overlaid c [] (v ∷ vs) s r e hs hr = absurd (omega arith)
reached_overlaid c (u ∷ us) [] s r e hs hr = absurd (omega arith)
reached_overlaid c (u ∷ us) (v ∷ vs) s r e hs hr =
    let m = next_xor c u v s r hs hr in
    ap (λ (x : ℕ). reached c x (low_bits (overlaid us vs))) m
    ∙ reached_overlaid c us vs (moved (half c) (u % 2) s) (moved (half c) (v % 2) r) (omega arith) (moved_under (half c) (u % 2) s (omega arith) hs) (moved_under (half c) (v % 2) r (omega arith) hr)

outputs_overlaid : (c : trellis.Code) (us vs : List ℕ) (s r : ℕ) → s < 2 * half c → r < 2 * half c
    → coded_bits c (bit_xor s r) (overlaid us vs) ≡ overlaid (coded_bits c s us) (coded_bits c r vs)
outputs_overlaid c us vs s r hs hr = ap bits_of (encoded_overlaid c us vs s r hs hr) ∙ parts_overlaid (encoded c s (low_bits us)) (encoded c r (low_bits vs))

-- ---- THE THEOREM
-- of any code, between its 2 * half states
pub overlays : (c : trellis.Code) (us vs : List ℕ) (s r : ℕ) → length us ≡ length vs → s < 2 * half c → r < 2 * half c → Overlays c us vs s r
overlays c us vs s r e hs hr =
    record {
      outputs = outputs_overlaid c us vs s r hs hr;
      end = reached_overlaid c us vs s r e hs hr;
    }

pub length_outputs : (c : trellis.Code) (s : ℕ) (us : List ℕ) → length (coded_bits c s us) ≡ 2 * length us
length_outputs c s us = length_bits (encoded c s (low_bits us)) ∙ ap (λ (n : ℕ). 2 * n) (length_encoded c s (low_bits us) ∙ length-map us (λ u. u % 2))

-- and of any choice of the coded bits, in any order: what a puncturing keeps
pub overlays_chosen : (c : trellis.Code) (us vs : List ℕ) (s r : ℕ) → length us ≡ length vs → s < 2 * half c → r < 2 * half c → (ps : List ℕ)
    → chosen ps (coded_bits c (bit_xor s r) (overlaid us vs)) ≡ overlaid (chosen ps (coded_bits c s us)) (chosen ps (coded_bits c r vs))
overlays_chosen c us vs s r e hs hr ps =
    let n : length (coded_bits c s us) ≡ length (coded_bits c r vs) = length_outputs c s us ∙ ap (λ (i : ℕ). 2 * i) e ∙ sym (length_outputs c r vs) in
    ap (chosen ps) (outputs_overlaid c us vs s r hs hr) ∙ chosen_overlaid ps (coded_bits c s us) (coded_bits c r vs) n

-- "State it over every code of P7": its states are those below 2^(length-1)
module _ (c : Code) (good : good_code c ≡ true) (us vs : List ℕ) (s r : ℕ) (e : length us ≡ length vs) (hs : s < states_of c) (hr : r < states_of c) where
  -- the exclusive-or of two states is a state
  pub state_sum : bit_xor s r < states_of c
  state_sum = xor_lt (c.constraint - 1) s r hs hr

  pub code_overlays : Overlays (code_of c) us vs s r
  code_overlays =
      record {
        outputs = outputs_overlaid (code_of c) us vs s r (rw (good_states c good) hs) (rw (good_states c good) hr);
        end = reached_overlaid (code_of c) us vs s r e (rw (good_states c good) hs) (rw (good_states c good) hr);
      }

  pub code_chosen : (ps : List ℕ)
      → chosen ps (coded_bits (code_of c) (bit_xor s r) (overlaid us vs)) ≡ overlaid (chosen ps (coded_bits (code_of c) s us)) (chosen ps (coded_bits (code_of c) r vs))
  code_chosen = overlays_chosen (code_of c) us vs s r e (rw (good_states c good) hs) (rw (good_states c good) hr)
