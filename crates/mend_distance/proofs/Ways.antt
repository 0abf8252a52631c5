-- A step of the table as the code works it out.
use mathlib.Core.Path.{◌≡◌, refl, sym, ap, ◌∙◌}
use mathlib.Core.List.{List}
use Prim.Native.Nat.{ℕ, ◌+◌, ◌*◌, ◌/◌, ◌%◌, ◌^◌, ◌<◌, min}
use native.Mathlib.Omega.{arith}
use lib.Bits.{bit_or}
use lib.Dec.{ltb}
use lib.ListN.{length, get_or, set, length-set}
use Rattle.trellis.specs.Code.{isdb, output}
use Rattle.trellis.specs.Lists.{bit, packed}
use Rattle.viterbi_choice.specs.PackedLaws.{packed_more}
use Rattle.trellis.specs.WrittenLaws.{Written, written_none, written_more, written_whole}
use Rattle.mend_distance.proofs.StretchLaws.{label_x, label_y}
use Rattle.mend_distance.specs.Distances.{far, through, next, nexts, odd, word}
use Rattle.trellis.specs.Isdb

-- the bits of a way, from what the encoder sends
pub way_is : (d : List ℕ) (k b x y sx sy : ℕ) → k < 64 → x < 2 → y < 2 → sx ≡ output isdb 0o171 (k / 32 % 2) (2 * (k % 32) + b) → sy ≡ output isdb 0o133 (k / 32 % 2) (2 * (k % 32) + b)
    → get_or d (2 * (k % 32) + b) 0 + (sx + x) % 2 + (sy + y) % 2 ≡ through d (2 * x + y) k b
unfolding through
way_is d k b x y sx sy hk hx hy is_x is_y =
    let from = 2 * (k % 32) + b in
    let u : k / 32 % 2 ≡ k / 32 = omega arith in
    let lx : Isdb.labels (k / 32) from / 2 ≡ sx = label_x (k / 32) from ∙ sym (rw u at is_x) in
    let ly : Isdb.labels (k / 32) from % 2 ≡ sy = label_y (k / 32) from ∙ sym (rw u at is_y) in
    let p : (2 * x + y) / 2 ≡ x = omega arith in
    let q : (2 * x + y) % 2 ≡ y = omega arith in
    rw (lx, ly, p, q) (omega arith)

-- k states of a step: their numbers and their decisions
pub record Stepped (old : List ℕ) (l k : ℕ) (d : List ℕ) (w : ℕ) : Type 0 where
  pub long : length d ≡ 64
  pub numbers : Written 0 (next old l) k d
  pub decided : w ≡ packed (odd old l) k

pub stepped_none : (old : List ℕ) (l : ℕ) (d : List ℕ) → length d ≡ 64 → Stepped old l 0 d 0
unfolding packed
stepped_none old l d h = record { long = h; numbers = written_none 0 (next old l) d; decided = refl }

pub stepped_more : (old : List ℕ) (l k : ℕ) (d : List ℕ) (w : ℕ) → Stepped old l k d w → k < 64 → (even odd' least nearer b : ℕ) → even ≡ through old l k 0 → odd' ≡ through old l k 1
    → nearer ≡ min even odd' → least ≡ min far nearer → b ≡ bit (ltb odd' even) → Stepped old l (k + 1) (set d k least) (bit_or w ((b * 2 ^ k) % 2 ^ 64))
unfolding next
stepped_more old l k d w s h even odd' least nearer b is-even is_odd is-nearer is-least is_b =
    let hk : k < length d = let n = s.long in omega arith in
    record {
      long = length-set d k least ∙ s.long;
      numbers = written_more 0 (next old l) k d least hk s.numbers (is-least ∙ ap (min far) (is-nearer ∙ rw (is-even, is_odd) refl));
      decided = packed_more (odd old l) k 64 w b h s.decided (is_b ∙ rw (is-even, is_odd) refl);
    }

pub stepped_whole : (old : List ℕ) (l : ℕ) (d : List ℕ) (w : ℕ) → Stepped old l 64 d w → (d ≡ nexts old l) × (w ≡ word old l)
unfolding nexts word
stepped_whole old l d w s = (written_whole 0 (next old l) 64 d s.long s.numbers, s.decided)
