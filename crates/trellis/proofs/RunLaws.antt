-- Laws of a code's labels, of the depth that a traceback acts as, of the way back through decision words and of the path values of a call.
use Rattle.std.specs.Prelude.{◌≡◌, Bool, cond, eqb, leb, length, get_or, Float}
use Rattle.std.proofs.Math.Path.{refl, ap}
use Rattle.std.proofs.Common.{◌∙◌, add-one, arith, get_or-take}
use Rattle.std.proofs.Math.Bool.{true, false}
use mathlib.Core.List.{List, [], ◌∷◌, ◌++◌}
use Prim.Native.Nat.{ℕ, zero, suc, ◌+◌, ◌-◌, ◌*◌, ◌/◌, ◌<◌, ◌≤◌}
use Rattle.std.proofs.lemmas.Bool.{eqb-false}
use Rattle.std.proofs.Math.ListN.{take, drop}
use Rattle.std.proofs.lemmas.List.{length-map}
use Rattle.std.specs.Float.{nan, binary32}
use Rattle.std.specs.Float.Ieee.{lt, sub}
use Rattle.trellis.specs.Code.{Code, output, label}
use Rattle.trellis.specs.Step.{Step, Tie, top, renormalised, kept, back, input, next, nexts, word}
use Rattle.trellis.specs.ListLaws.{length_upto}
use Rattle.trellis.specs.Run.{Decoder, block, depth, traceback_limit, settled, values_at, decoded, released, stepped, after}

-- a coded bit, and a pair 2 X + Y
pub output_bit_lem : (c : Code) (g u s : ℕ) → output c g u s < 2
unfolding output
output_bit_lem c g u s = omega arith

pub label_under : (c : Code) (u s : ℕ) → label c u s < 4
unfolding label output
label_under c u s = omega arith

-- the depth of a traceback that is accepted
pub depth_range : (tb : ℕ) → tb ≤ traceback_limit → (1 ≤ depth tb) × (depth tb ≤ traceback_limit)
depth_range tb h = go (eqb tb 0) refl
  where
    go : (w : Bool) → eqb tb 0 ≡ w → (1 ≤ cond w 1 tb) × (cond w 1 tb ≤ traceback_limit)
    go true e = (omega arith, omega arith)
    go false e = let n = eqb-false tb 0 e in (omega arith, h)

-- the greatest of one path value more
pub top_more : (pm : List Float) (x : Float) (s : ℕ) → x ≡ top pm s → cond (lt x (get_or pm s nan)) (get_or pm s nan) x ≡ top pm (s + 1)
unfolding top
top_more pm x s is_x = rw (add-one s, is_x)

-- how many path values there are after a step, and after the maximum is subtracted
pub renormalised_length : (half : ℕ) (pm : List Float) → length (renormalised half pm) ≡ length pm
unfolding renormalised
renormalised_length half pm = length-map pm (λ x. sub binary32 x (top pm (2 * half)))

pub nexts_length : (half : ℕ) (out : ℕ → ℕ → ℕ) (t : Tie) (pm : List Float) (x : Step) → length (nexts half out t pm x) ≡ 2 * half
unfolding nexts
nexts_length half out t pm x = length_upto (next half out t pm x) (2 * half)

-- ---- back through the first n of some words: one step further, and the bit that is read off the state after t steps
pub back_more : (half : ℕ) (d : List ℕ) (n state t s : ℕ) → 0 < t → t ≤ n → s ≡ back half (take n d) n state (n - t)
    → kept half (get_or d (t - 1) 0) s ≡ back half (take n d) n state (n - (t - 1))
unfolding back
back_more half d n state t s ht hn is-s =
    let e : n - (t - 1) ≡ suc (n - t) = omega arith in
    let j : n - suc (n - t) ≡ t - 1 = omega arith in
    let g : get_or (take n d) (t - 1) 0 ≡ get_or d (t - 1) 0 = get_or-take n d (t - 1) 0 (omega arith) in
    rw e (cc)

pub input_read : (half : ℕ) (ws : List ℕ) (n state t s : ℕ) → 0 < t → s ≡ back half ws n state (n - t) → s / half ≡ input half ws n state (t - 1)
unfolding input
input_read half ws n state t s ht is-s =
    let j : t - 1 + 1 ≡ t = omega arith in
    rw j (ap (λ (x : ℕ). x / half) is-s)

module _ (half : ℕ) (out : ℕ → ℕ → ℕ) (t : Tie) (tb : ℕ) where
  released_values : (d : Decoder) → (released half out t tb d).values ≡ d.values
  unfolding released
  released_values d = go (leb (block + tb) (length d.words))
    where
      go : (w : Bool) → (cond w (record { values = d.values; words = drop block d.words; bits = d.bits ++ take block (decoded half out t d) }) d).values ≡ d.values
      go true = refl
      go false = refl

  -- the path values are those of the steps alone, whatever is released
  pub after_values : (steps : ℕ → Step) (d : Decoder) (n : ℕ) → (after half out t tb steps d n).values ≡ values_at half out t steps d.values n
  unfolding after values_at stepped
  after_values steps d zero = refl
  after_values steps d (suc n) =
      let e = after half out t tb steps d n in
      released_values (record { values = settled half out t n (steps n) (nexts half out t e.values (steps n)); words = e.words ++ (word half out t e.values (steps n) ∷ []); bits = e.bits })
      ∙ ap (λ (pm : List Float). settled half out t n (steps n) (nexts half out t pm (steps n))) (after_values steps d n)
