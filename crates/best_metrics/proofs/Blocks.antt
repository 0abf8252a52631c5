-- A block's numbers are the metrics of its steps.
use mathlib.Core.Path.{◌≡◌, refl, sym, ap, ◌∙◌}
use mathlib.Core.List.{List, ◌++◌}
use Prim.Native.Nat.{ℕ, zero, suc, ◌+◌, ◌*◌, ◌/◌, ◌%◌, ◌<◌}
use native.Mathlib.Omega.{arith}
use lib.ListN.{get_or, take, drop}
use lib.Ieee.{Float, nan}
use Rattle.trellis.specs.Lists.{upto, laid}
use Rattle.trellis.specs.LaidLaws.{laid_part}
use Rattle.trellis.specs.Step.{four}
use Rattle.trellis.specs.Run.{quadruple}
use Rattle.decode_block.specs.Blocks.{BlockMade, fours}
use Rattle.best_metrics.specs.Floats.{floats}

four_same : (a b : List Float) → four a ≡ four b → a ≡ b
four_same a b e = cc

-- number 4 i + j of the block
number : (ms : ℕ → List Float) (k n : ℕ) (block : List Float) → BlockMade (λ i. four (ms i)) k n block → (i j : ℕ) → i < n → j < 4 → get_or block (4 * i + j) nan ≡ get_or (ms (k + i)) j nan
number ms k n block b i j h l = place j l ∙ ap (λ (x : List Float). get_or x j nan) (four_same (quadruple block i) (ms (k + i)) (b.made i h))
  where
    place : (j : ℕ) → j < 4 → get_or block (4 * i + j) nan ≡ get_or (quadruple block i) j nan
    place zero l = let e : 4 * i + 0 ≡ 4 * i = omega arith in ap (λ (x : ℕ). get_or block x nan) e
    place (suc zero) l = refl
    place (suc (suc zero)) l = refl
    place (suc (suc (suc zero))) l = refl
    place (suc (suc (suc (suc j)))) l = absurd (omega arith)

pub block_fours : (ms : ℕ → List Float) (k n : ℕ) (block : List Float) → BlockMade (λ i. four (ms i)) k n block → (i : ℕ) → i < 4 * n → floats block i ≡ fours ms (4 * k + i)
block_fours ms k n block b i h =
    let e : 4 * (i / 4) + i % 4 ≡ i = omega arith in
    let f : (4 * k + i) / 4 ≡ k + i / 4 = omega arith in
    let g : (4 * k + i) % 4 ≡ i % 4 = omega arith in
    ap (λ (x : ℕ). get_or block x nan) (sym e) ∙ number ms k n block b (i / 4) (i % 4) (omega arith) (omega arith) ∙ ap (λ (x : ℕ). get_or (ms x) (i % 4) nan) (sym f) ∙ ap (λ (x : ℕ). get_or (ms ((4 * k + i) / 4)) x nan) (sym g)

-- a block more
pub more_metrics : (ms : ℕ → List Float) (k n : ℕ) (xs xs₀ new : List Float) → xs ≡ laid (upto (fours ms) (4 * k)) xs₀ → new ≡ take (4 * k) xs ++ laid (upto (λ i. fours ms (4 * k + i)) (4 * n)) (drop (4 * k) xs)
    → new ≡ laid (upto (fours ms) (4 * (k + n))) xs₀
more_metrics ms k n xs xs₀ new e f =
    let s : 4 * k + 4 * n ≡ 4 * (k + n) = omega arith in
    f
    ∙ ap (λ (x : List Float). take (4 * k) x ++ laid (upto (λ i. fours ms (4 * k + i)) (4 * n)) (drop (4 * k) x)) e
    ∙ laid_part (fours ms) (λ i. fours ms (4 * k + i)) (4 * k) (4 * n) xs₀ (λ i l. refl)
    ∙ ap (λ (x : ℕ). laid (upto (fours ms) x) xs₀) s
