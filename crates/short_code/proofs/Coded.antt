-- The label of a branch by parities, and what a number of states gives.
use mathlib.Core.Path.{◌≡◌, refl, sym, ◌∙◌, ap}
use Prim.Native.Nat.{ℕ, suc, ◌+◌, ◌-◌, ◌*◌, ◌/◌, ◌%◌, ◌^◌, ◌<◌, ◌≤◌}
use native.Mathlib.Omega.{arith}
use native.Mathlib.Nat.{pow-suc, mul_comm}
use lib.Bits.{bit_and}
use lib.Pow.{pow_pos, pow_mono, shl_exact}
use mathlib.Core.Logic.{◌⊎◌, ⊎_elim}
use mathlib.Core.Bool.{Bool, true, false, ◌&&◌}
use borrow.Author.Tests.{le-leb, lt-leb}
use lib.Dec.{leb, ltb}
use Rattle.trellis.specs.Code as trellis
use Rattle.trellis.specs.Code.{output}
use Rattle.trellis.specs.Parity.{ones}
use Rattle.short_code.specs.declared.Code.{Code}
use Rattle.short_code.specs.Codes.{code_of, labels, good_length, good_generator, good_code, Fits}
use Rattle.short_code.specs.CodeLaws.{states_are}
use Rattle.short_code.specs.RegisterLaws.{output_parity}
use Rattle.trellis.proofs.RunLaws.{output_bit_lem}

-- half of the states by a shift
pub half_fits : (c : Code) (h : ℕ) → 3 ≤ c.constraint → c.constraint ≤ 7 → h ≡ (1 * 2 ^ (c.constraint - 2)) % 2 ^ 64 → (1 ≤ h) × (h ≤ 32) × Fits c h
half_fits c h l m e =
    let k = c.constraint - 2 in
    let is : h ≡ 2 ^ k = e ∙ shl_exact {a = 1} 1 k 64 (omega arith) (omega arith) ∙ omega arith in
    let some : 0 < 2 ^ k = pow_pos k in
    let few : 2 ^ k ≤ 2 ^ 5 = pow_mono {i = k} {j = 5} (omega arith) in
    (omega arith, omega arith, record { least = l; most = m; half_is = is })

-- ---- the test of a code
pub short_length : (c : Code) → c.constraint < 3 → good_code c ≡ false
short_length c l = rw (lt-leb 3 c.constraint l) refl

pub long_length : (c : Code) → 3 ≤ c.constraint → 7 < c.constraint → good_code c ≡ false
long_length c l m = rw (le-leb 3 c.constraint l, lt-leb c.constraint 7 m) refl

module _ (c : Code) (h : ℕ) (f : Fits c h) where
  all_of : 2 ^ c.constraint ≡ 2 * (2 * h)
  all_of =
      let l = f.least in
      let e : c.constraint ≡ suc (c.constraint - 1) = omega arith in
      ap (λ (y : ℕ). 2 ^ y) e ∙ pow-suc 2 (c.constraint - 1) ∙ mul_comm (2 ^ (c.constraint - 1)) 2 ∙ ap (λ (y : ℕ). 2 * y) (sym (states_are c h f))

  generator : (g : ℕ) → good_generator c.constraint g ≡ (leb (2 * h) g && ltb g (2 * (2 * h)))
  generator g = rw (← states_are c h f, all_of) refl

  -- the generators' tests where the length is good
  pub good_is : good_code c ≡ ((leb (2 * h) c.g1 && ltb c.g1 (2 * (2 * h))) && (leb (2 * h) c.g2 && ltb c.g2 (2 * (2 * h))))
  good_is =
      let e : good_length c.constraint ≡ true = rw (le-leb 3 c.constraint f.least, le-leb c.constraint 7 f.most) refl in
      rw (e, generator c.g1, generator c.g2) refl

module _ (c : Code) (h u s : ℕ) (f : Fits c h) (hu : u < 2) (hs : s < 2 * h) where
  one_output : (g p : ℕ) → p ≡ ones 8 (bit_and (2 * h * u + s) g) % 2 → p ≡ output (code_of c) g u s
  one_output g p e =
      e ∙ ap (λ (y : ℕ). ones 8 (bit_and (y * u + s) g) % 2) (states_are c h f) ∙ sym (output_parity (code_of c) g u s f.least f.most hu (rw (states_are c h f) at hs))

  pub label_is : (p q : ℕ) → p ≡ ones 8 (bit_and (2 * h * u + s) c.g1) % 2 → q ≡ ones 8 (bit_and (2 * h * u + s) c.g2) % 2 → (2 * p + q < 4) × (2 * p + q ≡ labels c u s)
  unfolding trellis.label
  label_is p q ep eq = (omega arith, rw (one_output c.g1 p ep, one_output c.g2 q eq) refl)

-- X and Y of a label
pub label_parts : (c : Code) (u s l : ℕ) → l ≡ labels c u s → (l / 2 ≡ output (code_of c) c.g1 u s) × (l % 2 ≡ output (code_of c) c.g2 u s)
unfolding trellis.label
label_parts c u s l e =
    let x = output_bit_lem (code_of c) c.g1 u s in
    let y = output_bit_lem (code_of c) c.g2 u s in
    (omega arith, omega arith)
