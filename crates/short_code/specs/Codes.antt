-- Request P7: "Add an encoder and decoder with constraint length 3 to 7 and two generators as parameters. Each generator is below 2^length and has its
-- top bit set."
use Rattle.std.specs.Prelude.{◌≡◌, Bool, ◌&&◌, ℕ, ◌-◌, ◌^◌, ◌≤◌, leb, ltb, List, Float}
use Rattle.trellis.specs.Code as trellis
use Rattle.trellis.specs.Code.{half, label}
use Rattle.trellis.specs.Step.{Step}
use Rattle.trellis.specs.Run.{settled}
use Rattle.trellis.specs.Isdb.{rule}
use Rattle.short_code.specs.declared.Code.{Code}

-- the code of crate trellis with these numbers, and 2 X + Y of each of its branches
abbrev pub code_of : Code → trellis.Code
code_of c = record { constraint = c.constraint; g1 = c.g1; g2 = c.g2 }

abbrev pub labels : Code → ℕ → ℕ → ℕ
labels c = label (code_of c)

-- 2^(length-2) and 2^(length-1): half of the states, and all of them
abbrev pub half_of : Code → ℕ
half_of c = half (code_of c)

abbrev pub states_of : Code → ℕ
states_of c = 2 ^ (c.constraint - 1)

-- the length is looked at first: no power of another length is formed
abbrev pub good_length : ℕ → Bool
good_length k = leb 3 k && leb k 7

abbrev pub good_generator : ℕ → ℕ → Bool
good_generator k g = leb (2 ^ (k - 1)) g && ltb g (2 ^ k)

abbrev pub good_code : Code → Bool
good_code c = good_length c.constraint && (good_generator c.constraint c.g1 && good_generator c.constraint c.g2)

-- a good length, and half of its states
pub record Fits (c : Code) (h : ℕ) : Type 0 where
  pub least : 3 ≤ c.constraint
  pub most : c.constraint ≤ 7
  pub half_is : h ≡ half_of c

-- the path values once step i of a call has added: `settled` of crate trellis, which no label bears on
abbrev pub Settled : ℕ → ℕ → Step → List Float → List Float → Type 0
Settled h i x before after = (out : ℕ → ℕ → ℕ) → after ≡ settled h out rule i x before
