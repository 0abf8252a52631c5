-- A step back of both tables as the code works it out.
use mathlib.Core.Path.{◌≡◌, refl, ◌∙◌}
use mathlib.Core.List.{List}
use Prim.Native.Nat.{ℕ, zero, suc, ◌+◌, ◌-◌, ◌*◌, ◌/◌, ◌≤◌, ◌<◌, min}
use native.Mathlib.Omega.{arith}
use mir.Syntax.{w64}
use mir.Val.{Fits}
use lib.ListN.{length, set, length-set}
use Rattle.trellis.specs.WrittenLaws.{Written, written_none, written_more, written_whole}
use Rattle.trellis.specs.Isdb
use Rattle.best_backward.specs.Prices.{Halved}
use Rattle.best_grid.specs.Backward.{onward, least_at, other_of, backs, others}

-- s states of a step
pub record Stepped (b₀ d₀ : List ℕ) (low kept turned : ℕ → ℕ) (u s : ℕ) (b d : List ℕ) : Type 0 where
  pub long : length b ≡ 64
  pub wide : length d ≡ 64
  pub least : Written 0 (least_at b₀ low) s b
  pub other : Written 0 (other_of b₀ d₀ low kept turned u) s d

pub stepped_none : (b₀ d₀ : List ℕ) (low kept turned : ℕ → ℕ) (u : ℕ) → length b₀ ≡ 64 → length d₀ ≡ 64 → Stepped b₀ d₀ low kept turned u 0 b₀ d₀
stepped_none b₀ d₀ low kept turned u h k = record { long = h; wide = k; least = written_none 0 (least_at b₀ low) b₀; other = written_none 0 (other_of b₀ d₀ low kept turned u) d₀ }

-- the two states of a butterfly, and their places in a table of words
pub even_in : {j e : ℕ} → j < e → e ≡ 32 → 2 * j < 64
even_in h k = omega arith

pub odd_in : {j e : ℕ} → j < e → e ≡ 32 → 2 * j + 1 < 64
odd_in h k = omega arith

pub even_fits : {j e : ℕ} → j < e → e ≡ 32 → Fits w64 (2 * j)
even_fits h k = record { fits = omega arith }

pub odd_fits : {j e : ℕ} → j < e → e ≡ 32 → Fits w64 (2 * j + 1)
odd_fits h k = record { fits = omega arith }

pub even_place : {j e : ℕ} → j < e → e ≡ 32 → Fits w64 (2 * j * 8)
even_place h k = record { fits = omega arith }

pub odd_place : {j e : ℕ} → j < e → e ≡ 32 → Fits w64 ((2 * j + 1) * 8)
odd_place h k = record { fits = omega arith }

-- the turns: half as many as states, each of a state's own number
pub turns : {n : ℕ} → n ≡ 64 → (n / 2 ≡ 32) × (0 ≤ 32)
turns h = (omega arith, omega arith)

pub turn_state : {j e : ℕ} → j < e → e ≡ 32 → (0 < 2) × (1 < 2) × (j < Isdb.half)
turn_state h k = (omega arith, omega arith, omega arith)

-- the next turn
pub turn_fits : {j e : ℕ} → j < e → e ≡ 32 → Fits w64 (j + 1)
turn_fits h k = record { fits = omega arith }

pub turn_in : {j e : ℕ} → j < e → e ≡ 32 → (j + 1 ≤ 32) × (2 * j + 1 + 1 ≡ 2 * (j + 1))
turn_in h k = (omega arith, omega arith)

pub turn_less : {j e : ℕ} → j < e → e ≡ 32 → 32 - (j + 1) < 32 - j
turn_less h k = omega arith

pub halved_as : {a b : List ℕ} → a ≡ b → Halved b → Halved a
halved_as e h = rw e h

-- all turns are done
pub turns_done : {j e : ℕ} → j ≤ 32 → e ≡ 32 → e ≤ j → 2 * j ≡ 64
turns_done h k l = omega arith

-- either input first
both : (f : ℕ → ℕ) (u : ℕ) → u < 2 → min (f u) (f (1 - u)) ≡ min (f 0) (f 1)
both f zero h = refl
both f (suc zero) h = omega arith
both f (suc (suc u)) h = absurd (omega arith)

pub least_either : (b : List ℕ) (low : ℕ → ℕ) (u s same other x : ℕ) → u < 2 → same ≡ onward b low u s → other ≡ onward b low (1 - u) s → x ≡ min same other → x ≡ least_at b low s
least_either b low u s same other x h e f g = g ∙ rw (e, f) (both (λ u. onward b low u s) u h)

pub stepped_more : (b₀ d₀ : List ℕ) (low kept turned : ℕ → ℕ) (u s : ℕ) (b d : List ℕ) → Stepped b₀ d₀ low kept turned u s b d → s < 64 → (x y : ℕ) → x ≡ least_at b₀ low s → y ≡ other_of b₀ d₀ low kept turned u s
    → Stepped b₀ d₀ low kept turned u (s + 1) (set b s x) (set d s y)
stepped_more b₀ d₀ low kept turned u s b d st h x y ex ey =
    record {
      long = length-set b s x ∙ st.long;
      wide = length-set d s y ∙ st.wide;
      least = written_more 0 (least_at b₀ low) s b x (let n = st.long in omega arith) st.least ex;
      other = written_more 0 (other_of b₀ d₀ low kept turned u) s d y (let n = st.wide in omega arith) st.other ey;
    }

pub stepped_whole : (b₀ d₀ : List ℕ) (low kept turned : ℕ → ℕ) (u : ℕ) (b d : List ℕ) → Stepped b₀ d₀ low kept turned u 64 b d → (b ≡ backs b₀ low) × (d ≡ others d₀ b₀ kept turned low u)
unfolding backs others
stepped_whole b₀ d₀ low kept turned u b d s =
    (written_whole 0 (least_at b₀ low) 64 b s.long s.least, written_whole 0 (other_of b₀ d₀ low kept turned u) 64 d s.wide s.other)
