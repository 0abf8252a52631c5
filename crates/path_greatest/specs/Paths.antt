-- The paths of a trellis of 2 * half states, their sums over whole numbers, and the order between paths of one sum. No decoder is named here.
-- A path is its start s and its inputs us: the state after k steps is `state_at half s us k`, and the coded pair of a branch is `out u s`.
use Rattle.std.specs.Prelude.{◌≡◌, ◌⊎◌, List, ℕ, zero, suc, ◌*◌, ◌%◌, ◌≤◌, ◌<◌, ℤ, pos, nat_abs, ◌+ℤ◌, ◌≤ℤ◌, T, get_or, length, Float}
use Rattle.std.specs.Float.{nan, binary32}
use Rattle.std.specs.Float.Ieee.{eq, fits, of_int}
use Rattle.trellis.specs.Code.{state_at, label_at}
use Rattle.trellis.specs.Step.{Tie, lower, upper}

-- the theorem's numbers: at most 4,096 quadruples, of whole numbers within 16 of 0
abbrev pub longest : ℕ
longest = 4096

abbrev pub bound : ℕ
bound = 16

-- of two numbers a comes before b: the smaller under `lower`, the larger under `upper`
abbrev pub Ahead : Tie → ℕ → ℕ → Type 0
Ahead lower a b = a < b
Ahead upper a b = b < a

-- any state; this one
abbrev pub Any : ℕ → Type 0
Any z = Unit {0}

abbrev pub This : ℕ → ℕ → Type 0
This s z = z ≡ s

module _ (half : ℕ) where
  -- the start is a state, and the first n inputs are bits
  pub record Walk (n s : ℕ) (us : List ℕ) : Type 0 where
    pub start : s < 2 * half
    pub bits : (k : ℕ) → k < n → get_or us k 0 < 2

  -- a path of n steps: one input for each
  pub record Path (n s : ℕ) (us : List ℕ) : Type 0 where
    pub walk : Walk n s us
    pub count : length us ≡ n

  -- "compared by end state as a number, then by the predecessor's low bit at the last step, the step before it, and so on":
  -- of two paths that end in one state the path from s on us comes first, or is the same
  unfoldable pub Tail : Tie → ℕ → List ℕ → ℕ → List ℕ → ℕ → Type 0
  Tail t s us r vs zero = Unit {0}
  Tail t s us r vs (suc n) = Ahead t (state_at half s us n % 2) (state_at half r vs n % 2) ⊎ ((state_at half s us n % 2 ≡ state_at half r vs n % 2) × Tail t s us r vs n)

  -- of any two
  abbrev pub First : Tie → ℕ → List ℕ → ℕ → List ℕ → ℕ → Type 0
  First t s us r vs n = Ahead t (state_at half s us n) (state_at half r vs n) ⊎ ((state_at half s us n ≡ state_at half r vs n) × Tail t s us r vs n)

module _ (half : ℕ) (out : ℕ → ℕ → ℕ) where
  -- the sum of the first k steps: step i adds the metric `m i` of its coded pair
  unfoldable pub sumℤ : (ℕ → ℕ → ℤ) → ℕ → List ℕ → ℕ → ℤ
  sumℤ m s us zero = pos 0
  sumℤ m s us (suc k) = sumℤ m s us k +ℤ m k (label_at half out s us k)

  -- Of the paths of n steps whose start is in `from` and whose end is in `to`, the path from s on us has the greatest sum (`most`), and
  -- it is the first of those that have that sum (`first`).
  pub record Best (t : Tie) (from to : ℕ → Type 0) (m : ℕ → ℕ → ℤ) (n s : ℕ) (us : List ℕ) : Type 0 where
    pub path : Path half n s us
    pub begins : from s
    pub ends : to (state_at half s us n)
    pub most : (r : ℕ) (vs : List ℕ) → Path half n r vs → from r → to (state_at half r vs n) → sumℤ m r vs n ≤ℤ sumℤ m s us n
    pub first : (r : ℕ) (vs : List ℕ) → Path half n r vs → from r → to (state_at half r vs n) → sumℤ m r vs n ≡ sumℤ m s us n → First half t s us r vs n

  -- us are the inputs of the first path of greatest sum of n steps whose start is in `from`, wherever it ends: `best` says so of the path from
  -- `start` on us, and `only` that any path with these two properties, the greatest sum and no path of that sum before it, is this one
  pub record Reading (t : Tie) (from : ℕ → Type 0) (m : ℕ → ℕ → ℤ) (n : ℕ) (us : List ℕ) : Type 0 where
    pub start : ℕ
    pub best : Best t from Any m n start us
    pub only : (r : ℕ) (vs : List ℕ) → Best t from Any m n r vs → (r ≡ start) × (vs ≡ us)

-- the float x is the whole number z, as IEEE's equality has it, so -0.0 is 0 too; it is within b of 0
pub record Integer (b : ℕ) (x : Float) (z : ℤ) : Type 0 where
  pub held : T (fits binary32 x)
  pub equal : T (eq x (of_int binary32 z))
  pub within : nat_abs z ≤ b

-- the first n quadruples hold whole numbers within the bound: m k c is what quadruple k has for the coded pair c
abbrev pub Quadruples : (ℕ → List Float) → (ℕ → ℕ → ℤ) → ℕ → Type 0
Quadruples ms m n = (k c : ℕ) → k < n → c < 4 → Integer bound (get_or (ms k) c nan) (m k c)
