-- The sum of the first values of a function, and how many of the first numbers pass a test.
use Rattle.std.specs.Prelude.{Bool, ℕ, zero, suc, ◌+◌}
use Rattle.trellis.specs.Lists.{bit}

-- f 0 + .. + f (n - 1)
unfoldable pub summed : (ℕ → ℕ) → ℕ → ℕ
summed f zero = 0
summed f (suc n) = summed f n + f n

-- how many of the first n numbers pass a test
abbrev pub counted : (ℕ → Bool) → ℕ → ℕ
counted p n = summed (λ i. bit (p i)) n
