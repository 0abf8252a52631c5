-- The butterflies of the trellis: the states 2 j and 2 j + 1 go to j and 32 + j. Both generators tap the input and the oldest bit, so a branch has the coded pair that the input 0 has from the state
-- whose low bit is the sum of both.
use Rattle.std.specs.Prelude.{◌≡◌, refl, ℕ, zero, suc, ◌+◌, ◌*◌, ◌/◌, ◌%◌, ◌<◌}
use Rattle.std.proofs.Common.{arith, add-zero}
use Rattle.trellis.specs.Code.{isdb, label, output, tapped}
use Rattle.trellis.specs.Isdb

-- the oldest bit is tapped last; the others are those of the state's half
last : (g s : ℕ) → tapped isdb g s 6 ≡ tapped isdb g s 5 + (g / 1 % 2) * (s / 1 % 2)
unfolding tapped
last g s = refl

older : (g j : ℕ) → tapped isdb g (2 * j + 1) 5 ≡ tapped isdb g (2 * j) 5
unfolding tapped
older g j =
    let a : (2 * j + 1) / 2 ≡ 2 * j / 2 = omega arith in
    let b : (2 * j + 1) / 4 ≡ 2 * j / 4 = omega arith in
    let c : (2 * j + 1) / 8 ≡ 2 * j / 8 = omega arith in
    let d : (2 * j + 1) / 16 ≡ 2 * j / 16 = omega arith in
    let e : (2 * j + 1) / 32 ≡ 2 * j / 32 = omega arith in
    rw (a, b, c, d, e) refl

sum_even : (t j : ℕ) → (1 * 0 + (t + 1 * ((2 * j + 1) / 1 % 2))) % 2 ≡ (1 * 1 + (t + 1 * (2 * j / 1 % 2))) % 2
sum_even t j = omega arith

sum_odd : (t j : ℕ) → (1 * 0 + (t + 1 * (2 * j / 1 % 2))) % 2 ≡ (1 * 1 + (t + 1 * ((2 * j + 1) / 1 % 2))) % 2
sum_odd t j = omega arith

even : (j : ℕ) → Isdb.labels 0 (2 * j + 1) ≡ Isdb.labels 1 (2 * j)
unfolding label output
even j = rw (last 0o171 (2 * j + 1), last 0o171 (2 * j), last 0o133 (2 * j + 1), last 0o133 (2 * j), older 0o171 j, older 0o133 j, sum_even (tapped isdb 0o171 (2 * j) 5) j, sum_even (tapped isdb 0o133 (2 * j) 5) j) refl

odd : (j : ℕ) → Isdb.labels 0 (2 * j) ≡ Isdb.labels 1 (2 * j + 1)
unfolding label output
odd j = rw (last 0o171 (2 * j + 1), last 0o171 (2 * j), last 0o133 (2 * j + 1), last 0o133 (2 * j), older 0o171 j, older 0o133 j, sum_odd (tapped isdb 0o171 (2 * j) 5) j, sum_odd (tapped isdb 0o133 (2 * j) 5) j) refl

pub label_by_sum : (u b j : ℕ) → u < 2 → b < 2 → Isdb.labels 0 (2 * j + (u + b) % 2) ≡ Isdb.labels u (2 * j + b)
label_by_sum zero zero j h k = refl
label_by_sum zero (suc zero) j h k = refl
label_by_sum (suc zero) zero j h k = rw (add-zero (2 * j)) (even j)
label_by_sum (suc zero) (suc zero) j h k = rw (add-zero (2 * j)) (odd j)
label_by_sum (suc (suc u)) b j h k = absurd (omega arith)
label_by_sum zero (suc (suc b)) j h k = absurd (omega arith)
label_by_sum (suc zero) (suc (suc b)) j h k = absurd (omega arith)
