-- Both generators tap the input, so the two branches that leave a state send complementary pairs. One computed test over the 64 states.
--
use Rattle.std.specs.Prelude.{◌≡◌, Bool, ℕ, zero, suc, ◌+◌, ◌-◌, ◌<◌, T, eqb}
use Rattle.std.proofs.Common.{arith, eqb→eq}
use Rattle.trellis.specs.Code.{Code, isdb, output, tapped, label}
use Rattle.trellis.specs.ListLaws.{every, every_at}
use Rattle.trellis.proofs.RunLaws.{label_under}
use Rattle.trellis.specs.Isdb

-- the two pairs that leave the state s are 2 X + Y and its complement, 3 - (2 X + Y)
test : Code → ℕ → Bool
test c s = eqb (label c 0 s + label c 1 s) 3

passes : T (every (test isdb) 64)
unfolding every test label output tapped
passes = tt

sum : (s : ℕ) → s < 64 → Isdb.labels 0 s + Isdb.labels 1 s ≡ 3
unfolding test
sum s h = eqb→eq (Isdb.labels 0 s + Isdb.labels 1 s) 3 (every_at (test isdb) 64 passes s h)

pub small : (u s : ℕ) → u < 2 → s < 64 → Isdb.labels u s < 4
small u s l h = label_under isdb u s

pub complement : (u s : ℕ) → u < 2 → s < 64 → Isdb.labels (1 - u) s ≡ 3 - Isdb.labels u s
complement zero s l h = omega (arith, sum s h)
complement (suc zero) s l h = omega (arith, sum s h)
complement (suc (suc u)) s l h = absurd (omega arith)
