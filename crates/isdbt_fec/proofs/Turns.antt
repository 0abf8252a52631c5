-- What each turn of a loop over whole periods may rely on, in the numbers of a compiled puncturing.
use mathlib.Core.Path.{◌≡◌, refl}
use mathlib.Core.List.{List}
use Prim.Native.Nat.{ℕ, ◌+◌, ◌*◌, ◌/◌, ◌<◌, ◌≤◌}
use native.Mathlib.Omega.{arith}
use native.Mathlib.Nat.{mul_left_comm}
use lib.ListN.{length}
use Rattle.isdbt_table.specs.declared.CodeRate.{CodeRate}
use Rattle.isdbt_table.specs.declared.Puncturing.{Puncturing}
use Rattle.isdbt_table.specs.Table.{period, sent, compiled}
use Rattle.isdbt_table.specs.NumberLaws.{numbers}
use Rattle.isdbt_table.specs.SizeLaws.{values_there}

-- how many bits, mother bits and sent bits whole periods give
module _ (rate : CodeRate) (p : Puncturing) (count : ℕ) (e : p ≡ compiled rate) where
  pub bit_count : count / p.n * p.period ≡ count / sent rate * period rate
  bit_count = rw e refl

  pub mother_bits : count / p.n * (2 * p.period) ≡ count / sent rate * (2 * period rate)
  mother_bits = rw e refl

  pub sent_count : count / p.period * p.n ≡ count / period rate * sent rate
  sent_count = rw e refl

  pub bits_twice : 2 * (count / p.n * p.period) ≡ count / p.n * (2 * p.period)
  bits_twice = mul_left_comm 2 (count / p.n) p.period

-- the soft values of the mother bits below `end` can be read from `count` sent values
pub record Readable (count period n long end : ℕ) : Type 0 where
  pub least : 1 ≤ period
  pub most : period ≤ 7
  pub eight : n ≤ 8
  pub in_order : n ≤ long
  pub there : (k : ℕ) → k < end → n * (k / (2 * period)) + n ≤ count

pub readable : (rate : CodeRate) (p : Puncturing) (count : ℕ) → p ≡ compiled rate
    → Readable count p.period p.n (length p.order) (count / p.n * (2 * p.period))
readable rate p count e =
    let z = numbers rate p e in
    let r = z.ranges in
    let l = z.long in
    record {
      least = r.least;
      most = r.most;
      eight = r.eight;
      in_order = omega arith;
      there = rw (z.n_is, z.period_is) (values_there rate count);
    }

-- where the order is not read again
pub readable_alone : {count period n long end : ℕ} → Readable count period n long end → Readable count period n n end
readable_alone r = record { least = r.least; most = r.most; eight = r.eight; in_order = omega arith; there = r.there }
