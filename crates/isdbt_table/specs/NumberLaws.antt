-- What is known of a compiled puncturing, and of the space it takes.
use Rattle.std.specs.Prelude.{◌≡◌, refl, Bool, true, false, ℕ, ◌*◌, ◌/◌, ◌<◌, ltb, length, take}
use Rattle.std.proofs.Common.{div-lt_iff_lt-mul, le-div_iff_mul-le, lt-ltb, le-ltb, ltb-true, ltb-false}
use Rattle.isdbt_table.specs.declared.CodeRate.{CodeRate}
use Rattle.isdbt_table.specs.declared.CodeRate.TheVariants.{R1_2, R2_3, R3_4, R5_6, R7_8}
use Rattle.isdbt_table.specs.declared.Puncturing.{Puncturing}
use Rattle.isdbt_table.specs.Table.{period, sent, bit_order, compiled}
use Rattle.isdbt_table.specs.SizeLaws.{Sizes, sizes, in_order}

pub record Numbers (rate : CodeRate) (p : Puncturing) : Type 0 where
  pub period_is : p.period ≡ period rate
  pub n_is : p.n ≡ sent rate
  pub order_is : p.order ≡ (compiled rate).order
  pub long : length p.order ≡ 8
  pub has_order : take p.n p.order ≡ bit_order rate
  pub ranges : Sizes p.period p.n

eight : (rate : CodeRate) → length (compiled rate).order ≡ 8
eight R1_2 = refl
eight R2_3 = refl
eight R3_4 = refl
eight R5_6 = refl
eight R7_8 = refl

pub numbers : (rate : CodeRate) (p : Puncturing) → p ≡ compiled rate → Numbers rate p
numbers rate p e =
    rw e (record { period_is = refl; n_is = refl; order_is = refl; long = eight rate; has_order = in_order rate; ranges = sizes rate })

-- too few places, by a quotient
pub few_places : (space per blocks : ℕ) → 0 < per → (t : Bool) → ltb space (blocks * per) ≡ t → ltb (space / per) blocks ≡ t
few_places space per blocks h true e = lt-ltb (space / per) blocks ((div-lt_iff_lt-mul h).1 (ltb-true space (blocks * per) e))
few_places space per blocks h false e = le-ltb (space / per) blocks ((le-div_iff_mul-le h).1 (ltb-false space (blocks * per) e))
