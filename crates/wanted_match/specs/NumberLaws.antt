-- No part of an encoded frame is a NaN.
use Rattle.std.specs.Prelude.{◌≡◌, refl, Bool, true, false, cond, List, ℕ, zero, suc, ◌+◌, ◌*◌, eqb, Float}
use Rattle.std.specs.Float.Ieee.{ne, eq, neg, of_bits}
use Rattle.trellis.specs.Step.{term}
use Rattle.isdbs_combination.specs.declared.Modulation.{Modulation}
use Rattle.isdbs_combination.specs.declared.Modulation.TheVariants.{Bpsk, Qpsk, Tc8psk}
use Rattle.isdbs_tables.specs.declared.Table.{Table}
use Rattle.isdbs_combination.specs.Combinations.{modulation_of}
use Rattle.isdbs_points.specs.declared.Cplx.{Cplx}
use Rattle.isdbs_points.specs.declared.Mapping.{Mapping}
use Rattle.isdbs_points.specs.Points.{one64, root64, unused, qpsk_of, psk8_of, subset, conjugated}
use Rattle.isdbs_points.specs.Layout.{Segment, segments, at_symbol, load_bit}
use Rattle.isdbs_points.specs.Frame.{inputs, label_at, sent_bit, point_by, point_in, point_at}
use Rattle.isdbs_points.specs.PlaceLaws.{among_all}

-- of either sign
abbrev Number : Float → Type 0
Number x = (ne x x ≡ false) × (ne (neg x) (neg x) ≡ false)

abbrev NumberPoint : Cplx → Type 0
NumberPoint p = Number p.re × Number p.im

one_number : (b : ℕ) → Number (term b one64)
unfolding ne eq neg of_bits
one_number b = go (eqb b 1)
  where
    go : (t : Bool) → Number (cond t (neg one64) one64)
    go true = (refl, refl)
    go false = (refl, refl)

root_number : (b : ℕ) → Number (term b root64)
unfolding ne eq neg of_bits
root_number b = go (eqb b 1)
  where
    go : (t : Bool) → Number (cond t (neg root64) root64)
    go true = (refl, refl)
    go false = (refl, refl)

zero_number : NumberPoint unused
unfolding ne eq neg of_bits
zero_number = ((refl, refl), (refl, refl))

qpsk_number : (reverse : Bool) (p1 p0 : ℕ) → NumberPoint (qpsk_of reverse p1 p0)
qpsk_number true p1 p0 = (root_number p0, root_number p1)
qpsk_number false p1 p0 = (root_number p1, root_number p0)

psk8_number : (l : ℕ) → NumberPoint (psk8_of l)
unfolding ne eq neg of_bits
psk8_number zero = ((refl, refl), (refl, refl))
psk8_number (suc zero) = ((refl, refl), (refl, refl))
psk8_number (suc (suc zero)) = ((refl, refl), (refl, refl))
psk8_number (suc (suc (suc zero))) = ((refl, refl), (refl, refl))
psk8_number (suc (suc (suc (suc zero)))) = ((refl, refl), (refl, refl))
psk8_number (suc (suc (suc (suc (suc zero))))) = ((refl, refl), (refl, refl))
psk8_number (suc (suc (suc (suc (suc (suc zero)))))) = ((refl, refl), (refl, refl))
psk8_number (suc (suc (suc (suc (suc (suc (suc zero))))))) = ((refl, refl), (refl, refl))
psk8_number (suc (suc (suc (suc (suc (suc (suc (suc l)))))))) = ((refl, refl), (refl, refl))

conjugated_number : (conjugate : Bool) (y : Float) → Number y → ne (conjugated conjugate y) (conjugated conjugate y) ≡ false
conjugated_number true y h = h.1
conjugated_number false y h = h.0

module _ (t : Table) (m : Mapping) (load : List ℕ) (s : ℕ) where
  abbrev at : ℕ → ℕ
  at = label_at s (inputs t load)

  by_number : (md : Modulation) (g : Segment) (j : ℕ) → NumberPoint (point_by md m load at g j)
  unfolding point_by
  by_number Bpsk g j = (one_number (sent_bit at g j), zero_number.1)
  by_number Qpsk g j = qpsk_number m.qpsk_p1_on_q (sent_bit at g (2 * j)) (sent_bit at g (2 * j + 1))
  by_number Tc8psk g j = psk8_number (4 * load_bit load (g.bit + 2 * j) + subset m.tc8psk_c1_is_y (at (g.step + j)))

  pub point_number : (k : ℕ) → (ne (point_at t m load s k).re (point_at t m load s k).re ≡ false) × (ne (point_at t m load s k).im (point_at t m load s k).im ≡ false)
  unfolding point_at
  point_number k =
      let p = at_symbol unused (point_in m load at) t k in
      let n : NumberPoint p = among_all NumberPoint (λ g. g.symbol) (λ g. g.symbols) unused (point_in m load at) zero_number (λ g j. by_number (modulation_of g.combination) g j) (segments t) k in
      (n.0.0, conjugated_number m.conjugate p.im n.1)
