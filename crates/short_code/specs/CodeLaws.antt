-- Laws of the test of a code and of its number of states.
use Rattle.std.specs.Prelude.{◌≡◌, refl, Bool, true, false, ◌&&◌, ℕ, suc, ◌-◌, ◌*◌, ◌^◌, ◌≤◌, leb}
use Rattle.std.proofs.Common.{sym, ◌∙◌, ap, arith, pow-suc, mul_comm, leb-true}
use Rattle.short_code.specs.declared.Code.{Code}
use Rattle.short_code.specs.Codes.{good_length, good_generator, good_code, half_of, states_of, Fits}

-- twice half of the states are all of them
pub states_are : (c : Code) (h : ℕ) → Fits c h → 2 * h ≡ 2 ^ (c.constraint - 1)
states_are c h f =
    let l = f.least in
    let e : c.constraint - 1 ≡ suc (c.constraint - 2) = omega arith in
    ap (λ (y : ℕ). 2 * y) f.half_is ∙ mul_comm 2 (2 ^ (c.constraint - 2)) ∙ sym (ap (λ (y : ℕ). 2 ^ y) e ∙ pow-suc 2 (c.constraint - 2))

both : (a b : Bool) → (a && b) ≡ true → (a ≡ true) × (b ≡ true)
both true b e = (refl, e)
both false b e = (e, absurd (let z : ◌≡◌ {A = ℕ} 0 1 = cc in omega arith))

-- a good code has a good length
pub good_length_lem : (c : Code) → good_code c ≡ true → (3 ≤ c.constraint) × (c.constraint ≤ 7)
good_length_lem c e =
    let k = c.constraint in
    let l = (both (good_length k) (good_generator k c.g1 && good_generator k c.g2) e).0 in
    let t = both (leb 3 k) (leb k 7) l in
    (leb-true 3 k t.0, leb-true k 7 t.1)

-- the states of a code that is not refused
pub good_states : (c : Code) → good_code c ≡ true → 2 * half_of c ≡ states_of c
good_states c e = let l = good_length_lem c e in states_are c (half_of c) (record { least = l.0; most = l.1; half_is = refl })
