-- Cut after a number of steps that is no multiple of 64, two calls can leave other path values than one call over both lists: each call counts its 64 steps anew, so the maximum
-- is subtracted elsewhere, and sums are rounded in another way.
use Rattle.std.specs.Prelude.{◌≡◌, refl, Bool, true, false, cond, List, [], ◌∷◌, ◌++◌, ℕ, zero, suc, ◌+◌, ◌*◌, ◌%◌, ◌<◌, T, eqb, get_or, replicate, Float}
use Rattle.std.proofs.Common.{sym, ap, ◌∙◌, subst, arith}
use Rattle.std.proofs.lemmas.List.{length-replicate, get_or-replicate}
use Rattle.std.proofs.Math.ListN.{get_or-append}
use Rattle.std.specs.Float.{nan, binary32}
use Rattle.std.specs.Float.Ieee.{add, sub, sum, round, neg, lt, of_bits}
use Rattle.trellis.specs.Isdb
use Rattle.trellis.specs.Isdb.{values_at, settle, nexts}
use Rattle.trellis.specs.Lists.{upto}
use Rattle.trellis.specs.Code.{label, output, tapped}
use Rattle.trellis.specs.Step as step
use Rattle.trellis.specs.Step.{Step, four, branch, cand, wins, next, top, renormalised}
use Rattle.trellis.specs.Run as run
use Rattle.trellis.specs.Run.{Decoder, start_unknown, settled, four_steps}
use Rattle.trellis.proofs.RunLaws.{after_values}
use Rattle.isdb_fec.specs.Calls.{steps}
use Rattle.viterbi_core.specs.HoldingLaws.{bare}
use Rattle.viterbi_core.specs.Calls.{four_call}
use Rattle.viterbi_core.specs.RunLaws.{then}

abbrev z : Float
z = of_bits binary32 0

-- a fresh decoder of an unknown start
abbrev pub fresh : Decoder
fresh = record { values = start_unknown 64; words = []; bits = [] }

-- one step of zeros; then 62 of zeros, one of 2 ^ 20 on each branch and one of 2 ^ -5 on the branches of label 0
abbrev last : List Float
last =
    of_bits binary32 0x4980_0000 ∷ of_bits binary32 0x4980_0000 ∷ of_bits binary32 0x4980_0000 ∷ of_bits binary32 0x4980_0000
    ∷ of_bits binary32 0x3d00_0000 ∷ z ∷ z ∷ z ∷ []

abbrev pub one : List Float
one = replicate 4 z

abbrev pub more : List Float
more = replicate 248 z ++ last

-- ---- steps of zeros
zero_at : (n k : ℕ) → 4 * k + 3 < n → four_steps (replicate n z ++ last) k ≡ four (z ∷ z ∷ z ∷ z ∷ [])
zero_at n k h = rw (at (4 * k) (omega arith), at (4 * k + 1) (omega arith), at (4 * k + 2) (omega arith), at (4 * k + 3) (omega arith)) refl
  where
    at : (i : ℕ) → i < n → get_or (replicate n z ++ last) i nan ≡ z
    at i l = get_or-append (replicate n z) last nan i (rw (length-replicate n z) l) ∙ get_or-replicate n i z nan l

step_zero : nexts (start_unknown 64) (four (z ∷ z ∷ z ∷ z ∷ [])) ≡ start_unknown 64
unfolding start_unknown step.nexts next wins cand branch upto add sum round of_bits lt label output tapped
step_zero = refl

less_zero : renormalised 32 (start_unknown 64) ≡ start_unknown 64
unfolding start_unknown upto top renormalised add sub neg sum round of_bits lt
less_zero = refl

zero_run : (xs : ℕ → Step) (n : ℕ) → ((k : ℕ) → k < n → xs k ≡ four (z ∷ z ∷ z ∷ z ∷ [])) → values_at xs (start_unknown 64) n ≡ start_unknown 64
unfolding run.values_at settled
zero_run xs zero h = refl
zero_run xs (suc n) h = rw (h n (omega arith), zero_run xs n (λ k l. h k (omega arith)), step_zero) (either (eqb (n % 64) 63))
  where
    either : (t : Bool) → cond t (renormalised 32 (start_unknown 64)) (start_unknown 64) ≡ start_unknown 64
    either true = less_zero
    either false = refl

-- the path values after the first list: subtracting the maximum changes nothing
first_values : (steps 1 (four_steps one) fresh 1).values ≡ start_unknown 64
first_values = after_values Isdb.half Isdb.labels Isdb.rule 1 (four_steps one) fresh 1 ∙ zero_run (four_steps one) 1 (λ k h. let e : k ≡ 0 = omega arith in rw e refl)

pub first_normalised : renormalised 32 (steps 1 (four_steps one) fresh 1).values ≡ (steps 1 (four_steps one) fresh 1).values
first_normalised = rw first_values less_zero

-- ---- the value of state 1 after the last two steps, of which step i of the call is the first
abbrev ended : ℕ → List Float → List Float
ended i pm =
    settle (suc i) (four_steps last 1) (nexts (settle i (four_steps last 0) (nexts pm (four_steps last 0))) (four_steps last 1))

in_one : get_or (four_call 1 (one ++ more) fresh).values 1 nan ≡ of_bits binary32 0xbd00_0000
unfolding run.values_at settled start_unknown step.nexts next wins cand branch upto top renormalised add sub neg sum round of_bits lt label output tapped
in_one =
    ap (λ (y : List Float). get_or (renormalised 32 y) 1 nan)
    (after_values Isdb.half Isdb.labels Isdb.rule 1 (four_steps (one ++ more)) fresh 65
    ∙ ap (ended 63) (zero_run (four_steps (one ++ more)) 63 (λ k h. zero_at 252 k (omega arith))))

in_two : get_or (four_call 1 more (bare (four_call 1 one fresh))).values 1 nan ≡ z
unfolding run.values_at settled start_unknown step.nexts next wins cand branch upto top renormalised add sub neg sum round of_bits lt label output tapped
in_two =
    ap (λ (y : List Float). get_or (renormalised 32 y) 1 nan)
    (after_values Isdb.half Isdb.labels Isdb.rule 1 (four_steps more) (bare (four_call 1 one fresh)) 64
    ∙ ap (λ (y : List Float). values_at (four_steps more) y 64) (first_normalised ∙ first_values)
    ∙ ap (ended 62) (zero_run (four_steps more) 62 (λ k h. zero_at 248 k (omega arith))))

-- the law of two calls does not hold there
pub not_in_two : four_call 1 (one ++ more) fresh ≡ then (four_call 1 one fresh) (four_call 1 more (bare (four_call 1 one fresh))) → ⊥
unfolding lt of_bits
not_in_two e = subst (λ (x : Float). T (lt x z)) (sym in_one ∙ ap (λ (d : Decoder). get_or d.values 1 nan) e ∙ in_two) tt
