-- Known bits after the last step: a step that adds two zeros, then the states that the bit rules out are set to -1.0e9, then the maximum is subtracted.
-- The sent state keeps its whole lead, and the decisions along the sent path still point along it.
use Rattle.std.specs.Prelude.{◌≡◌, refl, ◌⊎◌, true, cond, List, eqb, get_or, Float}
use Rattle.std.proofs.Common.{sym, ap, ◌∙◌, subst, inl, inr, mod-lt, mul-le-mul_right, arith, eqb→eq, lit<, lit≤}
use Prim.Native.Nat.{ℕ, zero, suc, ◌+◌, ◌*◌, ◌/◌, ◌%◌, ◌-◌, ◌<◌, ◌≤◌}
use Rattle.std.proofs.Math.Nat.{zero-mul}
use Rattle.std.proofs.Math.Dec.{eqb_refl}
use Rattle.std.specs.Float.{nan, binary32}
use Rattle.std.specs.Float.Ieee.{prec, add, neg, fits, of_bits}
use Rattle.ieee.specs.Value.{hi, lo, Num, hi_neg, lo_neg, num_neg}
use Rattle.ieee.specs.Order.{Lt}
use Rattle.ieee.specs.Nearest.{near}
use Rattle.ieee.specs.Rounding.{rounds_self, fine_between, pow2, pow2_add}
use Rattle.ieee.proofs.Sums.{add_rounds}
use Rattle.trellis.specs.Code.{moved}
use Rattle.trellis.specs.Step.{known, Tie, term, branch, cand, wins, next, nexts, best, ruled, kept}
use Rattle.trellis.specs.Run.{settled, values_at, word_at}
use Rattle.path_lead.specs.Favour.{margin}
use Rattle.trellis.specs.ListLaws.{get_d_upto}
use Rattle.path_lead.specs.Lists.{get_d_nexts}
use Rattle.path_lead.specs.Ties.{pick, same, false_of, true_of, wins_is, next_is}
use Rattle.path_lead.proofs.Step.{Leads}
use Rattle.path_lead.proofs.Maximum.{ahead_of, best_is, leads_renormalised, some_lead}
use Rattle.path_lead.proofs.Sent.{moved_is, keeps}

-- z is worth what x is
record Worth (z x : Float) : Type 0 where
  num : Num binary32 z
  hi_is : hi binary32 z ≡ hi binary32 x
  lo_is : lo binary32 z ≡ lo binary32 x

-- to add a zero, of either sign
adds_nothing : (x z : Float) → Num binary32 x → Num binary32 z → hi binary32 z ≡ 0 → lo binary32 z ≡ 0 → Worth (add binary32 x z) x
adds_nothing x z p q h l =
    let r = add_rounds binary32 x z p q (fine_between (hi binary32 x + hi binary32 z) (lo binary32 x + lo binary32 z) p p (omega arith) (omega arith)) in
    let i = rounds_self p in
    record {
      num = r.num;
      hi_is = r.hi_is ∙ ap (λ (n : ℕ). near (prec binary32) n) (omega arith) ∙ sym i.hi_is;
      lo_is = r.lo_is ∙ ap (λ (n : ℕ). near (prec binary32) n) (omega arith) ∙ sym i.lo_is;
    }

worth_trans : {z y x : Float} → Worth z y → Worth y x → Worth z x
worth_trans a b = record { num = a.num; hi_is = a.hi_is ∙ b.hi_is; lo_is = a.lo_is ∙ b.lo_is }

-- ---- the zeros of a known bit, of either sign
record Zero (x : Float) : Type 0 where
  num : Num binary32 x
  hi_is : hi binary32 x ≡ 0
  lo_is : lo binary32 x ≡ 0

zero_plus : Zero (of_bits binary32 0)
unfolding fits of_bits hi lo
zero_plus = record { num = record { fin_x = tt; fits_x = tt }; hi_is = refl; lo_is = refl }

zero_minus : Zero (neg (of_bits binary32 0))
zero_minus = record { num = num_neg zero_plus.num; hi_is = hi_neg binary32 (of_bits binary32 0) ∙ zero_plus.lo_is; lo_is = lo_neg binary32 (of_bits binary32 0) ∙ zero_plus.hi_is }

zero_term : (b : ℕ) → Zero (term b (of_bits binary32 0))
zero_term b = pick Zero (eqb b 1) (neg (of_bits binary32 0)) (of_bits binary32 0) zero_minus zero_plus

-- "A known bit is a pair step of two zeros": it adds nothing
known_worth : (out : ℕ → ℕ → ℕ) (pm : List Float) (c k b : ℕ) → Num binary32 (get_or pm (2 * (k % 32) + b) nan) → Worth (cand 32 out pm (known c) k b) (get_or pm (2 * (k % 32) + b) nan)
unfolding cand branch
known_worth out pm c k b p =
    let r = 2 * (k % 32) + b in
    let l = out (k / 32) r in
    let x = zero_term (l / 2) in
    let y = zero_term (l % 2) in
    let f = adds_nothing (get_or pm r nan) (term (l / 2) (of_bits binary32 0)) p x.num x.hi_is x.lo_is in
    worth_trans (adds_nothing (add binary32 (get_or pm r nan) (term (l / 2) (of_bits binary32 0))) (term (l % 2) (of_bits binary32 0)) f.num y.num y.hi_is y.lo_is) f

-- ---- the states that the bit rules out
-- 1.0e9, in units of 2 ^ -149
abbrev pub ruled_out : ℕ
ruled_out = 15625000 * pow2 155

pub out_num : Num binary32 (of_bits binary32 0xce6e_6b28)
unfolding fits of_bits
out_num = record { fin_x = tt; fits_x = tt }

out_is : (hi binary32 (of_bits binary32 0xce6e_6b28) ≡ 0) × (lo binary32 (of_bits binary32 0xce6e_6b28) ≡ ruled_out)
unfolding hi lo pow2 of_bits
out_is = (refl, refl)

-- what is shown of each state's value: a number, at least -B, and L below x
record Below (x z : Float) (B L : ℕ) : Type 0 where
  num : Num binary32 z
  floor : lo binary32 z ≤ hi binary32 z + B
  lead : hi binary32 z + lo binary32 x + L ≤ hi binary32 x + lo binary32 z

-- the path values of a known step whose bit is c, and what the bit rules out set to -1.0e9
abbrev ruled_nexts : (ℕ → ℕ → ℕ) → Tie → List Float → ℕ → List Float
ruled_nexts out t pm c = ruled 32 c (nexts 32 out t pm (known c))

ruled_value : (out : ℕ → ℕ → ℕ) (t : Tie) (pm : List Float) (c k : ℕ) → k < 64 → get_or (ruled_nexts out t pm c) k nan ≡ cond (eqb (k / 32) (c % 2)) (next 32 out t pm (known c) k) (of_bits binary32 0xce6e_6b28)
unfolding ruled
ruled_value out t pm c k K =
    get_d_upto (λ k. cond (eqb (k / 32) (c % 2)) (get_or (nexts 32 out t pm (known c)) k nan) (of_bits binary32 0xce6e_6b28)) nan 64 k K ∙ rw (get_d_nexts 32 out t pm (known c) k K)

module _ (out : ℕ → ℕ → ℕ) (t : Tie) (pm : List Float) (s c : ℕ) (S : s < 64) (M L : ℕ) (few : L ≤ margin * pow2 149) (some : 0 < L) (i : Leads pm s M ruled_out L) where
  small : moved 32 (c % 2) s < 64
  small = (moved_is (c % 2) s (mod-lt c (lit< tt)) S).0

  sent_path : Worth (cand 32 out pm (known c) (moved 32 (c % 2) s) (s % 2)) (get_or pm s nan)
  sent_path =
      let n : 2 * (moved 32 (c % 2) s % 32) + s % 2 ≡ s = omega arith in
      subst (λ (r : ℕ). Worth (cand 32 out pm (known c) (moved 32 (c % 2) s) (s % 2)) (get_or pm r nan)) n (known_worth out pm c (moved 32 (c % 2) s) (s % 2) (rw n (i.num s S)))

  -- not from the sent state
  rival_path : (k b : ℕ) → k < 64 → b < 2 → (2 * (k % 32) + b ≡ s → ⊥) → Below (get_or pm s nan) (cand 32 out pm (known c) k b) ruled_out L
  rival_path k b K b2 n =
      let R : 2 * (k % 32) + b < 64 = omega arith in
      let w = known_worth out pm c k b (i.num (2 * (k % 32) + b) R) in
      let f = i.floor (2 * (k % 32) + b) R in
      let l = i.lead (2 * (k % 32) + b) R n in
      record { num = w.num; floor = omega arith; lead = omega arith }

  beside : Below (get_or pm s nan) (cand 32 out pm (known c) (moved 32 (c % 2) s) (1 - s % 2)) ruled_out L
  beside = rival_path (moved 32 (c % 2) s) (1 - s % 2) small (omega arith) (λ f. omega arith)

  apart : Lt binary32 (cand 32 out pm (known c) (moved 32 (c % 2) s) (1 - s % 2)) (cand 32 out pm (known c) (moved 32 (c % 2) s) (s % 2))
  apart = let x = sent_path in let y = beside in omega arith

  -- the sent branch wins
  known_decides : wins 32 out t pm (known c) (moved 32 (c % 2) s) ≡ eqb (s % 2) 1
  known_decides = wins_is 32 out t pm (known c) (moved 32 (c % 2) s) (s % 2) (mod-lt s (lit< tt)) sent_path.num beside.num apart

  sent_ruled : Worth (get_or (ruled_nexts out t pm c) (moved 32 (c % 2) s) nan) (get_or pm s nan)
  sent_ruled =
      let n : moved 32 (c % 2) s / 32 ≡ c % 2 = omega arith in
      rw (ruled_value out t pm c (moved 32 (c % 2) s) small, n, true_of (eqb (c % 2) (c % 2)) (eqb_refl (c % 2)), next_is 32 out t pm (known c) (moved 32 (c % 2) s) (s % 2) (mod-lt s (lit< tt)) sent_path.num beside.num apart)
      sent_path

  rival_next : (k : ℕ) → k < 64 → k / 32 ≡ c % 2 → (k ≡ moved 32 (c % 2) s → ⊥) → Below (get_or pm s nan) (next 32 out t pm (known c) k) ruled_out L
  unfolding next
  rival_next k K e n =
      pick (λ z. Below (get_or pm s nan) z ruled_out L) (wins 32 out t pm (known c) k) (cand 32 out pm (known c) k 1) (cand 32 out pm (known c) k 0)
      (rival_path k 1 K (lit< tt) (λ g. n (omega arith))) (rival_path k 0 K (lit< tt) (λ g. n (omega arith)))

  rival_ruled : (k : ℕ) → k < 64 → (k ≡ moved 32 (c % 2) s → ⊥) → Below (get_or pm s nan) (get_or (ruled_nexts out t pm c) k nan) ruled_out L
  rival_ruled k K n = rw (ruled_value out t pm c k K) (go (same (k / 32) (c % 2)))
    where
      go : (k / 32 ≡ c % 2) ⊎ (k / 32 ≡ c % 2 → ⊥) → Below (get_or pm s nan) (cond (eqb (k / 32) (c % 2)) (next 32 out t pm (known c) k) (of_bits binary32 0xce6e_6b28)) ruled_out L
      go (inl e) = let b : eqb (k / 32) (c % 2) ≡ true = rw e (true_of (eqb (c % 2) (c % 2)) (eqb_refl (c % 2))) in rw b (rival_next k K e n)
      go (inr e) =
          let o = out_is in
          let z = i.plus in
          let d : pow2 155 ≡ 64 * pow2 149 = pow2_add 6 149 in
          rw (false_of (eqb (k / 32) (c % 2)) (λ b. e (eqb→eq (k / 32) (c % 2) b))) record { num = out_num; floor = omega arith; lead = omega arith }

  leads_ruled : Leads (ruled_nexts out t pm c) (moved 32 (c % 2) s) M ruled_out L
  leads_ruled = record {
    num = λ k K. num_at k K (same k (moved 32 (c % 2) s));
    floor = λ k K. floor_at k K (same k (moved 32 (c % 2) s));
    plus = sent_ruled.lo_is ∙ i.plus;
    cap = let x = sent_ruled in let y = i.cap in omega arith;
    lead = λ k K n. let x = sent_ruled in let y = rival_ruled k K n in omega arith;
  }
    where
      num_at : (k : ℕ) → k < 64 → (k ≡ moved 32 (c % 2) s) ⊎ (k ≡ moved 32 (c % 2) s → ⊥) → Num binary32 (get_or (ruled_nexts out t pm c) k nan)
      num_at k K (inl e) = rw e sent_ruled.num
      num_at k K (inr n) = (rival_ruled k K n).num

      floor_at : (k : ℕ) → k < 64 → (k ≡ moved 32 (c % 2) s) ⊎ (k ≡ moved 32 (c % 2) s → ⊥) → lo binary32 (get_or (ruled_nexts out t pm c) k nan) ≤ hi binary32 (get_or (ruled_nexts out t pm c) k nan) + ruled_out
      floor_at k K (inl e) = rw e (let x = sent_ruled in let y = i.plus in omega arith)
      floor_at k K (inr n) = let y = rival_ruled k K n in omega arith

-- ---- known bits w, one after the other, from path values of which the state f 0 leads by a * 2 ^ -15; f is the path of the bits
module _ (out : ℕ → ℕ → ℕ) (t : Tie) (w : ℕ → ℕ) (pm : List Float) (f : ℕ → ℕ) (S : f 0 < 64) (moves : (j : ℕ) → f (suc j) ≡ moved 32 (w j % 2) (f j))
    (a : ℕ) (A : 0 < a) (A' : a ≤ margin * 32768) (i : Leads pm (f 0) (0 * pow2 148) ruled_out (a * pow2 134))
  where
    small_at : (j : ℕ) → f j < 64
    small_at zero = S
    small_at (suc j) = rw (moves j) (moved_is (w j % 2) (f j) (mod-lt (w j) (lit< tt)) (small_at j)).0

    few_lead : a * pow2 134 ≤ margin * pow2 149
    few_lead =
        let m : a * pow2 134 ≤ margin * 32768 * pow2 134 = mul-le-mul_right (pow2 134) A' in
        let e : pow2 149 ≡ 32768 * pow2 134 = pow2_add 15 134 in
        omega arith

    leads_at : (j : ℕ) → Leads (values_at 32 out t (λ k. known (w k)) pm j) (f j) (0 * pow2 148) ruled_out (a * pow2 134)
    unfolding values_at settled
    leads_at zero = i
    leads_at (suc j) =
        let z : 0 * pow2 148 ≡ 0 = zero-mul (pow2 148) in
        let pm' = values_at 32 out t (λ k. known (w k)) pm j in
        let m = small_at j in
        rw (moves j)
        (leads_renormalised (ruled 32 (w j) (nexts 32 out t pm' (known (w j)))) (moved 32 (w j % 2) (f j)) (rw (moves j) at (small_at (suc j))) (0 * pow2 148) ruled_out 155 15625000 a (lit< tt) (lit≤ tt) (omega arith) A (omega arith)
        (leads_ruled out t pm' (f j) (w j) m (0 * pow2 148) (a * pow2 134) few_lead (some_lead a A) (leads_at j)))

    pub known_best : (j : ℕ) → best t (values_at 32 out t (λ k. known (w k)) pm j) 63 ≡ f j
    known_best j = best_is t (values_at 32 out t (λ k. known (w k)) pm j) (f j) (small_at j) (ahead_of (some_lead a A) (leads_at j))

    pub known_kept : (j : ℕ) → kept 32 (word_at 32 out t (λ k. known (w k)) pm j) (f (suc j)) ≡ f j
    known_kept j =
        let pm' = values_at 32 out t (λ k. known (w k)) pm j in
        rw (moves j)
        (keeps out t pm' (known (w j)) (w j % 2) (f j) (mod-lt (w j) (lit< tt)) (small_at j)
        (known_decides out t pm' (f j) (w j) (small_at j) (0 * pow2 148) (a * pow2 134) few_lead (some_lead a A) (leads_at j)))
