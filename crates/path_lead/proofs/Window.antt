-- The lead of the sent state within a window of 64 steps: what a step costs, what the subtraction of the maximum leaves, and the known start.
--
use Rattle.std.specs.Prelude.{◌≡◌, refl, ◌⊎◌, cond, List, ℕ, ◌+◌, ◌*◌, ◌/◌, ◌%◌, ◌<◌, ◌≤◌, eqb, get_or, Float}
use Rattle.std.proofs.Common.{ap, ◌∙◌, subst, inl, inr, mul-le-mul_right, add-mul, mod-eq_of_lt, arith, eqb→eq, lit<, lit≤}
use Rattle.std.proofs.Math.Dec.{eqb_refl}
use Rattle.std.specs.Float.{nan, binary32}
use Rattle.std.specs.Float.Ieee.{fits, of_bits}
use Rattle.ieee.specs.Value.{hi, lo, Num}
use Rattle.ieee.specs.Rounding.{le_or_ge, pow2, pow2_add, pow2_pos}
use Rattle.trellis.specs.Step.{four, Tie, wins, nexts, renormalised}
use Rattle.trellis.specs.Run.{start_at}
use Rattle.path_lead.specs.Favour.{margin, windows, left, Favour}
use Rattle.trellis.specs.ListLaws.{get_d_upto}
use Rattle.path_lead.specs.Ties.{same, true_of, false_of}
use Rattle.path_lead.proofs.Step.{Leads, leads_next, decides}
use Rattle.path_lead.proofs.Maximum.{leads_renormalised}
use Rattle.trellis.specs.Isdb

-- after w windows and k steps, what the least path value is at least
abbrev pub depth : ℕ → ℕ → ℕ
depth w k = 1000000 + 2176 * w + 17 * k

abbrev pub At : List Float → ℕ → ℕ → ℕ → Type 0
At pm s w k = Leads pm s (33 * k * pow2 148) (depth w k * pow2 149) (left w k * pow2 134)

-- ---- the bounds that a step asks for
pub record Costs (w k j : ℕ) : Type 0 where
  pub short : j < 136
  pub wide : (33 * k + 33) * pow2 148 < 33554432 * pow2 j
  pub within : left w k * pow2 134 ≤ margin * pow2 149
  pub less : left w k * pow2 134 < 33554432 * pow2 j
  pub loss : left w k * pow2 134 ≡ left w (k + 1) * pow2 134 + 2 * pow2 j
  pub some : 0 < left w (k + 1) * pow2 134

low_cost : (w k : ℕ) → w < windows → k < 62 → Costs w k 134
low_cost w k W K =
    let o = pow2_pos 134 in
    let e : pow2 149 ≡ 32768 * pow2 134 = pow2_add 15 134 in
    let f : pow2 148 ≡ 16384 * pow2 134 = pow2_add 14 134 in
    let a : (33 * k + 33) * pow2 148 ≤ 2046 * pow2 148 = mul-le-mul_right (pow2 148) (omega arith) in
    let b : left w k * pow2 134 ≤ (margin * 32768) * pow2 134 = mul-le-mul_right (pow2 134) (omega arith) in
    let c : 1 * pow2 134 ≤ left w (k + 1) * pow2 134 = mul-le-mul_right (pow2 134) (omega arith) in
    let d : left w k ≡ left w (k + 1) + 2 = omega arith in
    record { short = lit< tt; wide = omega arith; within = omega arith; less = omega arith; loss = ap (λ (x : ℕ). x * pow2 134) d ∙ add-mul (left w (k + 1)) 2 (pow2 134); some = omega arith }

high_cost : (w k : ℕ) → w < windows → 62 ≤ k → k < 64 → Costs w k 135
high_cost w k W h K =
    let o = pow2_pos 134 in
    let g : pow2 135 ≡ 2 * pow2 134 = pow2_add 1 134 in
    let e : pow2 149 ≡ 32768 * pow2 134 = pow2_add 15 134 in
    let f : pow2 148 ≡ 16384 * pow2 134 = pow2_add 14 134 in
    let a : (33 * k + 33) * pow2 148 ≤ 2112 * pow2 148 = mul-le-mul_right (pow2 148) (omega arith) in
    let b : left w k * pow2 134 ≤ (margin * 32768) * pow2 134 = mul-le-mul_right (pow2 134) (omega arith) in
    let c : 1 * pow2 134 ≤ left w (k + 1) * pow2 134 = mul-le-mul_right (pow2 134) (omega arith) in
    let d : left w k ≡ left w (k + 1) + 4 = omega arith in
    let l : left w k * pow2 134 ≡ left w (k + 1) * pow2 134 + 4 * pow2 134 = ap (λ (x : ℕ). x * pow2 134) d ∙ add-mul (left w (k + 1)) 4 (pow2 134) in
    record { short = lit< tt; wide = omega arith; within = omega arith; less = omega arith; loss = omega arith; some = omega arith }

cost : (w k : ℕ) → w < windows → k < 64 → (j : ℕ) × Costs w k j
cost w k W K = go (le_or_ge 62 k)
  where
    go : (62 ≤ k) ⊎ (k ≤ 62) → (j : ℕ) × Costs w k j
    go (inl l) = (135, high_cost w k W l K)
    go (inr l) = at_62 (same k 62)
      where
        at_62 : (k ≡ 62) ⊎ (k ≡ 62 → ⊥) → (j : ℕ) × Costs w k j
        at_62 (inl e) = (135, high_cost w k W (omega arith) K)
        at_62 (inr n) = (134, low_cost w k W (omega arith))

-- ---- one step of a window, and its end
module _ (t : Tie) (pm m : List Float) (s u w k : ℕ) (S : s < 64) (U : u < 2) (W : w < windows) (K : k < 64) (v : Favour m (Isdb.labels u s)) (i : At pm s w k) where
  pub step_at_lem : At (nexts Isdb.half Isdb.labels t pm (four m)) (32 * u + s / 2) w (k + 1)
  step_at_lem =
      let c = cost w k W K in
      let x = c.1 in
      let e : 33 * k + 33 ≡ 33 * (k + 1) = omega arith in
      let f : depth w k + 17 ≡ depth w (k + 1) = omega arith in
      subst (λ (n : ℕ). Leads (nexts Isdb.half Isdb.labels t pm (four m)) (32 * u + s / 2) (n * pow2 148) (depth w (k + 1) * pow2 149) (left w (k + 1) * pow2 134)) e
      (subst (λ (n : ℕ). Leads (nexts Isdb.half Isdb.labels t pm (four m)) (32 * u + s / 2) ((33 * k + 33) * pow2 148) (n * pow2 149) (left w (k + 1) * pow2 134)) f
      (leads_next t pm m s u S U v c.0 (33 * k) (depth w k) (left w k * pow2 134) (left w (k + 1) * pow2 134) (omega arith) x.wide x.short (omega arith) x.within x.less x.loss x.some i))

  pub decides_at : wins Isdb.half Isdb.labels t pm (four m) (32 * u + s / 2) ≡ eqb (s % 2) 1
  decides_at =
      let c = cost w k W K in
      let x = c.1 in
      decides t pm m s u S U v c.0 (33 * k) (depth w k) (left w k * pow2 134) (left w (k + 1) * pow2 134) (omega arith) x.wide x.short (omega arith) x.within x.less x.loss x.some i

pub renormalise_at : (pm : List Float) (s w k : ℕ) → s < 64 → w < windows → k ≤ 64 → At pm s w k → Leads (renormalised 32 pm) s (0 * pow2 148) (depth (w + 1) 0 * pow2 149) (left w k * pow2 134)
renormalise_at pm s w k S W K i =
    let t : pow2 149 ≡ 2 * pow2 148 = pow2_add 1 148 in
    let a : (depth w k + 1056) * pow2 149 ≡ depth w k * pow2 149 + 1056 * pow2 149 = add-mul (depth w k) 1056 (pow2 149) in
    let b : (depth w k + 1056) * pow2 149 ≤ depth (w + 1) 0 * pow2 149 = mul-le-mul_right (pow2 149) (omega arith) in
    let c : 33 * k * pow2 148 ≤ 2112 * pow2 148 = mul-le-mul_right (pow2 148) (omega arith) in
    leads_renormalised pm s S (33 * k * pow2 148) (depth w k * pow2 149) 149 (depth (w + 1) 0) (left w k) (lit< tt) (omega arith) (omega arith) (omega arith) (omega arith) i

pub wrap_at : (pm : List Float) (s w : ℕ) → s < 64 → w < windows → At pm s w 64 → At (renormalised 32 pm) s (w + 1) 0
wrap_at pm s w S W i =
    let e : left w 64 ≡ left (w + 1) 0 = omega arith in
    subst (λ (n : ℕ). Leads (renormalised 32 pm) s (0 * pow2 148) (depth (w + 1) 0 * pow2 149) (n * pow2 134)) e (renormalise_at pm s w 64 S W (lit≤ tt) i)

-- ---- the known start
zero_num : Num binary32 (of_bits binary32 0)
unfolding fits of_bits
zero_num = record { fin_x = tt; fits_x = tt }

pub far_num : Num binary32 (of_bits binary32 0xc974_2400)
unfolding fits of_bits
far_num = record { fin_x = tt; fits_x = tt }

values : (hi binary32 (of_bits binary32 0) ≡ 0) × (lo binary32 (of_bits binary32 0) ≡ 0) × (hi binary32 (of_bits binary32 0xc974_2400) ≡ 0) × (lo binary32 (of_bits binary32 0xc974_2400) ≡ 1000000 * pow2 149)
unfolding hi lo pow2 of_bits
values = (refl, refl, refl, refl)

start_value : (s r : ℕ) → s < 64 → r < 64 → get_or (start_at 64 s) r nan ≡ cond (eqb r s) (of_bits binary32 0) (of_bits binary32 0xc974_2400)
unfolding start_at
start_value s r S R =
    get_d_upto (λ k. cond (eqb k (s % 64)) (of_bits binary32 0) (of_bits binary32 0xc974_2400)) nan 64 r R
    ∙ ap (λ (x : ℕ). cond (eqb r x) (of_bits binary32 0) (of_bits binary32 0xc974_2400)) (mod-eq_of_lt S)

here : (s : ℕ) → s < 64 → get_or (start_at 64 s) s nan ≡ of_bits binary32 0
here s S = start_value s s S S ∙ rw (true_of (eqb s s) (eqb_refl s))

there : (s r : ℕ) → s < 64 → r < 64 → (r ≡ s → ⊥) → get_or (start_at 64 s) r nan ≡ of_bits binary32 0xc974_2400
there s r S R n = start_value s r S R ∙ rw (false_of (eqb r s) (λ b. n (eqb→eq r s b)))

pub start_at_lem : (s : ℕ) → s < 64 → At (start_at 64 s) s 0 0
start_at_lem s S = record {
  num = λ r R. num_at r R (same r s);
  floor = λ r R. floor_at r R (same r s);
  plus = rw (here s S) values.1;
  cap = rw (here s S) (let v = values in omega arith);
  lead = λ r R n. rw (here s S, there s r S R n) (let v = values in let e : pow2 149 ≡ 32768 * pow2 134 = pow2_add 15 134 in omega arith);
}
  where
    num_at : (r : ℕ) → r < 64 → (r ≡ s) ⊎ (r ≡ s → ⊥) → Num binary32 (get_or (start_at 64 s) r nan)
    num_at r R (inl e) = rw (e, here s S) zero_num
    num_at r R (inr n) = rw (there s r S R n) far_num

    floor_at : (r : ℕ) → r < 64 → (r ≡ s) ⊎ (r ≡ s → ⊥) → lo binary32 (get_or (start_at 64 s) r nan) ≤ hi binary32 (get_or (start_at 64 s) r nan) + depth 0 0 * pow2 149
    floor_at r R (inl e) = rw (e, here s S) (let v = values in omega arith)
    floor_at r R (inr n) = rw (there s r S R n) (let v = values in omega arith)
