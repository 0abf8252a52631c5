-- One step of four metrics keeps the lead of the sent state, less the rounding of two sums. A rival's sum is rounded monotonely, so it stays below the rounded
-- (sent sum - lead), whose size is that of the sent sum: only the magnitude of the sent path's value matters. Values are in units of 2 ^ -149.
--
use Rattle.std.specs.Prelude.{◌≡◌, refl, ◌⊎◌, List, ℕ, ◌+◌, ◌*◌, ◌/◌, ◌%◌, ◌-◌, ◌<◌, ◌≤◌, eqb, get_or, Float}
use Rattle.std.proofs.Common.{inl, inr, mul-le-mul_right, add-mul, mod-lt, arith, lit<}
use Rattle.std.specs.Float.{nan, binary32}
use Rattle.std.specs.Float.Ieee.{add, fits}
use Rattle.ieee.specs.Value.{hi, lo, Num}
use Rattle.ieee.specs.Order.{Lt, le→value}
use Rattle.ieee.specs.Rounding.{pow2, pow2_add, fine_pow2}
use Rattle.ieee.proofs.Rounding.{rounds_near}
use Rattle.ieee.proofs.Sums.{add_rounds}
use Rattle.trellis.specs.Step.{four, Tie, branch, cand, wins, next, nexts}
use Rattle.path_lead.specs.Favour.{margin, none, most, least, Favour}
use Rattle.ieee.proofs.Bounds.{rounds_cap, rounds_floor, rounds_up, rounds_below}
use Rattle.path_lead.specs.Lists.{get_d_nexts}
use Rattle.path_lead.specs.Ties.{pick, same, wins_is, next_is}
use Rattle.path_lead.specs.Complement.{small, complement}
use Rattle.trellis.specs.Isdb

-- every path value is a number of at least -B units, that of s is from 0 to M, and each other one is L below it at least
pub record Leads (pm : List Float) (s M B L : ℕ) : Type 0 where
  pub num : (r : ℕ) → r < 64 → Num binary32 (get_or pm r nan)
  pub floor : (r : ℕ) → r < 64 → lo binary32 (get_or pm r nan) ≤ hi binary32 (get_or pm r nan) + B
  pub plus : lo binary32 (get_or pm s nan) ≡ 0
  pub cap : hi binary32 (get_or pm s nan) ≤ M
  pub lead : (r : ℕ) → r < 64 → (r ≡ s → ⊥) → hi binary32 (get_or pm r nan) + lo binary32 (get_or pm s nan) + L ≤ hi binary32 (get_or pm s nan) + lo binary32 (get_or pm r nan)

-- ---- the limits of the metrics
none_num : Num binary32 none
unfolding fits
none_num = record { fin_x = tt; fits_x = tt }

most_num : Num binary32 most
unfolding fits
most_num = record { fin_x = tt; fits_x = tt }

least_num : Num binary32 least
unfolding fits
least_num = record { fin_x = tt; fits_x = tt }

limits : (hi binary32 none ≡ 0) × (lo binary32 none ≡ 0) × (hi binary32 most ≡ 33 * pow2 148) × (lo binary32 most ≡ 0) × (hi binary32 least ≡ 0) × (lo binary32 least ≡ 33 * pow2 148)
unfolding hi lo pow2
limits = (refl, refl, refl, refl, refl, refl)

-- ---- one sum of the sent path, x + a, and one of a rival, y + b
-- z is from 0 to M and at least A - C - E
pub record Sent (z : Float) (A C M E : ℕ) : Type 0 where
  pub num : Num binary32 z
  pub plus : lo binary32 z ≡ 0
  pub cap : hi binary32 z ≤ M
  pub under : A + lo binary32 z ≤ hi binary32 z + C + E

-- z is at least -B and at most A - C - L + E
pub record Rival (z : Float) (A C B L E : ℕ) : Type 0 where
  pub num : Num binary32 z
  pub floor : lo binary32 z ≤ B
  pub over : hi binary32 z + C + L ≤ A + lo binary32 z + E

module _ (j q : ℕ) (Q : q ≤ 2112) (W : q * pow2 148 < 33554432 * pow2 j) (J : j < 136) where
  sent_sum : (x a : Float) → Num binary32 x → Num binary32 a → lo binary32 x ≡ 0 → lo binary32 a ≤ hi binary32 a → hi binary32 x + hi binary32 a ≤ lo binary32 a + q * pow2 148
      → Sent (add binary32 x a) (hi binary32 x + hi binary32 a) (lo binary32 x + lo binary32 a) (q * pow2 148) (pow2 j)
  sent_sum x a p r zx za m =
      let e = rounds_near j (add_rounds binary32 x a p r (fine_pow2 binary32 j (hi binary32 x + hi binary32 a) (lo binary32 x + lo binary32 a) (omega arith) (omega arith) (omega arith))) (omega arith) (omega arith) in
      record { num = e.rounds.num; plus = rounds_up e.rounds (omega arith); cap = rounds_cap q 148 e.rounds (omega arith) (omega arith); under = e.off.under }

  rival_sum : (y b : Float) (A C L p : ℕ) → Num binary32 y → Num binary32 b → p ≤ 16777216 → C ≤ A → A ≤ C + q * pow2 148 → L < 33554432 * pow2 j → lo binary32 y + lo binary32 b ≤ hi binary32 y + hi binary32 b + p * pow2 149
      → hi binary32 y + hi binary32 b + C + L ≤ A + (lo binary32 y + lo binary32 b) → Rival (add binary32 y b) A C (p * pow2 149) L (pow2 j)
  rival_sum y b A C L p ny nb P l k w f h =
      let s : p * pow2 149 ≤ 16777216 * pow2 149 = mul-le-mul_right (pow2 149) P in
      let t : q * pow2 148 ≤ 2112 * pow2 148 = mul-le-mul_right (pow2 148) Q in
      let u : pow2 149 ≡ 2 * pow2 148 = pow2_add 1 148 in
      let r = add_rounds binary32 y b ny nb (fine_pow2 binary32 149 (hi binary32 y + hi binary32 b) (lo binary32 y + lo binary32 b) (lit< tt) (omega arith) (omega arith)) in
      let o = rounds_below j A (C + L) r (omega arith) (omega arith) (omega arith) in
      record { num = r.num; floor = rounds_floor p 149 r P f; over = omega arith }

-- ---- all 64 states
-- the path into the state k by its predecessor of low bit b, in a step of the four metrics m
abbrev pub path : List Float → List Float → ℕ → ℕ → Float
path pm m k b = cand Isdb.half Isdb.labels pm (four m) k b

path_is : (pm m : List Float) (k b p u : ℕ) → 2 * (k % 32) + b ≡ p → k / 32 ≡ u → path pm m k b ≡ add binary32 (get_or pm p nan) (get_or m (Isdb.labels u p) nan)
unfolding cand branch
path_is pm m k b p u e f = rw (e, f)

-- the two parts of the value of the entry r
abbrev pub H : List Float → ℕ → ℕ
H l r = hi binary32 (get_or l r nan)

abbrev pub O : List Float → ℕ → ℕ
O l r = lo binary32 (get_or l r nan)

-- the metrics in units
module _ (m : List Float) (c : ℕ) (small-c : c < 4) (v : Favour m c) where
  under : (l : ℕ) → l < 4 → (H m l + O m c ≤ H m c + O m l) × (O m l ≤ H m l + 33 * pow2 148)
  under l h =
      let a = le→value binary32 (get_or m l nan) (get_or m c nan) (v.numbers l h) (v.numbers c small-c) (v.best l h) in
      let b = le→value binary32 least (get_or m l nan) least_num (v.numbers l h) (v.from l h) in
      let n = limits in
      (omega arith, omega arith)

  range : (O m c ≤ H m c) × (H m c ≤ O m c + 33 * pow2 148)
  range =
      let a = le→value binary32 none (get_or m c nan) none_num (v.numbers c small-c) v.plus in
      let b = le→value binary32 (get_or m c nan) most (v.numbers c small-c) most_num v.to in
      let n = limits in
      (omega arith, omega arith)

module _ (t : Tie) (pm m : List Float) (s u : ℕ) (S : s < 64) (U : u < 2) (v : Favour m (Isdb.labels u s))
    (j q p L L' : ℕ) (Q : q + 33 ≤ 2112) (W : (q + 33) * pow2 148 < 33554432 * pow2 j) (J : j < 136) (P : p + 17 ≤ 16777216)
    (small-L : L ≤ margin * pow2 149) (less-L : L < 33554432 * pow2 j) (loss : L ≡ L' + 2 * pow2 j) (some-L : 0 < L')
    (i : Leads pm s (q * pow2 148) (p * pow2 149) L)
  where
    more : (q + 33) * pow2 148 ≡ q * pow2 148 + 33 * pow2 148
    more = add-mul q 33 (pow2 148)

    -- the sent path
    sent_cand : Sent (add binary32 (get_or pm s nan) (get_or m (Isdb.labels u s) nan)) (H pm s + H m (Isdb.labels u s)) (O pm s + O m (Isdb.labels u s)) ((q + 33) * pow2 148) (pow2 j)
    sent_cand =
        let l = small u s U S in
        let r = range m (Isdb.labels u s) l v in
        let e = more in
        let z = i.plus in
        let k = i.cap in
        sent_sum j (q + 33) Q W J (get_or pm s nan) (get_or m (Isdb.labels u s) nan) (i.num s S) (v.numbers (Isdb.labels u s) l) z r.0 (omega arith)

    -- what a rival's exact sum is at most
    rival_exact : (r l : ℕ) → r < 64 → l < 4 → ((r ≡ s) × (l ≡ 3 - Isdb.labels u s)) ⊎ (r ≡ s → ⊥) → H pm r + H m l + (O pm s + O m (Isdb.labels u s)) + L ≤ H pm s + H m (Isdb.labels u s) + (O pm r + O m l)
    rival_exact r l R l4 (inl e) =
        let g = v.clear in
        rw (e.0, e.1) (omega arith)
    rival_exact r l R l4 (inr e) =
        let g = under m (Isdb.labels u s) (small u s U S) v l l4 in
        let h = i.lead r R e in
        omega arith

    rival_cand : (r l : ℕ) → r < 64 → l < 4 → ((r ≡ s) × (l ≡ 3 - Isdb.labels u s)) ⊎ (r ≡ s → ⊥)
        → Rival (add binary32 (get_or pm r nan) (get_or m l nan)) (H pm s + H m (Isdb.labels u s)) (O pm s + O m (Isdb.labels u s)) ((p + 17) * pow2 149) L (pow2 j)
    rival_cand r l R l4 o =
        let c4 = small u s U S in
        let g = under m (Isdb.labels u s) c4 v l l4 in
        let w = range m (Isdb.labels u s) c4 v in
        let e = more in
        let z = i.plus in
        let k = i.cap in
        let f = i.floor r R in
        let d : (p + 17) * pow2 149 ≡ p * pow2 149 + 17 * pow2 149 = add-mul p 17 (pow2 149) in
        let t : pow2 149 ≡ 2 * pow2 148 = pow2_add 1 148 in
        rival_sum j (q + 33) Q W J (get_or pm r nan) (get_or m l nan) (H pm s + H m (Isdb.labels u s)) (O pm s + O m (Isdb.labels u s)) L (p + 17) (i.num r R) (v.numbers l l4) P (omega arith) (omega arith) less-L (omega arith) (rival_exact r l R l4 o)

    -- the path into the state k by its predecessor of low bit b, where that is not the sent branch
    rival_at : (k b : ℕ) → k < 64 → b < 2 → (2 * (k % 32) + b ≡ s → k ≡ 32 * u + s / 2 → ⊥)
        → Rival (path pm m k b) (H pm s + H m (Isdb.labels u s)) (O pm s + O m (Isdb.labels u s)) ((p + 17) * pow2 149) L (pow2 j)
    rival_at k b K B h =
        let r : ℕ = 2 * (k % 32) + b in
        let R : 2 * (k % 32) + b < 64 = omega arith in
        let X : k / 32 < 2 = omega arith in
        rw (path_is pm m k b (2 * (k % 32) + b) (k / 32) refl refl)
        (rival_cand (2 * (k % 32) + b) (Isdb.labels (k / 32) (2 * (k % 32) + b)) R (small (k / 32) (2 * (k % 32) + b) X R) (which (same (2 * (k % 32) + b) s)))
      where
        which : (2 * (k % 32) + b ≡ s) ⊎ (2 * (k % 32) + b ≡ s → ⊥) → ((2 * (k % 32) + b ≡ s) × (Isdb.labels (k / 32) (2 * (k % 32) + b) ≡ 3 - Isdb.labels u s)) ⊎ (2 * (k % 32) + b ≡ s → ⊥)
        which (inl e) =
            let n = h e in
            let w : k / 32 ≡ 1 - u = omega arith in
            inl (e, rw (e, w) (complement u s U S))
        which (inr n) = inr n

    -- the path into the sent next state by the sent branch, and by the other
    sent_at : Sent (path pm m (32 * u + s / 2) (s % 2)) (H pm s + H m (Isdb.labels u s)) (O pm s + O m (Isdb.labels u s)) ((q + 33) * pow2 148) (pow2 j)
    sent_at = rw (path_is pm m (32 * u + s / 2) (s % 2) s u (omega arith) (omega arith)) sent_cand

    beside : Rival (path pm m (32 * u + s / 2) (1 - s % 2)) (H pm s + H m (Isdb.labels u s)) (O pm s + O m (Isdb.labels u s)) ((p + 17) * pow2 149) L (pow2 j)
    beside = rival_at (32 * u + s / 2) (1 - s % 2) (omega arith) (omega arith) (λ e _. omega arith)

    -- strictly
    apart : Lt binary32 (path pm m (32 * u + s / 2) (1 - s % 2)) (path pm m (32 * u + s / 2) (s % 2))
    apart = let x = sent_at in let y = beside in omega arith

    -- the sent branch wins
    pub decides : wins Isdb.half Isdb.labels t pm (four m) (32 * u + s / 2) ≡ eqb (s % 2) 1
    decides = wins_is Isdb.half Isdb.labels t pm (four m) (32 * u + s / 2) (s % 2) (mod-lt s (lit< tt)) sent_at.num beside.num apart

    sent_next : Sent (next Isdb.half Isdb.labels t pm (four m) (32 * u + s / 2)) (H pm s + H m (Isdb.labels u s)) (O pm s + O m (Isdb.labels u s)) ((q + 33) * pow2 148) (pow2 j)
    sent_next = rw (next_is Isdb.half Isdb.labels t pm (four m) (32 * u + s / 2) (s % 2) (mod-lt s (lit< tt)) sent_at.num beside.num apart) sent_at

    rival_next : (k : ℕ) → k < 64 → (k ≡ 32 * u + s / 2 → ⊥) → Rival (next Isdb.half Isdb.labels t pm (four m) k) (H pm s + H m (Isdb.labels u s)) (O pm s + O m (Isdb.labels u s)) ((p + 17) * pow2 149) L (pow2 j)
    unfolding next
    rival_next k K n =
        pick (λ z. Rival z (H pm s + H m (Isdb.labels u s)) (O pm s + O m (Isdb.labels u s)) ((p + 17) * pow2 149) L (pow2 j)) (wins Isdb.half Isdb.labels t pm (four m) k) (path pm m k 1) (path pm m k 0)
        (rival_at k 1 K (lit< tt) (λ _ e. n e)) (rival_at k 0 K (lit< tt) (λ _ e. n e))

    -- the sent next state leads
    pub leads_next : Leads (nexts Isdb.half Isdb.labels t pm (four m)) (32 * u + s / 2) ((q + 33) * pow2 148) ((p + 17) * pow2 149) L'
    leads_next = record {
      num = λ k K. rw (get_d_nexts Isdb.half Isdb.labels t pm (four m) k K) (num_at k K (same k (32 * u + s / 2)));
      floor = λ k K. rw (get_d_nexts Isdb.half Isdb.labels t pm (four m) k K) (floor_at k K (same k (32 * u + s / 2)));
      plus = rw (get_d_nexts Isdb.half Isdb.labels t pm (four m) (32 * u + s / 2) Z) sent_next.plus;
      cap = rw (get_d_nexts Isdb.half Isdb.labels t pm (four m) (32 * u + s / 2) Z) sent_next.cap;
      lead = λ k K n. rw (get_d_nexts Isdb.half Isdb.labels t pm (four m) k K, get_d_nexts Isdb.half Isdb.labels t pm (four m) (32 * u + s / 2) Z) (let x = sent_next in let y = rival_next k K n in omega arith);
    }
      where
        Z : 32 * u + s / 2 < 64
        Z = omega arith

        num_at : (k : ℕ) → k < 64 → (k ≡ 32 * u + s / 2) ⊎ (k ≡ 32 * u + s / 2 → ⊥) → Num binary32 (next Isdb.half Isdb.labels t pm (four m) k)
        num_at k K (inl e) = rw e sent_next.num
        num_at k K (inr n) = (rival_next k K n).num

        floor_at : (k : ℕ) → k < 64 → (k ≡ 32 * u + s / 2) ⊎ (k ≡ 32 * u + s / 2 → ⊥) → lo binary32 (next Isdb.half Isdb.labels t pm (four m) k) ≤ hi binary32 (next Isdb.half Isdb.labels t pm (four m) k) + (p + 17) * pow2 149
        floor_at k K (inl e) = rw e (let x = sent_next in omega arith)
        floor_at k K (inr n) = let y = rival_next k K n in omega arith
