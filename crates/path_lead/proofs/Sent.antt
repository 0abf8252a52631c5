-- The sent state always leads: over at most 68,208 steps that favour the pairs of an encoded input, the sent state is the only best one after each step,
-- and each decision along the sent path points along it, so a traceback finds the inputs.
use Rattle.std.specs.Prelude.{◌≡◌, refl, List, eqb, get_or, length, Float}
use Rattle.std.proofs.Common.{ap, ◌∙◌, subst, le_refl, lit<}
use Prim.Native.Nat.{ℕ, zero, suc, ◌+◌, ◌-◌, ◌*◌, ◌/◌, ◌%◌, ◌<◌, ◌≤◌, ◌^◌}
use Rattle.std.proofs.Math.Nat.{mul-le-mul_right, mod-lt}
use native.Mathlib.Omega.{arith}
use Rattle.std.specs.Float.{nan, binary32}
use Rattle.std.specs.Float.Ieee.{lt}
use Rattle.ieee.specs.Value.{hi, lo}
use Rattle.ieee.specs.Order.{value→lt}
use Rattle.ieee.specs.Rounding.{pow2, pow2_pos}
use Rattle.trellis.specs.Lists.{bit}
use Rattle.trellis.specs.Code.{moved, state_at}
use Rattle.trellis.specs.Step.{Step, four, Tie, wins, nexts, word, best, renormalised, kept, traced}
use Rattle.trellis.specs.Run.{start_at, values_at, word_at}
use Rattle.path_lead.specs.Favour.{margin, windows, frame_loss, left, Favours}
use Rattle.trellis.specs.Isdb.{longest_frame}
use Rattle.trellis.specs.ListLaws.{length_upto, get_d_upto}
use Rattle.path_lead.specs.Lists.{word_bit_lem}
use Rattle.path_lead.proofs.Step.{Leads}
use Rattle.path_lead.proofs.Maximum.{Ahead, ahead_of, best_is}
use Rattle.path_lead.proofs.Window.{depth, At, step_at_lem, decides_at, renormalise_at, start_at_lem}
use Rattle.path_lead.specs.Traceback.{traced_along}
use Rattle.trellis.specs.Isdb
use Rattle.path_lead.specs.Sent.{Follows, values, words}
use Rattle.path_lead.proofs.Settles.{settles}

-- ---- the register: a state has its input on top, and the rest of the state before it
pub moved_is : (u s : ℕ) → u < 2 → s < 64 → (moved 32 u s < 64) × (moved 32 u s % 32 ≡ s / 2) × (moved 32 u s / 32 ≡ u)
moved_is u s U S = (omega arith, omega arith, omega arith)

odd_bit : (r : ℕ) → r < 2 → bit (eqb r 1) ≡ r
odd_bit zero h = refl
odd_bit (suc zero) h = refl
odd_bit (suc (suc r)) h = absurd (omega arith)

-- a step whose decision at the next state is right keeps the state before
pub keeps : (out : ℕ → ℕ → ℕ) (t : Tie) (pm : List Float) (x : Step) (u s : ℕ) → u < 2 → s < 64 → wins 32 out t pm x (moved 32 u s) ≡ eqb (s % 2) 1 → kept 32 (word 32 out t pm x) (moved 32 u s) ≡ s
unfolding kept
keeps out t pm x u s U S d =
    let m = moved_is u s U S in
    let b : word 32 out t pm x / 2 ^ moved 32 u s % 2 ≡ s % 2 = word_bit_lem 32 out t pm x (moved 32 u s) m.0 ∙ ap bit d ∙ odd_bit (s % 2) (mod-lt s (lit< tt)) in
    omega arith

-- the states of encoding N bits are states of the code
pub state_under : (s : ℕ) (us : List ℕ) (N : ℕ) → s < 64 → ((i : ℕ) → i < N → get_or us i 0 < 2) → (n : ℕ) → n ≤ N → state_at 32 s us n < 64
unfolding state_at
state_under s us N start bits zero h = start
state_under s us N start bits (suc n) h =
    (moved_is (get_or us n 0) (state_at 32 s us n) (bits n h) (state_under s us N start bits n (omega arith))).0

module _ (t : Tie) (ms : ℕ → List Float) (s : ℕ) (us : List ℕ) (N : ℕ) (few : N ≤ longest_frame) (v : Favours s us ms N) where
  pub state_small : (n : ℕ) → n ≤ N → state_at 32 s us n < 64
  state_small = state_under s us N v.start v.bits

  -- ---- the lead after n steps
  holds : (n : ℕ) → n ≤ N → At (values t ms s n) (state_at 32 s us n) (n / 64) (n % 64)
  unfolding values_at state_at
  holds zero h = start_at_lem s v.start
  holds (suc n) h =
      settles t (nexts Isdb.half Isdb.labels t (values t ms s n) (four (ms n))) (ms n) (moved 32 (get_or us n 0) (state_at 32 s us n)) n (state_small (suc n) h) (omega arith)
      (step_at_lem t (values t ms s n) (ms n) (state_at 32 s us n) (get_or us n 0) (n / 64) (n % 64) (state_small n (omega arith)) (v.bits n h) (omega arith) (mod-lt n (lit< tt)) (v.steps n h) (holds n (omega arith)))

  some_left : (n : ℕ) → n ≤ N → 0 < left (n / 64) (n % 64) * pow2 134
  some_left n h =
      let m : 1 * pow2 134 ≤ left (n / 64) (n % 64) * pow2 134 = mul-le-mul_right (pow2 134) (omega (arith, mod-lt n (lit< {m = 0} {n = 64} tt))) in
      let o = pow2_pos 134 in
      omega arith

  ahead_at : (n : ℕ) → n ≤ N → Ahead (values t ms s n) (state_at 32 s us n)
  ahead_at n h = ahead_of (some_left n h) (holds n h)

  pub best_at_lem : (n : ℕ) → n ≤ N → best t (values t ms s n) 63 ≡ state_at 32 s us n
  best_at_lem n h = best_is t (values t ms s n) (state_at 32 s us n) (state_small n h) (ahead_at n h)

  -- ---- the decisions along the sent path
  pub kept_at : (n : ℕ) → n < N → kept 32 (word_at Isdb.half Isdb.labels t (λ i. four (ms i)) (start_at 64 s) n) (state_at 32 s us (suc n)) ≡ state_at 32 s us n
  unfolding state_at
  kept_at n h =
      keeps Isdb.labels t (values t ms s n) (four (ms n)) (get_or us n 0) (state_at 32 s us n) (v.bits n h) (state_small n (omega arith))
      (decides_at t (values t ms s n) (ms n) (state_at 32 s us n) (get_or us n 0) (n / 64) (n % 64) (state_small n (omega arith)) (v.bits n h) (omega arith) (mod-lt n (lit< tt)) (v.steps n h) (holds n (omega arith)))

  pub input_at : (n : ℕ) → n < N → state_at 32 s us (suc n) / 32 ≡ get_or us n 0
  unfolding state_at
  input_at n h = (moved_is (get_or us n 0) (state_at 32 s us n) (v.bits n h) (state_small n (omega arith))).2

  pub follows : (n : ℕ) → n ≤ N → Follows t ms s us n
  follows n h = record {
    finite = (ahead_at n h).num;
    ahead = λ r R k. value→lt binary32 (get_or (values t ms s n) r nan) (get_or (values t ms s n) (state_at 32 s us n) nan) ((ahead_at n h).num r R) ((ahead_at n h).num (state_at 32 s us n) (state_small n h)) ((ahead_at n h).ahead r R k);
    first = best_at_lem n h;
    inputs = λ i l.
        let e : length (words t ms s n) ≡ n = length_upto (word_at Isdb.half Isdb.labels t (λ i. four (ms i)) (start_at 64 s)) n in
        rw (best_at_lem n h)
        (subst (λ (x : ℕ). get_or (traced 32 (words t ms s n) (state_at 32 s us x)) i 0 ≡ state_at 32 s us (suc i) / 32) e
        (traced_along 32 (state_at 32 s us) (words t ms s n)
        (λ i l. rw (get_d_upto (word_at Isdb.half Isdb.labels t (λ i. four (ms i)) (start_at 64 s)) 0 n i (rw e at l)) (kept_at i (omega arith)))
        i (rw e l)) ∙ input_at i (omega arith));
  }

  -- ---- the end of the call: the maximum is subtracted once more
  pub leftover : ℕ
  leftover = left (N / 64) (N % 64)

  pub leftover_is : (margin * 32768 ≤ leftover + frame_loss) × (leftover ≤ margin * 32768)
  unfolding leftover
  leftover_is = let m = mod-lt N (lit< {m = 0} {n = 64} tt) in (omega arith, omega arith)

  pub ended : Leads (renormalised 32 (values t ms s N)) (state_at 32 s us N) (0 * pow2 148) (depth windows 0 * pow2 149) (leftover * pow2 134)
  unfolding leftover
  ended =
      let i = renormalise_at (values t ms s N) (state_at 32 s us N) (N / 64) (N % 64) (state_small N (le_refl N)) (omega arith) (omega (arith, mod-lt N (lit< {m = 0} {n = 64} tt))) (holds N (le_refl N)) in
      let b : depth (N / 64 + 1) 0 * pow2 149 ≤ depth windows 0 * pow2 149 = mul-le-mul_right (pow2 149) (omega arith) in
      record { num = i.num; floor = λ r R. let f = i.floor r R in omega arith; plus = i.plus; cap = i.cap; lead = i.lead }

  -- so rounding took frame_loss units of 2 ^ -15 of the margin at most: every other state is 2.7 or more below the sent one
  pub led_by : (r : ℕ) → r < 64 → (r ≡ state_at 32 s us N → ⊥)
      → hi binary32 (get_or (renormalised 32 (values t ms s N)) r nan) + lo binary32 (get_or (renormalised 32 (values t ms s N)) (state_at 32 s us N) nan) + (margin * 32768 - frame_loss) * pow2 134
      ≤ hi binary32 (get_or (renormalised 32 (values t ms s N)) (state_at 32 s us N) nan) + lo binary32 (get_or (renormalised 32 (values t ms s N)) r nan)
  led_by r R n =
      let l = ended.lead r R n in
      let b = leftover_is in
      let m : (margin * 32768 - frame_loss) * pow2 134 ≤ leftover * pow2 134 = mul-le-mul_right (pow2 134) (omega arith) in
      omega arith
