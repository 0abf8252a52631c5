-- Request P14 for the frame of every table: its input bits come from the exclusive-or of two loads of equal length.
use Rattle.std.specs.Prelude.{◌≡◌, refl, Bool, true, false, cond, not, List, [], ◌∷◌, ℕ, ◌+◌, ◌-◌, ◌*◌, ◌/◌, ◌%◌, ◌^◌, ◌<◌, ◌≤◌, T, eqb, ltb, length, get_or}
use Rattle.std.proofs.Common.{sym, ap, ◌∙◌, arith, ltb→lt, nltb→le, lit<}
use Rattle.std.specs.Int.Bits.{bit_xor, xor_self}
use Rattle.std.proofs.lemmas.Nat.{xor_block, xor_shr, xor_mod}
use Rattle.std.proofs.Math.ListN.{get_or-eq_default}
use Rattle.trellis.specs.Lists.{upto}
use Rattle.trellis.specs.ListLaws.{length_upto, get_d_upto}
use Rattle.trellis.proofs.LinearLaws.{xor_bit}
use Rattle.trellis.specs.Code.{isdb, state_at}
use Rattle.isdbs_tables.specs.declared.Table.{Table}
use Rattle.isdbs_plan.specs.RunsOf.{frame_steps}
use Rattle.isdbs_points.specs.Layout.{Segment, order_of, steps_per_period, among, at_step, segments, load_bit}
use Rattle.isdbs_points.specs.Frame.{input_in, inputs, label_at, coded_bit, sent_bit, end_state}
use Rattle.isdbs_points.specs.Points.{subset}
use Rattle.isdbs_points.specs.PlaceLaws.{among_all}
use Rattle.overlay_laws.specs.Overlaid.{overlaid}
use Rattle.overlay_laws.specs.OverlaidLaws.{overlaid_at}
use Rattle.overlay_frames.specs.Places.{Sums, state_xor, pair_xor}
use Rattle.trellis.proofs.RunLaws.{label_under}
use Rattle.isdbs_points.specs.BitLaws.{subset_small}

-- ---- one coded bit
pick : (w : Bool) (l m : ℕ) → cond w (bit_xor l m / 2) (bit_xor l m % 2) ≡ bit_xor (cond w (l / 2) (l % 2)) (cond w (m / 2) (m % 2))
pick true l m = xor_shr l m 1
pick false l m = xor_mod l m 1

-- whatever is sent, in whatever order, is the exclusive-or if each pair is
sent_xor : (f g h : ℕ → ℕ) → ((k : ℕ) → f k ≡ bit_xor (g k) (h k)) → (x : Segment) (i : ℕ) → sent_bit f x i ≡ bit_xor (sent_bit g x i) (sent_bit h x i)
sent_xor f g h e x i =
    let c = x.combination in
    let n = length (order_of c) in
    let a = get_or (order_of c) (i % n) 0 in
    let k = x.step + (i / n * steps_per_period c + a / 2) in
    ap (λ (l : ℕ). coded_bit a l) (e k) ∙ pick (eqb (a % 2) 0) (g k) (h k)

-- ---- each bit of the load: also C2, which TC8PSK sends uncoded
pub load_bit_xor : (a b : List ℕ) → length a ≡ length b → (n : ℕ) → load_bit (overlaid a b) n ≡ bit_xor (load_bit a n) (load_bit b n)
load_bit_xor a b e n =
    let x = get_or a (n / 8) 0 in
    let y = get_or b (n / 8) 0 in
    let k = 7 - n % 8 in
    ap (λ (i : ℕ). i / 2 ^ k % 2) (overlaid_at a b e (n / 8))
    ∙ ap (λ (i : ℕ). i % 2) (xor_shr x y k)
    ∙ xor_mod (x / 2 ^ k) (y / 2 ^ k) 1

-- ---- the label of an 8PSK point
-- C1 and C0
subset_xor : (w : Bool) (l m : ℕ) → l < 4 → m < 4 → subset w (bit_xor l m) ≡ bit_xor (subset w l) (subset w m)
subset_xor false l m hl hm = refl
subset_xor true l m hl hm =
    let a : bit_xor l m % 2 ^ 1 ≡ bit_xor (l % 2 ^ 1) (m % 2 ^ 1) = xor_mod l m 1 in
    let b : bit_xor l m / 2 ^ 1 ≡ bit_xor (l / 2 ^ 1) (m / 2 ^ 1) = xor_shr l m 1 in
    let x : l % 2 * 2 ^ 1 ≡ 2 * (l % 2) = omega arith in
    let y : m % 2 * 2 ^ 1 ≡ 2 * (m % 2) = omega arith in
    let d = xor_block 1 (l % 2) (m % 2) (l / 2) (m / 2) (omega arith) (omega arith) in
    ap (λ (i : ℕ). 2 * i + bit_xor l m / 2) a ∙ ap (λ (i : ℕ). 2 * bit_xor (l % 2) (m % 2) + i) b ∙ omega arith
    ∙ sym (rw (x, y) at d)

-- C2, and C1 and C0 below it
eight_xor : (p q l m : ℕ) → l < 4 → m < 4 → 4 * bit_xor p q + bit_xor l m ≡ bit_xor (4 * p + l) (4 * q + m)
eight_xor p q l m hl hm =
    let x : p * 2 ^ 2 ≡ 4 * p = omega arith in
    let y : q * 2 ^ 2 ≡ 4 * q = omega arith in
    let d = xor_block 2 p q l m hl hm in
    omega arith ∙ sym (rw (x, y) at d)

-- 4 C2 + 2 C1 + C0 of symbol j of a TC8PSK segment, as `pointBy` has it
abbrev pub eighth : Bool → List ℕ → (ℕ → ℕ) → Segment → ℕ → ℕ
eighth w load at x j = 4 * load_bit load (x.bit + 2 * j) + subset w (at (x.step + j))

-- ---- what the segments say of a place
among_xor : (first size : Segment → ℕ) (f g h : Segment → ℕ → ℕ) → ((x : Segment) (k : ℕ) → f x k ≡ bit_xor (g x k) (h x k)) → (xs : List Segment) (k : ℕ)
    → among first size 0 f xs k ≡ bit_xor (among first size 0 g xs k) (among first size 0 h xs k)
unfolding among
among_xor first size f g h e [] k = sym (xor_self 0)
among_xor first size f g h e (x ∷ xs) k = go (ltb k (first x + size x)) (among_xor first size f g h e xs k)
  where
    go : (w : Bool) → among first size 0 f xs k ≡ bit_xor (among first size 0 g xs k) (among first size 0 h xs k)
        → cond w (f x (k - first x)) (among first size 0 f xs k) ≡ bit_xor (cond w (g x (k - first x)) (among first size 0 g xs k)) (cond w (h x (k - first x)) (among first size 0 h xs k))
    go true m = e x (k - first x)
    go false m = m

-- the table t, and the loads a and b
module _ (t : Table) (a b : List ℕ) (e : length a ≡ length b) where
  abbrev bit_of : List ℕ → ℕ → ℕ
  bit_of load = at_step 0 (input_in load) t

  bit_xor_lem : (k : ℕ) → bit_of (overlaid a b) k ≡ bit_xor (bit_of a k) (bit_of b k)
  bit_xor_lem = among_xor (λ g. g.step) (λ g. g.steps) (input_in (overlaid a b)) (input_in a) (input_in b) (λ x k. load_bit_xor a b e _) (segments t)

  bit_under : (load : List ℕ) (k : ℕ) → bit_of load k < 2
  bit_under load = among_all (λ x. x < 2) (λ g. g.step) (λ g. g.steps) 0 (input_in load) (lit< tt) (λ x k. omega arith) (segments t)

  input_is : (load : List ℕ) (k : ℕ) → k < frame_steps t → get_or (inputs t load) k 0 ≡ bit_of load k
  unfolding inputs
  input_is load k h = get_d_upto (bit_of load) 0 (frame_steps t) k h

  input_past : (load : List ℕ) (k : ℕ) → frame_steps t ≤ k → get_or (inputs t load) k 0 ≡ 0
  unfolding inputs
  input_past load k h = get_or-eq_default (upto (bit_of load) (frame_steps t)) 0 (rw (length_upto (bit_of load) (frame_steps t)) h)

  input_under : (load : List ℕ) (k : ℕ) → get_or (inputs t load) k 0 < 2
  input_under load k = go (ltb k (frame_steps t)) (ltb→lt k (frame_steps t)) (nltb→le k (frame_steps t))
    where
      go : (w : Bool) → (T w → k < frame_steps t) → (T (not w) → frame_steps t ≤ k) → get_or (inputs t load) k 0 < 2
      go true f g = rw (input_is load k (f tt)) (bit_under load k)
      go false f g = rw (input_past load k (g tt)) (omega arith)

  input_sum : (k : ℕ) → get_or (inputs t (overlaid a b)) k 0 ≡ (get_or (inputs t a) k 0 + get_or (inputs t b) k 0) % 2
  input_sum k = go (ltb k (frame_steps t)) (ltb→lt k (frame_steps t)) (nltb→le k (frame_steps t))
    where
      go : (w : Bool) → (T w → k < frame_steps t) → (T (not w) → frame_steps t ≤ k) → get_or (inputs t (overlaid a b)) k 0 ≡ (get_or (inputs t a) k 0 + get_or (inputs t b) k 0) % 2
      go true f g =
          rw (input_is (overlaid a b) k (f tt), input_is a k (f tt), input_is b k (f tt))
          (bit_xor_lem k ∙ xor_bit (bit_of a k) (bit_of b k) (bit_under a k) (bit_under b k))
      go false f g = rw (input_past (overlaid a b) k (g tt), input_past a k (g tt), input_past b k (g tt)) refl

  sums : Sums (inputs t a) (inputs t b) (inputs t (overlaid a b))
  sums = record { first = input_under a; second = input_under b; sum = input_sum }

  -- from the states s and r
  module _ (s r : ℕ) (hs : s < 64) (hr : r < 64) where
    -- 2 X + Y at each step: all that TC8PSK sends coded
    pub frame_pair : (k : ℕ) → label_at (bit_xor s r) (inputs t (overlaid a b)) k ≡ bit_xor (label_at s (inputs t a) k) (label_at r (inputs t b) k)
    frame_pair = pair_xor isdb (inputs t a) (inputs t b) (inputs t (overlaid a b)) sums s r hs hr

    -- each bit that a BPSK or QPSK segment sends
    pub frame_sent : (x : Segment) (i : ℕ)
        → sent_bit (label_at (bit_xor s r) (inputs t (overlaid a b))) x i ≡ bit_xor (sent_bit (label_at s (inputs t a)) x i) (sent_bit (label_at r (inputs t b)) x i)
    frame_sent = sent_xor (label_at (bit_xor s r) (inputs t (overlaid a b))) (label_at s (inputs t a)) (label_at r (inputs t b)) frame_pair

    -- the state after the frame
    pub frame_end : end_state t (overlaid a b) (bit_xor s r) ≡ bit_xor (end_state t a s) (end_state t b r)
    frame_end = state_xor isdb (inputs t a) (inputs t b) (inputs t (overlaid a b)) sums s r hs hr (frame_steps t)

    -- the label of each point of a TC8PSK segment
    pub frame_eighth : (w : Bool) (x : Segment) (j : ℕ)
        → eighth w (overlaid a b) (label_at (bit_xor s r) (inputs t (overlaid a b))) x j ≡ bit_xor (eighth w a (label_at s (inputs t a)) x j) (eighth w b (label_at r (inputs t b)) x j)
    frame_eighth w x j =
        let k = x.step + j in
        let l = label_at s (inputs t a) k in
        let m = label_at r (inputs t b) k in
        let p = load_bit a (x.bit + 2 * j) in
        let q = load_bit b (x.bit + 2 * j) in
        let hl : l < 4 = label_under isdb (get_or (inputs t a) k 0) (state_at 32 s (inputs t a) k) in
        let hm : m < 4 = label_under isdb (get_or (inputs t b) k 0) (state_at 32 r (inputs t b) k) in
        ap (λ (i : ℕ). 4 * i + subset w (label_at (bit_xor s r) (inputs t (overlaid a b)) k)) (load_bit_xor a b e (x.bit + 2 * j))
        ∙ ap (λ (i : ℕ). 4 * bit_xor p q + subset w i) (frame_pair k)
        ∙ ap (λ (i : ℕ). 4 * bit_xor p q + i) (subset_xor w l m hl hm)
        ∙ eight_xor p q (subset w l) (subset w m) (subset_small w l hl) (subset_small w m hm)
