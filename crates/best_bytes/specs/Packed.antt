-- The bytes of a run from its own bits and uncoded bits, and of a frame run by run.
use Rattle.std.specs.Prelude.{◌≡◌, refl, cond, List, ℕ, ◌+◌, ◌-◌, ◌*◌, ◌/◌, ◌%◌, ◌<◌, ◌≤◌, eqb, get_or, length, take, drop}
use Rattle.std.proofs.Common.{sym, ◌∙◌, arith, get_or-drop}
use Rattle.std.proofs.Math.Path.{ap}
use Rattle.trellis.specs.Lists.{upto}
use Rattle.trellis.specs.LaidLaws.{upto_cong}
use Rattle.isdbs_combination.specs.declared.Combination.{Combination}
use Rattle.isdbs_combination.specs.declared.Combination.TheVariants.{Bpsk1_2, Qpsk1_2, Qpsk2_3, Qpsk3_4, Qpsk5_6, Qpsk7_8, Tc8psk2_3}
use Rattle.isdbs_combination.specs.declared.Modulation.{Modulation}
use Rattle.isdbs_combination.specs.declared.Modulation.TheVariants.{Bpsk, Qpsk, Tc8psk}
use Rattle.isdbs_combination.specs.Combinations.{modulation_of, slot_steps, slot_bits}
use Rattle.isdbs_plan.specs.declared.Run.{Run}
use Rattle.isdbs_plan.specs.RunsOf.{no_run}
use Rattle.isdbs_points.specs.Layout.{Segment, segment_of, segments_from, among, byte_of}
use Rattle.isdbs_points.specs.AmongLaws.{steps_to, valid_to, among_bit}
use Rattle.isdbs_metrics.specs.DigitLaws.{byte_cong}
use Rattle.isdbs_metrics.specs.FrameRunLaws.{RunList, tail_is}
use Rattle.best_loads.specs.Held.{held_by, held_in}

abbrev pub AllBits : List ℕ → Type 0
AllBits us = (k : ℕ) → get_or us k 0 < 2

-- bit i of the steps from a place on: "a TC8PSK step gives C2, then its decoded bit"
abbrev pub pair_bit : List ℕ → List ℕ → ℕ → ℕ → ℕ
pair_bit us zs at i = cond (eqb (i % 2) 0) (get_or zs (at + i / 2) 0) (get_or us (at + i / 2) 0)

unfoldable pub held_under : Modulation → List ℕ → List ℕ → ℕ → ℕ
held_under Bpsk us zs i = get_or us i 0
held_under Qpsk us zs i = get_or us i 0
held_under Tc8psk us zs i = pair_bit us zs 0 i

abbrev pub held_with : Combination → List ℕ → List ℕ → ℕ → ℕ
held_with c us zs i = held_under (modulation_of c) us zs i

-- the steps of n bytes are lent
abbrev pub StepsBy : Modulation → ℕ → ℕ → ℕ → Type 0
StepsBy Bpsk n a b = 8 * n ≤ a
StepsBy Qpsk n a b = 8 * n ≤ a
StepsBy Tc8psk n a b = (4 * n ≤ a) × (4 * n ≤ b)

abbrev pub PackSteps : Combination → ℕ → ℕ → ℕ → Type 0
PackSteps c n a b = StepsBy (modulation_of c) n a b

pub steps_room : (c : Combination) (v a b : ℕ) → slot_steps c * v ≤ a → slot_steps c * v ≤ b → PackSteps c (203 * v) a b
steps_room Bpsk1_2 v a b x y = omega arith
steps_room Qpsk1_2 v a b x y = omega arith
steps_room Qpsk2_3 v a b x y = omega arith
steps_room Qpsk3_4 v a b x y = omega arith
steps_room Qpsk5_6 v a b x y = omega arith
steps_room Qpsk7_8 v a b x y = omega arith
steps_room Tc8psk2_3 v a b x y = (omega arith, omega arith)

pub drop_bits : (a : ℕ) (us : List ℕ) → AllBits us → AllBits (drop a us)
drop_bits a us h k = rw (get_or-drop a us k 0) (h (a + k))

-- ---- the bytes of a run by its modulation
module _ (c : Combination) (us zs : List ℕ) (n : ℕ) where
  abbrev plain_bytes : List ℕ
  plain_bytes = upto (λ j. byte_of (λ i. get_or us (8 * j + i) 0)) n

  abbrev held_bytes : List ℕ
  held_bytes = upto (λ j. byte_of (λ i. held_with c us zs (8 * j + i))) n

  plain_held : ((i : ℕ) → get_or us i 0 ≡ held_with c us zs i) → plain_bytes ≡ held_bytes
  plain_held h =
      upto_cong (λ j. byte_of (λ i. get_or us (8 * j + i) 0)) (λ j. byte_of (λ i. held_with c us zs (8 * j + i))) n
      (λ j l. byte_cong (λ i. get_or us (8 * j + i) 0) (λ i. held_with c us zs (8 * j + i)) (λ i q. h (8 * j + i)))

  pub bpsk_held : modulation_of c ≡ Bpsk → plain_bytes ≡ held_bytes
  unfolding held_under
  bpsk_held e = plain_held (λ i. ap (λ (x : Modulation). held_under x us zs i) (sym e))

  pub qpsk_held : modulation_of c ≡ Qpsk → plain_bytes ≡ held_bytes
  unfolding held_under
  qpsk_held e = plain_held (λ i. ap (λ (x : Modulation). held_under x us zs i) (sym e))

  shifted : (j i : ℕ) → pair_bit us zs (4 * j) i ≡ pair_bit us zs 0 (8 * j + i)
  shifted j i =
      let e : (8 * j + i) % 2 ≡ i % 2 = omega arith in
      let f : 0 + (8 * j + i) / 2 ≡ 4 * j + i / 2 = omega arith in
      rw (e, f) refl

  pub tc8psk_held : modulation_of c ≡ Tc8psk → upto (λ j. byte_of (λ i. pair_bit us zs (4 * j) i)) n ≡ held_bytes
  unfolding held_under
  tc8psk_held e =
      upto_cong (λ j. byte_of (λ i. pair_bit us zs (4 * j) i)) (λ j. byte_of (λ i. held_with c us zs (8 * j + i))) n
      (λ j l. byte_cong (λ i. pair_bit us zs (4 * j) i) (λ i. held_with c us zs (8 * j + i)) (λ i q. shifted j i ∙ ap (λ (x : Modulation). held_under x us zs (8 * j + i)) (sym e)))

-- ---- a run's own bits are the frame's
held_part : (md : Modulation) (us zs : List ℕ) (g : Segment) (i : ℕ) → held_under md (drop g.step us) (drop g.step zs) i ≡ held_by md us zs g i
unfolding held_under held_by
held_part Bpsk us zs g i = get_or-drop g.step us i 0
held_part Qpsk us zs g i = get_or-drop g.step us i 0
held_part Tc8psk us zs g i = let e : 0 + i / 2 ≡ i / 2 = omega arith in rw (e, get_or-drop g.step us (i / 2) 0, get_or-drop g.step zs (i / 2) 0) refl

abbrev pub listed_bit : List Run → List ℕ → List ℕ → ℕ → ℕ
listed_bit rs us zs n = among (λ g. g.bit) (λ g. g.bits) 0 (held_in us zs) (segments_from rs 0 0) n

abbrev pub listed_byte : List Run → List ℕ → List ℕ → ℕ → ℕ
listed_byte rs us zs j = byte_of (λ i. listed_bit rs us zs (8 * j + i))

module _ (count : ℕ) (list : List Run) (l : RunList count list) (i : ℕ) where
  abbrev run : Run
  run = get_or list i no_run

  abbrev rs : List Run
  rs = take count list

  bit_is : (us zs : List ℕ) (step x k : ℕ) → i < count → step ≡ steps_to rs i → k < slot_bits * run.valid_slots → x ≡ slot_bits * valid_to rs i + k
      → listed_bit rs us zs x ≡ held_with run.combination (drop step us) (drop step zs) k
  bit_is us zs step x k h e g q =
      let c = l.counted in
      let r = get_or rs i no_run in
      rw (e, l.at i)
      (among_bit 0 (held_in us zs) rs 0 0 i k x (omega arith) (rw (l.at i) at g) (omega arith)
      ∙ ap (λ (s : ℕ). held_in us zs (segment_of r s (0 + slot_bits * valid_to rs i)) k) (let z : 0 + steps_to rs i ≡ steps_to rs i = omega arith in z)
      ∙ sym (held_part (modulation_of r.combination) us zs (segment_of r (steps_to rs i) (0 + slot_bits * valid_to rs i)) k))

  pub byte_is : (us zs : List ℕ) (step done n j : ℕ) → i < count → step ≡ steps_to rs i → done ≡ 203 * valid_to rs i → n ≡ 203 * run.valid_slots → j < n
      → byte_of (λ b. held_with run.combination (take (length us - step) (drop step us)) (take (length zs - step) (drop step zs)) (8 * j + b)) ≡ listed_byte rs us zs (done + j)
  byte_is us zs step done n j h e d m g =
      rw (tail_is step us, tail_is step zs)
      (byte_cong (λ b. held_with run.combination (drop step us) (drop step zs) (8 * j + b)) (λ b. listed_bit rs us zs (8 * (done + j) + b))
      (λ b q. sym (bit_is us zs step (8 * (done + j) + b) (8 * j + b) h e (omega arith) (omega arith))))

-- ---- a byte from its bits as the code reads them
pub plain_made : (us : List ℕ) (at x : ℕ)
    → x ≡ get_or us at 0 * 128 + get_or us (at + 1) 0 * 64 + get_or us (at + 2) 0 * 32 + get_or us (at + 3) 0 * 16 + get_or us (at + 4) 0 * 8 + get_or us (at + 5) 0 * 4 + get_or us (at + 6) 0 * 2 + get_or us (at + 7) 0
    → x ≡ byte_of (λ i. get_or us (at + i) 0)
plain_made us at x h = let e : at + 0 ≡ at = omega arith in rw e h

pub pair_made : (us zs : List ℕ) (at x : ℕ)
    → x ≡ get_or zs at 0 * 128 + get_or us at 0 * 64 + get_or zs (at + 1) 0 * 32 + get_or us (at + 1) 0 * 16 + get_or zs (at + 2) 0 * 8 + get_or us (at + 2) 0 * 4 + get_or zs (at + 3) 0 * 2 + get_or us (at + 3) 0
    → x ≡ byte_of (λ i. pair_bit us zs at i)
pair_made us zs at x h = let e : at + 0 ≡ at = omega arith in rw e h
