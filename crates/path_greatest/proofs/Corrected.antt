-- Request P6: between a known start and a known end "at most four wrong coded bits leave the decoded inputs right". A path's sum over n steps of +1 and -1 is 2 n, less 2 for each
-- coded bit in which it differs from what was received; so the traced path differs in at most four too, and in at most eight from the sent one. For either tie-break.
--
use Rattle.std.specs.Prelude.{◌≡◌, refl, Bool, true, false, cond, List, [], ◌∷◌, ℕ, zero, suc, ◌+◌, ◌*◌, ◌/◌, ◌%◌, ◌≤◌, ◌<◌, T, eqb, ℤ, pos, negsuc, length, get_or}
use Rattle.std.proofs.Common.{sym, ap, ◌∙◌, subst, ⊎_elim, arith, eqb→eq, lit≤, lit<}
use Rattle.std.specs.Float.{nan, binary32}
use Rattle.std.specs.Float.Ieee.{eq, fits, of_int, of_bits}
use Rattle.ieee.specs.Whole.{hi_z, lo_z}
use Rattle.trellis.specs.Isdb
use Rattle.trellis.specs.Code.{isdb, state_at}
use Rattle.trellis.specs.Encoded.{encoded, reached}
use Rattle.trellis.proofs.EncodedLaws.{reached_is, length_encoded, encoded_at}
use Rattle.trellis.specs.ListLaws.{every, every_at}
use Rattle.trellis.proofs.RunLaws.{label_under}
use Rattle.trellis.specs.Step.{Step, Tie, traced}
use Rattle.trellis.specs.Run.{Decoder, start_at, closed, pushed, flushed_at}
use Rattle.trellis.specs.Stretch.{apart, differing, Bits, Coded}
use Rattle.trellis.proofs.DistanceLaws.{same_or_ten, wrong, wrong_same, wrong_turned, triangle, against, bits_at, bits_of, coded_at}
use Rattle.path_greatest.specs.Hard.{most_wrong, soft, soft_pairs, hard}
use Rattle.path_greatest.specs.Paths.{longest, Path, sumℤ, Best, This, Integer}
use Rattle.path_greatest.specs.Viterbi.{sum}
use Rattle.path_greatest.proofs.Tracks.{Adds}
use Rattle.path_greatest.proofs.Integers.{parts_of_lem, le_parts, mz, sum_val, signs, pairs}
use Rattle.path_greatest.proofs.Greatest.{at_under}
use Rattle.path_greatest.proofs.Calls.{Plain, held_words, plain_pair, after_held, traced_between}

-- ---- the soft values as whole numbers
abbrev value : ℕ → ℤ
value b = cond (eqb b 1) (negsuc 0) (pos 1)

one_is : (w : Bool) → Integer 8 (cond w (of_bits binary32 0xbf80_0000) (of_bits binary32 0x3f80_0000)) (cond w (negsuc 0) (pos 1))
unfolding of_bits fits eq of_int
one_is true = record { held = tt; equal = tt; within = lit≤ tt }
one_is false = record { held = tt; equal = tt; within = lit≤ tt }

soft_is : (b : ℕ) → Integer 8 (soft b) (value b)
soft_is b = one_is (eqb b 1)

abbrev metric : (ℕ → ℕ) → ℕ → ℕ → ℤ
metric r = signs (λ k. value (r k / 2)) (λ k. value (r k % 2))

-- a branch adds 2, less 2 for each coded bit in which it differs from what was received
gain : ℕ → ℕ → ℤ
gain p c = metric (λ k. p) 0 c

test : ℕ → Bool
test i = eqb (hi_z (gain (i / 4) (i % 4)) + 2 * apart (i / 4) (i % 4)) (lo_z (gain (i / 4) (i % 4)) + 2)

passes : T (every test 16)
unfolding every test gain
passes = tt

adds : (p c : ℕ) → p < 4 → c < 4 → hi_z (gain p c) + 2 * apart p c ≡ lo_z (gain p c) + 2
unfolding test
adds p c h l =
    let d : (4 * p + c) / 4 ≡ p = omega arith in
    let m : (4 * p + c) % 4 ≡ c = omega arith in
    let i = 4 * p + c in
    rw (d, m) at (eqb→eq (hi_z (gain (i / 4) (i % 4)) + 2 * apart (i / 4) (i % 4)) (lo_z (gain (i / 4) (i % 4)) + 2) (every_at test 16 passes i (omega arith)))

sum_is : (r : ℕ → ℕ) (n : ℕ) → ((k : ℕ) → k < n → r k < 4) → (s : ℕ) (us : List ℕ) (k : ℕ) → k ≤ n
    → (sum Isdb.half Isdb.labels (mz Isdb.half Isdb.labels (metric r)) s us k).0 + 2 * wrong r (Isdb.label_at s us) k ≡ (sum Isdb.half Isdb.labels (mz Isdb.half Isdb.labels (metric r)) s us k).1 + 2 * k
unfolding sum wrong gain
sum_is r n small s us zero h = refl
sum_is r n small s us (suc k) h =
    let i = sum_is r n small s us k (omega arith) in
    let a = adds (r k) (Isdb.label_at s us k) (small k h) (label_under isdb (get_or us k 0) (state_at Isdb.half s us k)) in
    omega arith

-- ---- the inputs us are sent from s; r k are the received pairs, and the steps carry their soft values
module _ (t : Tie) (s : ℕ) (us : List ℕ) (few : length us ≤ longest) (bits : Bits us) (r : ℕ → ℕ) (small : (k : ℕ) → k < length us → r k < 4)
    (four : wrong r (Isdb.label_at (s % 64) us) (length us) ≤ most_wrong) (steps : ℕ → Step) (are : (k : ℕ) → k < length us → steps k ≡ hard (r k)) where
  abbrev n : ℕ
  n = length us

  abbrev end : ℕ
  end = state_at Isdb.half (s % 64) us n

  -- what is traced from the true end
  abbrev read : List ℕ
  read = traced Isdb.half (held_words Isdb.half Isdb.labels t steps (start_at 64 s) n) end

  start : s % 64 < 64
  start = omega arith

  sent : Path Isdb.half n (s % 64) us
  sent = record { walk = record { start = start; bits = λ k h. bits_at us bits k }; count = refl }

  plain : (k : ℕ) → k < n → Plain Isdb.half Isdb.labels t (steps k)
  plain k h = subst (λ (x : Step). Plain Isdb.half Isdb.labels t x) (sym (are k h)) (plain_pair Isdb.half Isdb.labels t (soft (r k / 2)) (soft (r k % 2)))

  whole : (k : ℕ) → k < n → Adds (steps k) (λ c. parts_of_lem (metric r k c))
  whole k h =
      subst (λ (x : Step). Adds x (λ c. parts_of_lem (metric r k c))) (sym (are k h))
      (pairs (λ k. soft (r k / 2)) (λ k. soft (r k % 2)) (λ k. value (r k / 2)) (λ k. value (r k % 2)) n (λ k h. (soft_is (r k / 2), soft_is (r k % 2))) k h)

  best : Best Isdb.half Isdb.labels t (This (s % 64)) (This end) (metric r) n (s % 64) read
  best =
      traced_between Isdb.half (lit< tt) Isdb.labels (label_under isdb) t steps (metric r) n few plain whole
      s end us (at_under Isdb.half n (s % 64) us sent.walk) sent refl

  long : length read ≡ n
  long = best.path.count

  -- the traced path differs from what was received no more than the sent one
  nearer : wrong r (Isdb.label_at (s % 64) read) n ≤ most_wrong
  nearer =
      let le = le_parts (sumℤ Isdb.half Isdb.labels (metric r) (s % 64) us n) (sumℤ Isdb.half Isdb.labels (metric r) (s % 64) read n) (best.most (s % 64) us sent refl refl) in
      let a = sum_val Isdb.half Isdb.labels (metric r) (s % 64) us n in
      let b = sum_val Isdb.half Isdb.labels (metric r) (s % 64) read n in
      let c = sum_is r n small (s % 64) us n (omega arith) in
      let d = sum_is r n small (s % 64) read n (omega arith) in
      omega arith

  close : differing (encoded isdb (s % 64) us) (encoded isdb (s % 64) read) ≤ 8
  close =
      let a = against (encoded isdb (s % 64) us) (s % 64) read (length_encoded isdb (s % 64) us ∙ sym long) in
      let b : wrong (λ k. get_or (encoded isdb (s % 64) us) k 0) (Isdb.label_at (s % 64) read) n ≡ wrong (Isdb.label_at (s % 64) us) (Isdb.label_at (s % 64) read) n =
      wrong_same (λ k. get_or (encoded isdb (s % 64) us) k 0) (Isdb.label_at (s % 64) read) (Isdb.label_at (s % 64) us) (Isdb.label_at (s % 64) read) n (encoded_at isdb (s % 64) us) (λ k h. refl) in
      let d = triangle (Isdb.label_at (s % 64) us) (Isdb.label_at (s % 64) read) r n in
      let x = wrong_turned r (Isdb.label_at (s % 64) us) n in
      let y = wrong_turned r (Isdb.label_at (s % 64) read) n in
      let z = nearer in
      omega (arith, rw long at a)

  same_end : reached isdb (s % 64) us ≡ reached isdb (s % 64) read
  same_end = reached_is isdb (s % 64) us ∙ sym best.ends ∙ ap (state_at Isdb.half (s % 64) read) (sym long) ∙ sym (reached_is isdb (s % 64) read)

  -- the traced inputs are those that were sent
  pub corrected : read ≡ us
  corrected =
      ⊎_elim (λ e. sym e)
      (λ far. let c = close in absurd (omega arith))
      (same_or_ten us read (s % 64) start bits (bits_of read (λ k h. best.path.walk.bits k (rw long at h))) (sym long) same_end)

-- ---- the soft values of a stretch, by their places
pub length_soft : (ps : List ℕ) → length (soft_pairs ps) ≡ 2 * length ps
length_soft [] = refl
length_soft (p ∷ ps) = let i = length_soft ps in omega arith

pub soft_at_lem : (ps : List ℕ) (k : ℕ) → k < length ps → (get_or (soft_pairs ps) (2 * k) nan ≡ soft (get_or ps k 0 / 2)) × (get_or (soft_pairs ps) (2 * k + 1) nan ≡ soft (get_or ps k 0 % 2))
soft_at_lem [] k h = absurd (omega arith)
soft_at_lem (p ∷ ps) zero h = (refl, refl)
soft_at_lem (p ∷ ps) (suc k) h =
    let i = soft_at_lem ps k (omega arith) in
    let a : 2 * suc k ≡ suc (suc (2 * k)) = omega arith in
    let b : 2 * suc k + 1 ≡ suc (suc (2 * k + 1)) = omega arith in
    (ap (λ (j : ℕ). get_or (soft_pairs (p ∷ ps)) j nan) a ∙ i.0, ap (λ (j : ℕ). get_or (soft_pairs (p ∷ ps)) j nan) b ∙ i.1)

-- ---- THE THEOREM about the calls as crate `trellis` defines them: a fresh decoder at the true start, one call of soft pairs and a flush at the true end put out what was sent
pub known_end : (t : Tie) (tb : ℕ) → 0 < tb → (s e : ℕ) (us ps : List ℕ) → length us ≤ longest → Bits us → Coded ps → length ps ≡ length us → reached isdb (s % 64) us ≡ e % 64
    → differing ps (encoded isdb (s % 64) us) ≤ most_wrong → (steps : ℕ → Step) → ((k : ℕ) → k < length us → steps k ≡ hard (get_or ps k 0))
    → (flushed_at Isdb.half Isdb.labels t e (pushed Isdb.half Isdb.labels t tb steps (record { values = start_at 64 s; words = []; bits = [] }) (length us))).bits ≡ us
known_end t tb some s e us ps few bits coded count ends four steps are =
    let begun : Decoder = record { values = start_at 64 s; words = []; bits = [] } in
    let r : ℕ → ℕ = λ k. get_or ps k 0 in
    let near : wrong r (Isdb.label_at (s % 64) us) (length us) ≤ most_wrong = subst (λ (k : ℕ). k ≤ most_wrong) (against ps (s % 64) us count) four in
    let last : e % 64 ≡ state_at Isdb.half (s % 64) us (length us) = sym ends ∙ reached_is isdb (s % 64) us in
    ap (λ (d : Decoder). (flushed_at Isdb.half Isdb.labels t e (closed Isdb.half Isdb.labels t d)).bits) (after_held Isdb.half Isdb.labels t tb steps begun (length us) (omega arith))
    ∙ ap (traced Isdb.half (held_words Isdb.half Isdb.labels t steps (start_at 64 s) (length us))) last
    ∙ corrected t s us few bits r (λ k h. coded_at ps coded k) near steps are
