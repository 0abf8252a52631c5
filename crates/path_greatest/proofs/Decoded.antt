-- The f32 algorithm on whole metrics traces the first path of greatest sum.
use Rattle.std.specs.Prelude.{◌≡◌, get_or, length, Float}
use Rattle.std.proofs.Math.Path.{refl, sym, ap, subst}
use Rattle.std.proofs.Common.{◌∙◌, ext_get_or}
use mathlib.Core.List.{List, [], ◌∷◌}
use Prim.Native.Nat.{ℕ, zero, suc, ◌+◌, ◌-◌, ◌*◌, ◌/◌, ◌%◌, ◌^◌, ◌≤◌, ◌<◌}
use native.Mathlib.Omega.{arith}
use Rattle.std.proofs.Math.ListN.{get_or-append}
use Rattle.std.proofs.Math.Seq.{get_or_at}
use Rattle.std.specs.Float.{nan}
use Rattle.trellis.specs.Lists.{bit}
use Rattle.trellis.specs.ListLaws.{packed_bit}
use Rattle.trellis.specs.Step.{Step, Tie, wins, word, best, kept, back, input}
use Rattle.path_greatest.specs.Paths.{longest}
use Rattle.path_greatest.specs.Viterbi.{Z, value, decision, pred, origin, inputs}
use Rattle.path_greatest.proofs.Greatest.{inputs_length, pred_under, end, end_under, Greatest, greatest, greatest_to}
use Rattle.path_greatest.proofs.Exact.{Whole}
use Rattle.path_greatest.proofs.Tracks.{Tracks, Adds, times, Alike, Follows, tracks_like, times_step, tracks, decides, best_same}

-- ---- the traceback
module _ (half : ℕ) (pos : 0 < half) (out : ℕ → ℕ → ℕ) (t : Tie) (v : ℕ → Z) (m : ℕ → ℕ → Z) (n : ℕ) (ws : List ℕ)
    (said : (k s : ℕ) → k < n → s < 2 * half → get_or ws k 0 / 2 ^ s % 2 ≡ bit (decision half out t v m k s)) where
  kept_is : (k s : ℕ) → k < n → s < 2 * half → kept half (get_or ws k 0) s ≡ pred half out t v m k s
  unfolding kept pred
  kept_is k s h l = ap (λ (x : ℕ). 2 * (s % half) + x) (said k s h l)

  record Backed (s d j q : ℕ) : Type 0 where
    under : q < 2 * half
    start : origin half out t v m n s ≡ origin half out t v m j q
    rest : (k : ℕ) → k < j → get_or (inputs half out t v m n s) k 0 ≡ get_or (inputs half out t v m j q) k 0

  one_back : (s d j q : ℕ) → j < n → Backed s d (suc j) q → Backed s (suc d) j (kept half (get_or ws j 0) q)
  unfolding origin inputs
  one_back s d j q h b =
      let e = kept_is j q h b.under in
      let p = pred half out t v m j q in
      let len = inputs_length half out t v m j p in
      rw e (record {
        under = pred_under half out t v m j q pos;
        start = b.start;
        rest = λ k l. b.rest k (omega arith) ∙ get_or-append (inputs half out t v m j p) (q / half ∷ []) 0 k (omega arith);
      })

  backed : (s d : ℕ) → s < 2 * half → d ≤ n → Backed s d (n - d) (back half ws n s d)
  unfolding back
  backed s zero l h =
      let e : n - 0 ≡ n = omega arith in
      rw e (record { under = l; start = refl; rest = λ k g. refl })
  backed s (suc d) l h =
      let e : n - d ≡ suc (n - suc d) = omega arith in
      one_back s d (n - suc d) (back half ws n s d) (omega arith) (subst (λ (z : ℕ). Backed s d z (back half ws n s d)) e (backed s d l (omega arith)))

  -- the start and the inputs that the traceback reads off
  pub back_start : (s : ℕ) → s < 2 * half → back half ws n s n ≡ origin half out t v m n s
  unfolding origin
  back_start s l =
      let e : n - n ≡ 0 = omega arith in
      sym (subst (λ (z : ℕ). Backed s n z (back half ws n s n)) e (backed s n l (omega arith))).start

  pub back_input : (s k : ℕ) → s < 2 * half → k < n → input half ws n s k ≡ get_or (inputs half out t v m n s) k 0
  unfolding input inputs
  back_input s k l h =
      let d = n - (k + 1) in
      let q = back half ws n s d in
      let e : n - d ≡ suc k = omega arith in
      let b = subst (λ (z : ℕ). Backed s d z q) e (backed s d l (omega arith)) in
      let p = pred half out t v m k q in
      sym (b.rest k (omega arith) ∙ get_or_at (inputs half out t v m k p) (q / half) [] 0 k (inputs_length half out t v m k p))

-- ---- the whole of it
-- the path values at the start are whole, and within 1,000,000
pub record Started (half : ℕ) (pm : List Float) (v : ℕ → Z) : Type 0 where
  pub count : 2 * half ≤ length pm
  pub whole : (s : ℕ) → s < 2 * half → Whole (get_or pm s nan) (v s).0 (v s).1
  pub high : (s : ℕ) → s < 2 * half → (v s).0 ≤ 1000000
  pub deep : (s : ℕ) → s < 2 * half → (v s).1 ≤ 1000000

pub start_tracks : (half : ℕ) (pm : List Float) (v : ℕ → Z) → Started half pm v → Tracks half pm v (0, 0) 0
start_tracks half pm v st = record {
  count = st.count;
  each = λ s l. record { p = (v s).0; n = (v s).1; on = st.whole s l; same = omega arith };
  high = λ s l. let h = st.high s l in omega arith;
  deep = λ s l. let h = st.deep s l in omega arith;
  off_high = omega arith;
  off_deep = omega arith;
}

-- What a decoder did: n steps, with the path values `pms k` after k of them; the words of the steps; and the bits
-- that the traceback from e reads off.
pub record Did (half : ℕ) (out : ℕ → ℕ → ℕ) (t : Tie) (steps : ℕ → Step) (n : ℕ) (pms : ℕ → List Float) (ws : List ℕ) (e : ℕ) (us : List ℕ) : Type 0 where
  pub follows : Follows half out t steps n pms
  pub words : (k : ℕ) → k < n → get_or ws k 0 ≡ word half out t (pms k) (steps k)
  pub length_bits : length us ≡ n
  pub bits : (k : ℕ) → k < n → get_or us k 0 ≡ input half ws n e k

-- e is the best end state of the last values, after the maximum is subtracted some times more
pub record Ended (half : ℕ) (t : Tie) (n : ℕ) (pms : ℕ → List Float) (e : ℕ) : Type 0 where
  pub last : List Float
  pub long : 2 * half ≤ length last
  pub again : ℕ
  pub same : Alike half last (times half again (pms n))
  pub is_best : e ≡ best t last (2 * half - 1)

module _ (half : ℕ) (pos : 0 < half) (out : ℕ → ℕ → ℕ) (labels : (u s : ℕ) → out u s < 4) (t : Tie) (v : ℕ → Z) (m : ℕ → ℕ → Z) (steps : ℕ → Step) (n : ℕ) (few : n ≤ longest) (pms : ℕ → List Float)
    (st : Started half (pms 0) v) (ads : (k : ℕ) → k < n → Adds (steps k) (m k)) (ws : List ℕ) (e : ℕ) (us : List ℕ) (did : Did half out t steps n pms ws e us) where
  tr0 : Tracks half (pms 0) v (0, 0) 0
  tr0 = start_tracks half (pms 0) v st

  said : (k s : ℕ) → k < n → s < 2 * half → get_or ws k 0 / 2 ^ s % 2 ≡ bit (decision half out t v m k s)
  unfolding word
  said k s h l =
      ap (λ (w : ℕ). w / 2 ^ s % 2) (did.words k h)
      ∙ packed_bit (wins half out t (pms k) (steps k)) (2 * half) s l
      ∙ ap bit (decides half pos out labels t v m steps n pms did.follows few tr0 ads k s h)

  us_is : e < 2 * half → us ≡ inputs half out t v m n e
  us_is l =
      let c = did.length_bits in
      ext_get_or 0 us (inputs half out t v m n e) (c ∙ sym (inputs_length half out t v m n e))
      (λ k h. let g : k < n = omega arith in did.bits k g ∙ back_input half pos out t v m n ws said e k l g)

  carried : (to : ℕ → Type 0) → e < 2 * half → Greatest half out t v m to n (origin half out t v m n e) (inputs half out t v m n e) → Greatest half out t v m to n (back half ws n e n) us
  carried to l g =
      subst (λ (x : List ℕ). Greatest half out t v m to n (back half ws n e n) x) (sym (us_is l))
      (subst (λ (x : ℕ). Greatest half out t v m to n x (inputs half out t v m n e)) (sym (back_start half pos out t v m n ws said e l)) g)

  -- a given end: the traced start and the bits are the first of the paths of greatest total that end in e
  pub decoded_to : e < 2 * half → Greatest half out t v m (λ z. z ≡ e) n (back half ws n e n) us
  decoded_to l = carried (λ z. z ≡ e) l (greatest_to half out t v m n e l)

  e_is : Ended half t n pms e → e ≡ end half out t v m n
  unfolding end
  e_is en =
      let r = tracks half pos out labels t v m steps n pms did.follows few tr0 ads n (omega arith) in
      let val : ℕ → Z = value half out t v m n in
      let q = times_step half pos out labels t (pms n) val n few en.again r in
      let tr = tracks_like half (times half en.again (pms n)) en.last val q.0 n q.1 en.long en.same in
      en.is_best ∙ best_same half t en.last val q.0 n tr (2 * half - 1) (omega arith)

  -- from the best state: the first of all paths of greatest total
  pub decoded : Ended half t n pms e → Greatest half out t v m (λ z. Unit {0}) n (back half ws n e n) us
  decoded en =
      let i = e_is en in
      let l : e < 2 * half = rw i (end_under half out t v m n pos) in
      carried (λ z. Unit {0}) l (subst (λ (x : ℕ). Greatest half out t v m (λ z. Unit {0}) n (origin half out t v m n x) (inputs half out t v m n x)) (sym i) (greatest half out t v m n pos))
