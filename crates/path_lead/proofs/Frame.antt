-- The frame: N steps that favour an encoded input, the known bits after them, and a flush. The decoder puts out the inputs, whatever it releases on the way.
--
use Rattle.std.specs.Prelude.{◌≡◌, refl, Bool, true, false, cond, List, [], ℕ, zero, suc, ◌+◌, ◌*◌, ◌/◌, ◌%◌, ◌-◌, ◌<◌, ◌≤◌, T, ltb, get_or, length, Float}
use Rattle.std.proofs.Common.{◌∙◌, not-suc-le-zero, le_refl, zero-add, add-zero, add-suc, mod-lt, arith, ltb→lt, lt→ltb, lit<}
use Rattle.ieee.specs.Rounding.{pow2, pow2_add}
use Rattle.trellis.specs.Code.{moved, state_at}
use Rattle.trellis.specs.Step.{four, known, Tie, best}
use Rattle.trellis.specs.Run.{Decoder, start_at, values_at, after, pushed, flushed}
use Rattle.path_lead.specs.Favour.{Favours}
use Rattle.trellis.specs.Isdb.{longest_frame}
use Rattle.path_lead.specs.Ties.{true_of, false_of}
use Rattle.path_lead.proofs.Step.{Leads}
use Rattle.trellis.proofs.RunLaws.{after_values}
use Rattle.path_lead.specs.Traceback.{Along, after_along, flushed_counted, flushed_along}
use Rattle.path_lead.proofs.Sent.{moved_is, state_small, best_at_lem, kept_at, leftover, leftover_is, ended}
use Rattle.path_lead.proofs.Known.{ruled_out, known_best, known_kept}
use Rattle.trellis.specs.Isdb

-- a decoder that starts at the known state s
abbrev pub fresh : ℕ → Decoder
fresh s = record { values = start_at 64 s; words = []; bits = [] }

-- the bits are N sent inputs and c known bits
pub record Decoded (us : List ℕ) (N : ℕ) (w : ℕ → ℕ) (c : ℕ) (bits : List ℕ) : Type 0 where
  pub count : length bits ≡ N + c
  pub sent : (i : ℕ) → i < N → get_or bits i 0 ≡ get_or us i 0
  pub known : (j : ℕ) → j < c → get_or bits (N + j) 0 ≡ w j % 2

-- ---- the path of the inputs u, a function of the index
unfoldable path : ℕ → (ℕ → ℕ) → ℕ → ℕ
path s u zero = s
path s u (suc n) = moved 32 (u n) (path s u n)

path_input : (s : ℕ) (u : ℕ → ℕ) (n : ℕ) → s < 64 → ((i : ℕ) → i ≤ n → u i < 2) → (path s u n < 64) × (path s u (suc n) / 32 ≡ u n)
unfolding path
path_input s u zero S h = (S, (moved_is (u 0) s (h 0 (omega arith)) S).2)
path_input s u (suc n) S h =
    let m = path_input s u n S (λ i l. h i (omega arith)) in
    let p = moved_is (u n) (path s u n) (h n (omega arith)) m.0 in
    (p.0, (moved_is (u (suc n)) (path s u (suc n)) (h (suc n) (le_refl (suc n))) p.0).2)

-- the inputs us and, after N of them, w
abbrev both : List ℕ → ℕ → (ℕ → ℕ) → ℕ → ℕ
both us N w i = cond (ltb i N) (get_or us i 0) (w (i - N) % 2)

both_sent : (us : List ℕ) (N : ℕ) (w : ℕ → ℕ) (i : ℕ) → i < N → both us N w i ≡ get_or us i 0
both_sent us N w i h = rw (true_of (ltb i N) (lt→ltb i N h))

both_known : (us : List ℕ) (N : ℕ) (w : ℕ → ℕ) (j : ℕ) → both us N w (N + j) ≡ w j % 2
both_known us N w j =
    let e : N + j - N ≡ j = omega arith in
    rw (false_of (ltb (N + j) N) (λ b. let l = ltb→lt (N + j) N b in omega arith), e)

path_sent : (s : ℕ) (us : List ℕ) (N : ℕ) (w : ℕ → ℕ) (n : ℕ) → n ≤ N → path s (both us N w) n ≡ state_at 32 s us n
unfolding path state_at
path_sent s us N w zero h = refl
path_sent s us N w (suc n) h = rw (both_sent us N w n h, path_sent s us N w n (omega arith))

module _ (t : Tie) (tb s : ℕ) (us : List ℕ) (ms : ℕ → List Float) (N : ℕ) (few : N ≤ longest_frame) (v : Favours s us ms N) (w : ℕ → ℕ) where
  abbrev f : ℕ → ℕ
  f = path s (both us N w)

  abbrev call : Decoder
  call = pushed Isdb.half Isdb.labels t tb (λ i. four (ms i)) (fresh s) N

  both_small : (i : ℕ) → both us N w i < 2
  both_small i = go (ltb i N) (λ b. v.bits i (ltb→lt i N b))
    where
      go : (b : Bool) → (T b → get_or us i 0 < 2) → cond b (get_or us i 0) (w (i - N) % 2) < 2
      go true h = h tt
      go false h = mod-lt (w (i - N)) (lit< tt)

  -- ---- the favoured steps
  call_along : Along 32 f call.bits call.words N
  call_along =
      rw (zero-add N) at
      (after_along Isdb.half Isdb.labels t tb (λ i. four (ms i)) (fresh s) f 0 (record { count = refl; given = λ i l. absurd (not-suc-le-zero l); held = λ i l. absurd (not-suc-le-zero l) }) N
      (λ i l. rw (zero-add i, path_sent s us N w (suc i) l, path_sent s us N w i (omega arith)) (kept_at t ms s us N few v i l))
      (λ i l. rw (zero-add i, path_sent s us N w (suc i) l) (best_at_lem t ms s us N few v (suc i) l)))

  -- ---- the known bits
  moves : (j : ℕ) → f (N + suc j) ≡ moved 32 (w j % 2) (f (N + j))
  unfolding path
  moves j = rw (add-suc N j, both_known us N w j)

  start_small : f (N + 0) < 64
  start_small = rw (add-zero N, path_sent s us N w N (le_refl N)) (state_small t ms s us N few v N (le_refl N))

  call_leads : Leads call.values (f (N + 0)) (0 * pow2 148) ruled_out (leftover t ms s us N few v * pow2 134)
  call_leads =
      let i = ended t ms s us N few v in
      let e : pow2 155 ≡ 64 * pow2 149 = pow2_add 6 149 in
      rw (after_values Isdb.half Isdb.labels t tb (λ i. four (ms i)) (fresh s) N, add-zero N, path_sent s us N w N (le_refl N))
      record { num = i.num; floor = λ r R. let h = i.floor r R in omega arith; plus = i.plus; cap = i.cap; lead = i.lead }

  some : 0 < leftover t ms s us N few v
  some = let l = leftover_is t ms s us N few v in omega arith

  best_of : (j : ℕ) → best t (values_at Isdb.half Isdb.labels t (λ k. known (w k)) call.values j) 63 ≡ f (N + j)
  best_of = known_best Isdb.labels t w call.values (λ j. f (N + j)) start_small moves (leftover t ms s us N few v) some (leftover_is t ms s us N few v).1 call_leads

  abbrev calls : ℕ → Decoder
  calls c = after Isdb.half Isdb.labels t tb (λ k. known (w k)) call c

  calls_along : (c : ℕ) → Along 32 f (calls c).bits (calls c).words (N + c)
  calls_along c =
      after_along Isdb.half Isdb.labels t tb (λ k. known (w k)) call f N call_along c
      (λ j l. rw (← add-suc N j) (known_kept Isdb.labels t w call.values (λ j. f (N + j)) start_small moves (leftover t ms s us N few v) some (leftover_is t ms s us N few v).1 call_leads j))
      (λ j l. rw (← add-suc N j) (best_of (suc j)))

  calls_best : (c : ℕ) → best t (calls c).values 63 ≡ f (N + c)
  calls_best c = rw (after_values Isdb.half Isdb.labels t tb (λ k. known (w k)) call c) (best_of c)

  -- ---- the flush
  found : (c i : ℕ) → i < N + c → get_or (flushed Isdb.half Isdb.labels t (calls c)).bits i 0 ≡ both us N w i
  found c i l = flushed_along Isdb.half Isdb.labels t f (calls c) (N + c) (calls_best c) (calls_along c) i l ∙ (path_input s (both us N w) i v.start (λ i _. both_small i)).1

  flushed_decoded : (c : ℕ) → Decoded us N w c (flushed Isdb.half Isdb.labels t (calls c)).bits
  flushed_decoded c = record {
    count = flushed_counted Isdb.half Isdb.labels t (calls c) ∙ (calls_along c).count;
    sent = λ i l. found c i (omega arith) ∙ both_sent us N w i l;
    known = λ j l. found c (N + j) (omega arith) ∙ both_known us N w j;
  }

-- The theorem: a decoder that starts at the sender's state s, takes N favoured steps in one call and c known bits in another, and is flushed, has put out the
-- N inputs, then the known bits; by either tie-break and for every traceback length tb
pub decoded_sent : (t : Tie) (tb s : ℕ) (us : List ℕ) (ms : ℕ → List Float) (N : ℕ) → N ≤ longest_frame → Favours s us ms N → (w : ℕ → ℕ) (c : ℕ)
    → Decoded us N w c (flushed Isdb.half Isdb.labels t (after Isdb.half Isdb.labels t tb (λ k. known (w k)) (pushed Isdb.half Isdb.labels t tb (λ i. four (ms i)) (fresh s) N) c)).bits
decoded_sent t tb s us ms N few v w c = flushed_decoded t tb s us ms N few v w c
