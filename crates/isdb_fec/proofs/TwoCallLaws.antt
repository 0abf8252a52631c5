-- A run over two lists in two calls, as the contracts of `push_known`, `push` and `push_metrics` speak of them. The second call is handed the state and the decisions that the
-- first leaves, and the output behind the first one's bits: together they leave what one call over both lists leaves, state, count and both lent slices.
use Rattle.std.specs.Prelude.{◌≡◌, refl, List, [], ◌∷◌, ◌++◌, ℕ, ◌+◌, ◌*◌, ◌/◌, ◌%◌, ◌<◌, ◌≤◌, length, take, drop, Float}
use Rattle.std.proofs.Common.{sym, ◌∙◌, ap, append-nil, arith, length-append}
use Rattle.refusal.specs.Rows.{first_row, Accepted}
use Rattle.trellis.specs.Isdb
use Rattle.trellis.specs.Lists.{laid}
use Rattle.trellis.specs.Step as trellis
use Rattle.trellis.specs.Step.{renormalised}
use Rattle.trellis.specs.Run.{Decoder, decisions_after, block, traceback_limit, pair_steps, four_steps, known_steps}
use Rattle.isdb_fec.specs.declared.conv.ViterbiDecoder.{ViterbiDecoder}
use Rattle.isdb_fec.specs.declared.conv.Released.{Released}
use Rattle.isdb_fec.specs.Rows.{push_rows, push_metrics_rows, push_known_rows}
use Rattle.isdb_fec.specs.Calls.{steps, call, handed, Leaves}
use Rattle.trellis.specs.LaidLaws.{laid_after}
use Rattle.isdb_fec.specs.AnswerLaws.{Enough, stream_enough, known_enough}
use Rattle.viterbi_core.specs.CountLaws.{Counted, counted}
use Rattle.viterbi_core.specs.HoldingLaws.{bare, holding_is, over_kept, over_released}
use Rattle.isdb_fec.proofs.WholeLaws.{few}
use Rattle.viterbi_core.specs.Calls.{known_call, pair_call, four_call}
use Rattle.viterbi_core.specs.RunLaws.{then, known_run, pair_run, four_run}

-- the result of two calls: the state of the second, and how many bits both put out
abbrev pub both : Released → Released → Released
both first second = record { dec = second.dec; count = first.count + second.count }

-- ---- the lent decisions after two calls
decisions_then : (tb : ℕ) (ws bs more new dec : List ℕ) → length ws < block + tb → (length new ≡ 0 → length ws ≤ length more)
    → decisions_after tb more new (decisions_after tb ws bs dec) ≡ decisions_after tb more (bs ++ new) dec
decisions_then tb ws bs more [] dec h g =
    over_kept tb ws more bs dec (g refl) ∙ ap (λ (y : List ℕ). decisions_after tb more y dec) (sym (append-nil bs))
decisions_then tb ws bs more (b ∷ new) dec h g = over_released tb ws more bs (b ∷ new) dec h (omega arith)

-- ---- what a first call leaves, and a second one after it of m steps
module _ {tb : ℕ} {first : Decoder} {r₁ : Released} {dec₀ dec₁ out₀ out₁ : List ℕ} (l : Leaves tb first r₁ dec₀ dec₁ out₀ out₁) where
  handed_on : handed r₁.dec dec₁ ≡ bare first
  handed_on =
      holding_is tb first dec₀ out₀ r₁.dec.pm r₁.dec.held r₁.count dec₁ out₁
      (record { values = l.values; held_is = l.held_is; count_is = l.count_is; words = l.words; bits = l.bits })

  leaves_then : {r₂ : Released} {dec₂ out₂ : List ℕ} (second : Decoder) (m : ℕ) → length first.words < block + tb → Counted tb (length first.words) 0 m second
      → Leaves tb second r₂ dec₁ dec₂ (drop r₁.count out₁) out₂
      → Leaves tb (then first second) (both r₁ r₂) dec₀ dec₂ out₀ (take r₁.count out₁ ++ out₂)
  leaves_then {r₂} second m h c k =
      let w = c.words_left in
      let b = c.bits_out in
      record {
        values = k.values;
        held_is = k.held_is;
        traceback_is = k.traceback_is;
        count_is = ap (λ (j : ℕ). j + r₂.count) l.count_is ∙ ap (λ (j : ℕ). length first.bits + j) k.count_is ∙ sym (length-append first.bits second.bits);
        words =
            k.words ∙ ap (λ (y : List ℕ). decisions_after tb second.words second.bits y) l.words
            ∙ decisions_then tb first.words first.bits second.words second.bits dec₀ h (λ none. omega arith);
        bits =
            ap (λ (y : List ℕ). take r₁.count out₁ ++ y) k.bits
            ∙ ap (λ (j : ℕ). take j out₁ ++ laid second.bits (drop j out₁)) l.count_is
            ∙ ap (λ (y : List ℕ). take (length first.bits) y ++ laid second.bits (drop (length first.bits) y)) l.bits
            ∙ laid_after first.bits second.bits out₀;
      }

-- ---- any two calls, the first of them accepted
-- a call of n steps holds as many words and puts out as many bits as n steps do
abbrev pub CallOf : ℕ → (ℕ → Decoder → Decoder) → Type 0
CallOf n c = (tb : ℕ) (d : Decoder) → 1 ≤ tb → tb ≤ traceback_limit → length d.words < block + tb → Counted tb (length d.words) (length d.bits) n (c tb d)

pub known_call_lem : (bits : List ℕ) → CallOf (length bits) (λ tb. known_call tb bits)
known_call_lem bits tb d least most h = counted Isdb.half Isdb.labels Isdb.rule tb (known_steps bits) d least most h (length bits)

pub soft_call : (xs : ℕ → trellis.Step) (n : ℕ) → CallOf n (λ tb d. call tb xs d n)
soft_call xs n tb d least most h = let c = counted Isdb.half Isdb.labels Isdb.rule tb xs d least most h n in record { few = c.few; words_left = c.words_left; bits_out = c.bits_out }

module _ (v : ViterbiDecoder) (r₁ r₂ : Released) (dec₀ dec₁ dec₂ out₀ out₁ out₂ : List ℕ) where
  two_calls : (n m : ℕ) (first second : ℕ → Decoder → Decoder) → CallOf n first → CallOf m second → Enough v n (length dec₀) (length out₀)
      → Leaves v.traceback (first v.traceback (handed v dec₀)) r₁ dec₀ dec₁ out₀ out₁
      → Leaves r₁.dec.traceback (second r₁.dec.traceback (handed r₁.dec dec₁)) r₂ dec₁ dec₂ (drop r₁.count out₁) out₂
      → Leaves v.traceback (then (first v.traceback (handed v dec₀)) (second v.traceback (bare (first v.traceback (handed v dec₀))))) (both r₁ r₂) dec₀ dec₂ out₀ (take r₁.count out₁ ++ out₂)
  two_calls n m first second a b g l k =
      let tb = v.traceback in
      let d = first tb (handed v dec₀) in
      let h = (a tb (handed v dec₀) g.least g.most (few dec₀ g)).few in
      leaves_then l (second tb (bare d)) m h (b tb (bare d) g.least g.most h) (rw (l.traceback_is, handed_on l) at k)

  -- known bits
  pub two_known_calls : (bs cs : List ℕ) → Accepted ≡ first_row (push_known_rows v (length bs) (length dec₀) (length out₀))
      → Leaves v.traceback (known_call v.traceback bs (handed v dec₀)) r₁ dec₀ dec₁ out₀ out₁
      → Leaves r₁.dec.traceback (known_call r₁.dec.traceback cs (handed r₁.dec dec₁)) r₂ dec₁ dec₂ (drop r₁.count out₁) out₂
      → Leaves v.traceback (known_call v.traceback (bs ++ cs) (handed v dec₀)) (both r₁ r₂) dec₀ dec₂ out₀ (take r₁.count out₁ ++ out₂)
  two_known_calls bs cs e l k =
      rw (known_run Isdb.half Isdb.labels Isdb.rule v.traceback bs cs (handed v dec₀))
      (two_calls (length bs) (length cs) (λ t. known_call t bs) (λ t. known_call t cs) (known_call_lem bs) (known_call_lem cs) (known_enough v (length bs) (length dec₀) (length out₀) e) l k)

  -- soft values: n steps first, with n % 64 = 0, after which subtracting the maximum changes nothing
  pub two_pair_calls : (ps qs : List Float) (n : ℕ) → length ps ≡ 2 * n → n % 64 ≡ 0 → Accepted ≡ first_row (push_rows v ps (length dec₀) (length out₀))
      → renormalised 32 (steps v.traceback (pair_steps ps) (handed v dec₀) n).values ≡ (steps v.traceback (pair_steps ps) (handed v dec₀) n).values
      → Leaves v.traceback (pair_call v.traceback ps (handed v dec₀)) r₁ dec₀ dec₁ out₀ out₁
      → Leaves r₁.dec.traceback (pair_call r₁.dec.traceback qs (handed r₁.dec dec₁)) r₂ dec₁ dec₂ (drop r₁.count out₁) out₂
      → Leaves v.traceback (pair_call v.traceback (ps ++ qs) (handed v dec₀)) (both r₁ r₂) dec₀ dec₂ out₀ (take r₁.count out₁ ++ out₂)
  two_pair_calls ps qs n is whole e normalised l k =
      rw (pair_run Isdb.half Isdb.labels Isdb.rule v.traceback ps qs (handed v dec₀) n is whole normalised)
      (two_calls (length ps / 2) (length qs / 2) (λ t. pair_call t ps) (λ t. pair_call t qs) (soft_call (pair_steps ps) (length ps / 2)) (soft_call (pair_steps qs) (length qs / 2))
      (stream_enough 2 v ps (length dec₀) (length out₀) e) l k)

  -- metrics, in the same way
  pub two_metric_calls : (ms ns : List Float) (n : ℕ) → length ms ≡ 4 * n → n % 64 ≡ 0 → Accepted ≡ first_row (push_metrics_rows v ms (length dec₀) (length out₀))
      → renormalised 32 (steps v.traceback (four_steps ms) (handed v dec₀) n).values ≡ (steps v.traceback (four_steps ms) (handed v dec₀) n).values
      → Leaves v.traceback (four_call v.traceback ms (handed v dec₀)) r₁ dec₀ dec₁ out₀ out₁
      → Leaves r₁.dec.traceback (four_call r₁.dec.traceback ns (handed r₁.dec dec₁)) r₂ dec₁ dec₂ (drop r₁.count out₁) out₂
      → Leaves v.traceback (four_call v.traceback (ms ++ ns) (handed v dec₀)) (both r₁ r₂) dec₀ dec₂ out₀ (take r₁.count out₁ ++ out₂)
  two_metric_calls ms ns n is whole e normalised l k =
      rw (four_run Isdb.half Isdb.labels Isdb.rule v.traceback ms ns (handed v dec₀) n is whole normalised)
      (two_calls (length ms / 4) (length ns / 4) (λ t. four_call t ms) (λ t. four_call t ns) (soft_call (four_steps ms) (length ms / 4)) (soft_call (four_steps ns) (length ns / 4))
      (stream_enough 4 v ms (length dec₀) (length out₀) e) l k)

-- ---- what a call leaves is one thing: so one call over both lists gives what two calls give
pub leaves_same : {tb : ℕ} {d : Decoder} {r r' : Released} {dec₀ dec dec' out₀ out out' : List ℕ} → Leaves tb d r dec₀ dec out₀ out → Leaves tb d r' dec₀ dec' out₀ out'
    → (r.dec ≡ r'.dec) × (r.count ≡ r'.count) × (dec ≡ dec') × (out ≡ out')
leaves_same l k =
    let p = l.values ∙ sym k.values in
    let h = l.held_is ∙ sym k.held_is in
    let t = l.traceback_is ∙ sym k.traceback_is in
    (λ i. record { pm = p i; held = h i; traceback = t i }, l.count_is ∙ sym k.count_is, l.words ∙ sym k.words, l.bits ∙ sym k.bits)
