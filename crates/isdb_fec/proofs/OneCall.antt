-- A run over two lists in one call: where two calls are accepted, the second handed what the first leaves and the output behind the first one's bits, one call over both lists
-- is accepted too.
use Rattle.std.specs.Prelude.{◌≡◌, refl, false, not, List, [], ◌∷◌, ◌++◌, ℕ, ◌+◌, ◌*◌, ◌/◌, ◌%◌, ◌≤◌, eqb, length, drop, Float}
use Rattle.std.proofs.Common.{sym, ◌∙◌, ap, arith, le-ltb, eqb-true, length-append, length-drop}
use Rattle.std.proofs.lemmas.Bool.{not-false}
use Rattle.refusal.specs.Rows.{first_row, Accepted, Length, Sample, Space}
use Rattle.refusal.proofs.RowLaws as row
use Rattle.refusal.proofs.RowLaws.{both_passed, passed_by}
use Rattle.trellis.specs.Run.{Decoder, releases, pair_steps, four_steps}
use Rattle.isdb_fec.specs.declared.conv.ViterbiDecoder.{ViterbiDecoder}
use Rattle.isdb_fec.specs.declared.conv.Released.{Released}
use Rattle.ieee.specs.Within.{within}
use Rattle.isdb_fec.specs.Values.{some_beyond, stream_limit}
use Rattle.isdb_fec.specs.Rows.{steps_short, handed_rows, stream_rest, stream_rows, push_rows, push_metrics_rows, push_known_rows}
use Rattle.isdb_fec.specs.Calls.{handed, Leaves}
use Rattle.trellis.specs.LaidLaws.{length_laid}
use Rattle.isdb_fec.specs.AnswerLaws.{neither, Enough, stream_enough, known_enough}
use Rattle.viterbi_core.specs.CountLaws.{Counted, releases_is}
use Rattle.isdb_fec.proofs.WholeLaws.{taken, few}
use Rattle.viterbi_core.specs.Calls.{known_call, pair_call, four_call}
use Rattle.isdb_fec.proofs.TwoCallLaws.{CallOf, known_call_lem, soft_call}

-- the releases of n steps that leave l words, and of m more
releases_then : (tb h n m l : ℕ) → 1 ≤ tb → tb ≤ 1024 → l + 4096 * releases tb h n ≡ h + n → releases tb h (n + m) ≡ releases tb h n + releases tb l m
releases_then tb h n m l least most e =
    let a = releases_is tb h (n + m) most in
    let b = releases_is tb h n most in
    let c = releases_is tb l m most in
    omega arith

-- no value of either list is beyond the limit
none_beyond : (limit : Float) (xs ys : List Float) → some_beyond limit xs ≡ false → some_beyond limit ys ≡ false → some_beyond limit (xs ++ ys) ≡ false
unfolding some_beyond
none_beyond limit [] ys e f = f
none_beyond limit (x ∷ xs) ys e f = let p = neither (not (within limit x)) (some_beyond limit xs) e in rw (p.0, none_beyond limit xs ys p.1 f) refl

-- the rows of an accepted stream
record Passed (per : ℕ) (v : ViterbiDecoder) (xs : List Float) : Type 0 where
  pub state : Accepted ≡ first_row (handed_rows v)
  pub whole : length xs % per ≡ 0
  pub inside : some_beyond stream_limit xs ≡ false

passed : (per : ℕ) (v : ViterbiDecoder) (xs : List Float) (decisions out : ℕ) → Accepted ≡ first_row (stream_rows per v xs decisions out) → Passed per v xs
passed per v xs decisions out e =
    let below = stream_rest per v xs decisions out in
    let b = both_passed (handed_rows v) below tt (sym e) in
    let p = row.passed below tt b.1 in
    record { state = sym b.0; whole = eqb-true (length xs % per) 0 (not-false (eqb (length xs % per) 0) (p Length)); inside = p Sample }

module _ (v : ViterbiDecoder) (r₁ : Released) (dec₀ dec₁ out₀ out₁ : List ℕ) where
  abbrev rest : ℕ
  rest = length (drop r₁.count out₁)

  -- the space of two calls is that of one
  space_then : (n m : ℕ) (call : ℕ → Decoder → Decoder) → CallOf n call → Enough v n (length dec₀) (length out₀) → Leaves v.traceback (call v.traceback (handed v dec₀)) r₁ dec₀ dec₁ out₀ out₁
      → Enough r₁.dec m (length dec₁) rest → steps_short (n + m) v (length dec₀) (length out₀) ≡ false
  space_then n m call a g l g' =
      let tb = v.traceback in
      let first = call tb (handed v dec₀) in
      let c : Counted tb v.held 0 n first = rw (taken dec₀ g) at (a tb (handed v dec₀) g.least g.most (few dec₀ g)) in
      let b = c.bits_out in
      let r = g.room in
      let k = l.count_is in
      let all : length out₁ ≡ length out₀ = ap length l.bits ∙ length_laid first.bits out₀ (omega arith) in
      let left = length-drop r₁.count out₁ in
      let r' : 4096 * releases tb (length first.words) m ≤ rest = rw (l.traceback_is, l.held_is) at g'.room in
      let s = releases_then tb v.held n m (length first.words) g.least g.most c.words_left in
      rw (le-ltb (length out₀) (4096 * releases tb v.held (n + m)) (omega arith), le-ltb (length dec₀) (4096 + tb) g.fits) refl

  pub one_known_call : (bs cs : List ℕ) → Accepted ≡ first_row (push_known_rows v (length bs) (length dec₀) (length out₀))
      → Leaves v.traceback (known_call v.traceback bs (handed v dec₀)) r₁ dec₀ dec₁ out₀ out₁
      → Accepted ≡ first_row (push_known_rows r₁.dec (length cs) (length dec₁) (length (drop r₁.count out₁)))
      → Accepted ≡ first_row (push_known_rows v (length (bs ++ cs)) (length dec₀) (length out₀))
  one_known_call bs cs e l e' =
      let b = both_passed (handed_rows v) ((Space, steps_short (length bs) v (length dec₀) (length out₀)) ∷ []) tt (sym e) in
      let z = space_then (length bs) (length cs) (λ t. known_call t bs) (known_call_lem bs) (known_enough v (length bs) (length dec₀) (length out₀) e) l (known_enough r₁.dec (length cs) (length dec₁) rest e') in
      passed_by (handed_rows v) ((Space, steps_short (length (bs ++ cs)) v (length dec₀) (length out₀)) ∷ []) tt (sym b.0) (rw (length-append bs cs, z) refl)

  -- soft values or metrics, `per` for each step
  stream_call : (per : ℕ) (xs ys : List Float) (call : ℕ → Decoder → Decoder) → CallOf (length xs / per) call
      → (length xs % per ≡ 0 → length ys % per ≡ 0 → ((length xs + length ys) % per ≡ 0) × ((length xs + length ys) / per ≡ length xs / per + length ys / per))
      → Accepted ≡ first_row (stream_rows per v xs (length dec₀) (length out₀))
      → Leaves v.traceback (call v.traceback (handed v dec₀)) r₁ dec₀ dec₁ out₀ out₁
      → Accepted ≡ first_row (stream_rows per r₁.dec ys (length dec₁) rest)
      → Accepted ≡ first_row (stream_rows per v (xs ++ ys) (length dec₀) (length out₀))
  stream_call per xs ys call a parts e l e' =
      let p = passed per v xs (length dec₀) (length out₀) e in
      let q = passed per r₁.dec ys (length dec₁) rest e' in
      let d = parts p.whole q.whole in
      let z = space_then (length xs / per) (length ys / per) call a (stream_enough per v xs (length dec₀) (length out₀) e) l (stream_enough per r₁.dec ys (length dec₁) rest e') in
      passed_by (handed_rows v) (stream_rest per v (xs ++ ys) (length dec₀) (length out₀)) tt p.state
      (rw (length-append xs ys, d.0, none_beyond stream_limit xs ys p.inside q.inside, d.1, z) refl)

  pub one_pair_call : (ps qs : List Float) → Accepted ≡ first_row (push_rows v ps (length dec₀) (length out₀))
      → Leaves v.traceback (pair_call v.traceback ps (handed v dec₀)) r₁ dec₀ dec₁ out₀ out₁
      → Accepted ≡ first_row (push_rows r₁.dec qs (length dec₁) (length (drop r₁.count out₁)))
      → Accepted ≡ first_row (push_rows v (ps ++ qs) (length dec₀) (length out₀))
  one_pair_call ps qs = stream_call 2 ps qs (λ t. pair_call t ps) (soft_call (pair_steps ps) (length ps / 2)) (λ a b. (omega arith, omega arith))

  pub one_metric_call : (ms ns : List Float) → Accepted ≡ first_row (push_metrics_rows v ms (length dec₀) (length out₀))
      → Leaves v.traceback (four_call v.traceback ms (handed v dec₀)) r₁ dec₀ dec₁ out₀ out₁
      → Accepted ≡ first_row (push_metrics_rows r₁.dec ns (length dec₁) (length (drop r₁.count out₁)))
      → Accepted ≡ first_row (push_metrics_rows v (ms ++ ns) (length dec₀) (length out₀))
  one_metric_call ms ns = stream_call 4 ms ns (λ t. four_call t ms) (soft_call (four_steps ms) (length ms / 4)) (λ a b. (omega arith, omega arith))
