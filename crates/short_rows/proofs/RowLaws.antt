-- What an accepted call has: a good code, and the numbers that it needs.
use Rattle.std.specs.Prelude.{◌≡◌, true, false, not, List, [], ◌∷◌, ℕ, ◌+◌, ◌*◌, ◌/◌, ◌≤◌, ◌<◌, eqb, leb, ltb, length, take, Float}
use Rattle.std.proofs.Common.{sym, arith, ltb-false, leb-false}
use Rattle.std.proofs.lemmas.Bool.{eqb-false, not-false}
use Rattle.refusal.specs.Rows.{Row, first_row}
use Rattle.refusal.proofs.RowLaws.{neither, passed, both_passed}
use Rattle.refusal.specs.Rows as answer
use Rattle.trellis.specs.Run.{block, traceback_limit, releases}
use Rattle.isdb_fec.specs.declared.conv.ViterbiDecoder.{ViterbiDecoder}
use Rattle.isdb_fec.specs.Values.{some_beyond, path_limit}
use Rattle.isdb_fec.specs.Rows.{short_of, steps_short, stream_rest}
use Rattle.isdb_fec.specs.AnswerLaws.{Enough, FlushEnough}
use Rattle.short_code.specs.declared.Code.{Code}
use Rattle.short_code.specs.Codes.{good_code, states_of}
use Rattle.short_rows.specs.Rows.{handed_rows, stream_rows, known_rows, flush_rows}

-- a handed state that is not refused
pub record Sound (c : Code) (v : ViterbiDecoder) : Type 0 where
  pub good : good_code c ≡ true
  pub least : 1 ≤ v.traceback
  pub most : v.traceback ≤ traceback_limit
  pub fewer : v.held < block + v.traceback

pub sound : (c : Code) (v : ViterbiDecoder) → answer.Accepted ≡ first_row (handed_rows c v) → Sound c v
sound c v e =
    let p = passed (handed_rows c v) tt (sym e) in
    let t = neither (eqb v.traceback 0) (ltb traceback_limit v.traceback) (p answer.Traceback) in
    let s = neither (leb (block + v.traceback) v.held) (some_beyond path_limit (take (states_of c) v.pm)) (p answer.State) in
    let n : v.traceback ≡ 0 → ⊥ = eqb-false v.traceback 0 t.0 in
    let h : v.traceback ≤ traceback_limit = ltb-false traceback_limit v.traceback t.1 in
    let g : v.held < block + v.traceback = leb-false (block + v.traceback) v.held s.0 in
    record { good = not-false (good_code c) (p answer.Code); least = omega arith; most = h; fewer = g }

enough : (c : Code) (v : ViterbiDecoder) (n decisions out : ℕ) → first_row (handed_rows c v) ≡ answer.Accepted → steps_short n v decisions out ≡ false → (good_code c ≡ true) × Enough v n decisions out
enough c v n decisions out a e =
    let h = sound c v (sym a) in
    let p = neither (ltb out (block * releases v.traceback v.held n)) (ltb decisions (block + v.traceback)) e in (
      h.good,
      record {
        least = h.least;
        most = h.most;
        fewer = h.fewer;
        fits = ltb-false decisions (block + v.traceback) p.1;
        room = ltb-false out (block * releases v.traceback v.held n) p.0;
      },
    )

pub stream_enough : (c : Code) (per : ℕ) (v : ViterbiDecoder) (xs : List Float) (decisions out : ℕ) → answer.Accepted ≡ first_row (stream_rows c per v xs decisions out)
    → (good_code c ≡ true) × Enough v (length xs / per) decisions out
stream_enough c per v xs decisions out e =
    let below = stream_rest per v xs decisions out in
    let p = both_passed (handed_rows c v) below tt (sym e) in
    enough c v (length xs / per) decisions out p.0 (passed below tt p.1 answer.Space)

pub known_enough : (c : Code) (v : ViterbiDecoder) (n decisions out : ℕ) → answer.Accepted ≡ first_row (known_rows c v n decisions out) → (good_code c ≡ true) × Enough v n decisions out
known_enough c v n decisions out e =
    let below : List Row = (answer.Space, steps_short n v decisions out) ∷ [] in
    let p = both_passed (handed_rows c v) below tt (sym e) in
    enough c v n decisions out p.0 (passed below tt p.1 answer.Space)

pub flush_enough : (c : Code) (v : ViterbiDecoder) (decisions out : ℕ) → answer.Accepted ≡ first_row (flush_rows c v decisions out) → (good_code c ≡ true) × FlushEnough v decisions out
flush_enough c v decisions out e =
    let below : List Row = (answer.Space, short_of v.held v decisions out) ∷ [] in
    let r = both_passed (handed_rows c v) below tt (sym e) in
    let p = neither (ltb out v.held) (ltb decisions (block + v.traceback)) (passed below tt r.1 answer.Space) in
    let h = sound c v (sym r.0) in
    (h.good, record { fewer = h.fewer; fits = ltb-false decisions (block + v.traceback) p.1; room = ltb-false out v.held p.0 })
