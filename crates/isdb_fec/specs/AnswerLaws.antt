-- How a call's outcome follows from its answer, and its answer from its rows.
use Rattle.std.specs.Prelude.{◌≡◌, false, List, [], ◌∷◌, ℕ, ◌+◌, ◌*◌, ◌/◌, ◌≤◌, ◌<◌, ltb, length, Float}
use Rattle.std.proofs.Common.{sym, ltb-false}
use Rattle.refusal.specs.Rows.{Row, first_row, Either, Accepted, Space}
pub use Rattle.refusal.proofs.RowLaws.{refused, numbered, neither}
use Rattle.refusal.proofs.RowLaws.{done, passed, both_passed}
use Rattle.trellis.specs.Run.{traceback_limit, block, releases}
use Rattle.viterbi_rows.specs.RowLaws as handed
use Rattle.isdb_fec.specs.declared.conv.ViterbiDecoder.{ViterbiDecoder}
use Rattle.isdb_fec.specs.Rows.{short_of, steps_short, handed_rows, stream_rest, stream_rows, push_known_rows, flush_rows}

pub accepted : {P Q : Type 0} → P → Either Accepted P Q
accepted = done

-- the numbers of a handed decoder that is not refused
abbrev pub Sound : ViterbiDecoder → Type 0
Sound v = handed.Sound v.pm v.held v.traceback

pub sound : (v : ViterbiDecoder) → Accepted ≡ first_row (handed_rows v) → Sound v
sound v e = handed.sound v.pm v.held v.traceback e

-- an accepted call of n steps has the numbers that it needs
pub record Enough (v : ViterbiDecoder) (n decisions out : ℕ) : Type 0 where
  pub least : 1 ≤ v.traceback
  pub most : v.traceback ≤ traceback_limit
  pub fewer : v.held < block + v.traceback
  pub fits : block + v.traceback ≤ decisions
  pub room : block * releases v.traceback v.held n ≤ out

enough : (v : ViterbiDecoder) (n decisions out : ℕ) → first_row (handed_rows v) ≡ Accepted → steps_short n v decisions out ≡ false → Enough v n decisions out
enough v n decisions out a e =
    let h = sound v (sym a) in
    let p = neither (ltb out (block * releases v.traceback v.held n)) (ltb decisions (block + v.traceback)) e in
    record {
      least = h.least;
      most = h.most;
      fewer = h.fewer;
      fits = ltb-false decisions (block + v.traceback) p.1;
      room = ltb-false out (block * releases v.traceback v.held n) p.0;
    }

pub stream_enough : (per : ℕ) (v : ViterbiDecoder) (xs : List Float) (decisions out : ℕ) → Accepted ≡ first_row (stream_rows per v xs decisions out) → Enough v (length xs / per) decisions out
stream_enough per v xs decisions out e =
    let below = stream_rest per v xs decisions out in
    let p = both_passed (handed_rows v) below tt (sym e) in
    enough v (length xs / per) decisions out p.0 (passed below tt p.1 Space)

pub known_enough : (v : ViterbiDecoder) (n decisions out : ℕ) → Accepted ≡ first_row (push_known_rows v n decisions out) → Enough v n decisions out
known_enough v n decisions out e =
    let below : List Row = (Space, steps_short n v decisions out) ∷ [] in
    let p = both_passed (handed_rows v) below tt (sym e) in
    enough v n decisions out p.0 (passed below tt p.1 Space)

-- and an accepted flush
pub record FlushEnough (v : ViterbiDecoder) (decisions out : ℕ) : Type 0 where
  pub fewer : v.held < block + v.traceback
  pub fits : block + v.traceback ≤ decisions
  pub room : v.held ≤ out

pub flush_enough : (v : ViterbiDecoder) (decisions out : ℕ) → Accepted ≡ first_row (flush_rows v decisions out) → FlushEnough v decisions out
flush_enough v decisions out e =
    let below : List Row = (Space, short_of v.held v decisions out) ∷ [] in
    let r = both_passed (handed_rows v) below tt (sym e) in
    let p = neither (ltb out v.held) (ltb decisions (block + v.traceback)) (passed below tt r.1 Space) in
    let h = sound v (sym r.0) in
    record { fewer = h.fewer; fits = ltb-false decisions (block + v.traceback) p.1; room = ltb-false out v.held p.0 }
