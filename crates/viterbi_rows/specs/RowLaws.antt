-- The numbers of a handed state that is not refused.
use Rattle.std.specs.Prelude.{◌≡◌, false, List, ℕ, ◌+◌, ◌≤◌, ◌<◌, eqb, leb, ltb, Float}
use Rattle.std.proofs.Common.{sym, arith, ltb-false, leb-false}
use Rattle.std.proofs.lemmas.Bool.{eqb-false}
use Rattle.refusal.specs.Rows.{first_row, Accepted, Traceback, State}
use Rattle.refusal.proofs.RowLaws.{neither, passed}
use Rattle.trellis.specs.Run.{block, traceback_limit}
use Rattle.viterbi_rows.specs.Values.{some_beyond, path_limit}
use Rattle.viterbi_rows.specs.Rows.{handed_rows}

pub record Sound (pm : List Float) (held tb : ℕ) : Type 0 where
  pub least : 1 ≤ tb
  pub most : tb ≤ traceback_limit
  pub fewer : held < block + tb
  pub finite : some_beyond path_limit pm ≡ false

pub sound : (pm : List Float) (held tb : ℕ) → Accepted ≡ first_row (handed_rows pm held tb) → Sound pm held tb
sound pm held tb e =
    let p = passed (handed_rows pm held tb) tt (sym e) in
    let t = neither (eqb tb 0) (ltb traceback_limit tb) (p Traceback) in
    let s = neither (leb (block + tb) held) (some_beyond path_limit pm) (p State) in
    let n : tb ≡ 0 → ⊥ = eqb-false tb 0 t.0 in
    let h : tb ≤ traceback_limit = ltb-false traceback_limit tb t.1 in
    let g : held < block + tb = leb-false (block + tb) held s.0 in
    record { least = omega arith; most = h; fewer = g; finite = s.1 }
