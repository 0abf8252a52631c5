-- Which rows hold: of a reading that passes, and of a stretch of +1 and -1.
use mathlib.Core.Path.{◌≡◌, refl, sym, ◌∙◌}
use mathlib.Core.Bool.{Bool, true, false, not, cond, ◌||◌}
use mathlib.Core.List.{List, [], ◌∷◌}
use Prim.Native.Nat.{ℕ, ◌+◌, ◌/◌, ◌%◌, ◌≤◌}
use native.Mathlib.Omega.{arith}
use borrow.Author.Tests.{ltb-false, le-ltb}
use lib.Dec.{eqb, ltb}
use lib.ListN.{length}
use lib.Ieee.{Float, binary32, neg, le, of_bits}
use Rattle.std.specs.Prelude.{Result, Ok, Err, IfOk}
use Rattle.std.specs.Result.{result_unwrap_or}
use Rattle.refusal.specs.declared.Refusal.{Refusal}
use Rattle.refusal.specs.Rows.{first_row, answer_of, Accepted, Traceback, Length, Sample, Space}
use Rattle.refusal.proofs.RowLaws as row
use Rattle.refusal.proofs.RowLaws.{neither}
use Rattle.trellis.specs.Run.{block, start_at, depth}
use Rattle.path_greatest.specs.Hard.{soft_pairs}
use Rattle.path_greatest.proofs.Corrected.{length_soft}
use Rattle.isdb_fec.specs.declared.conv.ViterbiDecoder.{ViterbiDecoder}
use Rattle.ieee.specs.Within.{within}
use Rattle.isdb_fec.specs.Values.{some_beyond, stream_limit}
use Rattle.isdb_fec.specs.Rows.{fresh_rows}
use Rattle.isdb_fec.specs.Calls.{Fresh}
use Rattle.range_calls.specs.Turned.{zeros}
use Rattle.known_end.specs.Calls.{fresh, between_rows}

-- ---- the fresh decoder
-- of a traceback that is accepted
abbrev pub started : ℕ → ℕ → ViterbiDecoder
started tb s = record { pm = start_at 64 s; held = 0; traceback = depth tb }

pub fresh_is : (tb s : ℕ) (r : Result ViterbiDecoder Refusal) → answer_of r ≡ first_row (fresh_rows tb) → IfOk r (λ v. Fresh tb (start_at 64 s) v) → result_unwrap_or r zeros ≡ fresh tb s
fresh_is tb s r e m = by (ltb 1024 tb) r e m
  where
    by : (w : Bool) (r : Result ViterbiDecoder Refusal) → answer_of r ≡ cond w Traceback Accepted → IfOk r (λ v. Fresh tb (start_at 64 s) v) → result_unwrap_or r zeros ≡ cond w zeros (started tb s)
    by true (Ok v) e f = absurd (row.err_refuses (sym e))
    by true (Err why) e f = refl
    by false (Err why) e f = absurd (row.err_refuses {row = why} e)
    by false (Ok v) e f =
        let x = f.values in
        let y = f.held_is in
        let z = f.traceback_is in
        λ i. record { pm = x i; held = y i; traceback = z i }

-- ---- a reading that passes
pub record Passed (tb : ℕ) (xs : List Float) (decisions out : ℕ) : Type 0 where
  pub traceback : tb ≤ 1024
  pub whole : not (eqb (length xs % 2) 0) ≡ false
  pub inside : some_beyond stream_limit xs ≡ false
  pub places : length xs / 2 ≤ out
  pub words : block + depth tb ≤ decisions

pub passed : (tb : ℕ) (xs : List Float) (decisions out : ℕ) → first_row (between_rows tb xs decisions out) ≡ Accepted → Passed tb xs decisions out
passed tb xs decisions out e =
    let p = row.passed (between_rows tb xs decisions out) tt e in
    let q = neither (ltb out (length xs / 2)) (ltb decisions (block + depth tb)) (p Space) in
    record {
      traceback = ltb-false 1024 tb (p Traceback);
      whole = p Length;
      inside = p Sample;
      places = ltb-false out (length xs / 2) q.0;
      words = ltb-false decisions (block + depth tb) q.1;
    }

pub fresh_passes : (tb : ℕ) → tb ≤ 1024 → Accepted ≡ first_row (fresh_rows tb)
fresh_passes tb h = sym (row.none_accepted (fresh_rows tb) (le-ltb 1024 tb h, tt))

-- what `with_state` then answers
pub started_is : (tb s : ℕ) (r : Result ViterbiDecoder Refusal) → tb ≤ 1024 → answer_of r ≡ first_row (fresh_rows tb) → IfOk r (λ v. Fresh tb (start_at 64 s) v) → r ≡ Ok (started tb s)
started_is tb s (Err why) h e m = absurd (row.err_refuses {row = why} (e ∙ sym (fresh_passes tb h)))
started_is tb s (Ok v) h e f =
    let x = f.values in
    let y = f.held_is in
    let z = f.traceback_is in
    λ i. Ok (record { pm = x i; held = y i; traceback = z i })

pub fresh_started : (tb s : ℕ) → tb ≤ 1024 → fresh tb s ≡ started tb s
fresh_started tb s h = rw (le-ltb 1024 tb h) refl

-- ---- a stretch of +1 and -1: row 9 alone is left
one_inside : (w : Bool) → within stream_limit (cond w (of_bits binary32 0xbf80_0000) (of_bits binary32 0x3f80_0000)) ≡ true
unfolding of_bits neg le
one_inside true = refl
one_inside false = refl

soft_inside : (ps : List ℕ) → some_beyond stream_limit (soft_pairs ps) ≡ false
unfolding some_beyond
soft_inside [] = refl
soft_inside (p ∷ ps) = rw (one_inside (eqb (p / 2) 1), one_inside (eqb (p % 2) 1), soft_inside ps) refl

pub soft_rows : (tb : ℕ) (ps : List ℕ) (decisions out : ℕ) → tb ≤ 1024 → first_row (between_rows tb (soft_pairs ps) decisions out) ≡ first_row ((Space, ltb out (length ps) || ltb decisions (block + depth tb)) ∷ [])
soft_rows tb ps decisions out h =
    let n = length_soft ps in
    let a : length (soft_pairs ps) % 2 ≡ 0 = omega arith in
    let b : length (soft_pairs ps) / 2 ≡ length ps = omega arith in
    rw (le-ltb 1024 tb h, soft_inside ps, a, b) refl
