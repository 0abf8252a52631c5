-- A decoding call is a push of all its steps and a flush.
use mathlib.Core.Path.{◌≡◌, refl, sym, ◌∙◌, ap}
use mathlib.Core.Bool.{Bool, true, false, cond}
use mathlib.Core.List.{List, ◌++◌}
use Prim.Native.Nat.{ℕ, zero, suc, ◌+◌, ◌-◌, ◌*◌, ◌/◌, ◌%◌, ◌<◌, ◌≤◌}
use native.Mathlib.Omega.{arith}
use lib.Dec.{eqb}
use lib.ListN.{length, get_or, take, drop, replicate, length-replicate}
use lib.Ieee.{Float, nan}
use borrow.Author.Tests.{eqb-false}
use Rattle.trellis.specs.Isdb
use Rattle.trellis.specs.Lists.{upto, laid}
use Rattle.trellis.specs.Step as trellis
use Rattle.trellis.specs.Step.{pair, renormalised}
use Rattle.trellis.specs.Run.{Decoder, start_at, after, holding, depth}
use Rattle.viterbi_core.specs.declared.At.{At}
use Rattle.isdb_fec.specs.declared.conv.ViterbiDecoder.{ViterbiDecoder}
use Rattle.isdb_fec.specs.Calls as fec
use Rattle.isdb_fec.specs.Calls.{Holds, best_state, traced}
use Rattle.isdb_fec.specs.AnswerLaws.{Enough}
use Rattle.trellis.specs.LaidLaws.{laid_laid, laid_after}
use Rattle.trellis.specs.ListLaws.{get_d_upto}
use Rattle.viterbi_core.specs.CountLaws.{releases_is, counted}
use Rattle.viterbi_core.specs.HoldingLaws.{cleared, holding_is}
use Rattle.isdbt_table.specs.declared.CodeRate.{CodeRate}
use Rattle.isdbt_table.specs.declared.CodeRate.TheVariants.{R1_2, R2_3, R3_4, R5_6, R7_8}
use Rattle.isdbt_table.specs.declared.Puncturing.{Puncturing}
use Rattle.isdbt_table.specs.Table.{period, sent, compiled}
use Rattle.isdbt_table.specs.Puncture.{soft_at, depunctured}
use Rattle.isdbt_fec.specs.Calls.{steps, fresh, decoded_bits}
use Rattle.isdbt_table.specs.NumberLaws.{numbers}
use Rattle.isdbt_steps.specs.Soft.{soft_by, steps_by}

-- equal steps give equal decoders
pub after_same : (tb : ℕ) (xs ys : ℕ → trellis.Step) (d : Decoder) (n : ℕ) → ((i : ℕ) → i < n → xs i ≡ ys i) → fec.steps tb xs d n ≡ fec.steps tb ys d n
unfolding after
after_same tb xs ys d zero h = refl
after_same tb xs ys d (suc n) h =
    let before = after_same tb xs ys d n (λ i l. h i (omega arith)) in
    rw (before, h n (omega arith)) refl

pub soft_is : (rate : CodeRate) (p : Puncturing) (xs : List Float) (k : ℕ) → p ≡ compiled rate → soft_by p.period p.n p.order xs k ≡ soft_at rate xs k
unfolding soft_at
soft_is rate p xs k e = let z = numbers rate p e in rw (z.has_order, z.n_is, z.period_is) refl

pub pair_below : (rate : CodeRate) (count i : ℕ) → i < count / sent rate * period rate → 2 * i + 1 < count / sent rate * (2 * period rate)
pair_below R1_2 count i h = omega arith
pair_below R2_3 count i h = omega arith
pair_below R3_4 count i h = omega arith
pair_below R5_6 count i h = omega arith
pair_below R7_8 count i h = omega arith

pub steps_are : (rate : CodeRate) (p : Puncturing) (xs : List Float) (i : ℕ) → p ≡ compiled rate → i < length xs / sent rate * period rate
    → steps_by p.period p.n p.order xs i ≡ steps rate xs i
unfolding depunctured
steps_are rate p xs i e h =
    let n = length xs / sent rate * (2 * period rate) in
    let b = pair_below rate (length xs) i h in
    let x : soft_by p.period p.n p.order xs (2 * i) ≡ get_or (upto (soft_at rate xs) n) (2 * i) nan =
    soft_is rate p xs (2 * i) e ∙ sym (get_d_upto (soft_at rate xs) nan n (2 * i) (omega arith)) in
    let y : soft_by p.period p.n p.order xs (2 * i + 1) ≡ get_or (upto (soft_at rate xs) n) (2 * i + 1) nan =
    soft_is rate p xs (2 * i + 1) e ∙ sym (get_d_upto (soft_at rate xs) nan n (2 * i + 1) b) in
    rw (x, y) refl

-- as many bits as steps, no more than values
pub count_most : (rate : CodeRate) (count : ℕ) → count / sent rate * period rate ≤ count
count_most R1_2 count = omega arith
count_most R2_3 count = omega arith
count_most R3_4 count = omega arith
count_most R5_6 count = omega arith
count_most R7_8 count = omega arith

-- the decoder as the code holds it
abbrev pub begun : List Float → ℕ → ViterbiDecoder
begun pm tb = record { pm = pm; held = 0; traceback = tb }

-- n places hold the bits that n steps release
pub room_for : (pm : List Float) (tb n decisions out : ℕ) → 1 ≤ tb → tb ≤ 1024 → 4096 + tb ≤ decisions → n ≤ out → Enough (begun pm tb) n decisions out
room_for pm tb n decisions out a b c h =
    let r = releases_is tb 0 n b in
    record { least = a; most = b; fewer = omega arith; fits = c; room = omega arith }

-- the end: the path values are lowered, the held words traced and zeroed, the decisions cleared
module _ (rate : CodeRate) (p : Puncturing) (e : p ≡ compiled rate) (xs : List Float) (tb : ℕ) (least : 1 ≤ tb) (most : tb ≤ 1024)
    (dec₀ out₀ : List ℕ) (pm₀ pm low : List Float) (at : At) (dec out : List ℕ) (start : pm₀ ≡ start_at 64 0)
    (h : Holds tb dec₀ out₀ (fec.steps tb (steps_by p.period p.n p.order xs) (holding pm₀ 0 dec₀) (length xs / sent rate * period rate)) pm at.held at.count dec out)
    (lowered : low ≡ renormalised 32 pm) where
  abbrev pub n : ℕ
  n = length xs / sent rate * period rate

  abbrev d : Decoder
  d = fec.steps tb (steps rate xs) fresh n

  followed : Holds tb dec₀ out₀ d pm at.held at.count dec out
  followed =
      rw (start, after_same tb (steps_by p.period p.n p.order xs) (steps rate xs) fresh n (λ i l. steps_are rate p xs i e l)) at h

  few : length d.words < 4096 + tb
  few = (counted Isdb.half Isdb.labels Isdb.rule tb (steps rate xs) fresh least most (omega arith) n).few

  pub all_bits : at.count + at.held ≡ n
  all_bits =
      let f = followed in
      let c = counted Isdb.half Isdb.labels Isdb.rule tb (steps rate xs) fresh least most (omega arith) n in
      let a = f.held_is in
      let b = f.count_is in
      let w = c.words_left in
      let o = c.bits_out in
      omega arith

  pub bits_out : take at.count out ++ laid (traced (take at.held dec) (best_state low)) (drop at.count out) ≡ laid (decoded_bits rate xs tb) out₀
  unfolding decoded_bits
  bits_out =
      let f = followed in
      let words : take at.held dec ≡ d.words = ap (λ (x : Decoder). x.words) (holding_is tb d dec₀ out₀ pm at.held at.count dec out f) in
      let values : low ≡ renormalised 32 d.values = lowered ∙ ap (λ (y : List Float). renormalised 32 y) f.values in
      rw (words, values, f.count_is, f.bits) (laid_after d.bits (traced d.words (best_state (renormalised 32 d.values))) out₀)

  pub words_out : laid (replicate (4096 + tb) 0) (laid (replicate at.held 0) dec) ≡ laid (replicate (4096 + tb) 0) dec₀
  words_out =
      let f = followed in
      let a = f.held_is in
      let l : length (replicate {A = ℕ} at.held 0) ≡ at.held = length-replicate at.held 0 in
      let m : length (replicate {A = ℕ} (4096 + tb) 0) ≡ 4096 + tb = length-replicate (4096 + tb) 0 in
      laid_laid (replicate at.held 0) (replicate (4096 + tb) 0) dec (let z = few in omega arith)
      ∙ ap (λ (y : List ℕ). laid (replicate (4096 + tb) 0) y) f.words ∙ cleared tb d.words d.bits dec₀ few
