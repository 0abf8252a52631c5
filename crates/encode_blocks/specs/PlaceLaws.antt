-- The block behind a place, and the place after it.
use Rattle.std.specs.Prelude.{◌≡◌, refl, Bool, true, false, cond, List, ℕ, ◌+◌, ◌-◌, ◌*◌, ◌/◌, ◌%◌, ◌<◌, ◌≤◌, eqb, ltb, length, get_or, take, Float}
use Rattle.std.proofs.Common.{sym, ◌∙◌, ap, subst, add_assoc, add-zero, arith, ltb-true, ltb-false, eqb-true}
use Rattle.std.proofs.lemmas.Bool.{eqb-false}
use Rattle.trellis.specs.Lists.{upto, laid}
use Rattle.trellis.specs.Code.{state_at}
use Rattle.trellis.specs.LaidLaws.{upto_cong}
use Rattle.isdbs_combination.specs.declared.Combination.{Combination}
use Rattle.isdbs_combination.specs.declared.Combination.TheVariants.{Bpsk1_2, Qpsk1_2, Qpsk2_3, Qpsk3_4, Qpsk5_6, Qpsk7_8, Tc8psk2_3}
use Rattle.isdbs_combination.specs.Combinations.{modulation_of, slot_steps}
use Rattle.isdbs_plan.specs.declared.Run.{Run}
use Rattle.isdbs_plan.specs.RunsOf.{steps_of, no_run}
use Rattle.isdbs_points.specs.declared.Cplx.{Cplx}
use Rattle.isdbs_points.specs.declared.Mapping.{Mapping}
use Rattle.isdbs_points.specs.Layout.{sent_order, segment_of, steps_per_period}
use Rattle.isdbs_points.specs.Pieces.{piece_symbols}
use Rattle.encode_run.specs.Encoded.{PieceEncoded, piece_point}
use Rattle.encode_main.specs.Encoding.{inputs_of, point_of, Tiled}
use Rattle.encode_main.specs.RunLaws.{RunAt, run_in, symbols_at, steps_at, bits_at}
use Rattle.encode_blocks.specs.BlockLaws.{bits_by, Periods, symbols_add, symbols_more, state_part, point_of_part}
use Rattle.encode_blocks.specs.Blocks.{block_for, block_steps, place_after, Here, step_at, BlockMade}
use Rattle.encode_blocks.specs.declared.Place.{Place}

-- ---- what a combination's block is
pub record BlockFacts (c : Combination) : Type 0 where
  pub some : 0 < (block_for c).steps
  pub eights : (block_for c).steps % 8 ≡ 0
  pub whole : Periods c (block_for c).steps
  pub fits : piece_symbols c (block_for c).steps ≤ 2048
  pub points : 0 < piece_symbols c (block_for c).steps
  pub few : (block_for c).steps ≤ 4096
  pub period : 0 < (block_for c).period
  pub symbols_are : (n : ℕ) → piece_symbols c n ≡ n / (block_for c).period * (block_for c).symbols
  pub bits_are : (n : ℕ) → bits_by (modulation_of c) n ≡ (block_for c).bits * n
  pub bits_few : (n : ℕ) → bits_by (modulation_of c) n ≤ 2 * n
  pub bits_symbols : (n : ℕ) → Periods c n → bits_by (modulation_of c) n ≤ 2 * piece_symbols c n
  pub bits_eight : (n : ℕ) → n % 8 ≡ 0 → bits_by (modulation_of c) n % 8 ≡ 0
  pub bits_add : (q n : ℕ) → bits_by (modulation_of c) (q + n) ≡ bits_by (modulation_of c) q + bits_by (modulation_of c) n
  pub bits_none : bits_by (modulation_of c) 0 ≡ 0
  pub bits_all : (v : ℕ) → bits_by (modulation_of c) (slot_steps c * v) ≡ 1624 * v
  pub four : (v : ℕ) → slot_steps c * v % 4 ≡ 0
  pub less : (q n : ℕ) → Periods c q → Periods c n → Periods c (q - n)
  pub more : (q n : ℕ) → Periods c q → Periods c n → Periods c (q + n)
  pub none : Periods c 0
  pub no_symbols : piece_symbols c 0 ≡ 0

pub facts : (c : Combination) → BlockFacts c
unfolding sent_order
facts Bpsk1_2 = record { some = omega arith; eights = refl; whole = refl; fits = omega arith; points = omega arith; few = omega arith; period = omega arith; symbols_are = λ n. omega arith; bits_are = λ n. omega arith; bits_few = λ n. omega arith; bits_symbols = λ n e. omega arith; bits_eight = λ n e. omega arith; bits_add = λ q n. omega arith; bits_none = refl; bits_all = λ v. omega arith; four = λ v. omega arith; less = λ q n e f. omega arith; more = λ q n e f. omega arith; none = refl; no_symbols = refl }
facts Qpsk1_2 = record { some = omega arith; eights = refl; whole = refl; fits = omega arith; points = omega arith; few = omega arith; period = omega arith; symbols_are = λ n. omega arith; bits_are = λ n. omega arith; bits_few = λ n. omega arith; bits_symbols = λ n e. omega arith; bits_eight = λ n e. omega arith; bits_add = λ q n. omega arith; bits_none = refl; bits_all = λ v. omega arith; four = λ v. omega arith; less = λ q n e f. omega arith; more = λ q n e f. omega arith; none = refl; no_symbols = refl }
facts Qpsk2_3 = record { some = omega arith; eights = refl; whole = refl; fits = omega arith; points = omega arith; few = omega arith; period = omega arith; symbols_are = λ n. omega arith; bits_are = λ n. omega arith; bits_few = λ n. omega arith; bits_symbols = λ n e. omega arith; bits_eight = λ n e. omega arith; bits_add = λ q n. omega arith; bits_none = refl; bits_all = λ v. omega arith; four = λ v. omega arith; less = λ q n e f. omega arith; more = λ q n e f. omega arith; none = refl; no_symbols = refl }
facts Qpsk3_4 = record { some = omega arith; eights = refl; whole = refl; fits = omega arith; points = omega arith; few = omega arith; period = omega arith; symbols_are = λ n. omega arith; bits_are = λ n. omega arith; bits_few = λ n. omega arith; bits_symbols = λ n e. omega arith; bits_eight = λ n e. omega arith; bits_add = λ q n. omega arith; bits_none = refl; bits_all = λ v. omega arith; four = λ v. omega arith; less = λ q n e f. omega arith; more = λ q n e f. omega arith; none = refl; no_symbols = refl }
facts Qpsk5_6 = record { some = omega arith; eights = refl; whole = refl; fits = omega arith; points = omega arith; few = omega arith; period = omega arith; symbols_are = λ n. omega arith; bits_are = λ n. omega arith; bits_few = λ n. omega arith; bits_symbols = λ n e. omega arith; bits_eight = λ n e. omega arith; bits_add = λ q n. omega arith; bits_none = refl; bits_all = λ v. omega arith; four = λ v. omega arith; less = λ q n e f. omega arith; more = λ q n e f. omega arith; none = refl; no_symbols = refl }
facts Qpsk7_8 = record { some = omega arith; eights = refl; whole = refl; fits = omega arith; points = omega arith; few = omega arith; period = omega arith; symbols_are = λ n. omega arith; bits_are = λ n. omega arith; bits_few = λ n. omega arith; bits_symbols = λ n e. omega arith; bits_eight = λ n e. omega arith; bits_add = λ q n. omega arith; bits_none = refl; bits_all = λ v. omega arith; four = λ v. omega arith; less = λ q n e f. omega arith; more = λ q n e f. omega arith; none = refl; no_symbols = refl }
facts Tc8psk2_3 = record { some = omega arith; eights = refl; whole = refl; fits = omega arith; points = omega arith; few = omega arith; period = omega arith; symbols_are = λ n. omega arith; bits_are = λ n. omega arith; bits_few = λ n. omega arith; bits_symbols = λ n e. omega arith; bits_eight = λ n e. omega arith; bits_add = λ q n. omega arith; bits_none = refl; bits_all = λ v. omega arith; four = λ v. omega arith; less = λ q n e f. omega arith; more = λ q n e f. omega arith; none = refl; no_symbols = refl }

-- ---- the steps of the next block
pub record Next (c : Combination) (total step n : ℕ) : Type 0 where
  pub inside : step + n ≤ total
  pub few : n ≤ 4096
  pub fours : n % 4 ≡ 0
  pub whole : Periods c n
  pub fits : piece_symbols c n ≤ 2048
  pub not_all : (n ≡ total - step → ⊥) → n ≡ (block_for c).steps

pub next : (c : Combination) (v step : ℕ) → step ≤ slot_steps c * v → step % 8 ≡ 0 → Periods c step → Periods c (slot_steps c * v)
    → Next c (slot_steps c * v) step (block_steps (slot_steps c * v - step) (block_for c).steps)
next c v step h eight w t = by (ltb (slot_steps c * v - step) (block_for c).steps) refl
  where
    f : BlockFacts c
    f = facts c

    by : (b : Bool) → ltb (slot_steps c * v - step) (block_for c).steps ≡ b → Next c (slot_steps c * v) step (cond b (slot_steps c * v - step) (block_for c).steps)
    by true e =
        let l = ltb-true (slot_steps c * v - step) (block_for c).steps e in
        let m = symbols_more c (slot_steps c * v - step) (block_for c).steps (omega arith) in
        let x = f.few in
        let y = f.fits in
        let z = f.four v in
        record { inside = omega arith; few = omega arith; fours = omega arith; whole = f.less (slot_steps c * v) step t w; fits = omega arith; not_all = λ n. absurd (n refl) }
    by false e =
        let l = ltb-false (slot_steps c * v - step) (block_for c).steps e in
        let z = f.eights in
        record { inside = omega arith; few = f.few; fours = omega arith; whole = f.whole; fits = f.fits; not_all = λ n. refl }

-- ---- the place after it
module _ (list : List Run) (count : ℕ) (at : Place) (el : length (take count list) ≡ count) (tl : Tiled (take count list)) (hr : Here list count at) (lt : at.run < count) where
  abbrev r : Run
  r = get_or list at.run no_run

  abbrev c : Combination
  c = r.combination

  abbrev left : ℕ
  left = steps_of r - at.step

  abbrev n : ℕ
  n = block_steps left (block_for c).steps

  pub a : RunAt (take count list) at.run r
  a = run_in list count at.run el tl lt

  f : BlockFacts c
  f = facts c

  pub x : Next c (steps_of r) at.step n
  x = next c r.valid_slots at.step hr.within hr.eights hr.whole a.size.periods

  -- the symbols and the bits of the block lie in the run
  symbols_inside : at.symbol + piece_symbols c n ≤ symbols_at (take count list) (at.run + 1)
  symbols_inside = omega (arith, hr.symbol_is, symbols_add c at.step n hr.whole, symbols_more c (at.step + n) (steps_of r) x.inside, a.size.symbols_are, a.symbols)

  pub symbol_few : at.symbol + piece_symbols c n ≤ 38976
  symbol_few = omega (arith, symbols_inside, a.fits)

  pub bit_few : at.bit + bits_by (modulation_of c) n ≤ 77952
  bit_few = omega (arith, symbol_few, hr.bit_few, f.bits_symbols n x.whole)

  module _ (state : ℕ) (small : state < 64) where
    abbrev bit : ℕ
    bit = at.bit + (block_for c).bits * n

    abbrev symbol : ℕ
    symbol = at.symbol + n / (block_for c).period * (block_for c).symbols

    abbrev behind : Place
    behind = record { run = at.run + 1; step = 0; state = state; bit = bit; symbol = symbol }

    abbrev further : Place
    further = record { run = at.run; step = at.step + n; state = state; bit = bit; symbol = symbol }

    few_bits : bit ≤ 2 * symbol
    few_bits = omega (arith, f.bits_are n, f.symbols_are n, hr.bit_few, f.bits_symbols n x.whole)

    here_behind : n ≡ left → Here list count behind
    here_behind z =
        let c' = (get_or list (at.run + 1) no_run).combination in
        let v = r.valid_slots in
        let all : at.step + n ≡ steps_of r = omega (arith, z, hr.within) in
        let bits : bits_by (modulation_of c) (at.step + n) ≡ 1624 * v = ap (λ (k : ℕ). bits_by (modulation_of c) k) all ∙ f.bits_all v in
        let symbols : piece_symbols c (at.step + n) ≡ r.symbol_end - r.symbol_start = ap (λ (k : ℕ). piece_symbols c k) all ∙ a.size.symbols_are in
        record {
          few = omega (arith, lt);
          small = small;
          eights = refl;
          whole = (facts c').none;
          within = omega arith;
          byte = omega (arith, hr.byte, hr.bit_is, f.bits_eight at.step hr.eights, f.bits_are n, f.bits_add at.step n, bits);
          bit_is = omega (arith, hr.bit_is, f.bits_are n, f.bits_add at.step n, bits, a.bits, (facts c').bits_none);
          bit_few = few_bits;
          symbol_is = omega (arith, hr.symbol_is, f.symbols_are n, symbols_add c at.step n hr.whole, symbols, a.symbols, (facts c').no_symbols);
          fits = omega (arith, f.symbols_are n, symbol_few);
          last = λ e. refl;
        }

    here_further : (n ≡ left → ⊥) → Here list count further
    here_further z =
        let k = x.not_all z in
        let e : n % 8 ≡ 0 = ap (λ (i : ℕ). i % 8) k ∙ f.eights in
        record {
          few = hr.few;
          small = small;
          eights = omega (arith, hr.eights, e);
          whole = f.more at.step n hr.whole x.whole;
          within = x.inside;
          byte = omega (arith, hr.byte, f.bits_eight n e, f.bits_are n);
          bit_is = omega (arith, hr.bit_is, f.bits_are n, f.bits_add at.step n);
          bit_few = few_bits;
          symbol_is = omega (arith, hr.symbol_is, f.symbols_are n, symbols_add c at.step n hr.whole);
          fits = omega (arith, f.symbols_are n, symbol_few);
          last = λ e. absurd (omega (arith, lt, e));
        }

    -- it is a place again, further on
    pub record After (p : Place) : Type 0 where
      pub here : Here list count p
      pub state_is : p.state ≡ state
      pub symbol_is : p.symbol ≡ at.symbol + piece_symbols c n
      pub step_is : step_at list count p ≡ step_at list count at + n
      pub on : at.run + at.symbol < p.run + p.symbol

    pub after : After (place_after at (block_for c) n left state)
    after = by (eqb n left) refl
      where
        by : (b : Bool) → eqb n left ≡ b → After (cond b behind further)
        by true e =
            let z = eqb-true n left e in
            record {
              here = here_behind z;
              state_is = refl;
              symbol_is = omega (arith, f.symbols_are n);
              step_is = omega (arith, a.steps, z, hr.within);
              on = omega arith;
            }
        by false e =
            let z = eqb-false n left e in
            let k = x.not_all z in
            let l : 0 < piece_symbols c n = subst (λ (i : ℕ). 0 < piece_symbols c i) (sym k) f.points in
            record {
              here = here_further z;
              state_is = refl;
              symbol_is = omega (arith, f.symbols_are n);
              step_is = omega arith;
              on = omega (arith, l, f.symbols_are n);
            }

    -- and the points of the block are those of their place in the frame
    pub made : (m : Mapping) (load : List ℕ) (xs₀ xs ys₀ ys : List Float) → PieceEncoded c m load at.bit n at.state state xs₀ xs ys₀ ys → (p : Place) → After p
        → (s : ℕ) → at.state ≡ state_at 32 s (inputs_of (take count list) load) (step_at list count at) → BlockMade list count m load s at p xs₀ xs ys₀ ys
    made m load xs₀ xs ys₀ ys t p w s reached =
        let rs = take count list in
        let g = segment_of r (steps_at rs at.run) (bits_at rs at.run) in
        let t' : PieceEncoded c m load (bits_at rs at.run + bits_by (modulation_of c) at.step) n at.state state xs₀ xs ys₀ ys = rw (← hr.bit_is) t in
        let size : piece_symbols c n ≡ p.symbol - at.symbol = omega (arith, w.symbol_is) in
        let point : (j : ℕ) → j < piece_symbols c n → piece_point c m load (bits_at rs at.run + bits_by (modulation_of c) at.step) n at.state j ≡ point_of rs m load s (at.symbol + j) =
        λ j l.
        let e : r.symbol_start + (piece_symbols c at.step + j) ≡ at.symbol + j = omega (arith, hr.symbol_is, a.starts) in
        point_of_part rs m load s tl g a.member at.step n hr.whole x.inside at.state reached j l ∙ ap (λ (k : ℕ). point_of rs m load s k) e in
        record {
          state_is = w.state_is ∙ state_part rs m load s tl g a.member at.step n hr.whole x.inside at.state reached state t'.state_is ∙ ap (λ (k : ℕ). state_at 32 s (inputs_of rs load) k) (sym w.step_is);
          re_is = t'.re_is ∙ ap (λ (l : List Float). laid l xs₀) (upto_cong _ (λ i. (point_of rs m load s (at.symbol + i)).re) (piece_symbols c n) (λ j l. ap (λ (z : Cplx). z.re) (point j l)) ∙ ap (upto (λ i. (point_of rs m load s (at.symbol + i)).re)) size);
          im_is = t'.im_is ∙ ap (λ (l : List Float). laid l ys₀) (upto_cong _ (λ i. (point_of rs m load s (at.symbol + i)).im) (piece_symbols c n) (λ j l. ap (λ (z : Cplx). z.im) (point j l)) ∙ ap (upto (λ i. (point_of rs m load s (at.symbol + i)).im)) size);
          in_run = omega (arith, w.symbol_is, symbols_inside);
        }
