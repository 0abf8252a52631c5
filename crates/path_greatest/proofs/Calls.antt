-- What a fresh decoder reads from one call of at most 4,096 steps and a flush, as crate `trellis` defines the calls.
use Rattle.std.specs.Prelude.{◌≡◌, Bool, ℤ, T, eqb, leb, get_or, Float}
use Rattle.std.proofs.Math.Path.{refl, ap}
use Rattle.std.proofs.Common.{sym, ◌∙◌, subst, mod-lt, arith, pow_pos, leb→le}
use Rattle.std.proofs.Math.Bool.{true, false, cond}
use mathlib.Core.List.{List, [], ◌∷◌, ◌++◌, append_assoc, append-nil}
use Prim.Native.Nat.{ℕ, zero, suc, ◌+◌, ◌-◌, ◌*◌, ◌%◌, ◌≤◌, ◌<◌}
use Rattle.std.proofs.Math.Nat.{le_of_eq}
use Rattle.std.proofs.Math.ListN.{length, take, drop, length-append}
use Rattle.std.specs.Float.{nan, binary32}
use Rattle.std.specs.Float.Ieee.{of_bits}
use Rattle.trellis.specs.Lists.{bit, upto}
use Rattle.trellis.specs.Code.{Code, isdb, half, state_at, label}
use Rattle.trellis.specs.Isdb
use Rattle.trellis.specs.Step.{Step, pair, four, Tie, nexts, word, best, renormalised, back, input, traced}
use Rattle.trellis.specs.Run.{Decoder, start_at, start_unknown, block, settled, values_at, word_at, decoded, released, stepped, after, closed, pushed, flushed}
use Rattle.path_greatest.specs.Paths.{longest, Path, Best, Reading, Any, This, Quadruples}
use Rattle.trellis.specs.ListLaws.{length_upto, get_d_upto}
use Rattle.trellis.proofs.RunLaws.{label_under, renormalised_length, nexts_length}
use Rattle.path_greatest.proofs.Tracks.{Adds, times, Follows}
use Rattle.path_greatest.proofs.Decoded.{Did, Ended}
use Rattle.path_greatest.proofs.Integers.{parts_of_lem, quadruples, Pairs, signs, pairs}
use Rattle.path_greatest.specs.Starts.{Given, Unknown}
use Rattle.path_greatest.proofs.Starts.{best_given, best_unknown, best_between, the_reading}
use Rattle.path_greatest.specs.declared.Start.{Start}
use Rattle.path_greatest.specs.declared.Start.TheVariants as begin
use Rattle.path_greatest.specs.Fresh.{start_values, StartsIn}

-- ---- a call without a release
module _ (half : ℕ) (out : ℕ → ℕ → ℕ) (t : Tie) where
  unreleased : (tb : ℕ) (d : Decoder) → length d.words < block + tb → released half out t tb d ≡ d
  unfolding released
  unreleased tb d h = go (leb (block + tb) (length d.words)) (leb→le (block + tb) (length d.words))
    where
      go : (w : Bool) → (T w → block + tb ≤ length d.words) → cond w (record { values = d.values; words = drop block d.words; bits = d.bits ++ take block (decoded half out t d) }) d ≡ d
      go true g = absurd (omega (arith, g tt))
      go false g = refl

  one_more : (tb i : ℕ) (x : Step) (pm : List Float) (a b bs : List ℕ) → length a + suc (length b) < block + tb → stepped half out t tb i x (record { values = pm; words = a ++ b; bits = bs }) ≡ record { values = settled half out t i x (nexts half out t pm x); words = a ++ (b ++ (word half out t pm x ∷ [])); bits = bs }
  unfolding stepped
  one_more tb i x pm a b bs h =
      let w = word half out t pm x ∷ [] in
      let d : Decoder = record { values = settled half out t i x (nexts half out t pm x); words = (a ++ b) ++ w; bits = bs } in
      unreleased tb d (rw (length-append (a ++ b) w, length-append a b) (omega arith))
      ∙ ap (λ (ws : List ℕ). record { values = settled half out t i x (nexts half out t pm x); words = ws; bits = bs }) (append_assoc a b w)

  -- while fewer than 4,096 + traceback decisions are held none leaves: the words are those of all steps, oldest first
  pub after_held : (tb : ℕ) (steps : ℕ → Step) (d : Decoder) (n : ℕ) → length d.words + n < block + tb → after half out t tb steps d n ≡ record { values = values_at half out t steps d.values n; words = d.words ++ upto (word_at half out t steps d.values) n; bits = d.bits }
  unfolding after values_at upto
  after_held tb steps d zero h = ap (λ (ws : List ℕ). record { values = d.values; words = ws; bits = d.bits }) (sym (append-nil d.words))
  after_held tb steps d (suc n) h = rw (after_held tb steps d n (omega arith)) (one_more tb n (steps n) (values_at half out t steps d.values n) d.words (upto (word_at half out t steps d.values) n) d.bits (omega (arith, length_upto (word_at half out t steps d.values) n)))

-- ---- the path values of a call
module _ (half : ℕ) (out : ℕ → ℕ → ℕ) (t : Tie) where
  -- the step x is no known bit, so that the maximum is subtracted only after each 64th step
  abbrev pub Plain : Step → Type 0
  Plain x = (i : ℕ) (pm : List Float) → settled half out t i x pm ≡ times half (bit (eqb (i % 64) 63)) pm

  sixty : (w : Bool) (pm : List Float) → cond w (renormalised half pm) pm ≡ times half (bit w) pm
  unfolding times
  sixty true pm = refl
  sixty false pm = refl

  pub plain_four : (m : List Float) → Plain (four m)
  unfolding settled
  plain_four m i pm = sixty (eqb (i % 64) 63) pm

  pub plain_pair : (lx ly : Float) → Plain (pair lx ly)
  unfolding settled
  plain_pair lx ly i pm = sixty (eqb (i % 64) 63) pm

  times_length : (j : ℕ) (pm : List Float) → length (times half j pm) ≡ length pm
  unfolding times
  times_length zero pm = refl
  times_length (suc j) pm = renormalised_length half (times half j pm) ∙ times_length j pm

  module _ (steps : ℕ → Step) (n : ℕ) (plain : (k : ℕ) → k < n → Plain (steps k)) (pm : List Float) (long : 2 * half ≤ length pm) where
    one_step : (k : ℕ) → k < n → values_at half out t steps pm (suc k) ≡ times half (bit (eqb (k % 64) 63)) (nexts half out t (values_at half out t steps pm k) (steps k))
    unfolding values_at
    one_step k h = plain k h k (nexts half out t (values_at half out t steps pm k) (steps k))

    values_long : (k : ℕ) → k ≤ n → 2 * half ≤ length (values_at half out t steps pm k)
    unfolding values_at
    values_long zero h = long
    values_long (suc k) h = le_of_eq (sym (ap length (one_step k h) ∙ times_length (bit (eqb (k % 64) 63)) (nexts half out t (values_at half out t steps pm k) (steps k)) ∙ nexts_length half out t (values_at half out t steps pm k) (steps k)))

    pub follows : Follows half out t steps n (values_at half out t steps pm)
    follows = record {
      long = values_long;
      low = λ k. bit (eqb (k % 64) 63);
      moves = λ k h s l. ap (λ (x : List Float). get_or x s nan) (one_step k h);
    }

-- ---- what is held after a call, and what is read from it
module _ (half : ℕ) (out : ℕ → ℕ → ℕ) (t : Tie) (steps : ℕ → Step) (pm : List Float) (n : ℕ) where
  -- the words of all steps, the path values at the call's end, and the best state
  abbrev pub held_words : List ℕ
  held_words = upto (word_at half out t steps pm) n

  abbrev pub end_values : List Float
  end_values = renormalised half (values_at half out t steps pm n)

  abbrev pub end_state : ℕ
  end_state = best t end_values (2 * half - 1)

  traced_is : (e : ℕ) → traced half held_words e ≡ upto (input half held_words n e) n
  unfolding traced
  traced_is e = ap (λ (z : ℕ). upto (input half held_words z e) z) (length_upto (word_at half out t steps pm) n)

  module _ (plain : (k : ℕ) → k < n → Plain half out t (steps k)) (long : 2 * half ≤ length pm) where
    pub did : (e : ℕ) → Did half out t steps n (values_at half out t steps pm) held_words e (traced half held_words e)
    did e = record {
      follows = follows half out t steps n plain pm long;
      words = λ k h. get_d_upto (word_at half out t steps pm) 0 n k h;
      length_bits = ap length (traced_is e) ∙ length_upto (input half held_words n e) n;
      bits = λ k h. ap (λ (x : List ℕ). get_or x k 0) (traced_is e) ∙ get_d_upto (input half held_words n e) 0 n k h;
    }

    pub ended : Ended half t n (values_at half out t steps pm) end_state
    unfolding times
    ended = record {
      last = end_values;
      long = rw (renormalised_length half (values_at half out t steps pm n)) (values_long half out t steps n plain pm long n (omega arith));
      again = 1;
      same = λ s l. refl;
      is_best = refl;
    }

module _ (half : ℕ) (out : ℕ → ℕ → ℕ) (t : Tie) where
  -- the bits of one call of n steps and a flush, from the path values pm and no held decision
  abbrev pub read_bits : ℕ → (ℕ → Step) → List Float → ℕ → List ℕ
  read_bits tb steps pm n = (flushed half out t (pushed half out t tb steps (record { values = pm; words = []; bits = [] }) n)).bits

  pub read_traced : (tb : ℕ) → 0 < tb → (steps : ℕ → Step) (pm : List Float) (n : ℕ) → n ≤ longest → read_bits tb steps pm n ≡ traced half (held_words half out t steps pm n) (end_state half out t steps pm n)
  read_traced tb some steps pm n few = ap (λ (d : Decoder). (flushed half out t (closed half out t d)).bits) (after_held half out t tb steps (record { values = pm; words = []; bits = [] }) n (omega arith))

-- ---- the two starts
pub start_given : (half s : ℕ) → 0 < half → Given half (s % (2 * half)) (start_at (2 * half) s)
unfolding start_at
start_given half s h = record {
  state = mod-lt s (omega arith);
  count = le_of_eq (sym (length_upto (λ k. cond (eqb k (s % (2 * half))) (of_bits binary32 0) (of_bits binary32 0xc974_2400)) (2 * half)));
  values = λ k l. get_d_upto (λ k. cond (eqb k (s % (2 * half))) (of_bits binary32 0) (of_bits binary32 0xc974_2400)) nan (2 * half) k l;
}

pub start_unknown_lem : (half : ℕ) → Unknown half (start_unknown (2 * half))
unfolding start_unknown
start_unknown_lem half = record {
  count = le_of_eq (sym (length_upto (λ k. of_bits binary32 0) (2 * half)));
  values = λ k l. get_d_upto (λ k. of_bits binary32 0) nan (2 * half) k l;
}

-- ---- the theorems, over any trellis, either tie-break, any traceback
module _ (half : ℕ) (some : 0 < half) (out : ℕ → ℕ → ℕ) (labels : (u s : ℕ) → out u s < 4) (t : Tie) where
  -- steps that add whole numbers
  module _ (steps : ℕ → Step) (m : ℕ → ℕ → ℤ) (n : ℕ) (few : n ≤ longest) (plain : (k : ℕ) → k < n → Plain half out t (steps k)) (ads : (k : ℕ) → k < n → Adds (steps k) (λ c. parts_of_lem (m k c))) where
    -- traced from the best state, from a given start
    pub traced_given : (s : ℕ) → Best half out t (This (s % (2 * half))) Any m n (s % (2 * half)) (traced half (held_words half out t steps (start_at (2 * half) s) n) (end_state half out t steps (start_at (2 * half) s) n))
    unfolding values_at
    traced_given s =
        let pm = start_at (2 * half) s in
        let g = start_given half s some in
        let e = end_state half out t steps pm n in
        let ws = held_words half out t steps pm n in
        best_given half some out labels t steps m n few ads (values_at half out t steps pm) ws e (traced half ws e) (did half out t steps pm n plain g.count e) (s % (2 * half)) g (ended half out t steps pm n plain g.count)

    -- from any start
    pub traced_unknown : Reading half out t Any m n (traced half (held_words half out t steps (start_unknown (2 * half)) n) (end_state half out t steps (start_unknown (2 * half)) n))
    unfolding values_at
    traced_unknown =
        let pm = start_unknown (2 * half) in
        let g = start_unknown_lem half in
        let ws = held_words half out t steps pm n in
        let e = end_state half out t steps pm n in
        the_reading half out t Any m n (back half ws n e n) (traced half ws e) (best_unknown half some out labels t steps m n few ads (values_at half out t steps pm) ws e (traced half ws e) (did half out t steps pm n plain g.count e) g (ended half out t steps pm n plain g.count))

    -- traced from the state e, from a given start from which some path vs leads to e
    pub traced_between : (s e : ℕ) (vs : List ℕ) → e < 2 * half → Path half n (s % (2 * half)) vs → state_at half (s % (2 * half)) vs n ≡ e → Best half out t (This (s % (2 * half))) (This e) m n (s % (2 * half)) (traced half (held_words half out t steps (start_at (2 * half) s) n) e)
    unfolding values_at
    traced_between s e vs l p z =
        let pm = start_at (2 * half) s in
        let g = start_given half s some in
        let ws = held_words half out t steps pm n in
        best_between half some out labels t steps m n few ads (values_at half out t steps pm) ws e (traced half ws e) (did half out t steps pm n plain g.count e) (s % (2 * half)) vs g l p z

    -- what one call and a flush read
    pub steps_given : (tb : ℕ) → 0 < tb → (s : ℕ) → Best half out t (This (s % (2 * half))) Any m n (s % (2 * half)) (read_bits half out t tb steps (start_at (2 * half) s) n)
    steps_given tb h s = subst (λ (us : List ℕ). Best half out t (This (s % (2 * half))) Any m n (s % (2 * half)) us) (sym (read_traced half out t tb h steps (start_at (2 * half) s) n few)) (traced_given s)

    pub steps_unknown : (tb : ℕ) → 0 < tb → Reading half out t Any m n (read_bits half out t tb steps (start_unknown (2 * half)) n)
    steps_unknown tb h = subst (λ (us : List ℕ). Reading half out t Any m n us) (sym (read_traced half out t tb h steps (start_unknown (2 * half)) n few)) traced_unknown

  -- quadruples of whole numbers within the bound
  module _ (ms : ℕ → List Float) (m : ℕ → ℕ → ℤ) (n : ℕ) (few : n ≤ longest) (quads : Quadruples ms m n) (tb : ℕ) (some-tb : 0 < tb) where
    pub quadruples_given : (s : ℕ) → Reading half out t (This (s % (2 * half))) m n (read_bits half out t tb (λ k. four (ms k)) (start_at (2 * half) s) n)
    quadruples_given s = the_reading half out t (This (s % (2 * half))) m n (s % (2 * half)) (read_bits half out t tb (λ k. four (ms k)) (start_at (2 * half) s) n) (steps_given (λ k. four (ms k)) m n few (λ k h. plain_four half out t (ms k)) (quadruples ms m n quads) tb some-tb s)

    pub quadruples_unknown : Reading half out t Any m n (read_bits half out t tb (λ k. four (ms k)) (start_unknown (2 * half)) n)
    quadruples_unknown = steps_unknown (λ k. four (ms k)) m n few (λ k h. plain_four half out t (ms k)) (quadruples ms m n quads) tb some-tb

  -- pairs of whole numbers within half of it
  module _ (lx ly : ℕ → Float) (x y : ℕ → ℤ) (n : ℕ) (few : n ≤ longest) (two : Pairs lx ly x y n) (tb : ℕ) (some-tb : 0 < tb) where
    pub pairs_given : (s : ℕ) → Reading half out t (This (s % (2 * half))) (signs x y) n (read_bits half out t tb (λ k. pair (lx k) (ly k)) (start_at (2 * half) s) n)
    pairs_given s = the_reading half out t (This (s % (2 * half))) (signs x y) n (s % (2 * half)) (read_bits half out t tb (λ k. pair (lx k) (ly k)) (start_at (2 * half) s) n) (steps_given (λ k. pair (lx k) (ly k)) (signs x y) n few (λ k h. plain_pair half out t (lx k) (ly k)) (pairs lx ly x y n two) tb some-tb s)

    pub pairs_unknown : Reading half out t Any (signs x y) n (read_bits half out t tb (λ k. pair (lx k) (ly k)) (start_unknown (2 * half)) n)
    pairs_unknown = steps_unknown (λ k. pair (lx k) (ly k)) (signs x y) n few (λ k h. plain_pair half out t (lx k) (ly k)) (pairs lx ly x y n two) tb some-tb

-- ---- a code of any constraint length and generators, and the ISDB code
module _ (c : Code) (t : Tie) (tb : ℕ) (some-tb : 0 < tb) (ms : ℕ → List Float) (m : ℕ → ℕ → ℤ) (n : ℕ) (few : n ≤ longest) (quads : Quadruples ms m n) where
  -- At most 4,096 quadruples of whole numbers within 16, a fresh decoder at the state s (mod the number of states): the bits of one call and a
  -- flush are the inputs of the first path of greatest sum from that state.
  pub code_given : (s : ℕ) → Reading (half c) (label c) t (This (s % (2 * half c))) m n (read_bits (half c) (label c) t tb (λ k. four (ms k)) (start_at (2 * half c) s) n)
  code_given s = quadruples_given (half c) (pow_pos (c.constraint - 2)) (label c) (label_under c) t ms m n few quads tb some-tb s

  -- The same of an unknown start: the first path of greatest sum from any state.
  pub code_unknown : Reading (half c) (label c) t Any m n (read_bits (half c) (label c) t tb (λ k. four (ms k)) (start_unknown (2 * half c)) n)
  code_unknown = quadruples_unknown (half c) (pow_pos (c.constraint - 2)) (label c) (label_under c) t ms m n few quads tb some-tb

  -- Both, by what is known of the start.
  pub code_start : (start : Start) → Reading (half c) (label c) t (StartsIn (2 * half c) start) m n (read_bits (half c) (label c) t tb (λ k. four (ms k)) (start_values (2 * half c) start) n)
  code_start (begin.Given s) = code_given s
  code_start begin.Unknown = code_unknown

pub isdb_given : (tb : ℕ) → 0 < tb → (ms : ℕ → List Float) (m : ℕ → ℕ → ℤ) (n : ℕ) → n ≤ longest → Quadruples ms m n → (s : ℕ) → Reading Isdb.half Isdb.labels Isdb.rule (This (s % Isdb.states)) m n (read_bits Isdb.half Isdb.labels Isdb.rule tb (λ k. four (ms k)) (start_at Isdb.states s) n)
isdb_given tb h ms m n few quads = code_given isdb Isdb.rule tb h ms m n few quads

pub isdb_unknown : (tb : ℕ) → 0 < tb → (ms : ℕ → List Float) (m : ℕ → ℕ → ℤ) (n : ℕ) → n ≤ longest → Quadruples ms m n → Reading Isdb.half Isdb.labels Isdb.rule Any m n (read_bits Isdb.half Isdb.labels Isdb.rule tb (λ k. four (ms k)) (start_unknown Isdb.states) n)
isdb_unknown tb h ms m n few quads = code_unknown isdb Isdb.rule tb h ms m n few quads
