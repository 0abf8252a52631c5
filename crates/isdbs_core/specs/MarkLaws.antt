-- The marked slots of an accepted table are as many as its valid slots.
use Rattle.std.specs.Prelude.{◌≡◌, refl, Bool, true, false, cond, List, [], ◌∷◌, ◌++◌, ℕ, zero, suc, ◌+◌, ◌-◌, ◌≤◌, ◌<◌, Option, Some, None}
use Rattle.std.proofs.Common.{sym, ◌∙◌, ap, arith, lt-ltb, le-ltb}
use Rattle.isdbs_combination.specs.declared.Combination.{Combination}
use Rattle.isdbs_tables.specs.declared.Entry.{Entry}
use Rattle.isdbs_tables.specs.declared.Table as declared
use Rattle.isdbs_marks.specs.declared.SlotMark.{SlotMark}
use Rattle.isdbs_plan.specs.declared.Run.{Run}
use Rattle.trellis.specs.Lists.{upto}
use Rattle.isdbs_tables.specs.Tables.{entry_combination, slot_sum, unfilled, TableAccepted}
use Rattle.isdbs_marks.specs.Marks.{marked, mark_in, mark_at, mark, marks_of}
use Rattle.isdbs_plan.specs.RunsOf.{entry_runs, entry_symbols, runs_from, valid_in, valid_total}
use Rattle.isdbs_tables.proofs.TableLaws.{WholeUnits}
use Rattle.isdbs_plan.specs.RunLaws.{no_part}
use Rattle.isdbs_tables.proofs.TableLaws.{sum_fits, units_whole}
use Rattle.isdbs_core.specs.Symbols.{marked_before}
use Rattle.isdbs_core.specs.SymbolLaws.{marked_whole}
use Rattle.isdbs_combination.specs.Combinations.{frame_slots}

abbrev pub one : Option Combination → ℕ
one (Some c) = 1
one None = 0

-- how many of a list of slots are marked
unfoldable pub marks_in : List SlotMark → ℕ
marks_in [] = 0
marks_in (m ∷ ms) = one m.mark + marks_in ms

-- how many of the first n slots are, where f says each slot's mark
unfoldable count : (ℕ → Option Combination) → ℕ → ℕ
count f zero = 0
count f (suc n) = count f n + one (f n)

marks_more : (ms : List SlotMark) (m : SlotMark) → marks_in (ms ++ (m ∷ [])) ≡ marks_in ms + one m.mark
unfolding marks_in
marks_more [] m = omega arith
marks_more (x ∷ ms) m = let e = marks_more ms m in omega arith

marks_table : (f : ℕ → Option Combination) (n : ℕ) → marks_in (upto (λ s. mark (f s)) n) ≡ count f n
unfolding marks_in count upto
marks_table f zero = refl
marks_table f (suc n) = let e = marks_table f n in let m = marks_more (upto (λ s. mark (f s)) n) (mark (f n)) in omega arith

count_alike : (f g : ℕ → Option Combination) (n : ℕ) → ((k : ℕ) → k < n → f k ≡ g k) → count f n ≡ count g n
unfolding count
count_alike f g zero h = refl
count_alike f g (suc n) h = rw (count_alike f g n (λ k l. h k (omega arith)), h n (omega arith))

count_none : (f : ℕ → Option Combination) (n : ℕ) → ((k : ℕ) → f k ≡ None) → count f n ≡ 0
unfolding count
count_none f zero h = refl
count_none f (suc n) h = let e = count_none f n h in let z : one (f n) ≡ 0 = ap one (h n) in omega arith

count_split : (f g h : ℕ → Option Combination) (n m : ℕ) → ((k : ℕ) → k < n → f k ≡ g k) → ((k : ℕ) → f (n + k) ≡ h k) → count f (n + m) ≡ count g n + count h m
unfolding count
count_split f g h n zero a b = let e : n + 0 ≡ n = omega arith in let z = count_alike f g n a in rw e (omega arith)
count_split f g h n (suc m) a b =
    let e : n + suc m ≡ suc (n + m) = omega arith in
    let z = count_split f g h n m a b in
    let y : one (f (n + m)) ≡ one (h m) = ap one (b m) in
    rw e (omega arith)

count_marked : (c : Combination) (n : ℕ) → count (mark_in (Some c)) n ≡ marked_before c n
unfolding count marked_before
count_marked c zero = refl
count_marked c (suc n) = by (marked c n) (count (mark_in (Some c)) n) (marked_before c n) (count_marked c n)
  where
    by : (b : Bool) (x y : ℕ) → x ≡ y → x + one (cond b (Some c) None) ≡ cond b (suc y) y
    by true x y e = omega arith
    by false x y e = omega arith

entry_marked : (m : Option Combination) (n slot symbol : ℕ) (rs : List Run) (k : ℕ) → unfilled m n ≡ false → k ≡ valid_in rs → count (mark_in m) n + k ≡ valid_in (entry_runs m n slot symbol ++ rs)
unfolding valid_in
entry_marked (Some c) n slot symbol rs k w e =
    rw (count_marked c n, marked_whole c n (no_part c n w), e)
entry_marked None n slot symbol rs k w e = let z = count_none (mark_in None) n (λ k. refl) in omega arith

entries_marked : (es : List Entry) (m slot symbol : ℕ) → slot_sum es ≤ m → WholeUnits es → count (mark_at es) m ≡ valid_in (runs_from es slot symbol)
unfolding mark_at slot_sum runs_from valid_in
entries_marked [] m slot symbol h w = count_none (mark_at []) m (λ k. refl)
entries_marked (e ∷ es) m slot symbol h w =
    let n = e.slots in
    let parts : m ≡ n + (m - n) = omega arith in
    let rest = entries_marked es (m - n) (slot + n) (symbol + entry_symbols (entry_combination e) n) (omega arith) w.1 in
    let back : (k : ℕ) → n + k - n ≡ k = λ k. omega arith in
    ap (count (mark_at (e ∷ es))) parts
    ∙ count_split (mark_at (e ∷ es)) (mark_in (entry_combination e)) (mark_at es) n (m - n) (λ k l. rw (lt-ltb k n l)) (λ k. rw (le-ltb (n + k) n (omega arith), back k))
    ∙ entry_marked (entry_combination e) n slot symbol (runs_from es (slot + n) (symbol + entry_symbols (entry_combination e) n)) (count (mark_at es) (m - n)) w.0 rest

-- `slot_combinations` marks as many slots of an accepted table as `runs` counts valid ones
pub marks_counted : (t : declared.Table) → TableAccepted t → marks_in (marks_of t) ≡ valid_total t
marks_counted t a = marks_table (mark_at t.entries) frame_slots ∙ entries_marked t.entries frame_slots 0 0 (sum_fits t a) (units_whole t a)
