-- Laws of answers and of the rows of a call.
use Rattle.std.specs.Prelude.{◌≡◌, refl, ◌⊎◌, Bool, true, false, cond, not, ◌&&◌, ◌||◌, List, [], ◌∷◌, ◌++◌, ℕ, ◌<◌, T, eqb, length, get_or, Result, Ok, Err, is_ok}
use Rattle.std.proofs.Common.{sym, ◌∙◌, ap, inl, inr, ⊎_elim, true≢false, arith, eqb-true, ne_eqb}
use Rattle.std.proofs.lemmas.Bool.{eqb-false}
use types.Run.{OneOf, miss}
use Rattle.trellis.specs.Lists.{first_place}
use Rattle.refusal.specs.declared.Refusal.{Refusal}
use Rattle.refusal.specs.Rows.{answered, answer_of, Answer, Accepted, Table, Position, Traceback, State, Length, Symbols, Sample, Scale, Space, PartUnit, ReservedWord, Window, Code, NoLoad, Unmendable, number_of, accepted, Row, first_row, placed, Either, Said, says, from_top}
use Rattle.refusal.specs.RowLaws.{NoneHolds, answers, condition_of, lacking, refusals, refusing, whole_table, without}

by_number : (a : Answer) → get_or answers (number_of a) Accepted ≡ a
by_number Accepted = refl
by_number Table = refl
by_number Position = refl
by_number Traceback = refl
by_number State = refl
by_number Length = refl
by_number Symbols = refl
by_number Sample = refl
by_number Scale = refl
by_number Space = refl
by_number PartUnit = refl
by_number ReservedWord = refl
by_number Window = refl
by_number Code = refl
by_number NoLoad = refl
by_number Unmendable = refl

-- answers of one number are the same
pub same_number : (a b : Answer) → number_of a ≡ number_of b → a ≡ b
same_number a b e = sym (by_number a) ∙ ap (λ (n : ℕ). get_or answers n Accepted) e ∙ by_number b

pub err_refuses : {row : Refusal} → Err row ≡ Accepted → ⊥
err_refuses e = true≢false (sym (ap is_ok e))

-- only accepted has the number 0
pub zero_accepted : (a : Answer) → number_of a ≡ 0 → a ≡ Accepted
zero_accepted a e = same_number a Accepted e

-- an answer with a row's number is a refusal
pub numbered : (a : Answer) → 0 < number_of a → a ≡ Accepted → ⊥
numbered a h e = let z : number_of a ≡ 0 = ap number_of e in omega arith

pub told_by : (tag : Answer → ℕ) → tag Accepted ≡ 0 → (a : Answer) → OneOf refusals (tag a) → a ≡ Accepted → ⊥
told_by tag z a o e = miss refusals 0 tt (rw (ap tag e ∙ z) at o)

-- `accepted` and being `Accepted` are one
pub accepted_is : (a : Answer) → accepted a ≡ true → a ≡ Accepted
accepted_is a h = zero_accepted a (eqb-true (number_of a) 0 h)

pub refused_is : (a : Answer) → accepted a ≡ false → a ≡ Accepted → ⊥
refused_is a h e = eqb-false (number_of a) 0 h (ap number_of e)

pub is_refused : (a : Answer) → (a ≡ Accepted → ⊥) → accepted a ≡ false
is_refused a n = ne_eqb (number_of a) 0 (λ z. n (zero_accepted a z))

-- one or the other
pub decided : (a : Answer) → (a ≡ Accepted) ⊎ (a ≡ Accepted → ⊥)
decided a = by (accepted a) refl
  where
    by : (b : Bool) → accepted a ≡ b → (a ≡ Accepted) ⊎ (a ≡ Accepted → ⊥)
    by true h = inl (accepted_is a h)
    by false h = inr (refused_is a h)

pub done : {P Q : Type 0} → P → Either Accepted P Q
done p = ((λ e. p), (λ n. absurd (n refl)))

pub refused : {P Q : Type 0} (a : Answer) → (a ≡ Accepted → ⊥) → Q → Either a P Q
refused a n q = ((λ e. absurd (n e)), (λ m. q))

-- a result tells its answer, and what was made
pub answered_of : {A : Type 0} (a : Answer) (made : A) → answer_of (answered a made) ≡ a
answered_of (Ok _) made = refl
answered_of (Err row) made = refl

pub accepted_by : {A : Type 0} (a : Answer) (made r : A) → Ok r ≡ answered a made → (a ≡ Accepted) × (r ≡ made)
accepted_by (Ok _) made r e = (refl, cc)
accepted_by (Err row) made r e = absurd (true≢false (ap is_ok e))

pub refused_with : {A : Type 0} (a : Answer) (made : A) (row : Refusal) → Err row ≡ answered a made → Err row ≡ a
refused_with (Ok _) made row e = absurd (true≢false (sym (ap is_ok e)))
refused_with (Err other) made row e = cc

-- ---- what a call says
pub says_number : (a : Answer) (values : List ℕ) → (says a values).0 ≡ number_of a
says_number a values = by (accepted a) refl
  where
    by : (b : Bool) → accepted a ≡ b → ◌≡◌ {A = ℕ} (cond {A = Said} b (0, values) (number_of a, [])).0 (number_of a)
    by true h = sym (eqb-true (number_of a) 0 h)
    by false h = refl

-- with a value, it accepts
pub said_some : (a : Answer) (values : List ℕ) (n v : ℕ) (vs : List ℕ) → ◌≡◌ {A = Said} (n, v ∷ vs) (says a values) → (a ≡ Accepted) × (n ≡ 0) × (values ≡ v ∷ vs)
said_some a values n v vs = by (accepted a) refl
  where
    by : (b : Bool) → accepted a ≡ b → ◌≡◌ {A = Said} (n, v ∷ vs) (cond {A = Said} b (0, values) (number_of a, [])) → (a ≡ Accepted) × (n ≡ 0) × (values ≡ v ∷ vs)
    by true h e = (accepted_is a h, ap (λ (s : Said). s.0) e, sym (ap (λ (s : Said). s.1) e))
    by false h e = let z = ap (λ (s : Said). length s.1) e in absurd (omega arith)

-- without one, where there would be one, it refuses
pub said_none : (a : Answer) (v : ℕ) (vs : List ℕ) (n : ℕ) → ◌≡◌ {A = Said} (n, []) (says a (v ∷ vs)) → (n ≡ number_of a) × (a ≡ Accepted → ⊥)
said_none a v vs n = by (accepted a) refl
  where
    by : (b : Bool) → accepted a ≡ b → ◌≡◌ {A = Said} (n, []) (cond {A = Said} b (0, v ∷ vs) (number_of a, [])) → (n ≡ number_of a) × (a ≡ Accepted → ⊥)
    by true h e = let z = ap (λ (s : Said). length s.1) e in absurd (omega arith)
    by false h e = (ap (λ (s : Said). s.0) e, refused_is a h)

-- two conditions of one row
pub neither : (a b : Bool) → (a || b) ≡ false → (a ≡ false) × (b ≡ false)
neither false b e = (refl, e)
neither true b e = (e, absurd (let z : ◌≡◌ {A = ℕ} 0 1 = cc in omega arith))

-- one of two tests fails
pub either_fails : (a b : Bool) → (not a || not b) ≡ not (a && b)
either_fails true b = refl
either_fails false b = refl

pub neither_holds : (a b : Bool) → a ≡ false → b ≡ false → (a || b) ≡ false
neither_holds a b e f = rw (e, f)

first_refuses : (b c : Bool) → T (cond b false c) → (b ≡ false) × T c
first_refuses true c t = absurd t
first_refuses false c t = (refl, t)

unless : (a : Answer) (b : Bool) (below : Answer) → accepted a ≡ false → cond b a below ≡ Accepted → (b ≡ false) × (below ≡ Accepted)
unless a true below h e = absurd (refused_is a h e)
unless a false below h e = (refl, e)

-- accepted, so no row holds
pub none_holds : (rows : List Row) → T (refusing rows) → first_row rows ≡ Accepted → NoneHolds rows
none_holds [] r e = tt
none_holds (row ∷ rows) r e =
    let s = first_refuses (accepted row.0) (refusing rows) r in
    let u = unless row.0 row.1 (first_row rows) s.0 e in
    (u.0, none_holds rows s.1 u.1)

-- no row holds, so accepted
pub none_accepted : (rows : List Row) → NoneHolds rows → first_row rows ≡ Accepted
none_accepted [] h = refl
none_accepted (row ∷ rows) h = rw h.0 (none_accepted rows h.1)

either_false : (b x y : Bool) → x ≡ false → y ≡ false → cond b x y ≡ false
either_false true x y h k = h
either_false false x y h k = k

condition_false : (rows : List Row) → NoneHolds rows → (a : Answer) → condition_of a rows ≡ false
condition_false [] h a = refl
condition_false (row ∷ rows) h a = either_false (eqb (number_of a) (number_of row.0)) row.1 (condition_of a rows) h.0 (condition_false rows h.1 a)

-- accepted, so the row of a does not hold
pub passed : (rows : List Row) → T (refusing rows) → first_row rows ≡ Accepted → (a : Answer) → condition_of a rows ≡ false
passed rows r e a = condition_false rows (none_holds rows r e) a

-- ---- one row of a list, by its answer
-- so rows of which one holds refuse
pub holds : (rows : List Row) → T (refusing rows) → (a : Answer) → condition_of a rows ≡ true → first_row rows ≡ Accepted → ⊥
holds rows r a h e = true≢false (sym h ∙ passed rows r e a)

-- a row that does not hold decides nothing
pub fails : (a : Answer) (rows : List Row) → condition_of a rows ≡ false → first_row rows ≡ first_row (without a rows)
fails a [] h = refl
fails a (row ∷ rows) h = step (eqb (number_of a) (number_of row.0)) (fails a rows) h
  where
    step : (b : Bool) → (condition_of a rows ≡ false → first_row rows ≡ first_row (without a rows)) → cond b row.1 (condition_of a rows) ≡ false
        → first_row (row ∷ rows) ≡ first_row (cond b rows (row ∷ without a rows))
    step true f k = rw k refl
    step false f k = rw (f k) refl

-- do not answer it
pub not_answered : (rows : List Row) (a : Answer) → T (lacking a rows) → (a ≡ Accepted → ⊥) → first_row rows ≡ a → ⊥
not_answered [] a l n e = n (sym e)
not_answered (row ∷ rows) a l n e =
    let s = first_refuses (eqb (number_of a) (number_of row.0)) (lacking a rows) l in
    step row.1 (eqb-false (number_of a) (number_of row.0) s.0) (not_answered rows a s.1 n) e
  where
    step : (b : Bool) → (number_of a ≡ number_of row.0 → ⊥) → (first_row rows ≡ a → ⊥) → cond b row.0 (first_row rows) ≡ a → ⊥
    step true m f k = m (sym (ap number_of k))
    step false m f k = f k

-- a list of one row accepts or gives its answer
pub one_row : (a : Answer) (b : Bool) → (first_row ((a, b) ∷ []) ≡ Accepted) ⊎ (first_row ((a, b) ∷ []) ≡ a)
one_row a true = inr refl
one_row a false = inl refl

-- ---- rows put behind others
-- each of both lists refuses
pub refusing_both : (above below : List Row) → T (refusing above) → T (refusing below) → T (refusing (above ++ below))
refusing_both [] below r s = s
refusing_both (row ∷ rows) below r s = let f = first_refuses (accepted row.0) (refusing rows) r in rw f.0 (refusing_both rows below f.1 s)

-- where the first ones refuse, those below change nothing
pub refused_above : (above below : List Row) → (first_row above ≡ Accepted → ⊥) → first_row (above ++ below) ≡ first_row above
refused_above [] below n = absurd (n refl)
refused_above (row ∷ rows) below n = step row.1 row.0 (first_row (rows ++ below)) (first_row rows) (λ m. refused_above rows below m) n
  where
    step : (b : Bool) (a x y : Answer) → ((y ≡ Accepted → ⊥) → x ≡ y) → (cond b a y ≡ Accepted → ⊥) → cond b a x ≡ cond b a y
    step true a x y f m = refl
    step false a x y f m = f m

none_above : (above below : List Row) → NoneHolds above → first_row (above ++ below) ≡ first_row below
none_above [] below h = refl
none_above (row ∷ rows) below h = rw h.0 (none_above rows below h.1)

-- a row between them that does not hold changes nothing; those below one that holds change nothing
pub row_false : (above below : List Row) (a : Answer) → first_row (above ++ (a, false) ∷ below) ≡ first_row (above ++ below)
row_false [] below a = refl
row_false (row ∷ rows) below a = rw (row_false rows below a)

pub row_true : (above below : List Row) (a : Answer) → first_row (above ++ (a, true) ∷ below) ≡ first_row (above ++ (a, true) ∷ [])
row_true [] below a = refl
row_true (row ∷ rows) below a = rw (row_true rows below a)

-- nor does one that is put at its place
pub placed_false : (stands : Row → Bool) (a : Answer) (rows : List Row) → first_row (placed stands (a, false) rows) ≡ first_row rows
placed_false stands a [] = refl
placed_false stands a (row ∷ rows) = step (stands row) (placed_false stands a rows)
  where
    step : (b : Bool) → first_row (placed stands (a, false) rows) ≡ first_row rows → first_row (cond b (row ∷ placed stands (a, false) rows) ((a, false) ∷ row ∷ rows)) ≡ first_row (row ∷ rows)
    step true e = rw e
    step false e = refl

-- where they pass, those below decide
pub passed_above : (above below : List Row) → T (refusing above) → first_row above ≡ Accepted → first_row (above ++ below) ≡ first_row below
passed_above above below r e = none_above above below (none_holds above r e)

-- a last row whose answer is not given changes nothing
pub last_silent : (above : List Row) (a : Answer) (b : Bool) → T (refusing above) → (first_row (above ++ (a, b) ∷ []) ≡ a → ⊥) → first_row (above ++ (a, b) ∷ []) ≡ first_row above
last_silent above a b r n = by (decided (first_row above))
  where
    by : (first_row above ≡ Accepted) ⊎ (first_row above ≡ Accepted → ⊥) → first_row (above ++ (a, b) ∷ []) ≡ first_row above
    by (inl p) =
        let e = passed_above above ((a, b) ∷ []) r p in
        ⊎_elim (λ yes. e ∙ yes ∙ sym p) (λ h. absurd (n (e ∙ h))) (one_row a b)
    by (inr p) = refused_above above ((a, b) ∷ []) p

-- the same of a call that answers as the first ones do, and of one that goes on where they pass
pub refused_by : (above below : List Row) (a : Answer) → a ≡ first_row above → (a ≡ Accepted → ⊥) → a ≡ first_row (above ++ below)
refused_by above below a e n = e ∙ sym (refused_above above below (λ y. n (e ∙ y)))

pub turned_back : (above below : List Row) (row : Refusal) → Err row ≡ first_row above → Err row ≡ first_row (above ++ below)
turned_back above below row e = refused_by above below (Err row) e err_refuses

pub passed_by : (above below : List Row) {a : Answer} → T (refusing above) → Accepted ≡ first_row above → a ≡ first_row below → a ≡ first_row (above ++ below)
passed_by above below r e b = b ∙ sym (passed_above above below r (sym e))

-- accepted by all, so by each part
pub both_passed : (above below : List Row) → T (refusing above) → first_row (above ++ below) ≡ Accepted → (first_row above ≡ Accepted) × (first_row below ≡ Accepted)
both_passed [] below r e = (refl, e)
both_passed (row ∷ rows) below r e =
    let s = first_refuses (accepted row.0) (refusing rows) r in
    let u = unless row.0 row.1 (first_row (rows ++ below)) s.0 e in
    let p = both_passed rows below s.1 u.1 in
    (rw u.0 p.0, p.1)

-- so those that end with one that holds refuse
pub last_refuses : (above : List Row) (a : Answer) → T (refusing above) → (a ≡ Accepted → ⊥) → first_row (above ++ (a, true) ∷ []) ≡ Accepted → ⊥
last_refuses above a r n e = n (both_passed above ((a, true) ∷ []) r e).1

pub whole_from_top : (table part reserved position traceback code state window long symbols sample scale space load mend : Bool) → T (from_top (whole_table table part reserved position traceback code state window long symbols sample scale space load mend))
unfolding first_place
whole_from_top _ _ _ _ _ _ _ _ _ _ _ _ _ _ _ = tt
