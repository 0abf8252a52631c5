-- `points_answer` meets its contract.
use Rattle.isdbs_frame.specs.Frame.{main_symbols}
use borrow.Author.Tests.{lt-ltb, le-ltb}
use mathlib.Core.Bool.{true, false}
use Rattle.isdbs_rows.specs.DecodeRows.{part_limit, some_of_beyond}
use mathlib.Core.Path.{◌≡◌, sym, ◌∙◌}
use Rattle.isdbs_rows.proofs.points_answer.Goals as goal

pub returns-then-re-lt-MAIN_SYMBOLS : goal.returns-then-re-lt-MAIN_SYMBOLS
returns-then-re-lt-MAIN_SYMBOLS c = rw (lt-ltb _ _ c.if-re-lt-MAIN_SYMBOLS.true)

pub returns-then-im-lt-MAIN_SYMBOLS : goal.returns-then-im-lt-MAIN_SYMBOLS
returns-then-im-lt-MAIN_SYMBOLS c = rw (le-ltb _ _ c.if-re-lt-MAIN_SYMBOLS.false, lt-ltb _ _ c.if-im-lt-MAIN_SYMBOLS.true)

pub returns-then-some_beyond : goal.returns-then-some_beyond
returns-then-some_beyond c =
    let st = c in
    let re : some_of_beyond part_limit st.args.re.now main_symbols ≡ true = sym c.some_beyond.ensures ∙ c.if-some_beyond.true in
    rw (le-ltb _ _ c.if-re-lt-MAIN_SYMBOLS.false, le-ltb _ _ c.if-im-lt-MAIN_SYMBOLS.false, re)

pub returns-then-some_beyond-2 : goal.returns-then-some_beyond-2
returns-then-some_beyond-2 c =
    let if2 = c in
    let st = if2 in
    let re : some_of_beyond part_limit st.args.re.now main_symbols ≡ false = sym c.some_beyond.ensures ∙ c.if-some_beyond.false in
    let im : some_of_beyond part_limit st.args.im.now main_symbols ≡ true = sym c.some_beyond-2.ensures ∙ c.if-some_beyond-2.true in
    rw (le-ltb _ _ if2.if-re-lt-MAIN_SYMBOLS.false, le-ltb _ _ if2.if-im-lt-MAIN_SYMBOLS.false, re, im)

pub returns : goal.returns
returns c =
    let if2 = c in
    let st = if2 in
    let re : some_of_beyond part_limit st.args.re.now main_symbols ≡ false = sym c.some_beyond.ensures ∙ c.if-some_beyond.false in
    let im : some_of_beyond part_limit st.args.im.now main_symbols ≡ false = sym c.some_beyond-2.ensures ∙ c.if-some_beyond-2.false in
    rw (le-ltb _ _ if2.if-re-lt-MAIN_SYMBOLS.false, le-ltb _ _ if2.if-im-lt-MAIN_SYMBOLS.false, re, im)
