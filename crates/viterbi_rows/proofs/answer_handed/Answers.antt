-- `answer_handed` meets its contract.
use mathlib.Core.Path.{refl, sym, ◌∙◌}
use Prim.Native.Nat.{◌+◌}
use borrow.Author.Rules.{rules}
use borrow.Author.Tests.{lt-ltb, le-ltb, le-leb, lt-leb, eq-eqb, ne_eqb}
use Rattle.viterbi_rows.proofs.answer_handed.Goals as goal

pub returns-then-traceback-eq0 : goal.returns-then-traceback-eq0
returns-then-traceback-eq0 c = rw (eq-eqb c.args.traceback 0 c.if-traceback-eq0.true) refl

pub returns-then-traceback-gt-TRACEBACK_LIMIT : goal.returns-then-traceback-gt-TRACEBACK_LIMIT
returns-then-traceback-gt-TRACEBACK_LIMIT c =
    let a = c.args in
    rw (ne_eqb a.traceback 0 (search rules), lt-ltb 1024 a.traceback c.if-traceback-gt-TRACEBACK_LIMIT.true) refl

pub returns-then-held-traceback : goal.returns-then-held-traceback
returns-then-held-traceback c =
    let a = c.args in
    rw (
      ne_eqb a.traceback 0 (search rules),
      le-ltb 1024 a.traceback (search rules),
      le-leb (4096 + a.traceback) a.held (search rules),
    ) refl

pub returns-then-some_beyond : goal.returns-then-some_beyond
returns-then-some_beyond c =
    let a = c.args in
    rw (
      ne_eqb a.traceback 0 (search rules),
      le-ltb 1024 a.traceback (search rules),
      lt-leb (4096 + a.traceback) a.held (search rules),
      sym c.some_beyond.ensures ∙ c.if-some_beyond.true,
    ) refl

pub returns : goal.returns
returns c =
    let a = c.args in
    rw (
      ne_eqb a.traceback 0 (search rules),
      le-ltb 1024 a.traceback (search rules),
      lt-leb (4096 + a.traceback) a.held (search rules),
      sym c.some_beyond.ensures ∙ c.if-some_beyond.false,
    ) refl
