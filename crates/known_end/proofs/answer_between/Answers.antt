-- `known_end::answer_between` meets its contract.
use mathlib.Core.Path.{refl, sym, ◌∙◌}
use Prim.Native.Nat.{◌+◌, ◌/◌, ◌%◌}
use borrow.Author.Rules.{rules}
use borrow.Author.Tests.{lt-ltb, le-ltb, eq-eqb, ne_eqb}
use lib.ListN.{length}
use Rattle.trellis.specs.Run.{depth}
use Rattle.trellis.proofs.RunLaws.{depth_range}
use Rattle.known_end.proofs.answer_between.Goals as goal

pub returns-then-traceback-gt-TRACEBACK_LIMIT : goal.returns-then-traceback-gt-TRACEBACK_LIMIT
returns-then-traceback-gt-TRACEBACK_LIMIT c = rw (lt-ltb 1024 c.args.traceback c.if-traceback-gt-TRACEBACK_LIMIT.true) refl

pub returns-then-pairs-ne0 : goal.returns-then-pairs-ne0
returns-then-pairs-ne0 c =
    let a = c.args in
    rw (le-ltb 1024 a.traceback c.if-traceback-gt-TRACEBACK_LIMIT.false, ne_eqb (length a.pairs.now % 2) 0 c.if-pairs-ne0.true) refl

pub returns-then-some_beyond : goal.returns-then-some_beyond
returns-then-some_beyond c =
    let a = c.args in
    rw (le-ltb 1024 a.traceback c.if-traceback-gt-TRACEBACK_LIMIT.false, eq-eqb (length a.pairs.now % 2) 0 c.if-pairs-ne0.false, sym c.some_beyond.ensures ∙ c.if-some_beyond.true) refl

pub returns-then-out-pairs : goal.returns-then-out-pairs
returns-then-out-pairs c =
    let a = c.args in
    rw (
      le-ltb 1024 a.traceback c.if-traceback-gt-TRACEBACK_LIMIT.false,
      eq-eqb (length a.pairs.now % 2) 0 c.if-pairs-ne0.false,
      sym c.some_beyond.ensures ∙ c.if-some_beyond.false,
      lt-ltb a.out (length a.pairs.now / 2) c.if-out-pairs.true,
    ) refl

pub overflow_add-depth_of : goal.overflow_add-depth_of
overflow_add-depth_of c =
    let d = c.depth_of.ensures in
    let s = depth_range c.args.traceback c.if-traceback-gt-TRACEBACK_LIMIT.false in
    search rules

pub returns-then-decisions-depth_of : goal.returns-then-decisions-depth_of
returns-then-decisions-depth_of c =
    let some-beyond = c in
    let if1 = some-beyond in
    let at = if1 in
    let a = at.args in
    let d = c.depth_of.ensures in
    rw (
      le-ltb 1024 a.traceback if1.if-traceback-gt-TRACEBACK_LIMIT.false,
      eq-eqb (length a.pairs.now % 2) 0 some-beyond.if-pairs-ne0.false,
      sym some-beyond.some_beyond.ensures ∙ c.if-some_beyond.false,
      le-ltb a.out (length a.pairs.now / 2) c.if-out-pairs.false,
      lt-ltb a.decisions (4096 + depth a.traceback) (rw d at c.if-decisions-depth_of.true),
    ) refl

pub returns : goal.returns
returns c =
    let some-beyond = c in
    let if1 = some-beyond in
    let at = if1 in
    let a = at.args in
    let d = c.depth_of.ensures in
    rw (
      le-ltb 1024 a.traceback if1.if-traceback-gt-TRACEBACK_LIMIT.false,
      eq-eqb (length a.pairs.now % 2) 0 some-beyond.if-pairs-ne0.false,
      sym some-beyond.some_beyond.ensures ∙ c.if-some_beyond.false,
      le-ltb a.out (length a.pairs.now / 2) c.if-out-pairs.false,
      le-ltb a.decisions (4096 + depth a.traceback) (rw d at c.if-decisions-depth_of.false),
    ) refl
