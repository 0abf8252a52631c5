-- `answer_lent` meets its contract.
use mathlib.Core.Path.{◌≡◌, refl, sym, ◌∙◌, ap}
use mathlib.Core.Bool.{true, false}
use Prim.Native.Nat.{ℕ, ◌+◌}
use lib.ListN.{take}
use borrow.Author.Rules.{rules}
use borrow.Author.Tests.{lt-ltb, le-ltb, le-leb, lt-leb, eq-eqb, ne_eqb, not-false}
use Rattle.viterbi_rows.specs.Values.{some_beyond, path_limit}
use Rattle.short_code.specs.Codes.{good_code, states_of}
use Rattle.short_code.specs.CodeLaws.{states_are, good_length_lem}
use Rattle.short_rows.proofs.answer_lent.Goals as goal

pub returns-then-traceback-eq0 : goal.returns-then-traceback-eq0
returns-then-traceback-eq0 c = rw (eq-eqb c.args.traceback 0 c.if-traceback-eq0.true) refl

pub returns-then-traceback-gt-TRACEBACK_LIMIT : goal.returns-then-traceback-gt-TRACEBACK_LIMIT
returns-then-traceback-gt-TRACEBACK_LIMIT c =
    let a = c.args in
    rw (ne_eqb a.traceback 0 (search rules), lt-ltb 1024 a.traceback c.if-traceback-gt-TRACEBACK_LIMIT.true) refl

pub returns-then-bad : goal.returns-then-bad
returns-then-bad c =
    let a = c.args in
    rw (ne_eqb a.traceback 0 (search rules), le-ltb 1024 a.traceback (search rules), sym c.bad.ensures ∙ c.if-bad.true) refl

pub returns-then-held-traceback : goal.returns-then-held-traceback
returns-then-held-traceback c =
    let a = c.args in
    rw (
      ne_eqb a.traceback 0 (search rules),
      le-ltb 1024 a.traceback (search rules),
      sym c.bad.ensures ∙ c.if-bad.false,
      le-leb (4096 + a.traceback) a.held (search rules),
    ) refl

pub half-requires : goal.half-requires
half-requires c =
    let code = c.args.code in
    good_length_lem code (not-false (good_code code) (sym c.bad.ensures ∙ c.if-bad.false))

pub returns-then-first_beyond : goal.returns-then-first_beyond
returns-then-first_beyond c =
    let if3 = c in
    let start = if3 in
    let a = start.args in
    let half = c.half in
    let all = states_are a.code half.result half.ensures.2 in
    let beyond : some_beyond path_limit (take (states_of a.code) a.pm.now) ≡ true =
    sym (ap (λ (k : ℕ). some_beyond path_limit (take k a.pm.now)) all) ∙ sym c.first_beyond.ensures ∙ c.if-first_beyond.true in
    rw (
      ne_eqb a.traceback 0 (search rules),
      le-ltb 1024 a.traceback (search rules),
      sym if3.bad.ensures ∙ if3.if-bad.false,
      lt-leb (4096 + a.traceback) a.held (search rules),
      beyond,
    ) refl

pub returns : goal.returns
returns c =
    let if3 = c in
    let start = if3 in
    let a = start.args in
    let half = c.half in
    let all = states_are a.code half.result half.ensures.2 in
    let beyond : some_beyond path_limit (take (states_of a.code) a.pm.now) ≡ false =
    sym (ap (λ (k : ℕ). some_beyond path_limit (take k a.pm.now)) all) ∙ sym c.first_beyond.ensures ∙ c.if-first_beyond.false in
    rw (
      ne_eqb a.traceback 0 (search rules),
      le-ltb 1024 a.traceback (search rules),
      sym if3.bad.ensures ∙ if3.if-bad.false,
      lt-leb (4096 + a.traceback) a.held (search rules),
      beyond,
    ) refl
