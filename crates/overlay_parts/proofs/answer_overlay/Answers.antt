-- `overlay_parts::answer_overlay` meets its contract.
use mathlib.Core.Path.{refl, sym, ap, ◌∙◌}
use mathlib.Core.Bool.{not}
use borrow.Author.Tests.{eq-eqb, ne_eqb, not-false}
use Rattle.short_code.specs.Codes.{good_code}
use Rattle.overlay_parts.proofs.answer_overlay.Goals as goal

pub returns-then-not-good : goal.returns-then-not-good
returns-then-not-good c = rw (ap not (sym c.good.ensures) ∙ c.if-not-good.true-raw) refl

pub beyond-requires : goal.beyond-requires
beyond-requires c = not-false (good_code c.args.code) (ap not (sym c.good.ensures) ∙ c.if-not-good.false-raw)

pub returns-then-beyond : goal.returns-then-beyond
returns-then-beyond c =
    let g = c in
    rw (ap not (sym g.good.ensures) ∙ g.if-not-good.false-raw, sym c.beyond.ensures ∙ c.if-beyond.true) refl

pub beyond-requires-2 : goal.beyond-requires-2
beyond-requires-2 c = let g = c in not-false (good_code g.args.code) (ap not (sym g.good.ensures) ∙ g.if-not-good.false-raw)

pub returns-then-beyond-2 : goal.returns-then-beyond-2
returns-then-beyond-2 c =
    let b = c in
    let g = b in
    rw (ap not (sym g.good.ensures) ∙ g.if-not-good.false-raw, sym b.beyond.ensures ∙ b.if-beyond.false, sym c.beyond-2.ensures ∙ c.if-beyond-2.true) refl

pub returns-then-lent : goal.returns-then-lent
returns-then-lent c =
    let d = c in
    let b = d in
    let g = b in
    let a = g.args in
    rw (
      ap not (sym g.good.ensures) ∙ g.if-not-good.false-raw,
      sym b.beyond.ensures ∙ b.if-beyond.false,
      sym d.beyond-2.ensures ∙ d.if-beyond-2.false,
      ne_eqb a.lent.first a.lent.second c.if-lent.true,
    ) refl

pub returns-then-short : goal.returns-then-short
returns-then-short c =
    let l = c in
    let d = l in
    let b = d in
    let g = b in
    let a = g.args in
    rw (
      ap not (sym g.good.ensures) ∙ g.if-not-good.false-raw,
      sym b.beyond.ensures ∙ b.if-beyond.false,
      sym d.beyond-2.ensures ∙ d.if-beyond-2.false,
      eq-eqb a.lent.first a.lent.second l.if-lent.false,
      sym c.short.ensures ∙ c.if-short.true,
    ) refl

pub returns : goal.returns
returns c =
    let l = c in
    let d = l in
    let b = d in
    let g = b in
    let a = g.args in
    rw (
      ap not (sym g.good.ensures) ∙ g.if-not-good.false-raw,
      sym b.beyond.ensures ∙ b.if-beyond.false,
      sym d.beyond-2.ensures ∙ d.if-beyond-2.false,
      eq-eqb a.lent.first a.lent.second l.if-lent.false,
      sym c.short.ensures ∙ c.if-short.false,
    ) refl
