-- `keep_load` meets its contract.
use mathlib.Core.Path.{refl, subst}
use Rattle.wanted_match.specs.Alike.{Matches}
use Rattle.wanted_load.proofs.keep_load.Goals as goal

pub returns-then-matches : goal.returns-then-matches
returns-then-matches c =
    let if1 = c in
    let matches = if1 in
    let a = matches in
    (subst (Matches a.args.f.plan.table a.args.f.mapping a.args.f.first a.args.re.now a.args.im.now a.args.load.now) if1.if-matches.true matches.matches.ensures, c.put.ensures)

pub returns-else-matches : goal.returns-else-matches
returns-else-matches c =
    let matches = c in
    let a = matches in
    (subst (Matches a.args.f.plan.table a.args.f.mapping a.args.f.first a.args.re.now a.args.im.now a.args.load.now) c.if-matches.false matches.matches.ensures, refl)
