-- `short_fec::fresh` meets its contract.
use mathlib.Core.Path.{refl, sym, ◌∙◌}
use borrow.Author.Tests.{lt-ltb, le-ltb}
use Rattle.short_fec.proofs.fresh.Goals as goal

pub returns-then-traceback-gt-TRACEBACK_LIMIT : goal.returns-then-traceback-gt-TRACEBACK_LIMIT
returns-then-traceback-gt-TRACEBACK_LIMIT c = record { answers = rw (lt-ltb 1024 c.args.traceback c.if-traceback-gt-TRACEBACK_LIMIT.true) refl; made = tt }

pub returns-then-bad : goal.returns-then-bad
returns-then-bad c = record { answers = rw (le-ltb 1024 c.args.traceback c.if-traceback-gt-TRACEBACK_LIMIT.false, sym c.bad.ensures ∙ c.if-bad.true) refl; made = tt }

pub returns : goal.returns
returns c = record {
  answers = rw (le-ltb 1024 c.args.traceback c.if-traceback-gt-TRACEBACK_LIMIT.false, sym c.bad.ensures ∙ c.if-bad.false) refl;
  made = record { values = refl; held_is = refl; traceback_is = c.depth_of-depth.ensures };
}
