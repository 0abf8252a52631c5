-- `conv::fresh` meets its contract.
use mathlib.Core.Path.{refl}
use borrow.Author.Tests.{lt-ltb, le-ltb}
use Rattle.isdb_fec.proofs.conv.fresh.Goals as goal

pub returns-then-traceback-gt-TRACEBACK_LIMIT : goal.returns-then-traceback-gt-TRACEBACK_LIMIT
returns-then-traceback-gt-TRACEBACK_LIMIT c = record {
  answers = rw (lt-ltb 1024 c.args.traceback c.if-traceback-gt-TRACEBACK_LIMIT.true) refl;
  made = tt;
}

pub returns : goal.returns
returns c =
    let tb = c.args.traceback in record {
      answers = rw (le-ltb 1024 tb c.if-traceback-gt-TRACEBACK_LIMIT.false) refl;
      made = record { values = refl; held_is = refl; traceback_is = c.depth_of-depth.ensures };
    }
