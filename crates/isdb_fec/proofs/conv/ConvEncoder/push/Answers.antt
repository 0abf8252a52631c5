-- `conv::ConvEncoder::push` meets its contract.
use mathlib.Core.Path.{refl}
use borrow.Author.Tests.{lt-ltb, le-ltb}
use Rattle.isdb_fec.proofs.conv.ConvEncoder.push.Goals as goal

pub returns-then-state-gt63 : goal.returns-then-state-gt63
returns-then-state-gt63 c = record {
  answers = rw (lt-ltb 63 c.args.self.state c.if-state-gt63.true) refl;
  outputs = tt;
}

pub returns : goal.returns
returns c = record { answers = rw (le-ltb 63 c.args.self.state c.if-state-gt63.false) refl; outputs = c.encode_bit-c.ensures }
