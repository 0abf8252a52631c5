-- `overlay::overlay` meets its contract.
use mathlib.Core.Path.{refl}
use borrow.Author.Tests.{lt-ltb, le-ltb, eq-eqb, ne_eqb}
use lib.Dec.{lit<}
use lib.ListN.{length}
use Rattle.refusal.proofs.RowLaws.{numbered, refused, done}
use Rattle.refusal.specs.Rows.{Length, Space}
use Rattle.overlay.proofs.overlay.Goals as goal

pub returns-then-us-vs : goal.returns-then-us-vs
returns-then-us-vs c =
    let a = c.args in record { answers = rw (ne_eqb (length a.us.now) (length a.vs.now) c.if-us-vs.true) refl; bytes = refused Length (numbered Length (lit< tt)) refl }

pub returns-then-ws-us : goal.returns-then-ws-us
returns-then-ws-us c =
    let one = c in
    let a = one.args in record { answers = rw (eq-eqb (length a.us.now) (length a.vs.now) one.if-us-vs.false, lt-ltb (length a.ws.now) (length a.us.now) c.if-ws-us.true) refl; bytes = refused Space (numbered Space (lit< tt)) refl }

pub returns : goal.returns
returns c =
    let laid = c in
    let two = laid in
    let one = two in
    let a = one.args in record { answers = rw (eq-eqb (length a.us.now) (length a.vs.now) one.if-us-vs.false, le-ltb (length a.ws.now) (length a.us.now) two.if-ws-us.false) refl; bytes = done laid.lay_overlaid.ensures }
