-- `overlay_parts::encode_three` meets its contract.
use mathlib.Core.Path.{refl}
use Rattle.overlay_parts.proofs.Said.{first_taken, second_taken, third_taken, three}
use Rattle.overlay_parts.proofs.encode_three.Goals as goal

pub returns-in_err-first : goal.returns-in_err-first
returns-in_err-first c =
    let a = c.args in
    let x = rw c.in_err-first.was at c.encode.ensures in
    absurd (first_taken a.given.code a.given.first.state a.given.second.state a.us.now a.vs.now a.ws.now a.out1.now a.out2.now a.out3.now c.requires _ _ (x.answers, (x.state, x.coded)))

pub returns-in_err-second : goal.returns-in_err-second
returns-in_err-second c =
    let a = c.args in
    let x = rw c.in_err-second.was at c.encode-2.ensures in
    absurd (second_taken a.given.code a.given.first.state a.given.second.state a.us.now a.vs.now a.ws.now a.out1.now a.out2.now a.out3.now c.requires _ _ (x.answers, (x.state, x.coded)))

pub returns-in_err-third : goal.returns-in_err-third
returns-in_err-third c =
    let a = c.args in
    let x = rw c.in_err-third.was at c.encode-3.ensures in
    absurd (third_taken a.given.code a.given.first.state a.given.second.state a.us.now a.vs.now a.ws.now a.out1.now a.out2.now a.out3.now c.requires _ _ (x.answers, (x.state, x.coded)))

pub returns : goal.returns
returns c =
    let a = c.args in
    let x = rw c.in_ok-first.was at c.encode.ensures in
    let y = rw c.in_ok-second.was at c.encode-2.ensures in
    let z = rw c.in_ok-third.was at c.encode-3.ensures in
    record {
      accepted = refl;
      encodes = three a.given.code a.given.first.state a.given.second.state a.us.now a.vs.now a.ws.now a.out1.now a.out2.now a.out3.now c.requires _ _ _ _ _ _ (x.answers, (x.state, x.coded)) (y.answers, (y.state, y.coded)) (z.answers, (z.state, z.coded));
    }
