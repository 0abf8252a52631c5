-- `psk8_label` meets its contract.
use mathlib.Core.Path.{◌≡◌}
use Rattle.wanted_read.specs.ReadOff.{psk8_label}
use Rattle.wanted_read.specs.Shown.{label_small}
use Rattle.wanted_read.proofs.psk8_label.Goals as goal

pub returns : goal.returns
unfolding psk8_label
returns c =
    let z = c.args.z in
    let e : c.by_sign.result ≡ psk8_label z = rw (c.by_sign-right.ensures, c.by_sign-left.ensures, c.by_sign-middle.ensures) at c.by_sign.ensures in
    (e, rw e (label_small z))
