-- `store` meets its contract.
use mathlib.Core.Path.{refl}
use Rattle.c_decoder.proofs.store.Goals as goal

pub returns-in-Ok : goal.returns-in-Ok
returns-in-Ok c = rw c.in-Ok.is (record { answers = refl; places = (c.put_values.ensures, refl, refl) })

pub returns-in-Err : goal.returns-in-Err
returns-in-Err c = rw c.in-Err.is (record { answers = c.number.ensures; places = (refl, refl, refl) })
