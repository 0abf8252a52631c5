-- Tests of a run's slots, and bytes that no slot has.
use mathlib.Core.Path.{◌≡◌, refl, sym, ◌∙◌}
use mathlib.Core.Bool.{Bool, true, false, cond, ◌&&◌}
use mathlib.Core.List.{List, [], ◌∷◌}
use Prim.Native.Nat.{ℕ, ◌-◌, ◌≤◌, ◌<◌}
use native.Mathlib.Omega.{arith}
use lib.Dec.{leb, ltb}
use borrow.Author.Tests.{leb-true, ltb-true}
use Rattle.isdbs_plan.specs.declared.Run.{Run}
use Rattle.isdbs_frame.specs.Frame.{slot_bytes}
use Rattle.isdbs_marks.specs.Marks.{marked}
use Rattle.std.specs.Prelude.{Option, None}
use Rattle.isdbs_core.specs.Symbols.{has_slot, run_byte, byte_in}

two : (a b : Bool) → a && b ≡ true → (a ≡ true) × (b ≡ true)
two true b h = (refl, h)
two false b h = let z : ◌≡◌ {A = ℕ} 0 1 = cc in absurd (omega arith)

-- a run that has a slot has it between its ends
pub has_in : (r : Run) (slot : ℕ) (b : Bool) → b ≡ has_slot r slot → b ≡ true → (r.slot_start ≤ slot) × (slot < r.slot_end)
has_in r slot b e h =
    let w = two (leb r.slot_start slot) (ltb slot r.slot_end) (sym e ∙ h) in
    (leb-true r.slot_start slot w.0, ltb-true slot r.slot_end w.1)

-- a byte that a slot has not is nowhere
unmarked : (m l : Bool) (x : Option ℕ) → l ≡ false → cond (m && l) x None ≡ None
unmarked true l x e = rw e
unmarked false l x e = refl

nowhere : (b : Bool) (x y : Option ℕ) → x ≡ None → y ≡ None → cond b x y ≡ None
nowhere true x y e f = e
nowhere false x y e f = f

run_none : (r : Run) (k byte : ℕ) → ltb byte slot_bytes ≡ false → run_byte r k byte ≡ None
run_none r k byte e = unmarked (marked r.combination k) (ltb byte slot_bytes) _ e

pub byte_none : (rs : List Run) (slot byte : ℕ) → ltb byte slot_bytes ≡ false → byte_in rs slot byte ≡ None
unfolding byte_in
byte_none [] slot byte e = refl
byte_none (r ∷ rs) slot byte e =
    nowhere (has_slot r slot) (run_byte r (slot - r.slot_start) byte) (byte_in rs slot byte) (run_none r (slot - r.slot_start) byte e) (byte_none rs slot byte e)
