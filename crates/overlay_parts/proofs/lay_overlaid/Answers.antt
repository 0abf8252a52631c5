use mathlib.Core.Path.{◌≡◌, refl, sym, ◌∙◌, ap}
use mathlib.Core.List.{List}
use Prim.Native.Nat.{ℕ, ◌+◌, ◌-◌, ◌<◌}
use native.Mathlib.Omega.{arith}
use native.Mathlib.Numerals.{add-one}
use lib.Bits.{bit_xor}
use lib.ListN.{length, get_or, take, set, length-set}
use lib.Seq.{take_all}
use Rattle.trellis.specs.Lists.{laid}
use Rattle.trellis.specs.LaidLaws.{laid_next}
use Rattle.overlay_laws.specs.Overlaid.{overlaid}
use Rattle.overlay_laws.specs.OverlaidLaws.{length_overlaid, overlaid_at}
use Rattle.overlay_parts.proofs.lay_overlaid.Goals as goal

-- one byte more
turn : (us vs ws₀ ws : List ℕ) (i : ℕ) → length us ≡ length vs → i < length us → i < length ws₀ → ws ≡ laid (take i (overlaid us vs)) ws₀
    → set ws i (bit_xor (get_or us i 0) (get_or vs i 0)) ≡ laid (take (i + 1) (overlaid us vs)) ws₀
turn us vs ws₀ ws i e h g w =
    let n = length_overlaid us vs e in
    ap (λ (l : List ℕ). set l i (bit_xor (get_or us i 0) (get_or vs i 0))) w
    ∙ ap (λ (v : ℕ). set (laid (take i (overlaid us vs)) ws₀) i v) (sym (overlaid_at us vs e i))
    ∙ laid_next (overlaid us vs) ws₀ i 0 (omega arith) g
    ∙ ap (λ (k : ℕ). laid (take k (overlaid us vs)) ws₀) (sym (add-one i))

pub loop-i-init : goal.loop-i-init
loop-i-init c = (refl, omega arith, refl, refl)

pub loop-i-preserved : goal.loop-i-preserved
loop-i-preserved c =
    let at = c in
    let start = at in
    let a = start.args in
    let inv = at.loop-i.invariant in
    let i = at.loop-i.i in
    let e = start.requires.0 in
    let room = start.requires.1 in
    let v = bit_xor (get_or a.us.now i 0) (get_or a.vs.now i 0) in
    let inside : i < length a.us.now = omega arith in
    (inv.0, omega arith, length-set at.loop-i.ws i v ∙ inv.2, turn a.us.now a.vs.now a.ws.now at.loop-i.ws i e inside (omega arith) inv.3)

pub shape_of-ws : goal.shape_of-ws
shape_of-ws c = c.loop-i.invariant.2

pub returns : goal.returns
returns c =
    let at = c in
    let start = at in
    let a = start.args in
    let e = start.requires.0 in
    let n = length_overlaid a.us.now a.vs.now e in
    let last : at.loop-i.i ≡ length a.us.now = omega arith in
    let inv = rw last at at.loop-i.invariant in
    inv.3 ∙ ap (λ (l : List ℕ). laid l a.ws.now) (take_all (length a.us.now) (overlaid a.us.now a.vs.now) (omega arith))
