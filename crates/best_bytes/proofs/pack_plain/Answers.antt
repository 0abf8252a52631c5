use mathlib.Core.Path.{◌≡◌, refl, ap, ◌∙◌}
use mathlib.Core.List.{List}
use Prim.Native.Nat.{ℕ, ◌-◌}
use native.Mathlib.Omega.{arith}
use lib.ListN.{set}
use Rattle.trellis.specs.Lists.{upto}
use Rattle.trellis.specs.LaidLaws.{laid_upto, length_laid_upto}
use Rattle.best_bytes.proofs.pack_plain.Invariants.{byte_from}
use Rattle.best_bytes.proofs.pack_plain.Goals as goal

pub loop-j-init : goal.loop-j-init
unfolding upto
loop-j-init c = (omega arith, refl)

pub plain_byte-requires : goal.plain_byte-requires
plain_byte-requires c = let st = c in
    let at = c in
    (omega arith, st.requires.2)

pub bounds-bytes-j : goal.bounds-bytes-j
bounds-bytes-j c = let at = c in
    let a = c.args in
    let l = length_laid_upto (byte_from a.bits.now) at.loop-j.j a.bytes.now (omega arith) in
    rw at.loop-j.invariant.1 (omega arith)

pub loop-j-preserved : goal.loop-j-preserved
loop-j-preserved c = let at = c in
    let a = c.args in
    let l = length_laid_upto (byte_from a.bits.now) at.loop-j.j a.bytes.now (omega arith) in
    let j = at.loop-j.j in
    (omega arith, ap (λ (x : List ℕ). set x j c.plain_byte.result) at.loop-j.invariant.1 ∙ laid_upto (byte_from a.bits.now) j a.bytes.now c.plain_byte.result (omega arith) c.plain_byte.ensures)

pub shape_of-bytes : goal.shape_of-bytes
shape_of-bytes c = let at = c in
    let a = c.args in
    let l = length_laid_upto (byte_from a.bits.now) at.loop-j.j a.bytes.now (omega arith) in
    rw at.loop-j.invariant.1 l

pub returns : goal.returns
returns c = let at = c in
    let e : at.loop-j.j ≡ c.args.n = omega arith in
    (rw e at at.loop-j.invariant).1
