use mathlib.Core.Path.{◌≡◌, refl, ap, ◌∙◌}
use mathlib.Core.List.{List}
use Prim.Native.Nat.{ℕ, ◌-◌}
use native.Mathlib.Omega.{arith}
use lib.ListN.{set}
use Rattle.trellis.specs.Lists.{upto}
use Rattle.trellis.specs.LaidLaws.{laid_upto, length_laid_upto}
use Rattle.best_bytes.proofs.pack_pairs.Invariants.{byte_from}
use Rattle.best_bytes.proofs.pack_pairs.Goals as goal

pub loop-j-init : goal.loop-j-init
unfolding upto
loop-j-init c = (omega arith, refl)

pub pair_byte-requires : goal.pair_byte-requires
pair_byte-requires c = let st = c in
    let at = c in
    (omega arith, omega arith, st.requires.3, st.requires.4)

pub bounds-bytes-j : goal.bounds-bytes-j
bounds-bytes-j c = let at = c in
    let a = c.args in
    let l = length_laid_upto (byte_from a.bits.now a.uncoded.now) at.loop-j.j a.bytes.now (omega arith) in
    rw at.loop-j.invariant.1 (omega arith)

pub loop-j-preserved : goal.loop-j-preserved
loop-j-preserved c = let at = c in
    let a = c.args in
    let l = length_laid_upto (byte_from a.bits.now a.uncoded.now) at.loop-j.j a.bytes.now (omega arith) in
    let j = at.loop-j.j in
    (omega arith, ap (λ (x : List ℕ). set x j c.pair_byte.result) at.loop-j.invariant.1 ∙ laid_upto (byte_from a.bits.now a.uncoded.now) j a.bytes.now c.pair_byte.result (omega arith) c.pair_byte.ensures)

pub shape_of-bytes : goal.shape_of-bytes
shape_of-bytes c = let at = c in
    let a = c.args in
    let l = length_laid_upto (byte_from a.bits.now a.uncoded.now) at.loop-j.j a.bytes.now (omega arith) in
    rw at.loop-j.invariant.1 l

pub returns : goal.returns
returns c = let at = c in
    let e : at.loop-j.j ≡ c.args.n = omega arith in
    (rw e at at.loop-j.invariant).1
