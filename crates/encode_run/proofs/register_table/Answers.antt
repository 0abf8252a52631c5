use borrow.Author.Rules.{rules}
use native.Mathlib.Omega.{arith}
use native.Mathlib.Nat.{not-suc-le-zero}
use mathlib.Core.Path.{◌≡◌, refl, ◌∙◌, ap}
use Prim.Native.Nat.{ℕ, ◌+◌, ◌*◌, ◌-◌, ◌/◌, ◌<◌}
use lib.Ieee.{nan}
use lib.ListN.{length-set, get_or}
use Rattle.encode_bits.specs.Windows.{outputs_in}
use Rattle.encode_bits.specs.WindowLaws.{label_lowest}
use Rattle.encode_bits.specs.Bits.{word_bit}
use Rattle.encode_run.specs.Encoded.{register_label}
use Rattle.trellis.specs.WrittenLaws.{written_more}
use Rattle.encode_run.proofs.register_table.Goals as goal

-- 2 X + Y as the two digits that are read
lowest : (w : ℕ) → w < 256 → 4 * (w / 128) + 2 * word_bit (outputs_in w) 16 + word_bit (outputs_in w) 0 ≡ register_label w
lowest w h =
    let q = label_lowest w (omega arith) in
    rw q (omega arith)

label_few : (w : ℕ) → w < 256 → register_label w < 8
label_few w h =
    let q = label_lowest w (omega arith) in
    rw q (omega arith)

pub loop-w-init : goal.loop-w-init
loop-w-init c = (search rules, refl, refl, λ i h. absurd (not-suc-le-zero h), λ i h. absurd (not-suc-le-zero h))

pub loop-w-preserved : goal.loop-w-preserved
loop-w-preserved c =
    let at = c in
    let w = at.loop-w.w in
    let inv = at.loop-w.invariant in
    let t = at.psk8_table-t.result in
    let l = 4 * (w / 128) + 2 * c.digit.result + c.digit-in-loop-w.result in
    let e : l ≡ register_label w = rw (c.digit.ensures, c.digit-in-loop-w.ensures, c.outputs-out.ensures) (lowest w (omega arith)) in
    let re = get_or t.re l nan in
    let im = get_or t.im l nan in (
      omega arith,
      length-set at.loop-w.re w re ∙ inv.1,
      length-set at.loop-w.im w im ∙ inv.2,
      written_more nan (λ i. get_or t.re (register_label i) nan) w at.loop-w.re re (omega arith) inv.3 (ap (λ (x : ℕ). get_or t.re x nan) e),
      written_more nan (λ i. get_or t.im (register_label i) nan) w at.loop-w.im im (omega arith) inv.4 (ap (λ (x : ℕ). get_or t.im x nan) e),
    )

pub returns : goal.returns
returns c =
    let inv = c.loop-w.invariant in
    let t = c.psk8_table-t.ensures in
    let e : c.loop-w.w ≡ 256 = omega arith in
    let re = rw e at inv.3 in
    let im = rw e at inv.4 in
    record {
      re_at = λ w h. re w h ∙ t.re_at (register_label w) (label_few w h);
      im_at = λ w h. im w h ∙ t.im_at (register_label w) (label_few w h);
    }
