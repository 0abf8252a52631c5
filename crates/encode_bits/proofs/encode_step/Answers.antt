-- `encode_step` meets its contract.
use mathlib.Core.Path.{◌≡◌, ◌∙◌, ap}
use Prim.Native.Nat.{ℕ, ◌/◌, ◌%◌, ◌^◌, ◌-◌}
use native.Mathlib.Nat.{mod-mod}
use lib.ListN.{get_or}
use Rattle.isdbs_points.specs.Layout.{load_bit}
use Rattle.encode_bits.proofs.encode_step.Goals as goal

pub returns : goal.returns
returns c =
    let st = c in
    let n = st.args.n in
    let e : c.load_bit.result % 2 ≡ load_bit st.args.bytes.now n =
    ap (λ (x : ℕ). x % 2) c.load_bit.ensures ∙ mod-mod (get_or st.args.bytes.now (n / 8) 0 / 2 ^ (7 - n % 8)) 2 in
    rw e at c.encode_input.ensures
