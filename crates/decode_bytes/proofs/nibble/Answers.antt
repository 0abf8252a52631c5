-- `decode_bytes::nibble` meets its contract: the product's digits from the 24th on are the bits.
use mathlib.Core.Path.{◌≡◌}
use Prim.Native.Nat.{ℕ, ◌+◌, ◌*◌, ◌/◌, ◌%◌, ◌<◌}
use native.Mathlib.Omega.{arith}
use Rattle.decode_bytes.proofs.nibble.Goals as goal

-- the product, at its 24th digit: 16 r + the number, above what is shifted out
product : (a b c d : ℕ) → a < 2 → b < 2 → c < 2 → d < 2 → (a + 256 * b + 65536 * c + 16777216 * d) * 134480385 / 16777216 % 16 ≡ a * 8 + b * 4 + c * 2 + d
product a b c d ha hb hc hd =
    let w = (a + 256 * b + 65536 * c + 16777216 * d) * 134480385 in
    let low = a * 262657 + b * 131328 + c * 65536 in
    let r = b * 128 + c * 32832 + d * 8405024 in
    let n = a * 8 + b * 4 + c * 2 + d in
    let small : low < 16777216 = omega arith in
    let e : w ≡ low + (16 * r + n) * 16777216 = omega arith in
    let q : w / 16777216 ≡ 16 * r + n = omega arith in
    let few : n < 16 = omega arith in
    let m : (16 * r + n) % 16 ≡ n = omega arith in
    rw q m

pub returns : goal.returns
returns c =
    let a = c.args in
    product a.a a.b a.c a.d c.requires.0 c.requires.1 c.requires.2 c.requires.3
