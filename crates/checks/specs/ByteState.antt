-- The encoder's state after 8 bits is the last six of them, whatever it was before: so a byte's state needs nothing of the bytes before it.
use Rattle.std.specs.Prelude.{◌≡◌, List, ℕ, ◌+◌, ◌*◌, ◌/◌, ◌<◌, get_or}
use Rattle.std.proofs.Common.{arith}
use Rattle.trellis.specs.Code.{state_at}

pub last_six : (s : ℕ) (us : List ℕ) → s < 64 → ((i : ℕ) → i < 8 → get_or us i 0 < 2)
    → state_at 32 s us 8 ≡ 32 * get_or us 7 0 + 16 * get_or us 6 0 + 8 * get_or us 5 0 + 4 * get_or us 4 0 + 2 * get_or us 3 0 + get_or us 2 0
unfolding state_at
last_six s us h b =
    let u : ℕ → ℕ = λ i. get_or us i 0 in
    let b0 : u 0 < 2 = b 0 (omega arith) in
    let b1 : u 1 < 2 = b 1 (omega arith) in
    let x1 : state_at 32 s us 1 ≡ 32 * u 0 + s / 2 = omega arith in
    let x2 : state_at 32 s us 2 ≡ 32 * u 1 + 16 * u 0 + s / 4 = omega arith in
    let x3 : state_at 32 s us 3 ≡ 32 * u 2 + 16 * u 1 + 8 * u 0 + s / 8 = omega arith in
    let x4 : state_at 32 s us 4 ≡ 32 * u 3 + 16 * u 2 + 8 * u 1 + 4 * u 0 + s / 16 = omega arith in
    let x5 : state_at 32 s us 5 ≡ 32 * u 4 + 16 * u 3 + 8 * u 2 + 4 * u 1 + 2 * u 0 + s / 32 = omega arith in
    let x6 : state_at 32 s us 6 ≡ 32 * u 5 + 16 * u 4 + 8 * u 3 + 4 * u 2 + 2 * u 1 + u 0 = omega arith in
    let x7 : state_at 32 s us 7 ≡ 32 * u 6 + 16 * u 5 + 8 * u 4 + 4 * u 3 + 2 * u 2 + u 1 = omega arith in
    omega arith
