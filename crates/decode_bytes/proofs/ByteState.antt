-- The encoder's state stays one.
use mathlib.Core.Path.{◌≡◌}
use mathlib.Core.List.{List}
use Prim.Native.Nat.{ℕ, zero, suc, ◌+◌, ◌*◌, ◌/◌, ◌<◌}
use native.Mathlib.Omega.{arith}
use lib.ListN.{get_or}
use Rattle.trellis.specs.Code.{state_at}

pub state_small : (s : ℕ) (us : List ℕ) (n : ℕ) → s < 64 → ((i : ℕ) → i < n → get_or us i 0 < 2) → state_at 32 s us n < 64
unfolding state_at
state_small s us zero h b = h
state_small s us (suc n) h b =
    let p = state_small s us n h (λ i l. b i (omega arith)) in
    let q = b n (omega arith) in
    omega arith
