-- `shifts` meets its contract.
use mathlib.Core.Path.{◌≡◌}
use mathlib.Core.List.{[], ◌∷◌}
use Prim.Native.Nat.{ℕ, ◌<◌, ◌≤◌}
use native.Mathlib.Nat.{not-suc-le-zero}
use native.Mathlib.Omega.{arith}
use borrow.Author.Count.{below_more}
use lib.ListN.{get_or}
use Rattle.encode_run.specs.Encoded.{shift_of}
use Rattle.encode_run.proofs.shifts.Goals as goal

below_four : (P : ℕ → Type 0) → P 0 → P 1 → P 2 → P 3 → (i : ℕ) → i < 4 → P i
below_four P a b c d = below_more P 3 (below_more P 2 (below_more P 1 (below_more P 0 (λ k h. absurd (not-suc-le-zero h)) a) b) c) d

pub returns : goal.returns
returns c =
    let n = c.args.n in
    let p = c.args.p in
    let e0 = c.shift_of-a.ensures in
    let e1 = c.shift_of-b.ensures in
    let e2 = c.shift_of-c.ensures in
    let e3 = c.shift_of-d.ensures in
    let s = c.shift_of-a.result ∷ c.shift_of-b.result ∷ c.shift_of-c.result ∷ c.shift_of-d.result ∷ [] in
    record {
      each = below_four (λ i. get_or s i 0 ≡ shift_of n (get_or p i 0)) e0.0 e1.0 e2.0 e3.0;
      few = below_four (λ i. get_or s i 0 ≤ 31) (omega arith) (omega arith) (omega arith) (omega arith);
    }
