-- The way back through some words, taken in two parts.
use mathlib.Core.Path.{◌≡◌, refl, sym, ap, ◌∙◌}
use mathlib.Core.List.{List}
use Prim.Native.Nat.{ℕ, zero, suc, ◌+◌, ◌-◌, ◌/◌, ◌≤◌, ◌<◌}
use native.Mathlib.Omega.{arith}
use native.Mathlib.Nat.{add-zero, add-suc}
use lib.ListN.{length, get_or, take}
use lib.Seq.{ext_get_or, get_or-take, length-take-le}
use Rattle.trellis.specs.Step as trellis
use Rattle.trellis.specs.Step.{kept, back, input}
use Rattle.trellis.specs.Lists.{upto}
use Rattle.trellis.specs.ListLaws.{length_upto, get_d_upto}
use Rattle.trellis.specs.Isdb.{traced}

module _ (d : List ℕ) (n state count : ℕ) (hn : n ≤ length d) (hc : count ≤ n) where
  s : ℕ
  s = back 32 (take n d) n state (n - count)

  -- e steps further back
  further : (e : ℕ) → e ≤ count → back 32 (take count d) count s e ≡ back 32 (take n d) n state (n - count + e)
  unfolding back s
  further zero h = rw (add-zero (n - count))
  further (suc e) h =
      let i : n - suc (n - count + e) ≡ count - suc e = omega arith in
      let w : get_or (take count d) (count - suc e) 0 ≡ get_or (take n d) (n - suc (n - count + e)) 0 =
      rw i (get_or-take count d (count - suc e) 0 (omega arith) ∙ sym (get_or-take n d (count - suc e) 0 (omega arith))) in
      rw (add-suc (n - count) e, ← further e (omega arith), w)

  same_input : (i : ℕ) → i < count → input 32 (take count d) count s i ≡ input 32 (take n d) n state i
  unfolding input
  same_input i h =
      let e : n - count + (count - (i + 1)) ≡ n - (i + 1) = omega arith in
      ap (λ (x : ℕ). x / 32) (rw e at (further (count - (i + 1)) (omega arith)))

  -- the oldest `count` bits are those of the first `count` words, from the state after them
  pub halfway : traced (take count d) (back 32 (take n d) n state (n - count)) ≡ take count (traced (take n d) state)
  unfolding trellis.traced s
  halfway =
      let lc : length (take count d) ≡ count = length-take-le count d (omega arith) in
      let ln : length (take n d) ≡ n = length-take-le n d hn in
      let f = input 32 (take count d) count s in
      let g = input 32 (take n d) n state in
      rw (lc, ln)
      (ext_get_or 0 (upto f count) (take count (upto g n))
      (length_upto f count ∙ sym (length-take-le count (upto g n) (rw (length_upto g n) hc)))
      (λ i h.
      let hi : i < count = rw (length_upto f count) at h in
      get_d_upto f 0 count i hi ∙ same_input i hi ∙ sym (get_or-take count (upto g n) i 0 hi ∙ get_d_upto g 0 n i (omega arith))))
