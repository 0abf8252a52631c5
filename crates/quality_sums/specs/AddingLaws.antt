-- What stands where after terms were added.
use Rattle.std.specs.Prelude.{◌≡◌, Bool, List, [], ◌∷◌, ◌++◌, length, replicate, Float}
use Rattle.std.proofs.lemmas.List.{replicate-append-replicate}
use Rattle.trellis.specs.Lists.{upto}
use Rattle.std.proofs.Math.Path.{refl, ap}
use Rattle.std.proofs.Common.{sym, ◌∙◌, arith, not-suc-le-zero, add-one, get_or-set_same}
use Prim.Native.Nat.{ℕ, zero, suc, ◌+◌, ◌<◌, ◌≤◌}
use borrow.Author.Count.{below_more}
use Rattle.std.proofs.Math.ListN.{get_or, length-set}
use Rattle.std.proofs.Math.Seq.{get_or-set_other}
use Rattle.std.specs.Float.Ieee.{nan, binary64, add}
use Rattle.quality_sums.specs.Terms.{terms_of, imaginary}
use Rattle.quality_sums.specs.Adding.{added, point_added, block_added}

-- a filled front
pub filled : (v : Float) (n : ℕ) → replicate n v ≡ upto (λ _. v) n
unfolding upto
filled v zero = refl
filled v (suc n) = ap (λ (k : ℕ). replicate k v) (sym (add-one n)) ∙ sym (replicate-append-replicate n 1 v) ∙ ap (λ (l : List Float). l ++ (v ∷ [])) (filled v n)

pub seven_terms : (zx zy cx cy : Float) → length (terms_of zx zy cx cy) ≡ 7
unfolding terms_of
seven_terms zx zy cx cy = refl

module _ (terms : List Float) (at : ℕ) (out : List Float) where
  pub length_added : (n : ℕ) → length (added terms at out n) ≡ length out
  unfolding added
  length_added zero = refl
  length_added (suc n) = length-set (added terms at out n) (at + n) _ ∙ length_added n

  -- outside the numbers that are added to nothing changes
  pub added_below : (n i : ℕ) → i < at → get_or (added terms at out n) i nan ≡ get_or out i nan
  unfolding added
  added_below zero i h = refl
  added_below (suc n) i h = get_or-set_other (added terms at out n) (at + n) i _ nan (λ e. omega (arith, e)) ∙ added_below n i h

  pub added_above : (n i : ℕ) → at + n ≤ i → get_or (added terms at out n) i nan ≡ get_or out i nan
  unfolding added
  added_above zero i h = refl
  added_above (suc n) i h = get_or-set_other (added terms at out n) (at + n) i _ nan (λ e. omega (arith, e)) ∙ added_above n i (omega arith)

  -- each of them has its term added once
  pub added_at : (n : ℕ) → at + n ≤ length out → (j : ℕ) → j < n → get_or (added terms at out n) (at + j) nan ≡ add binary64 (get_or out (at + j) nan) (get_or terms j nan)
  unfolding added
  added_at zero room j h = absurd (not-suc-le-zero h)
  added_at (suc n) room j h =
      below_more (λ i. get_or (added terms at out (suc n)) (at + i) nan ≡ add binary64 (get_or out (at + i) nan) (get_or terms i nan)) n
      (λ i l. get_or-set_other (added terms at out n) (at + n) (at + i) _ nan (λ e. omega (arith, e)) ∙ added_at n (omega arith) i l)
      (get_or-set_same (added terms at out n) (at + n) _ nan (rw (length_added n) (omega arith)) ∙ ap (λ (x : Float). add binary64 x (get_or terms n nan)) (added_above n (at + n) (omega arith)))
      j (omega arith)

module _ (bpsk : Bool) (re im : List Float) (from : ℕ) (xs ys out : List Float) where
  -- one point more
  pub block_more : (i : ℕ) (l out' terms : List Float) (zy cy : Float) → l ≡ block_added bpsk re im from xs ys out i
      → zy ≡ imaginary bpsk (get_or im (from + i) nan) → cy ≡ imaginary bpsk (get_or ys i nan) → terms ≡ terms_of (get_or re (from + i) nan) zy (get_or xs i nan) cy
      → out' ≡ point_added terms (from + i) l → out' ≡ block_added bpsk re im from xs ys out (i + 1)
  unfolding block_added
  block_more i l out' terms zy cy el ez ec et eo = rw (add-one i) (eo ∙ rw (et, ez, ec, el) refl)
