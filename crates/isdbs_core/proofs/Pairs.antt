-- The pairs of a period as four records and a count.
use mathlib.Core.Path.{◌≡◌, refl, sym, ◌∙◌, ap}
use mathlib.Core.Bool.{Bool, true, false}
use mathlib.Core.List.{List, [], ◌∷◌}
use Prim.Native.Nat.{ℕ, suc, ◌+◌, ◌-◌, ◌≤◌, ◌<◌}
use native.Mathlib.Omega.{arith}
use lib.ListN.{length, get_or, take, drop, replicate}
use lib.Seq.{take-append_seam, get_or-take}
use Rattle.isdbs_combination.specs.declared.Puncture.{Puncture}
use Rattle.isdbs_combination.specs.declared.BitPair.{BitPair}
use Rattle.isdbs_combination.specs.declared.BitPairs.{BitPairs}
use Rattle.isdbs_combination.specs.Combinations.{pairs_of, four_pairs}
use Rattle.isdbs_core.specs.Symbols.{pair_holds, first_pair}
use Rattle.isdbs_core.specs.SymbolLaws.{first_more, first_end}

abbrev pub no_pair : BitPair
no_pair = record { p1 = 0; p0 = 0 }

-- the pairs that count
abbrev pub front : ℕ → List BitPair → List BitPair
front count pairs = take count pairs

-- the search has passed j pairs that do not hold the input
abbrev pub Passed : ℕ → List BitPair → ℕ → ℕ → Type 0
Passed i ps count j = (j ≤ count) × (j + first_pair i (drop j ps) ≡ first_pair i ps)

module _ (p : Puncture) (r : BitPairs) (e : r ≡ four_pairs p) where
  pub front_is : front r.count r.pairs ≡ pairs_of p
  front_is = rw e (take-append_seam (pairs_of p) (replicate (4 - length (pairs_of p)) no_pair))

  pub front_length : length (front r.count r.pairs) ≡ r.count
  front_length = rw front_is (sym (ap (λ (x : BitPairs). x.count) e))

  module _ (i j : ℕ) (b : Passed i (front r.count r.pairs) r.count j) (t : Bool) (h : t ≡ pair_holds i (get_or r.pairs j no_pair)) (l : j < r.count) where
    held : t ≡ pair_holds i (get_or (front r.count r.pairs) j no_pair)
    held = h ∙ ap (pair_holds i) (sym (get_or-take r.count r.pairs j no_pair l))

    below : j < length (front r.count r.pairs)
    below = rw front_length l

    pub pair_next : t ≡ false → Passed i (front r.count r.pairs) r.count (j + 1)
    pair_next f =
        let e = rw (sym held ∙ f) at (first_more i j (front r.count r.pairs) no_pair below) in
        (omega arith, omega arith)

    pub pair_found : t ≡ true → j ≡ first_pair i (pairs_of p)
    pair_found f =
        let e = rw (sym held ∙ f) at (first_more i j (front r.count r.pairs) no_pair below) in
        rw (← front_is) (omega arith)

  pub pair_none : (i j : ℕ) → Passed i (front r.count r.pairs) r.count j → r.count ≤ j → j ≡ first_pair i (pairs_of p)
  pair_none i j b h =
      let e = first_end i j (front r.count r.pairs) (rw front_length h) in
      rw (← front_is) (omega arith)
