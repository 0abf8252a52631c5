-- A slice that is filled part after part from its front, over any function.
use Rattle.std.specs.Prelude.{◌≡◌, List, ◌++◌, ℕ, ◌+◌, ◌-◌, ◌<◌, ◌≤◌, length, take, drop}
use Rattle.std.proofs.Math.Path.{refl}
use Rattle.std.proofs.Common.{◌∙◌, ap, arith}
use borrow.Rule.Slice.PartMut.{mid_of, put_mid}
use Rattle.trellis.specs.Lists.{upto, laid}
use Rattle.trellis.specs.LaidLaws.{laid_part, length_laid_upto}
use Rattle.viterbi_release.specs.PartLaws.{written_tail}

-- the first `done` elements are f's, the others as before
pub record Filled {A : Type 0} (f : ℕ → A) (xs₀ xs : List A) (done : ℕ) : Type 0 where
  pub same : length xs ≡ length xs₀
  pub are : xs ≡ laid (upto f done) xs₀

module _ {A : Type 0} (f : ℕ → A) (xs₀ : List A) where
  pub filled_none : Filled f xs₀ xs₀ 0
  unfolding upto
  filled_none = record { same = refl; are = refl }

  -- n more, written by the part's own numbers g to the front of what is left
  pub filled_more : {xs p : List A} {done n : ℕ} → Filled f xs₀ xs done → done + n ≤ length xs₀ → (g : ℕ → A) → ((k : ℕ) → k < n → g k ≡ f (done + k))
      → p ≡ laid (upto g n) (mid_of done (length xs - done) xs) → Filled f xs₀ (put_mid done (length xs - done) xs p) (done + n)
  filled_more {xs} {p} {done} {n} w h g e ep =
      let s = w.same in
      let now : put_mid done (length xs - done) xs p ≡ laid (upto f (done + n)) xs₀ =
      written_tail done xs p (upto g n) (omega arith) ep ∙ ap (λ (z : List A). take done z ++ laid (upto g n) (drop done z)) w.are ∙ laid_part f g done n xs₀ e in
      record { same = ap length now ∙ length_laid_upto f (done + n) xs₀ h; are = now }
