-- A list whose first k places have been written, in a loop, with the values of a function.
use Rattle.std.specs.Prelude.{◌≡◌, List, ◌++◌, ℕ, ◌+◌, ◌<◌, ◌≤◌, length, set, take, drop}
use Rattle.std.proofs.Math.Path.{refl}
use Rattle.std.proofs.Common.{sym, ◌∙◌, ap, arith, length-set}
use Rattle.trellis.specs.Lists.{upto, laid}
use Rattle.trellis.specs.ListLaws.{length_upto}
use Rattle.trellis.specs.LaidLaws.{length_laid, laid_upto, laid_part}

pub record Written {A : Type 0} (f : ℕ → A) (k : ℕ) (out₀ out : List A) : Type 0 where
  pub long : length out ≡ length out₀
  pub front : out ≡ laid (upto f k) out₀

module _ {A : Type 0} (f : ℕ → A) where
  pub written_none : (out : List A) → Written f 0 out out
  unfolding upto
  written_none out = record { long = refl; front = refl }

  -- one value more
  pub written_next : (k : ℕ) (out₀ out : List A) (v : A) → Written f k out₀ out → k < length out₀ → v ≡ f k → Written f (k + 1) out₀ (set out k v)
  written_next k out₀ out v w h e =
      record {
        long = length-set out k v ∙ w.long;
        front = ap (λ (l : List A). set l k v) w.front ∙ laid_upto f k out₀ v h e;
      }

  -- n values more
  pub written_more : (g : ℕ → A) (k n : ℕ) (out₀ out new : List A) → Written f k out₀ out → k + n ≤ length out₀ → ((i : ℕ) → i < n → g i ≡ f (k + i))
      → new ≡ take k out ++ laid (upto g n) (drop k out) → Written f (k + n) out₀ new
  written_more g k n out₀ out new w h same e =
      let whole : new ≡ laid (upto f (k + n)) out₀ =
      e ∙ ap (λ (l : List A). take k l ++ laid (upto g n) (drop k l)) w.front ∙ laid_part f g k n out₀ same in
      let l : length (upto f (k + n)) ≡ k + n = length_upto f (k + n) in
      record { long = ap length whole ∙ length_laid (upto f (k + n)) out₀ (omega arith); front = whole }
