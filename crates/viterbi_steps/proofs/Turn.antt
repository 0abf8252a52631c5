-- The loop of a run: after k turns the path values are those after k steps, and the first k words are theirs.
use mathlib.Core.Path.{◌≡◌, refl, sym, ◌∙◌, ap}
use mathlib.Core.List.{List}
use Prim.Native.Nat.{ℕ, ◌+◌, ◌<◌, ◌≤◌}
use native.Mathlib.Omega.{arith}
use native.Mathlib.Numerals.{add-one}
use lib.ListN.{length, take, set, length-set}
use lib.Seq.{take_all}
use lib.Ieee.{Float}
use Rattle.trellis.specs.Lists.{laid, upto}
use Rattle.trellis.specs.ListLaws.{length_upto}
use Rattle.trellis.specs.Step.{Step}
use Rattle.trellis.specs.Isdb.{word}
use Rattle.trellis.specs.WrittenLaws.{Written, Kept, written_none, written_more, kept_more, laid_whole}
use Rattle.viterbi_steps.specs.Runs.{step_values, run_values, run_word, run_words}

pub record Ran (xs : ℕ → Step) (pm : List Float) (words₀ : List ℕ) (k : ℕ) (values : List Float) (words : List ℕ) : Type 0 where
  pub values_are : values ≡ run_values xs pm k
  pub long : length words ≡ length words₀
  pub front : Written 0 (run_word xs pm) k words
  pub rest : Kept 0 words₀ k words

module _ (xs : ℕ → Step) (pm : List Float) (words₀ : List ℕ) where
  pub ran_none : Ran xs pm words₀ 0 pm words₀
  unfolding run_values
  ran_none = record { values_are = refl; long = refl; front = written_none 0 (run_word xs pm) words₀; rest = λ i h. refl }

  pub ran_more : (k : ℕ) (values values' : List Float) (words : List ℕ) (w : ℕ) (x : Step) → Ran xs pm words₀ k values words → k < length words → x ≡ xs k
      → values' ≡ step_values values x → w ≡ word values x → Ran xs pm words₀ (k + 1) values' (set words k w)
  unfolding run_values
  ran_more k values values' words w x r h ex ev ew =
      record {
        values_are = rw (add-one k) (ev ∙ ap (λ (v : List Float). step_values v x) r.values_are ∙ ap (λ (y : Step). step_values (run_values xs pm k) y) ex);
        long = length-set words k w ∙ r.long;
        front =
            written_more 0 (run_word xs pm) k words w h r.front
            (ew ∙ ap (λ (v : List Float). word v x) r.values_are ∙ ap (λ (y : Step). word (run_values xs pm k) y) ex);
        rest = kept_more 0 words₀ k words w r.rest;
      }

  pub ran_all : (n : ℕ) (values : List Float) (words : List ℕ) → n ≤ length words₀ → Ran xs pm words₀ n values words → (values ≡ run_values xs pm n) × (words ≡ laid (run_words xs pm n) words₀)
  ran_all n values words h r =
      let f = run_word xs pm in
      let l : length (upto f n) ≡ n = length_upto f n in (
        r.values_are,
        laid_whole 0 f n n words₀ words (omega arith) h r.long r.front r.rest
            ∙ ap (λ (y : List ℕ). laid y words₀) (take_all n (upto f n) (omega arith)),
      )
