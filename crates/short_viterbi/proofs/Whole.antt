-- The steps of a call on a handed decoder, where there is room for all of them: how they begin, what each asks and leaves.
use mathlib.Core.Path.{◌≡◌, refl}
use mathlib.Core.Logic.{◌⊎◌, ⊎_elim}
use mathlib.Core.List.{List}
use Prim.Native.Nat.{ℕ, ◌+◌, ◌*◌, ◌<◌, ◌≤◌}
use native.Mathlib.Omega.{arith}
use lib.ListN.{length, take}
use lib.Seq.{length-take-le}
use lib.Ieee.{Float}
use Rattle.trellis.specs.Step.{Step}
use Rattle.trellis.specs.Run.{stepped, after, releases, holding}
use Rattle.trellis.specs.Isdb.{rule}
use Rattle.viterbi_core.specs.declared.At.{At}
use Rattle.viterbi_core.specs.Calls.{Holds, Stepped, Room}
use Rattle.viterbi_core.specs.HoldingLaws.{holds_start, steps_lengths, steps_ready, steps_next}

-- the values of step i are there
pub inside : (per i n l : ℕ) → (per ≡ 2) ⊎ (per ≡ 4) → i < n → per * n ≤ l → per * i + per ≤ l
inside per i n l p h g =
    ⊎_elim
    (λ e. let g' : 2 * n ≤ l = rw e at g in rw e (omega arith))
    (λ e. let g' : 4 * n ≤ l = rw e at g in rw e (omega arith))
    p

module _ (h : ℕ) (l : ℕ → ℕ → ℕ) (xs : ℕ → Step) (n tb held : ℕ) (pm₀ : List Float) (dec₀ out₀ : List ℕ) (least : 1 ≤ tb) (most : tb ≤ 1024)
    (fewer : held < 4096 + tb) (fits : 4096 + tb ≤ length dec₀) (room : 4096 * releases tb held n ≤ length out₀) where
  taken : length (take held dec₀) ≡ held
  taken = length-take-le held dec₀ (omega arith)

  few : length (take held dec₀) < 4096 + tb
  few = rw taken fewer

  space : 0 + 4096 * releases tb (length (take held dec₀)) n ≤ length out₀
  space = rw taken (omega arith)

  pub begins : Holds tb dec₀ out₀ (after h l rule tb xs (holding pm₀ held dec₀) 0) pm₀ held 0 dec₀ out₀
  unfolding after
  begins = holds_start tb pm₀ held dec₀ out₀ (omega arith)

  module _ (pm : List Float) (at : At) (dec out : List ℕ) (i : ℕ) (s : Holds tb dec₀ out₀ (after h l rule tb xs (holding pm₀ held dec₀) i) pm at.held at.count dec out) where
    pub lengths : i ≤ n → (length dec ≡ length dec₀) × (length out ≡ length out₀)
    lengths = steps_lengths h l rule tb xs (holding pm₀ held dec₀) dec₀ out₀ n least most few fits space pm at.held at.count dec out i s

    pub ready : i < n → (1 ≤ tb) × (tb ≤ 1024) × (at.held < 4096 + tb) × (4096 + tb ≤ length dec) × (at.count ≤ length out) × Room tb at.held at.count (length out)
    ready = steps_ready h l rule tb xs (holding pm₀ held dec₀) dec₀ out₀ n least most few fits space pm at.held at.count dec out i s

    pub goes_on : (r : At) (pm' : List Float) (dec' out' : List ℕ) → Stepped tb (stepped h l rule tb i (xs i) (holding pm at.held dec)) at.count r pm' dec dec' out out'
        → Holds tb dec₀ out₀ (after h l rule tb xs (holding pm₀ held dec₀) (i + 1)) pm' r.held r.count dec' out'
    goes_on = steps_next h l rule tb xs (holding pm₀ held dec₀) dec₀ out₀ n least most few fits space pm at.held at.count dec out i s
