-- `labels` meets its contract: a test of the 128 entries, which antt computes.
use mathlib.Core.Bool.{Bool}
use mathlib.Core.List.{List}
use Prim.Native.Nat.{ℕ, ◌/◌, ◌%◌}
use lib.Dec.{T, eqb, eqb→eq}
use lib.ListN.{get_or}
use Rattle.trellis.specs.Code.{tapped, output, label}
use Rattle.viterbi_branches.specs.TableLaws.{all, at}
use Rattle.decode_strain.specs.Counted.{Labels}
use Rattle.trellis.specs.Isdb
use Rattle.decode_strain.proofs.labels.Goals as goal

abbrev entry : ℕ → ℕ → Bool
entry k n = eqb n (Isdb.labels (k / 64) (k % 64))

labels_are : (l : List ℕ) → T (all 128 entry l) → Labels l
labels_are l t = record { are = λ k h. eqb→eq (get_or l k 0) (Isdb.labels (k / 64) (k % 64)) (at 128 entry 0 l t k h) }

pub returns : goal.returns
unfolding tapped output label
returns c = labels_are _ tt
