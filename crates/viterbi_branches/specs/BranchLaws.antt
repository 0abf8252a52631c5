-- A table holds the branch numbers where the test of its 128 entries passes, which antt computes.
use Rattle.std.specs.Prelude.{Bool, List, [], ℕ, ◌+◌, ◌*◌, T, eqb, get_or}
use Rattle.std.proofs.Common.{eqb→eq}
use Rattle.viterbi_branches.specs.Branches.{BranchNumbers}
use Rattle.viterbi_branches.specs.TableLaws.{all, at}
use Rattle.trellis.specs.Isdb

-- the test of an entry, of a row, of a pair of rows, of the table
abbrev entry : ℕ → ℕ → ℕ → ℕ → Bool
entry u b j n = eqb n (Isdb.labels u (2 * j + b))

abbrev row : ℕ → ℕ → List ℕ → Bool
row u b ns = all 32 (entry u b) ns

abbrev pair : ℕ → List (List ℕ) → Bool
pair u nss = all 2 (row u) nss

abbrev pub passes : List (List (List ℕ)) → Bool
passes t = all 2 pair t

pub branch_numbers : (t : List (List (List ℕ))) → T (passes t) → BranchNumbers t
branch_numbers t p = record {
  number =
      λ u b j hu hb hj.
      eqb→eq (get_or (get_or (get_or t u []) b []) j 0) (Isdb.labels u (2 * j + b))
      (at 32 (entry u b) 0 (get_or (get_or t u []) b [])
      (at 2 (row u) [] (get_or t u [])
      (at 2 pair [] t p u hu)
      b hb)
      j hj);
}
