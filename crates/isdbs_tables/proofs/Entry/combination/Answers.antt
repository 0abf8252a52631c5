-- `Entry::combination` meets its contract.
use Rattle.isdbs_combination.specs.CombinationLaws.{assigned}
use Rattle.isdbs_combination.specs.Combinations.{assigned_of}
use mathlib.Core.Path.{◌∙◌, ap}
use Rattle.isdbs_tables.proofs.Entry.combination.Goals as goal

pub returns : goal.returns
returns c = c.combination.ensures ∙ ap assigned_of c.from_word.ensures ∙ assigned _ _
