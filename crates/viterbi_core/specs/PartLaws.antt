-- A slice whose tail was lent, and written at its front; words that are moved down.
pub use Rattle.viterbi_release.specs.PartLaws.{tail_whole, written_tail, shifted}
