-- The values that a call takes, which crates/viterbi_rows defines.
pub use Rattle.viterbi_rows.specs.Values.{path_limit, stream_limit}
unfoldable pub use Rattle.viterbi_rows.specs.Values.{some_beyond}
