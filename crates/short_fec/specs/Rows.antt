-- The refusal rows of each call, which crates/short_rows defines.
pub use Rattle.short_rows.specs.Rows.{code_rows, encoder_rows, encode_rows, fresh_rows, bad_state, handed_rows, stream_rows, known_rows, flush_rows}
