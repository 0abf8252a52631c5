-- What is stated: Certain.certain-best (the best reading of points within the margins of a load is that load), certain-leads (each lead there is above 0: `least` at least),
-- certain-decoded (`decode_frame` reads it too). Gaps and Apart are the proof.
pub mod Gaps
pub mod Apart
pub mod Certain
