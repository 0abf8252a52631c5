-- What is stated: Ranges.softRange, metricRange, pathRange (the ranges), Accepted.frame-ranges (an accepted `decode_frame` keeps to them). Numbers has the limits.
-- Size, Rising and Metrics are the proof, over parts within 2 ^ p and scales within 2 ^ s.
pub mod Size
pub mod Rising
pub mod Metrics
pub mod Limits
pub mod Numbers
pub mod Ranges
