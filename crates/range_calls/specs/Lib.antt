-- What is stated: Reached.Reached (a decoder state that comes from a fresh start by accepted calls), Closed.reached-rows (the rows of a handed state refuse none of
-- them), Closed.reached-values (the range of their path values), Handed (each call's contract hands one on), Answers (what the calls can still answer), TwoCalls (a run in two calls),
-- CutAtOne (where two calls differ from one). Numbers has the bounds. Inside, MetricLaws and Normalised are part of the proof.
pub mod Normalised
pub mod Numbers
pub mod Inside
pub mod MetricLaws
pub mod Reached
pub mod Handed
pub mod CutAtOne
pub mod Finished
pub mod Turned
pub mod TurnedLaws
