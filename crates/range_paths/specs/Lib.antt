-- What is stated: Steps.Soft and Steps.Falls (what a step may add, and take from the best path value), Invariant.Bounded (the path values j steps after a subtraction of the maximum), Run.soft-call, Run.known-call,
-- Run.path-within (a whole call, and each of its steps), Starts (fresh decoders). The other chapters are the proof.
pub mod Bounds
pub mod Values
pub mod Steps
pub mod Reach
pub mod Invariant
