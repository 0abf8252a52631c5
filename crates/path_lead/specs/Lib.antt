-- What is stated: Favour (what is received), Sent.follows and Sent.led-by (the sent state leads, with the rounding loss), Frame.decoded-sent (a whole frame is decoded).
-- The other chapters are the proof.
pub mod Favour
pub mod Lists
pub mod Ties
pub mod Complement
pub mod Traceback
pub mod Sent
