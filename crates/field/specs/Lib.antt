-- What the loop over a bitmap holds on the way.
pub mod Down
