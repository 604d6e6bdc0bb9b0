-- What documents 00 and 01 demand of any codec, and the stand-ins that these demands reject.
pub mod Codec
pub mod Standins
