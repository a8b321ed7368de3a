pub mod LineInText
pub mod SoFar
pub mod Told
