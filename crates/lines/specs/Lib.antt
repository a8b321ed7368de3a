pub mod Cursor
pub mod Pieces
pub mod Behind
pub mod Put
