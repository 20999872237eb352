pub mod RowBytes
pub mod RowsFrom
pub mod WriterSteps
pub mod DataPages
pub mod ReadsInTurn
pub mod Views
