pub mod Pieces
pub mod Untouched
pub mod Parts
pub mod LinesInTurn
pub mod LongLinesLeft
pub mod Rooms
