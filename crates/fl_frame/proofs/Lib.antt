pub mod CallsInTurn
pub mod ContentsInTurn
pub mod ReadsInTurn
pub mod SingleReads
pub mod WatchedInTurn
