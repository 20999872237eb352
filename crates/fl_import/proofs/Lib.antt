mod NextPut
mod Taken
pub mod OneLine
mod AllLines
mod LastFlush
mod FlashEnds
mod OverBytes
pub mod ImageEnds
