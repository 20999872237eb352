pub mod Ran
pub mod LongLines
pub mod AnsweredLines
pub mod AlikeFlushes
pub mod TableFlushes
pub mod LineAnswer
pub mod GroupLines
pub mod FirstKey
pub mod TalkLoop
pub mod TalkEnds
mod LookedState
mod FirstSaid
mod CausedLines
mod CausedFlushes
mod CausedEnds
pub mod Newlines
pub mod NextLine
pub mod LeadingLines
pub mod Runnable
pub mod Accepted
pub mod EarlyEnds
pub mod ShellEnds
pub mod DescribedImage
pub mod Header
pub mod InputEnds
pub mod CompleteEnds
mod FailedReads
