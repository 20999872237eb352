mod KeptRecords
mod RowsWork
mod RowsSoFar
mod LastFlush
mod ToShip
mod Gaps
mod Firsts
mod RowsFit
mod Numbers
mod Statuses
mod Forms
mod FlashEnds
mod MediaEnds
mod MadeCopy
mod ImageEnds
mod Causes
mod Prepared
mod Faults
mod OneTable
mod BadPages
mod OverBytes
pub mod MountDrops
pub mod Steps
pub mod Lasts
