pub mod ToldTables
pub mod FindingLines
pub mod CheckEnds
pub mod Ringed
