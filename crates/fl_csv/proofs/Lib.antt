pub mod CsvRecords
mod CsvReads
pub mod Blobs
pub mod Numbers
pub mod Fields
mod PutFields
pub mod Names
pub mod Plain
pub mod Sends
pub mod Gathers
pub mod Places
pub mod BareLines
pub mod ReadBack
pub mod TextBack
