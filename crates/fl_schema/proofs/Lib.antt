pub mod Numbers
pub mod Places
pub mod RowColumns
pub mod References
pub mod RoundTrip
