pub mod RisingKnots
pub mod PassedSlots
