pub mod KeptRows
pub mod MountReads
pub mod PlanEnds
pub mod Rows
pub mod ConfigLines
pub mod Tables
