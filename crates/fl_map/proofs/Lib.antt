mod Ends
pub mod Pages
pub mod ThreeTexts
pub mod Tables
pub mod MapEnds
