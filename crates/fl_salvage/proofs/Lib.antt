pub mod MediaOnlyRead
pub mod Lines
pub mod PageTexts
pub mod Pieces
pub mod SalvageEnds
pub mod CountedPages
pub mod GivenConfig
