pub mod Orders
pub mod SealedPages
pub mod PagesAtPlace
pub mod CommandWrites
pub mod RunsGrow
pub mod Pasts
pub mod Histories
