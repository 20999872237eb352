pub mod NameText
mod OneLine
