pub mod InOrder
pub mod Numbered
pub mod Numberings
pub mod OneToOne
pub mod Replacements
pub mod Sounds
pub mod Substituted
pub mod Uses
