mod LookedUp
pub mod Neither
pub mod NoneNamed
pub mod NoneResting
pub mod Outside
pub mod KeptEdges
pub mod Parting
pub mod Placed
pub mod Staying
pub mod Stepping
pub mod Walking
pub mod Unnamed
