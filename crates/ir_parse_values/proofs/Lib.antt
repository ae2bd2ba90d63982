mod Bodies
mod Closings
mod Initials
mod Following
mod BlockLoops
