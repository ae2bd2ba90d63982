mod Better
mod Counting
mod Kept
mod Left
mod Loops
mod NoneDecided
mod SimplifiedSound
