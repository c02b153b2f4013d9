-- What is said of plans, in reading order.
pub mod LoopEdges
pub mod Inside
pub mod Rays
pub mod Alike
pub mod Loops
pub mod Plans
pub mod Rectangles
