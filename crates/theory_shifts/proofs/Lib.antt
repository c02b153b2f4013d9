-- The laws by topic.
pub mod StepsStay
pub mod NormalMoves
pub mod EdgesMove
pub mod PlansMove
mod Examples
