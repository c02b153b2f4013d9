-- Prisms and solids that are moved, and what is answered of them.
pub mod PrismsMove
pub mod SolidsMove
pub mod JudgedAnswers
pub mod MovedPrisms
