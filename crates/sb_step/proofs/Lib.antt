mod Names
pub mod KindsSay
-- the machine goes on exactly where the grammar does
pub mod Texts
-- what `index` collects and answers
pub mod Collecting
-- records stand where the file has them
pub mod Records
-- a parameter list says one list, and this is read
pub mod ParameterLists
-- a cursor stands before the parameters that are left
pub mod Cursors
