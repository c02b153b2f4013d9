-- A cursor stands before the parameters of its instance that are left.
pub mod LeftIsUnique
pub mod CursorsBegin
pub mod ParametersClose
pub mod TypedByToken
pub mod ParametersArePassed
pub mod FormsByToken
