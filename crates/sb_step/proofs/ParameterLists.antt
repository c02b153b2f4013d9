-- A parameter list says one list of parameters, and this is what is read.
pub mod DoubledApostrophes
pub mod InsidesOfTokens
pub mod SaidIsParameter
pub mod WhatListsSay
pub mod ParametersAreUnique
pub mod ParametersAreRead
pub mod ListsAreRead
pub mod ParametersByToken
pub mod ParametersExist
pub mod ParametersOfAnInstance
mod Examples
