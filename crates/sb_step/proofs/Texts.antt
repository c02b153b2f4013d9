-- The machine goes on exactly where the grammar does.
pub mod TurnsByWay
pub mod DepthIsCounted
pub mod ReadingToTheEnd
pub mod ListsAreFollowed
pub mod SectionsAreFollowed
pub mod WhatIsReadIsText
pub mod SomeTextGoesOn
pub mod TextsEnd
pub mod OneFileOrOneFault
mod Examples
