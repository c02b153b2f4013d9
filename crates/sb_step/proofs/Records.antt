-- A record stands among the tokens where the file has it.
pub mod BehindRules
pub mod WhatIsFoundStands
pub mod PlacesOfItems
pub mod RowsAreSearched
pub mod InstancesByNumber
pub mod PlacesTell
pub mod OneSchema
pub mod RecordsStand
pub mod SchemaIsRead
