-- What edits of one block are in the flat list, and which blocks stay blocks.
mod EditsOfOneBlock
mod BlocksStay
mod PlacesInOrder
mod SearchedPlaces
