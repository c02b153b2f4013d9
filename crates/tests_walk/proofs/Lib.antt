-- What is shown of the rows.
mod SlabsOfModel
