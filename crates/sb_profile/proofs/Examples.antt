-- Files that the definitions are tried on, by computing: each row just has what it is about, and its
-- neighbour just has it not.
pub mod Files
mod Taken
mod Made
mod Followed
mod Lengths
mod Judged
mod Sound
