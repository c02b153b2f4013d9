-- The laws by topic.

-- a run of bytes ends where the first byte fails
pub mod RunsAreLongest
-- strings at the front, one behind the other
pub mod PrefixesJoin
-- the longest string at the front
pub mod LongestPrefixes
-- any number of strings, and one more
pub mod RepeatsGrow
-- the parts of a joined string
pub mod JoinedHasParts
-- the inside of a text, and of a slice
pub mod InsidesAreBetween
-- what holds of each byte below a bound
pub mod BytesByBytes
