-- The laws by topic: first digits and tens, then rounding, then texts.

-- the first digits of a number
pub mod LeadingDigits
-- digits read one by one
pub mod FirstDigits
-- a number that is held back gives the same answer
pub mod HeldBack
-- rounding to a whole number
pub mod RoundedByTenths
pub mod RoundedIsOne
-- products of shifts
pub mod ShiftsFit
-- the number of a text in tenths
pub mod TenthsOfText
-- digits appended one by one
pub mod DigitsAppended
-- the number of a token by its parts, and of what is printed
pub mod CutAtMarks
pub mod TokensWriteDecimals
pub mod PrintedIsReadBack
mod Examples
