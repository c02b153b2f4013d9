-- Lemmas, each file a claim.
mod DecimalsAreReadBack
mod NumbersEndAtTheirPoint
mod FormHasOneReading
mod Examples
mod Passing
mod NearIsInRange
mod FormsAreInRange
mod TokensAtTheFront
mod NumbersAreReals
mod RisingNumbersAreApart
mod FormIsLexed
pub mod FormsAreTexts
