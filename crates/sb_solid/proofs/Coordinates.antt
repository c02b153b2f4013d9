-- Where coordinates lie that are moved together.
pub mod NearIsNearest
pub mod SpansTellAll
pub mod SpansGrow
pub mod EveryPoint
