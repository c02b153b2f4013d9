-- Where two edges meet.
pub mod PointsByShares
pub mod CommonPointHasShares
pub mod MeetingIsCommon
pub mod MeetingInRange
pub mod CrossingByGap
