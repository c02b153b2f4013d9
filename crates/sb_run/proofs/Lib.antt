-- Lemmas, each file a claim.
mod SpacesEndWhereTheyChange
mod CreatedIsEmptyFirst
mod BoxListRises
mod FormsAreShort
mod TextsAreJudged
mod AnswersHaveTheirCause
mod BoxListIsReportable
mod FormIsBox
mod Examples
