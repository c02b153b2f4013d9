-- What is shown of the crate, by topic.
mod ProductsFit
mod Orders
mod Products
mod Meetings
mod Along
mod Examples
