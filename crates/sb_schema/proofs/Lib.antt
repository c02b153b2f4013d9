mod BegunIsTold
mod ItemsGiveLists
mod Examples
