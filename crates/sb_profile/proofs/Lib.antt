mod Verdicts
mod EachFileSays
mod TablesOfFiles
mod LowestOfAList
mod ListsOfNumbers
mod Followed
mod Examples
