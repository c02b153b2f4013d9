mod Followed
mod OneModel
mod Conditions
mod Products
mod Known
mod ListsOfProducts
mod Examples
