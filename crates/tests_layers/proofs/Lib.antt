-- The wall of three layers stands right, and worked crossings.
mod ThreeLayers
mod Examples
