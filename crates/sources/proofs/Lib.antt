pub mod Fetched
mod Fronts
pub mod AllJoined
pub mod Layers
pub mod Shelves
