pub mod ZipIndex
pub mod ReadPlaces
pub mod ReadSight
pub mod Refused
