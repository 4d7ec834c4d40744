pub mod WorkedPlaces
pub mod Worked
