pub mod Pipe
pub mod Begins
pub mod Moving
pub mod Calls
pub mod History
pub mod Table
pub mod Agreement
pub mod steps
