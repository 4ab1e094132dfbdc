pub mod Scanned
pub mod Spelled
pub mod Steps
pub mod Written
