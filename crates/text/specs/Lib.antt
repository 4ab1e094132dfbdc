pub mod Faults
pub mod Marks
pub mod Numbers
pub mod Words
