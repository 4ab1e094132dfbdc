pub mod Bounded
pub mod Checked
pub mod Examples
pub mod Summed
