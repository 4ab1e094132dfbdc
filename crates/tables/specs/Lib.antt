pub mod Clamped
pub mod ClampedLawful
pub mod Loads
pub mod Made
pub mod Found
