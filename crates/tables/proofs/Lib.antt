pub mod Meaning
pub mod TablesFound
