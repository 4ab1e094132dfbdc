pub mod TankFound
pub mod SurchargesRead
pub mod OpenMoves
pub mod LaneClosed
pub mod Compared
