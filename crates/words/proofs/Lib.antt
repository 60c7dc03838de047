pub mod Laws
pub mod Linear
pub mod Carry
pub mod Factors
pub mod Taps
pub mod Start
pub mod Ends
