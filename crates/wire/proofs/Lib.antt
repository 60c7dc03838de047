pub mod Laws
pub mod Bits
pub mod PackedAt
pub mod PackedIs
pub mod Differences
pub mod Same
pub mod Swapped
