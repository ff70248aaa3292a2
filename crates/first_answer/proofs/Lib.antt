pub mod Cheapest
pub mod NearestOrder
pub mod Exchanged
pub mod Exchanges
pub mod Settled
pub mod First
pub mod FirstPairs
