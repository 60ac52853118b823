pub mod Turning
pub mod Exact
pub mod Dating
pub mod Made
pub mod Pivot
pub mod Sealing
