pub mod Table
pub mod Ends
pub mod Runs
pub mod Verify
pub mod Print
pub mod Station
pub mod Promises
