pub mod Report
pub mod Calls
pub mod Results
pub mod Seen
pub mod Loading
