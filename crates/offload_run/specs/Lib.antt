pub mod Offload
