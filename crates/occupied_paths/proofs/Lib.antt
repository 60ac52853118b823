pub mod Occupying
