pub mod Occupied
