pub mod HexPairs
