pub mod Combinations
pub mod DistinctKeys
pub mod NodesInOrder
pub mod Sums
