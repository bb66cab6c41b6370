pub mod Above
pub mod ChainIs
