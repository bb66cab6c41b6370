pub mod Triples
pub mod Triangles
