pub mod NameLaws
pub mod Operands
pub mod Refusing
