pub mod Field
pub mod SubstitutionBox
pub mod Cipher
pub mod Columns
pub mod KeyExpansion
pub mod CounterMode
pub mod Padding
