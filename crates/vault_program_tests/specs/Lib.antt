pub mod OnePassword
pub mod OnePasswordProofs
