pub mod HmacLemmas
pub mod KeysLemmas
pub mod Pbkdf2Lemmas
pub mod XorLemmas
