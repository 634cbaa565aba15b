pub mod BuiltLemmas
pub mod CommandLineLemmas
pub mod RefusalLemmas
pub mod SettledLemmas
pub mod theorems
