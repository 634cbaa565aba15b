pub mod OutputLemmas
pub mod PathLogLemmas
mod HostLemmas
