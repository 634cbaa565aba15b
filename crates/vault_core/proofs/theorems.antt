pub mod RoundTrips
pub mod SealedUnseals
pub mod SealedReadsBack
pub mod ShortInputs
