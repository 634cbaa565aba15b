pub mod LargerLimits
pub mod WrittenBody
pub mod WrittenHeader
pub mod WrittenReadsBack
