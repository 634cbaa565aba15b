pub mod SettledRequests
pub mod WordsNameACommand
