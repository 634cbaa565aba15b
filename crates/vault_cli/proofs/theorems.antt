pub mod Laws
pub mod ProgramLaws
