pub mod FieldLemmas
pub mod TableLemmas
pub mod WordLemmas
pub mod ColumnsLemmas
pub mod KeyExpansionLemmas
pub mod PaddingLemmas
pub mod CounterModeLemmas
