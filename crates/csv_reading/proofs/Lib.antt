pub mod FieldLaws
pub mod WholeFields
pub mod RecordLaws
pub mod RowsLaws
