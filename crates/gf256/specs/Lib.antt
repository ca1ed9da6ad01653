pub mod Field
pub mod Tests
pub mod FieldLaws
pub mod Substitution
pub mod SubstitutionLaws
pub mod Tables
pub mod Column
pub mod ColumnLaws
