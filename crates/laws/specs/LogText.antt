-- Laws of model's LogText.antt.
pub mod Back
pub mod Rows
