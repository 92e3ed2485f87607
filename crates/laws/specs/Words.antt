-- Laws of model's Words.antt.
pub mod Tests
pub mod Standing
