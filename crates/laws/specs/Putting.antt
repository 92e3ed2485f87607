-- Laws of model's Putting.antt; reduction with numbers in scope and with the numbers put in.
pub mod Parts
pub mod Modes
pub mod Reduction
