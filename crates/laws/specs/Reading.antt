-- Laws of model's Reading.antt and Tree.antt: what is read is written back, and what is written is read back; and
-- which trees are good by question 3 (Shaped).
pub mod Formed
pub mod Items
pub mod Nodes
pub mod Encoded
pub mod Parts
pub mod Back
pub mod Trees
pub mod Shaped
