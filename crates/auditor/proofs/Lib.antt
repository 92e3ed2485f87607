-- Laws that several proofs of this crate cite.
pub mod DualFormed
pub mod DualCall
pub mod ReduceCleared
-- Theorems that rest on statements of specs/ which an edit makes false.
pub mod RunsExample
