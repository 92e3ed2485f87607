-- The run claim of model's Runs.antt, and a run that meets its premises.
pub mod Claim
pub mod Example
