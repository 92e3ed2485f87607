-- One call of a run of model's Runs.antt.
pub mod Claim
