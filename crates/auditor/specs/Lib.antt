pub mod Reduce
pub mod Runs
pub mod RunsExample
