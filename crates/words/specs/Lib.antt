pub mod Offset
pub mod Laying
