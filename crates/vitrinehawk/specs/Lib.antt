pub mod Detail
