pub mod PolicyText
