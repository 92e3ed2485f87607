-- Laws of model's Tptp.antt and TptpReading.antt: what is spelled is read, so that a text spells one tree only (Complete); that no
-- allowed text goes on from where a text is refused (Refusing); what comes of one parenthesis too many (Limits); what is written is
-- read back, a residual too (Back).
pub mod Complete
pub mod Refusing
pub mod Limits
pub mod Back
