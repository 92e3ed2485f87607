-- Laws of model's Tptp.antt and TptpReading.antt, a folder for each kind: which trees a text can spell, and tokens in a text (Spelling);
-- what is read is spelled (Sound); what it is that a reader takes the tokens of a value (Complete); where a text is refused (Refusing); how
-- many parentheses stand open, and how long a text is (Limits).
pub mod Spelling
pub mod Sound
pub mod Complete
pub mod Refusing
pub mod Limits
