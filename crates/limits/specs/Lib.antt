-- Examples of the definitions of model that take long to compute: texts of 4,097 records, and with 257 parentheses open at once.
pub mod LogTexts
pub mod PolicyTexts
