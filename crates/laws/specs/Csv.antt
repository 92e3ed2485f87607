-- Laws of model's Csv.antt and CsvReading.antt: the texts that are read are the allowed ones.
pub mod Complete
pub mod Sound
pub mod Place
