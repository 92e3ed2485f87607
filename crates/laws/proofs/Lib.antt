-- The theorems that depend on a declaration of specs/ which an edit of must-fail/ makes false, under the names of the files of specs/.
pub mod Log
pub mod LogText
pub mod Tptp
pub mod Reduction
pub mod Runs
