-- Laws of model's Listing.antt: the listing of a restriction is exact.
pub mod Fitting
pub mod Exact
pub mod Outer
