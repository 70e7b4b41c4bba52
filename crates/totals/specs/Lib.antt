-- What the functions inside this library promise each other. What its calls answer is said in `totals_spec`, in Adding.
pub mod Splitting
pub mod Sweeping
