-- What callers cite of the numbers.
pub mod Numbers
