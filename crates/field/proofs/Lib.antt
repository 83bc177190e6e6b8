-- What rests on the polynomial and on the tables: a must-fail edit of either is refused here.
pub mod Double
pub mod Log
pub mod Inverse
pub mod Field
