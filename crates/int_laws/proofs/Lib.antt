pub mod Ring
pub mod Signs
pub mod Divisors
pub mod Tests
pub mod Multiples
