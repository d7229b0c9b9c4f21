pub mod LastSeats
