pub mod DeskReadings
