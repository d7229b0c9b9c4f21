pub mod PlanFiles
pub mod Said
pub mod Streams
