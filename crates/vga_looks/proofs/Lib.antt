mod Later
mod ClosedRows
mod Rows
mod Turning
