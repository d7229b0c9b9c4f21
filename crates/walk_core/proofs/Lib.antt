mod Sums
mod Walking
mod Parts
mod Bits
mod Flat
mod Totals
