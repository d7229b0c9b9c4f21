mod Printed
mod Keeping
mod PlanTables
mod Shown
mod Asked
mod Stepped
mod Places
mod TrialSums
