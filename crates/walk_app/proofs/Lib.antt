mod Complete
mod OnceAtMost
mod OptionLimits
mod OverPlan
mod WholeOutput
