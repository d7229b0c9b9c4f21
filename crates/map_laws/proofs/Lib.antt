pub mod MutualSight
pub mod SimpleGraphs
pub mod Visibility
