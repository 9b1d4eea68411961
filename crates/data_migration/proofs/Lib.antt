pub mod Apart
pub mod AsideNames
pub mod GrownTables
pub mod ListLoops
pub mod MadeFiles
pub mod PlanNames
pub mod TablePlans
