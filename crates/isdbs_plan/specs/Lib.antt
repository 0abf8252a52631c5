pub mod RunsOf
pub mod RunLaws
pub mod PlanLaws
pub mod PlannedLaws
