-- Laws of the planning of passive runs. Assumes nothing.
pub mod RefusalLaws
pub mod TablesLaws
pub mod FillingLaws
pub mod ReplacementLaws
pub mod ShowLaws
pub mod PlanningLaws
pub mod AcceptLaws
pub mod NumberLaws
pub mod Learnt
