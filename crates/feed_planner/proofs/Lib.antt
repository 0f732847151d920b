-- Laws of the exported functions. Assumes nothing.
pub mod StoreLaws
pub mod RefusedLaws
pub mod CardLaws
pub mod SheetLaws
pub mod PressLaws
pub mod PressListLaws
pub mod PressListCard
pub mod LookLaws
pub mod ReasonLaws
pub mod PlanLaws
pub mod RowLaws
pub mod Learnt
