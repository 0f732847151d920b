-- Laws of what planning an instance finds. Assumes nothing.
pub mod WordLaws
pub mod ShownLaws
pub mod FirstPlanLaws
pub mod SamePlans
pub mod SurveyLaws
