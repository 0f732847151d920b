-- What planning finds of an instance. Assumes nothing.
pub mod FirstPlan
pub mod Survey
