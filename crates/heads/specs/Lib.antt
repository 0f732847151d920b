-- What the contracts cite besides the definitions of `commands`. Assumes nothing.
pub mod RecordMarks
