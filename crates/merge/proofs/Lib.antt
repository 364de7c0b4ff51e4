-- Laws: AcceptedLaws proves what Merged claims.
pub mod StretchLaws
pub mod BlockLaws
pub mod FunctionLaws
pub mod FileLaws
pub mod AcceptedLaws
