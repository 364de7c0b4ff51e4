-- Laws.
pub mod ExpressionLaws
pub mod PartLaws
pub mod EndLaws
