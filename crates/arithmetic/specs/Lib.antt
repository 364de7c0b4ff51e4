-- Laws for the code of this crate; its definitions are Value's of crate `semantics`.
pub mod WrapLaws
