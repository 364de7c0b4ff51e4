-- Reading the head of a file: its definition is `head` of crate parsing (Fields). Laws.
pub mod HeadLaws
