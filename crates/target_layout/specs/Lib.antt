-- The layout of translated files. Definitions: Layout.
pub mod Layout
-- Laws.
pub mod FileLaws
