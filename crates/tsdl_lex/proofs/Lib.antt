pub mod Fronts
pub mod MarkFronts
pub mod CommentFronts
pub mod NumberFronts
pub mod StringFronts
pub mod LexemeFronts
pub mod Pieces
