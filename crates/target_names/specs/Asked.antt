-- What the functions over a node ask of it.
use Rattle.std.specs.Prelude.{ℕ, ◌≤◌, ◌≡◌, ◌≢◌, List}
use Rattle.target_tags.specs.declared.tag.Tag.{Tag}
use Rattle.target_tags.specs.declared.tag.Tag.TheVariants.{Jump}
use Rattle.target_tags.specs.Tag.{file_limit, tag_at}

-- The node is no jump.
abbrev pub NoJump : Tag → Type 0
NoJump t = (g k h n next : ℕ) → t ≢ Jump g k h n next

-- The node stands at this offset of a file within its limit.
pub record NodeAt (s : List ℕ) (at : ℕ) (t : Tag) : Type 0 where
  pub small : at ≤ file_limit
  pub is : t ≡ tag_at s at
