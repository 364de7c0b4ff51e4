-- The newest frame with a handler, in lent words alone: word 1 of a frame's head is its handler, 0 for none.
use Rattle.std.specs.Prelude.{ℕ, zero, suc, ◌*◌, ◌≤◌, ◌<◌, cond, List, eqb, ℤ, length}
use Rattle.memory.specs.Frame.{frame_by, head_of, HeadFits}

-- The newest of the oldest frames that has one, by its count from the oldest; 0 where none has.
unfoldable pub newest_guarded_in : (size : ℕ) → List ℤ → (waiting : ℕ) → ℕ
newest_guarded_in size words zero = 0
newest_guarded_in size words (suc d) = cond (eqb (head_of (frame_by size d words)).word1 0) (newest_guarded_in size words d) (suc d)

-- So many frames lie in the words, and their heads are numbers.
pub record FramesFit (size : ℕ) (words : List ℤ) (waiting : ℕ) : Type 0 where
  pub head_room : 4 ≤ size
  pub room : size * waiting ≤ length words
  pub heads : (d : ℕ) → d < waiting → HeadFits (frame_by size d words)
