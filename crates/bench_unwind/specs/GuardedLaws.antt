-- The search for the newest frame with a handler, as the code goes.
use Rattle.std.specs.Prelude.{ℕ, suc, ◌+◌, ◌*◌, ◌≤◌, ◌<◌, ◌≡◌, List, ℤ, length}
use native.Mathlib.Omega.{arith}
use Rattle.std.proofs.Math.Path.{refl, sym}
use borrow.Author.Tests.{eq-eqb, ne_eqb}
use Rattle.memory.specs.declared.Head.{Head}
use Rattle.memory.specs.Frame.{frame_by, head_of, HeadFits}
use Rattle.memory.specs.FrameLaws.{frames_below}
use Rattle.bench_unwind.specs.Guarded.{newest_guarded_in, FramesFit}

-- The head of a waiting frame can be read.
pub frame_ready : {size : ℕ} {words : List ℤ} {waiting d : ℕ} → FramesFit size words waiting → d < waiting → ((4 ≤ size) × (size * d + size ≤ length words)) × HeadFits (frame_by size d words)
frame_ready {size} {words} {waiting} {d} H l =
    let k : size * d + size ≤ size * waiting = frames_below size l in
    let r : size * waiting ≤ length words = H.room in
    ((H.head_room, omega arith), H.heads d l)

module _ (size : ℕ) (words : List ℤ) where
  -- A frame with a handler is the newest.
  pub search_found : {w d : ℕ} {h : Head} → w ≡ suc d → h ≡ head_of (frame_by size d words) → ¬ (h.word1 ≡ 0) → w ≡ newest_guarded_in size words w
  unfolding newest_guarded_in
  search_found {h = h} q e n = rw (q, sym e, ne_eqb h.word1 0 n) refl

  -- A frame without one is passed.
  pub search_on : {w d : ℕ} {h : Head} → w ≡ suc d → h ≡ head_of (frame_by size d words) → h.word1 ≡ 0 → newest_guarded_in size words d ≡ newest_guarded_in size words w
  unfolding newest_guarded_in
  search_on {h = h} q e z = rw (q, sym e, eq-eqb h.word1 0 z) refl

  -- No frame is left.
  pub search_ends : {w : ℕ} → w ≤ 0 → 0 ≡ newest_guarded_in size words w
  unfolding newest_guarded_in
  search_ends {w} l = let q : w ≡ 0 = omega arith in rw q refl
