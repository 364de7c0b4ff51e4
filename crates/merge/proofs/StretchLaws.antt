-- Bytes that stand in a file, copied as they are.
use Rattle.std.specs.Prelude.{ℕ, ◌+◌, ◌-◌, ◌≤◌, ◌≡◌, List, ◌++◌, length, take, drop}
use Rattle.std.proofs.Common.{arith, sym, ap, ◌∙◌, take_at}
use Rattle.byte_writers.specs.Writes.{Room, Wrote}
use Rattle.memory.specs.LayLaws.{length_part}
use Rattle.byte_writers.specs.WriteLaws.{room_as, wrote_part}
use Rattle.merge.specs.Parts.{stretch}

pub stretch_is : (s : List ℕ) (at next : ℕ) (w r : List ℕ) → drop at s ≡ w ++ r → next ≡ at + length w → stretch s at next ≡ w
stretch_is s at next w r e q =
    let k : length w ≡ next - at = omega arith in
    ap (take (next - at)) e ∙ take_at w r (next - at) k

pub stretch_long : (s : List ℕ) (at next : ℕ) → at ≤ next → next ≤ length s → length (stretch s at next) ≡ next - at
stretch_long s at next h k = length_part at (next - at) s (omega arith)

-- What a copy of a stretch wrote: the part w of the output.
pub stretch_wrote : (s : List ℕ) (at next o k : ℕ) (w d : List ℕ) → at ≤ next → next ≤ length s → Room o (length (stretch s at next)) d → k ≡ next - at → w ≡ stretch s at next → length w ≡ length (take k (drop o d))
    → Wrote o (stretch s at next) d (o + (next - at)) (take o d ++ (w ++ drop k (drop o d)))
stretch_wrote s at next o k w d h l R e p q = wrote_part o (next - at) k w (stretch s at next) d (room_as (sym (stretch_long s at next h l)) R) e p q
