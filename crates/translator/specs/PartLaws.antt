-- Writing the part of a block.
use Rattle.std.specs.Prelude.{ℕ, ◌+◌, ◌*◌, ◌<◌, ◌≡◌, List, [], ◌∷◌, ◌++◌}
use Rattle.std.proofs.Common.{arith, sym}
use Rattle.std.proofs.Math.Path.{refl, ap}
use Rattle.std.proofs.Math.ListN.{length}
use Rattle.parsing.specs.Bytes.{pair_bytes}
use Rattle.translator_bytes.specs.Bytes.{zeros}
use Rattle.translator_bytes.specs.declared.jumps.Under.{Under}
use Rattle.translator_sizes.specs.Parts.{bytes_at, part_bytes}
use Rattle.byte_writers.specs.Writes.{Room, Wrote}
use Rattle.byte_writers.specs.WriteLaws.{room_less, room_as, room_behind, room_behind_two, wrote_after}
use Rattle.translator_bytes.proofs.LengthLaws.{length_zeros}
use Rattle.translator_bytes.proofs.JumpLaws.{pair_as}
use Rattle.translator_sizes.specs.Asked.{BlockSize}
use Rattle.translator_sizes.specs.PartLaws.{part_size}

module _ (s : List ℕ) (base p n : ℕ) (u : Under) (at : ℕ) {o : ℕ} {d : List ℕ} (R : Room o (length (part_bytes s base p n u at)) d) where
  pub part_small : {k : ℕ} → BlockSize s u at k → 6 * n + k < 65536
  part_small B = omega (arith, part_size s base p n u at, B.is base, R.small)

  -- One byte, a length, the zeros, and the block.
  whole : Room o (3 + (6 * n + length (bytes_at s base u at))) d
  whole = room_as (sym (part_size s base p n u at)) R

  pub part_room : Room o 1 d
  part_room = room_less whole (omega arith)

  module _ {a : ℕ} {w₁ d₁ : List ℕ} (one : length w₁ ≡ 1) (W : Wrote o w₁ d a d₁) where
    pub part_pair_room : Room a 2 d₁
    part_pair_room = room_behind 2 whole W (omega arith)

    module _ {b : ℕ} {w₂ d₂ : List ℕ} (two : length w₂ ≡ 2) (X : Wrote a w₂ d₁ b d₂) where
      third : Room b (6 * n + length (bytes_at s base u at)) d₂
      third = room_behind_two (6 * n + length (bytes_at s base u at)) whole W X (omega arith)

      pub part_zeros_room : Room b (6 * n) d₂
      part_zeros_room = room_less third (omega arith)

      pub part_block_room : {c : ℕ} {w₃ d₃ : List ℕ} → length w₃ ≡ 6 * n → Wrote b w₃ d₂ c d₃ → Room c (length (bytes_at s base u at)) d₃
      part_block_room e Y = room_behind (length (bytes_at s base u at)) third Y (omega arith)

  pub part_wrote : {k a b c r : ℕ} {d₁ d₂ d₃ d₄ : List ℕ} → BlockSize s u at k → Wrote o (p ∷ []) d a d₁ → Wrote a (pair_bytes (6 * n + k)) d₁ b d₂ → Wrote b (zeros (p + 2) n) d₂ c d₃
      → Wrote c (bytes_at s base u at) d₃ r d₄ → Wrote o (part_bytes s base p n u at) d r d₄
  unfolding part_bytes
  part_wrote {k} B W X Y Q =
      let size : 6 * n + k ≡ 6 * n + length (bytes_at s base u at) = ap (λ (i : ℕ). 6 * n + i) (B.is base) in
      let locals : length (zeros (p + 2) n) ≡ 6 * n = length_zeros (p + 2) n in
      wrote_after (p ∷ []) (pair_bytes (6 * n + length (bytes_at s base u at)) ++ (zeros (p + 2) n ++ bytes_at s base u at)) whole (omega arith) W
      (wrote_after (pair_bytes (6 * n + length (bytes_at s base u at))) (zeros (p + 2) n ++ bytes_at s base u at) (part_pair_room refl W) (omega arith) (pair_as size X)
      (wrote_after (zeros (p + 2) n) (bytes_at s base u at) (third refl W refl X) (omega arith) Y Q))
