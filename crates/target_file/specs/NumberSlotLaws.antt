-- The slot of a number (document 02, Slip 7) in a file and in the syntax: there exactly in version 2.
use Rattle.target_tags.specs.NumberSlot.{NumberSlot}
use Rattle.std.specs.Prelude.{ℕ, ◌+◌, ◌≤◌, Bool, List, ◌++◌, eqb, get_or, drop, None, Some}
use Rattle.std.proofs.Math.Path.{◌≡◌, refl, ap}
use Rattle.std.proofs.Common.{sym}
use Rattle.std.proofs.Math.Bool.{true, false, cond}
use Rattle.std.proofs.Math.Option.{Option, none, some}
use native.Mathlib.Omega.{arith}
use Rattle.std.proofs.Math.ListN.{length}
use Rattle.parsing.specs.Fields.{version_of}
use Rattle.parsing.specs.BytesAtLaws.{BytesAt, bytes_at_none, bytes_at_byte}
use Rattle.parsing.specs.ReadsLaws.{first_here}
use Rattle.target_tags.specs.Tag.{number_width, number_slot_at, slot_in, number_slot}
use Rattle.target_file.specs.Writing.{slot_bytes, slot_width}

pub slot_back : (y : Option ℕ) → slot_in (number_slot y) ≡ y
slot_back none = refl
slot_back (some y) = refl

pub slot_forth : (z : NumberSlot) → number_slot (slot_in z) ≡ z
slot_forth (Some y) = refl
slot_forth None = refl

module _ (s : List ℕ) (at : ℕ) where
  -- A slot that was read takes the bytes that its version gives it.
  pub slot_width_lem : number_width (version_of s) ≡ slot_width (slot_in (number_slot_at s at))
  unfolding number_width number_slot_at
  slot_width_lem = go (eqb (version_of s) 2)
    where
      go : (t : Bool) → cond t 1 0 ≡ slot_width (slot_in (cond t (Some (get_or s at 0)) None))
      go true = refl
      go false = refl

  -- They stand there.
  pub slot_bytes_at : at + number_width (version_of s) ≤ length s → BytesAt s at (at + number_width (version_of s)) (slot_bytes (slot_in (number_slot_at s at)))
  unfolding number_width number_slot_at
  slot_bytes_at h = go (eqb (version_of s) 2) h
    where
      go : (t : Bool) → at + cond t 1 0 ≤ length s → BytesAt s at (at + cond t 1 0) (slot_bytes (slot_in (cond t (Some (get_or s at 0)) None)))
      go true i = bytes_at_byte s at (omega arith)
      go false i = let q : at ≡ at + 0 = omega arith in rw (← q) (bytes_at_none s at)

  -- A slot that is written is read, where the version has it.
  pub slot_here : (y : Option ℕ) (rest : List ℕ) → slot_width y ≡ number_width (version_of s) → drop at s ≡ slot_bytes y ++ rest → number_slot y ≡ number_slot_at s at
  unfolding number_width number_slot_at
  slot_here none rest e h = go (eqb (version_of s) 2) e
    where
      go : (t : Bool) → ◌≡◌ {A = ℕ} 0 (cond t 1 0) → None ≡ cond t (Some (get_or s at 0)) None
      go true e = absurd (omega arith)
      go false e = refl
  slot_here (some y) rest e h = go (eqb (version_of s) 2) e
    where
      go : (t : Bool) → ◌≡◌ {A = ℕ} 1 (cond t 1 0) → Some y ≡ cond t (Some (get_or s at 0)) None
      go true e = ap Some (sym (first_here s at (slot_bytes (some y) ++ rest) h))
      go false e = absurd (omega arith)
