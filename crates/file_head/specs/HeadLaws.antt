-- Laws of the head, as the functions that read it meet them.
use Rattle.parsing.specs.declared.reason.Reason.TheVariants.{FileTooLong, WrongMark, WrongVersion}
use Rattle.parsing.specs.declared.Refusal.{Refusal}
use Rattle.std.specs.Prelude.{ℕ, ◌+◌, ◌*◌, ◌≤◌, ◌<◌, ◌≡◌, List, [], ◌∷◌, drop, Err, Ok}
use Rattle.std.proofs.Math.Path.{refl}
use Rattle.std.proofs.Common.{ap, ◌∙◌, arith, add-one, drop_of_length-le, drop-cons}
use borrow.Author.Tests.{le-leb, lt-leb, le-ltb, lt-ltb, eq-eqb, ne_eqb}
use Rattle.std.proofs.Math.ListN.{length, get_or}
use Rattle.parsing.specs.Parser.{refusal, Parsed, read, refuse, and_then, past_of}
use Rattle.parsing.specs.Fields.{cut, marked, IsVersion, version, within, head}
use Rattle.parsing.specs.ParserLaws.{past_read, stop, is_version_lem, no_version}
use Rattle.parsing.specs.BytesAtLaws.{bytes_at_marked}

module _ (ms s : List ℕ) (i : ℕ) where
  pub marked_short : i < length ms → length s ≤ i → past_of (marked (drop i ms) s i) ≡ Err (cut s)
  marked_short h k = rw (drop-cons ms i 0 h, le-ltb i (length s) k)

  pub marked_wrong : i < length ms → i < length s → (get_or s i 0 ≡ get_or ms i 0 → ⊥) → past_of (marked (drop i ms) s i) ≡ Err (refusal WrongMark i)
  marked_wrong h k n = rw (drop-cons ms i 0 h, lt-ltb i (length s) k, ne_eqb (get_or s i 0) (get_or ms i 0) n)

  pub marked_on : i < length ms → i < length s → get_or s i 0 ≡ get_or ms i 0 → marked (drop (i + 1) ms) s (i + 1) ≡ marked (drop i ms) s i
  marked_on h k e = rw (drop-cons ms i 0 h, lt-ltb i (length s) k, eq-eqb (get_or s i 0) (get_or ms i 0) e, add-one)

  pub marked_done : length ms ≤ i → marked (drop i ms) s i ≡ read tt i
  marked_done h = rw (drop_of_length-le ms h)

module _ (s : List ℕ) (at : ℕ) where
  pub version_short : length s < at + 2 → version s at ≡ refuse (cut s)
  unfolding version
  version_short h = rw (lt-leb (at + 2) (length s) h)

  pub version_other : at + 2 ≤ length s → (IsVersion (get_or s at 0 + 256 * get_or s (at + 1) 0) → ⊥) → version s at ≡ refuse (refusal WrongVersion at)
  unfolding version
  version_other h n = rw (le-leb (at + 2) (length s) h, no_version (get_or s at 0 + 256 * get_or s (at + 1) 0) n)

  pub version_right : at + 2 ≤ length s → IsVersion (get_or s at 0 + 256 * get_or s (at + 1) 0) → version s at ≡ read tt (at + 2)
  unfolding version
  version_right h k = rw (le-leb (at + 2) (length s) h, is_version_lem (get_or s at 0 + 256 * get_or s (at + 1) 0) k)

module _ (limit : ℕ) (s : List ℕ) (at : ℕ) where
  pub size_beyond : limit < length s → Err (refusal FileTooLong limit) ≡ past_of (within limit s at)
  size_beyond h = rw (lt-leb (length s) limit h)

  pub size_within : length s ≤ limit → Ok at ≡ past_of (within limit s at)
  size_within h = rw (le-leb (length s) limit h)

-- The head by its parts in turn.
module _ (ms : List ℕ) (limit : ℕ) (s : List ℕ) where
  pub mark_refused : {r : Refusal} → past_of (marked ms s 0) ≡ Err r → past_of (head ms limit s 0) ≡ Err r
  unfolding head
  mark_refused e = ap past_of (stop (marked ms s 0) (λ u k. and_then (version s k) (λ v m. within limit s m)) e)

  -- Behind a right mark.
  module _ {n : ℕ} (right : past_of (marked ms s 0) ≡ Ok n) where
    behind_mark : head ms limit s 0 ≡ and_then (version s n) (λ v m. within limit s m)
    unfolding head
    behind_mark = ap (λ (x : Parsed (Unit {0})). and_then x (λ u k. and_then (version s k) (λ v m. within limit s m))) (past_read (marked ms s 0) right).is

    pub version_refused : {r : Refusal} → past_of (version s n) ≡ Err r → past_of (head ms limit s 0) ≡ Err r
    version_refused e = ap past_of (behind_mark ∙ stop (version s n) (λ v m. within limit s m) e)

    pub behind_version : {m : ℕ} → past_of (version s n) ≡ Ok m → past_of (head ms limit s 0) ≡ past_of (within limit s m)
    behind_version e = ap past_of (behind_mark ∙ ap (λ (x : Parsed (Unit {0})). and_then x (λ v m. within limit s m)) (past_read (version s n) e).is)

-- The head of a file above its limit is judged by the bytes of its mark and its version.
module _ (s t : List ℕ) where
  marked_alike : (ms : List ℕ) (at : ℕ) → at + length ms ≤ length s → at + length ms ≤ length t → ((i : ℕ) → i < at + length ms → get_or s i 0 ≡ get_or t i 0) → marked ms s at ≡ marked ms t at
  marked_alike [] at h k f = refl
  marked_alike (m ∷ ms) at h k f =
      rw (lt-ltb at (length s) (omega arith), lt-ltb at (length t) (omega arith), f at (omega arith), marked_alike ms (at + 1) (omega arith) (omega arith) (λ i l. f i (omega arith)))

  version_alike : (at : ℕ) → at + 2 ≤ length s → at + 2 ≤ length t → ((i : ℕ) → i < at + 2 → get_or s i 0 ≡ get_or t i 0) → version s at ≡ version t at
  unfolding version
  version_alike at h k f = rw (le-leb (at + 2) (length s) h, le-leb (at + 2) (length t) k, f at (omega arith), f (at + 1) (omega arith))

  pub head_alike : (ms : List ℕ) (limit : ℕ) → length ms + 2 ≤ limit → limit < length s → limit < length t → ((i : ℕ) → i < length ms + 2 → get_or s i 0 ≡ get_or t i 0)
      → head ms limit s 0 ≡ head ms limit t 0
  unfolding head
  head_alike ms limit room h k f =
      rw (marked_alike ms 0 (omega arith) (omega arith) (λ i l. f i (omega arith)), lt-leb (length s) limit h, lt-leb (length t) limit k) (go (marked ms t 0) refl)
    where
      go : (x : Parsed (Unit {0})) → marked ms t 0 ≡ x
          → and_then x (λ u a. and_then (version s a) (λ v m. refuse (refusal FileTooLong limit))) ≡ and_then {B = Unit {0}} x (λ u a. and_then (version t a) (λ v m. refuse (refusal FileTooLong limit)))
      go (refuse r) e = refl
      go (read u a) e =
          let p : a ≡ length ms = omega (arith, (bytes_at_marked t ms 0 e).past) in
          rw (p, version_alike (length ms) (omega arith) (omega arith) f)
