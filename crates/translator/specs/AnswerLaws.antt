-- The translator's verdict, by the size of the translation.
use Rattle.parsing.specs.declared.Refusal.{Refusal}
use Rattle.std.specs.Prelude.{ℕ, ◌≤◌, ◌≡◌, List, leb, length, Ok, Result}
use Rattle.std.proofs.Common.{arith, sym, ap, ◌∙◌, leb-true}
use Rattle.parsing.specs.Parser.{Verdict, accepted, verdict_of}
use Rattle.parsing.specs.VerdictLaws.{or_accepted, unless_accepted}
use Rattle.target_tags.specs.Tag.{file_limit}
use Rattle.translator.specs.Translated.{translation_of, room_verdict}
use Rattle.byte_writers.specs.Writes.{Room}

-- A translation that fits.
pub fitting_room : (n m : ℕ) → room_verdict n m ≡ accepted → (n ≤ 65535) × (n ≤ m)
unfolding room_verdict
fitting_room n m e =
    let a = or_accepted _ _ e in
    (leb-true n file_limit (unless_accepted (leb n file_limit) _ _ a.0), leb-true n m (unless_accepted (leb n m) _ _ a.1))

-- By the size n that was counted.
pub room_judged : (s d : List ℕ) {n : ℕ} {v : Verdict} → n ≡ length (translation_of s) → v ≡ room_verdict n (length d) → v ≡ room_verdict (length (translation_of s)) (length d)
room_judged s d is e = e ∙ ap (λ (k : ℕ). room_verdict k (length d)) is

pub answer_room : (s d : List ℕ) {n : ℕ} → n ≡ length (translation_of s) → {c : Result (Unit {0}) Refusal} → verdict_of c ≡ room_verdict n (length d) → c ≡ (Ok tt) → Room 0 (length (translation_of s)) d
answer_room s d {n} is e q = let f = fitting_room n (length d) (sym e ∙ ap verdict_of q) in record { fits = omega (arith, f.1); small = omega (arith, f.0) }
