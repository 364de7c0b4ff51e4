-- Which answers Slip 5 of document 02 changed: a law over the check that stands behind the head.
use Rattle.parsing.specs.declared.reason.Reason.TheVariants.{FileTooLong, WrongMark, WrongVersion}
use Rattle.std.specs.Prelude.{ℕ, suc, ◌+◌, ◌*◌, ◌≤◌, ◌<◌, ◌≡◌, Bool, cond, List, [], ◌∷◌, leb, eqb, length, take, drop}
use Rattle.std.proofs.Math.Path.{refl, ap}
use Rattle.std.proofs.Common.{sym, ◌∙◌, add-one, drop-cons, take_at, get_or-take}
use Rattle.std.proofs.Math.Bool.{true, false}
use native.Mathlib.Omega.{arith}
use borrow.Author.Tests.{le-leb, lt-leb, lt-ltb, leb-true, leb-false, eqb-true, eqb-false}
use Rattle.std.proofs.Math.ListN.{get_or}
use Rattle.parsing.specs.declared.Refusal.{Refusal}
use Rattle.parsing.specs.Parser.{refusal, Parsed, read, refuse, and_then, Verdict, refused}
use Rattle.parsing.specs.Fields.{marked, is_version, version, head}
use Rattle.parsing.specs.SizeFirst.{head_size_first, RightMark, MarkWrongAt, AnswerChange, mark_refused, version_refused, held}
use Rattle.parsing.specs.ParserLaws.{impossible, version_true, version_false}
use Rattle.parsing.specs.BytesAtLaws.{bytes_at_marked}

-- A mark is not both, so the cases of `AnswerChange` exclude each other.
pub wrong_not_right : {mark s : List ℕ} {i : ℕ} → MarkWrongAt mark s i → RightMark mark s → ⊥
wrong_not_right {mark} {s} {i} w right = w.wrong (sym (get_or-take (length mark) s i 0 w.inside) ∙ ap (λ (l : List ℕ). get_or l i 0) right)

-- A refused mark, in a file that has bytes enough: the first wrong byte, counted from `at`.
record FirstWrong (s ms : List ℕ) (at : ℕ) (r : Refusal) : Type 0 where
  i : ℕ
  refused_so : r ≡ refusal WrongMark (at + i)
  first : MarkWrongAt ms (drop at s) i

first_wrong_lem : (s ms : List ℕ) (at : ℕ) {r : Refusal} → at + length ms ≤ length s → marked ms s at ≡ refuse r → FirstWrong s ms at r
first_wrong_lem s [] at h e = impossible (cc)
first_wrong_lem s (m ∷ ms) at {r} h e =
    by (eqb (get_or s at 0) m) refl (λ w. first_wrong_lem s ms (at + 1) (omega arith) w) (rw (lt-ltb at (length s) (omega arith)) at e)
  where
    here : drop at s ≡ get_or s at 0 ∷ drop (at + 1) s
    here = rw (add-one) (drop-cons s at 0 (omega arith))

    by : (t : Bool) → eqb (get_or s at 0) m ≡ t → (marked ms s (at + 1) ≡ refuse r → FirstWrong s ms (at + 1) r)
        → cond t (marked ms s (at + 1)) (refuse (refusal WrongMark at)) ≡ refuse r → FirstWrong s (m ∷ ms) at r
    by true j f w =
        let g = f w in
        let p : at + 1 + g.i ≡ at + suc g.i = omega arith in
        let l = g.first.inside in
        let b : get_or s at 0 ∷ take g.i (drop (at + 1) s) ≡ m ∷ take g.i ms = cc (eqb-true (get_or s at 0) m j, g.first.before) in
        record { i = suc g.i; refused_so = g.refused_so ∙ ap (refusal WrongMark) p; first = rw here (record { inside = omega arith; before = b; wrong = g.first.wrong }) }
    by false j f w =
        let p : at ≡ at + 0 = omega arith in
        let t : refusal WrongMark at ≡ r = cc in
        record { i = 0; refused_so = sym t ∙ ap (refusal WrongMark) p; first = rw here (record { inside = omega arith; before = refl; wrong = eqb-false (get_or s at 0) m j }) }

module _ (mark : List ℕ) (limit : ℕ) (s : List ℕ) where
  -- A file within the limit: both orders read it alike.
  head_within : length s ≤ limit → head mark limit s 0 ≡ head_size_first mark limit s 0
  unfolding head head_size_first
  head_within h = rw (le-leb (length s) limit h) (go (marked mark s 0))
    where
      last : (x : Parsed (Unit {0})) → and_then x (λ u m. read tt m) ≡ x
      last (read u m) = refl
      last (refuse r) = refl

      go : (x : Parsed (Unit {0})) → and_then x (λ u k. and_then (version s k) (λ v m. read tt m)) ≡ and_then x (λ u k. version s k)
      go (read u k) = last (version s k)
      go (refuse r) = refl

  size_first : limit < length s → head_size_first mark limit s 0 ≡ refuse (refusal FileTooLong limit)
  unfolding head_size_first
  size_first h = rw (lt-leb (length s) limit h)

  -- A check with this head: a refusal of the head is its answer, and what stands behind the head is the same in both.
  module _ (room : length mark + 2 ≤ limit) {old new : Verdict}
      (old_refused : (r : Refusal) → head_size_first mark limit s 0 ≡ refuse r → old ≡ refused r.reason r.place)
      (new_refused : (r : Refusal) → head mark limit s 0 ≡ refuse r → new ≡ refused r.reason r.place)
      (same : head mark limit s 0 ≡ head_size_first mark limit s 0 → new ≡ old)
    where
      module _ (long : limit < length s) where
        wrong_mark_lem : {r : Refusal} → marked mark s 0 ≡ refuse r → AnswerChange mark limit s old new
        unfolding head
        wrong_mark_lem {r} e =
            let f = first_wrong_lem s mark 0 (omega arith) e in
            let p : 0 + f.i ≡ f.i = omega arith in
            rw (old_refused _ (size_first long), new_refused r (rw e), f.refused_so ∙ ap (refusal WrongMark) p) (mark_refused long f.first)

        right_mark : marked mark s 0 ≡ read tt (length mark) → RightMark mark s → AnswerChange mark limit s old new
        unfolding head version
        right_mark e right = by (is_version (get_or s (length mark) 0 + 256 * get_or s (length mark + 1) 0)) refl
          where
            by : (t : Bool) → is_version (get_or s (length mark) 0 + 256 * get_or s (length mark + 1) 0) ≡ t → AnswerChange mark limit s old new
            by true j =
                rw (same (rw (e, le-leb (length mark + 2) (length s) (omega arith), j, lt-leb (length s) limit long) (sym (size_first long))))
                (held (λ h. (right, version_true _ j)))
            by false j =
                rw (old_refused _ (size_first long), new_refused (refusal WrongVersion (length mark)) (rw (e, le-leb (length mark + 2) (length s) (omega arith), j)))
                (version_refused long right (version_false _ j))

      pub changed : AnswerChange mark limit s old new
      changed = by (leb (length s) limit) refl (marked mark s 0) refl
        where
          by : (t : Bool) → leb (length s) limit ≡ t → (x : Parsed (Unit {0})) → marked mark s 0 ≡ x → AnswerChange mark limit s old new
          by true i x e =
              let h = leb-true (length s) limit i in
              rw (same (head_within h)) (held (λ l. absurd (omega arith)))
          by false i (refuse r) e = wrong_mark_lem (leb-false (length s) limit i) e
          by false i (read u k) e =
              let b = bytes_at_marked s mark 0 e in
              let p : k ≡ length mark = omega (arith, b.past) in
              right_mark (leb-false (length s) limit i) (e ∙ ap (read tt) p) (ap (take (length mark)) b.stands ∙ take_at mark (drop k s) (length mark) refl)

-- A file within the limit.
pub changed_within : {mark : List ℕ} {limit : ℕ} {s : List ℕ} {old new : Verdict} → AnswerChange mark limit s old new → length s ≤ limit → new ≡ old
changed_within (mark_refused long w) h = absurd (omega arith)
changed_within (version_refused long m v) h = absurd (omega arith)
changed_within (held f) h = refl
