-- Code that stands in a file is written there, and code that is written stands there.
use Rattle.std.specs.Prelude.{ℕ, suc, ◌+◌, ◌≤◌, ◌≡◌, List, [], ◌∷◌, ◌++◌, length, get_or, take, drop}
use Rattle.std.proofs.Common.{sym, ap, ◌∙◌, subst, append-nil, arith, length-drop, take-append-drop, drop-drop, length-take-le, SFits}
use Rattle.std.proofs.Math.Option.{Option}
use Rattle.std.specs.Int.{w32}
use Rattle.semantics.specs.Code.{Expr, let_constant, let_slot, let_difference, jump, resume, handle, if_at_most, let_continuation, let_continuation_with_handler, let_difference_or_raise, Code}
use Rattle.parsing.specs.Parser.{joined}
use Rattle.parsing.specs.Fields.{version_of, value_at}
use Rattle.parsing.specs.Bytes.{Bytes, pair_bytes, value_bytes}
use Rattle.parsing.specs.BytesLaws.{pair_back, value_bytes_lem, value_fits}
use Rattle.parsing.specs.BytesAtLaws.{BytesAt, bytes_at_none, bytes_at_join, bytes_at_byte, bytes_at_cons, span, bytes_at_span}
use Rattle.target_tags.specs.declared.tag.Tag.{Tag}
use Rattle.target_tags.specs.declared.tag.Tag.TheVariants.{Constant, Copy, Difference, Jump, Resume, Handle, Branch, Continuation, ContinuationWithHandler, DifferenceOrRaise, Refused}
use Rattle.target_tags.specs.Tag.{number_width, number_slot_at, slot_in, number_slot, pair_at, tag_at}
use Rattle.target_tags.specs.ViewLaws.{View, is_constant, is_copy, is_difference, is_jump, is_resume, is_handle, is_branch, is_continuation, is_continuation_with_handler, is_difference_or_raise, is_refused, seen}
use Rattle.target_expressions.specs.Expressions.{slots_at}
use Rattle.target_file.specs.Writing.{slot_bytes, slot_width, size, expr_bytes, target_bytes, FieldsFit}
use Rattle.target_file.specs.NumberSlotLaws.{slot_back, slot_width_lem, slot_bytes_at}
use Rattle.target_file.specs.LoadedCode.{ExprAt}
use Rattle.target_file.proofs.ExprLaws.{expr_inside}
use Rattle.target_file.proofs.CodeLaws.{code_size, CodeAt}

-- ── What stands is written ──────────────────────────────────────────────────────────────────────

-- The bytes of a node's own fields stand there, and a constant is in range.
abbrev NodeBytes : List ℕ → ℕ → Tag → Type 0
NodeBytes s at (Constant x i next) = BytesAt s at next (1 ∷ x ∷ value_bytes i) × SFits w32 i
NodeBytes s at (Copy x y next) = BytesAt s at next (2 ∷ x ∷ y ∷ [])
NodeBytes s at (Difference x y z next) = BytesAt s at next (3 ∷ x ∷ y ∷ z ∷ [])
NodeBytes s at (Jump g k h n next) = BytesAt s at next (4 ∷ (pair_bytes g ++ (k ∷ h ∷ n ∷ slots_at s (at + 6) n)))
NodeBytes s at (Resume k y next) = BytesAt s at next (5 ∷ k ∷ y ∷ [])
NodeBytes s at (Handle h y next) = BytesAt s at next (6 ∷ h ∷ slot_bytes (slot_in y)) × (slot_width (slot_in y) ≡ number_width (version_of s))
NodeBytes s at (Branch y z n next) = BytesAt s at next (7 ∷ y ∷ z ∷ pair_bytes n)
NodeBytes s at (Continuation x p n next) = BytesAt s at next (8 ∷ x ∷ p ∷ pair_bytes n)
NodeBytes s at (ContinuationWithHandler x p t q n next) =
    BytesAt s at (at + 4) (9 ∷ x ∷ p ∷ t ∷ []) × BytesAt s (at + 4) (at + 4 + slot_width (slot_in q)) (slot_bytes (slot_in q))
    × BytesAt s (at + 4 + slot_width (slot_in q)) next (pair_bytes n) × (slot_width (slot_in q) ≡ number_width (version_of s))
NodeBytes s at (DifferenceOrRaise x y z n next) = BytesAt s at next (10 ∷ x ∷ y ∷ z ∷ pair_bytes n)
NodeBytes s at (Refused r) = Unit {0}

module _ (s : List ℕ) (bytes : Bytes s) where
  -- The tag and its operands.
  operands : (at k n : ℕ) → get_or s at 0 ≡ k → at + (1 + n) ≤ length s → BytesAt s at (at + (1 + n)) (k ∷ span s at 1 n)
  operands at k n e h = rw (← e) (bytes_at_cons s (omega arith) (bytes_at_span s at 1 n h))

  pair_is : (at : ℕ) → get_or s at 0 ∷ get_or s (at + 1) 0 ∷ [] ≡ pair_bytes (pair_at s at)
  pair_is at = sym (pair_back (get_or s at 0) (get_or s (at + 1) 0) (bytes at))

  pair_behind : (at i : ℕ) → get_or s (at + i) 0 ∷ get_or s (at + suc i) 0 ∷ [] ≡ pair_bytes (pair_at s (at + i))
  pair_behind at i =
      let p : at + suc i ≡ at + i + 1 = omega arith in
      ap (λ (j : ℕ). get_or s (at + i) 0 ∷ get_or s j 0 ∷ []) p ∙ pair_is (at + i)

  value_behind : (at : ℕ) → get_or s (at + 2) 0 ∷ get_or s (at + 3) 0 ∷ get_or s (at + 4) 0 ∷ get_or s (at + 5) 0 ∷ [] ≡ value_bytes (value_at s (at + 2))
  value_behind at =
      let p : at + 3 ≡ at + 2 + 1 = omega arith in
      let q : at + 4 ≡ at + 2 + 2 = omega arith in
      let r : at + 5 ≡ at + 2 + 3 = omega arith in
      rw (p, q, r) (sym (value_bytes_lem s bytes (at + 2)))

  bytes_at_slots : (at n : ℕ) → at + n ≤ length s → BytesAt s at (at + n) (slots_at s at n)
  bytes_at_slots at n h =
      let l = length-drop at s in
      record {
        stands = sym (take-append-drop n (drop at s)) ∙ ap (λ (r : List ℕ). take n (drop at s) ++ r) (drop-drop n at s);
        past = ap (λ (k : ℕ). at + k) (sym (length-take-le n (drop at s) (omega arith)));
      }

  pub bytes_at_pair : (at : ℕ) → at + 2 ≤ length s → BytesAt s at (at + 2) (pair_bytes (pair_at s at))
  bytes_at_pair at h =
      let p : at + 1 + 1 ≡ at + 2 = omega arith in
      subst (BytesAt s at (at + 2)) (pair_is at) (subst (λ (j : ℕ). BytesAt s at j (get_or s at 0 ∷ get_or s (at + 1) 0 ∷ [])) p (bytes_at_join s (bytes_at_byte s at (omega arith)) (bytes_at_byte s (at + 1) (omega arith))))

  onward : {at m n : ℕ} {w : List ℕ} → m ≡ n → BytesAt s at m w → BytesAt s at n w
  onward {at} {m} {n} {w} q r = subst (λ (j : ℕ). BytesAt s at j w) q r

  -- A tag, three slots and a length.
  three_and_length : (at k : ℕ) → get_or s at 0 ≡ k → at + 6 ≤ length s
      → BytesAt s at (at + 6) (k ∷ get_or s (at + 1) 0 ∷ get_or s (at + 2) 0 ∷ get_or s (at + 3) 0 ∷ pair_bytes (pair_at s (at + 4)))
  three_and_length at k e h =
      subst (λ (l : List ℕ). BytesAt s at (at + 6) (k ∷ get_or s (at + 1) 0 ∷ get_or s (at + 2) 0 ∷ get_or s (at + 3) 0 ∷ l)) (pair_behind at 4) (operands at k 5 e h)

  node_bytes_at : (at : ℕ) {t : Tag} → View s at t → NodeBytes s at t
  node_bytes_at at (is_constant e h) =
      (subst (λ (l : List ℕ). BytesAt s at (at + 6) (1 ∷ get_or s (at + 1) 0 ∷ l)) (value_behind at) (operands at 1 5 e h), value_fits s bytes (at + 2))
  node_bytes_at at (is_copy e h) = operands at 2 2 e h
  node_bytes_at at (is_difference e h) = operands at 3 3 e h
  node_bytes_at at (is_jump e h) =
      let l = get_or s (at + 3) 0 ∷ get_or s (at + 4) 0 ∷ get_or s (at + 5) 0 ∷ [] in
      bytes_at_join s (subst (λ (p : List ℕ). BytesAt s at (at + 6) (4 ∷ (p ++ l))) (pair_behind at 1) (operands at 4 5 e (omega arith))) (bytes_at_slots (at + 6) (get_or s (at + 5) 0) h)
  node_bytes_at at (is_resume e h) = operands at 5 2 e h
  node_bytes_at at (is_handle e h) =
      (bytes_at_join s (operands at 6 1 e (omega arith)) (slot_bytes_at s (at + 2) h), sym (slot_width_lem s (at + 2)))
  node_bytes_at at (is_branch e h) = subst (λ (l : List ℕ). BytesAt s at (at + 5) (7 ∷ get_or s (at + 1) 0 ∷ get_or s (at + 2) 0 ∷ l)) (pair_behind at 3) (operands at 7 4 e h)
  node_bytes_at at (is_continuation e h) = subst (λ (l : List ℕ). BytesAt s at (at + 5) (8 ∷ get_or s (at + 1) 0 ∷ get_or s (at + 2) 0 ∷ l)) (pair_behind at 3) (operands at 8 4 e h)
  node_bytes_at at (is_continuation_with_handler e h) =
      let w = number_width (version_of s) in
      let b = slot_bytes_at s (at + 4) (omega (arith, h)) in
      let p : at + 4 + w + 2 ≡ at + 6 + w = omega arith in
      let c : BytesAt s (at + 4 + w) (at + 6 + w) (pair_bytes (pair_at s (at + 4 + w))) = onward p (bytes_at_pair (at + 4 + w) (omega (arith, h))) in
      let l = slot_in (number_slot_at s (at + 4)) in
      let e₁ : w ≡ slot_width l = slot_width_lem s (at + 4) in (
        operands at 9 3 e (omega (arith, h)),
        subst (λ (n : ℕ). BytesAt s (at + 4) (at + 4 + n) (slot_bytes l)) e₁ b,
        subst (λ (n : ℕ). BytesAt s (at + 4 + n) (at + 6 + w) (pair_bytes (pair_at s (at + 4 + w)))) e₁ c,
        sym e₁,
      )
  node_bytes_at at (is_difference_or_raise e h) = three_and_length at 10 e h
  node_bytes_at at (is_refused r) = tt

  tag_bytes_at : (at : ℕ) (t : Tag) → tag_at s at ≡ t → NodeBytes s at t
  tag_bytes_at at t is = node_bytes_at at (seen s at t (sym is))

  -- An expression that stands at an offset is written there, with its fields in range.
  pub expr_bytes_at : (at : ℕ) (e : Expr) → ExprAt s at e → BytesAt s at (at + size e) (expr_bytes e) × FieldsFit (version_of s) e
  expr_bytes_at at (let_constant x i e) h =
      let a = tag_bytes_at at (Constant x i (at + 6)) h.0 in
      let b = expr_bytes_at (at + 6) e h.1 in
      (onward (omega arith) (bytes_at_join s a.0 b.0), (a.1, b.1))
  expr_bytes_at at (let_slot x y e) h =
      let a = tag_bytes_at at (Copy x y (at + 3)) h.0 in
      let b = expr_bytes_at (at + 3) e h.1 in
      (onward (omega arith) (bytes_at_join s a b.0), b.1)
  expr_bytes_at at (let_difference x y z e) h =
      let a = tag_bytes_at at (Difference x y z (at + 4)) h.0 in
      let b = expr_bytes_at (at + 4) e h.1 in
      (onward (omega arith) (bytes_at_join s a b.0), b.1)
  expr_bytes_at at (jump g k c ss) h =
      let a = tag_bytes_at at (Jump g k c (length ss) (at + 6 + length ss)) h.0 in
      (onward (omega arith) (subst (λ (l : List ℕ). BytesAt s at (at + 6 + length ss) (4 ∷ (pair_bytes g ++ (k ∷ c ∷ length ss ∷ l)))) h.1 a), tt)
  expr_bytes_at at (resume k y) h = (tag_bytes_at at (Resume k y (at + 3)) h, tt)
  expr_bytes_at at (handle c y) h =
      let a = subst (λ (z : Option ℕ). BytesAt s at (at + 2 + slot_width y) (6 ∷ c ∷ slot_bytes z) × (slot_width z ≡ number_width (version_of s))) (slot_back y) (tag_bytes_at at (Handle c (number_slot y) (at + 2 + slot_width y)) h) in
      (onward (omega arith) (subst (λ (l : List ℕ). BytesAt s at (at + 2 + slot_width y) (6 ∷ c ∷ l)) (sym (append-nil (slot_bytes y))) a.0), (a.1, tt))
  expr_bytes_at at (if_at_most y z e₁ e₂) h =
      let a = tag_bytes_at at (Branch y z (size e₁) (at + 5)) h.0 in
      let b = expr_bytes_at (at + 5) e₁ h.1 in
      let c = expr_bytes_at (at + 5 + size e₁) e₂ h.2 in
      (onward (omega arith) (bytes_at_join s a (bytes_at_join s b.0 c.0)), (b.1, c.1))
  expr_bytes_at at (let_continuation x p e k) h =
      let a = tag_bytes_at at (Continuation x p (size e) (at + 5)) h.0 in
      let b = expr_bytes_at (at + 5) e h.1 in
      let c = expr_bytes_at (at + 5 + size e) k h.2 in
      (onward (omega arith) (bytes_at_join s a (bytes_at_join s b.0 c.0)), (b.1, c.1))
  expr_bytes_at at (let_continuation_with_handler x p t q e c k) h =
      let i = at + 6 + slot_width q in
      let o = i + size e in
      let j = expr_inside s (o + 2) c h.3 in
      let a = subst (λ (z : Option ℕ).
      BytesAt s at (at + 4) (9 ∷ x ∷ p ∷ t ∷ []) × BytesAt s (at + 4) (at + 4 + slot_width z) (slot_bytes z)
      × BytesAt s (at + 4 + slot_width z) i (pair_bytes (size e)) × (slot_width z ≡ number_width (version_of s))) (slot_back q)
      (tag_bytes_at at (ContinuationWithHandler x p t (number_slot q) (size e) i) h.0) in
      let b = expr_bytes_at i e h.2 in
      let l : BytesAt s o (o + 2) (pair_bytes (size c)) = subst (λ (n : ℕ). BytesAt s o (o + 2) (pair_bytes n)) h.1 (bytes_at_pair o (omega arith)) in
      let d = expr_bytes_at (o + 2) c h.3 in
      let f = expr_bytes_at (o + 2 + size c) k h.4 in
      let r = bytes_at_join s a.2 (bytes_at_join s b.0 (bytes_at_join s l (bytes_at_join s d.0 f.0))) in
      (onward (omega arith) (bytes_at_join s a.0 (bytes_at_join s a.1 r)), (a.3, (b.1, (d.1, f.1))))
  expr_bytes_at at (let_difference_or_raise x y z r e) h =
      let a = tag_bytes_at at (DifferenceOrRaise x y z (size r) (at + 6)) h.0 in
      let b = expr_bytes_at (at + 6) r h.1 in
      let c = expr_bytes_at (at + 6 + size r) e h.2 in
      (onward (omega arith) (bytes_at_join s a (bytes_at_join s b.0 c.0)), (b.1, c.1))

  -- Functions that stand one after the other are written so.
  pub code_bytes_at : (at : ℕ) (Q : Code) → CodeAt s at Q → BytesAt s at (at + code_size Q) (joined target_bytes Q)
  code_bytes_at at [] h = onward (omega arith) (bytes_at_none s at)
  code_bytes_at at (D ∷ Q) h =
      let i = expr_inside s (at + 3) D.body h.2 in
      let a : BytesAt s at (at + 1) (D.params ∷ []) = subst (λ (n : ℕ). BytesAt s at (at + 1) (n ∷ [])) h.0 (bytes_at_byte s at (omega arith)) in
      let b : BytesAt s (at + 1) (at + 3) (pair_bytes (size D.body)) = onward (omega arith) (subst (λ (n : ℕ). BytesAt s (at + 1) (at + 1 + 2) (pair_bytes n)) h.1 (bytes_at_pair (at + 1) (omega arith))) in
      let c = expr_bytes_at (at + 3) D.body h.2 in
      let d = code_bytes_at (at + 3 + size D.body) Q h.3 in
      onward (omega arith) (bytes_at_join s (bytes_at_join s a (bytes_at_join s b c.0)) d)
