-- Code that is written stands where it is written.
use Rattle.std.specs.Prelude.{ℕ, suc, ◌+◌, ◌*◌, ◌/◌, ◌%◌, ◌≤◌, ◌≡◌, refl, List, [], ◌∷◌, ◌++◌, ℤ, length, get_or, take, drop}
use Rattle.std.proofs.Common.{sym, ap, ◌∙◌, append_assoc, append-nil, arith, length-append, SFits}
use Rattle.std.proofs.Math.Option.{Option}
use Rattle.std.proofs.Math.Seq.{take-append_seam}
use Rattle.std.specs.Int.{w32}
use Rattle.semantics.specs.Code.{Expr, let_constant, let_slot, let_difference, jump, resume, handle, if_at_most, let_continuation, let_continuation_with_handler, let_difference_or_raise, Code}
use Rattle.parsing.specs.Parser.{joined}
use Rattle.parsing.specs.Fields.{version_of, value_at}
use Rattle.parsing.specs.Bytes.{pair_bytes, value_bytes}
use Rattle.parsing.specs.BytesLaws.{pair_forth, value_forth}
use Rattle.parsing.specs.ReadsLaws.{byte_here, first_here, length_here, next_here, behind}
use Rattle.target_tags.specs.declared.tag.Tag.TheVariants.{Constant, Copy, Difference, Jump, Resume, Handle, Branch, Continuation, ContinuationWithHandler, DifferenceOrRaise}
use Rattle.target_tags.specs.Tag.{number_width, number_slot, pair_at, tag_at}
use Rattle.target_tags.specs.TagLaws.{tag_1, tag_2, tag_3, tag_4, tag_5, tag_6, tag_7, tag_8, tag_9, tag_10, constant_in, copy_in, difference_in, jump_in, resume_in, handle_in, branch_in, continuation_in, continuation_with_handler_in, difference_or_raise_in}
use Rattle.target_file.specs.Writing.{Parts, ends, bytes, constant, number, nested, slot_bytes, slot_width, parts_of, parts_size, parts_bytes, size, expr_bytes, target_bytes, FieldsFit}
use Rattle.target_file.specs.NumberSlotLaws.{slot_here}
use Rattle.target_file.specs.LoadedCode.{ExprAt}
use Rattle.target_file.proofs.CodeLaws.{code_size, CodeAt}
use Rattle.semantics.specs.WellFormed.{All}

parts_length : (p : Parts) → length (parts_bytes p) ≡ parts_size p
parts_length (ends ss) = refl
parts_length (bytes w r) = length-append w (parts_bytes r) ∙ ap (λ (n : ℕ). length w + n) (parts_length r)
parts_length (constant i r) = let a = parts_length r in omega arith
parts_length (number y r) = length-append (slot_bytes y) (parts_bytes r) ∙ ap (λ (n : ℕ). slot_width y + n) (parts_length r)
parts_length (nested p r) =
    let a = parts_length p in
    let b = parts_length r in
    omega (arith, length-append (parts_bytes p) (parts_bytes r))

pub bytes_length : (e : Expr) → length (expr_bytes e) ≡ size e
bytes_length e = parts_length (parts_of e)

module _ (s : List ℕ) where
  -- A field of two bytes, i bytes behind an offset.
  pair_here : (at : ℕ) (l : List ℕ) → drop at s ≡ l → (i n : ℕ) → get_or l i 0 ≡ n % 256 → get_or l (suc i) 0 ≡ n / 256 → n ≡ pair_at s (at + i)
  pair_here at l h i n a b =
      let p : at + i + 1 ≡ at + suc i = omega arith in
      sym
      (ap (λ (j : ℕ). get_or s (at + i) 0 + 256 * get_or s j 0) p
      ∙ ap (λ (x : ℕ). x + 256 * get_or s (at + suc i) 0) (byte_here s at l h i ∙ a)
      ∙ ap (λ (y : ℕ). n % 256 + 256 * y) (byte_here s at l h (suc i) ∙ b)
      ∙ pair_forth n)

  module _ (at : ℕ) (rest : List ℕ) where
    constant_here : (x : ℕ) (i : ℤ) → SFits w32 i → drop at s ≡ 1 ∷ x ∷ (value_bytes i ++ rest) → tag_at s at ≡ Constant x i (at + 6)
    constant_here x i f h =
        let b = byte_here s at (1 ∷ x ∷ (value_bytes i ++ rest)) h in
        let l = length_here s at (1 ∷ x ∷ (value_bytes i ++ rest)) h in
        let p : at + 2 + 1 ≡ at + 3 = omega arith in
        let q : at + 2 + 2 ≡ at + 4 = omega arith in
        let r : at + 2 + 3 ≡ at + 5 = omega arith in
        let v : value_at s (at + 2) ≡ i = rw (p, q, r, b 2, b 3, b 4, b 5) (value_forth i f) in
        sym (constant_in s at x i (omega arith) (sym (b 1)) (sym v) ∙ tag_1 s at (omega arith) (first_here s at (1 ∷ x ∷ (value_bytes i ++ rest)) h))

    copy_here : (x y : ℕ) → drop at s ≡ 2 ∷ x ∷ y ∷ rest → tag_at s at ≡ Copy x y (at + 3)
    copy_here x y h =
        let b = byte_here s at (2 ∷ x ∷ y ∷ rest) h in
        let l = length_here s at (2 ∷ x ∷ y ∷ rest) h in
        sym (copy_in s at x y (omega arith) (sym (b 1)) (sym (b 2)) ∙ tag_2 s at (omega arith) (first_here s at (2 ∷ x ∷ y ∷ rest) h))

    difference_here : (x y z : ℕ) → drop at s ≡ 3 ∷ x ∷ y ∷ z ∷ rest → tag_at s at ≡ Difference x y z (at + 4)
    difference_here x y z h =
        let b = byte_here s at (3 ∷ x ∷ y ∷ z ∷ rest) h in
        let l = length_here s at (3 ∷ x ∷ y ∷ z ∷ rest) h in
        sym (difference_in s at x y z (omega arith) (sym (b 1)) (sym (b 2)) (sym (b 3)) ∙ tag_3 s at (omega arith) (first_here s at (3 ∷ x ∷ y ∷ z ∷ rest) h))

    jump_here : (g k c : ℕ) (ss : List ℕ) → drop at s ≡ 4 ∷ (pair_bytes g ++ (k ∷ c ∷ length ss ∷ (ss ++ rest))) → tag_at s at ≡ Jump g k c (length ss) (at + 6 + length ss)
    jump_here g k c ss h =
        let b = byte_here s at (4 ∷ (pair_bytes g ++ (k ∷ c ∷ length ss ∷ (ss ++ rest)))) h in
        let l = length_here s at (4 ∷ (pair_bytes g ++ (k ∷ c ∷ length ss ∷ (ss ++ rest)))) h in
        let m = length-append ss rest in
        sym
        (jump_in s at g k c (length ss) (omega (arith, l, m)) (pair_here at (4 ∷ (pair_bytes g ++ (k ∷ c ∷ length ss ∷ (ss ++ rest)))) h 1 g refl refl) (sym (b 3)) (sym (b 4)) (sym (b 5))
        ∙ tag_4 s at (omega (arith, l, m)) (first_here s at (4 ∷ (pair_bytes g ++ (k ∷ c ∷ length ss ∷ (ss ++ rest)))) h))

    resume_here : (k y : ℕ) → drop at s ≡ 5 ∷ k ∷ y ∷ rest → tag_at s at ≡ Resume k y (at + 3)
    resume_here k y h =
        let b = byte_here s at (5 ∷ k ∷ y ∷ rest) h in
        let l = length_here s at (5 ∷ k ∷ y ∷ rest) h in
        sym (resume_in s at k y (omega arith) (sym (b 1)) (sym (b 2)) ∙ tag_5 s at (omega arith) (first_here s at (5 ∷ k ∷ y ∷ rest) h))

    handle_here : (c : ℕ) (y : Option ℕ) → slot_width y ≡ number_width (version_of s) → drop at s ≡ 6 ∷ c ∷ (slot_bytes y ++ rest)
        → tag_at s at ≡ Handle c (number_slot y) (at + 2 + slot_width y)
    handle_here c y w h =
        let k : List ℕ = 6 ∷ c ∷ (slot_bytes y ++ rest) in
        let b = byte_here s at k h in
        let l = length_here s at k h in
        let m = length-append (slot_bytes y) rest in
        sym
        (handle_in s at c (number_slot y) (slot_width y) w (omega (arith, l, m)) (sym (b 1)) (slot_here s (at + 2) y rest w (next_here s at k h 2))
        ∙ tag_6 s at (omega (arith, l, m)) (first_here s at k h))

    branch_here : (y z n : ℕ) → drop at s ≡ 7 ∷ y ∷ z ∷ (pair_bytes n ++ rest) → tag_at s at ≡ Branch y z n (at + 5)
    branch_here y z n h =
        let b = byte_here s at (7 ∷ y ∷ z ∷ (pair_bytes n ++ rest)) h in
        let l = length_here s at (7 ∷ y ∷ z ∷ (pair_bytes n ++ rest)) h in
        sym
        (branch_in s at y z n (omega arith) (sym (b 1)) (sym (b 2)) (pair_here at (7 ∷ y ∷ z ∷ (pair_bytes n ++ rest)) h 3 n refl refl)
        ∙ tag_7 s at (omega arith) (first_here s at (7 ∷ y ∷ z ∷ (pair_bytes n ++ rest)) h))

    continuation_here : (x p n : ℕ) → drop at s ≡ 8 ∷ x ∷ p ∷ (pair_bytes n ++ rest) → tag_at s at ≡ Continuation x p n (at + 5)
    continuation_here x p n h =
        let b = byte_here s at (8 ∷ x ∷ p ∷ (pair_bytes n ++ rest)) h in
        let l = length_here s at (8 ∷ x ∷ p ∷ (pair_bytes n ++ rest)) h in
        sym
        (continuation_in s at x p n (omega arith) (sym (b 1)) (sym (b 2)) (pair_here at (8 ∷ x ∷ p ∷ (pair_bytes n ++ rest)) h 3 n refl refl)
        ∙ tag_8 s at (omega arith) (first_here s at (8 ∷ x ∷ p ∷ (pair_bytes n ++ rest)) h))

    -- A tag k, three slots and a length.
    record ThreeAndLength (k x y z n : ℕ) : Type 0 where
      inside : at + 6 ≤ length s
      tag : get_or s at 0 ≡ k
      first : x ≡ get_or s (at + 1) 0
      second : y ≡ get_or s (at + 2) 0
      third : z ≡ get_or s (at + 3) 0
      sized : n ≡ pair_at s (at + 4)

    three_and_length : (k x y z n : ℕ) → drop at s ≡ k ∷ x ∷ y ∷ z ∷ (pair_bytes n ++ rest) → ThreeAndLength k x y z n
    three_and_length k x y z n h =
        let l = k ∷ x ∷ y ∷ z ∷ (pair_bytes n ++ rest) in
        let b = byte_here s at l h in
        let i = length_here s at l h in
        record {
          inside = omega arith;
          tag = first_here s at l h;
          first = sym (b 1);
          second = sym (b 2);
          third = sym (b 3);
          sized = pair_here at l h 4 n refl refl;
        }

    continuation_with_handler_here : (x p t : ℕ) (q : Option ℕ) (n : ℕ) → slot_width q ≡ number_width (version_of s) → drop at s ≡ 9 ∷ x ∷ p ∷ t ∷ (slot_bytes q ++ (pair_bytes n ++ rest))
        → tag_at s at ≡ ContinuationWithHandler x p t (number_slot q) n (at + 6 + slot_width q)
    continuation_with_handler_here x p t q n w h =
        let k : List ℕ = 9 ∷ x ∷ p ∷ t ∷ (slot_bytes q ++ (pair_bytes n ++ rest)) in
        let b = byte_here s at k h in
        let l = length_here s at k h in
        let m = length-append (slot_bytes q) (pair_bytes n ++ rest) in
        let g : drop (at + 4) s ≡ slot_bytes q ++ (pair_bytes n ++ rest) = next_here s at k h 4 in
        let o = at + 4 + slot_width q in
        let z : o + 0 ≡ o = omega arith in
        let f : n ≡ pair_at s o = pair_here o (pair_bytes n ++ rest) (behind s (at + 4) (slot_bytes q) (pair_bytes n ++ rest) g) 0 n refl refl ∙ ap (pair_at s) z in
        sym
        (continuation_with_handler_in s at x p t (number_slot q) n (slot_width q) w (omega (arith, l, m)) (sym (b 1)) (sym (b 2)) (sym (b 3)) (slot_here s (at + 4) q (pair_bytes n ++ rest) w g) f
        ∙ tag_9 s at (omega (arith, l, m)) (first_here s at k h))

    difference_or_raise_here : (x y z n : ℕ) → drop at s ≡ 10 ∷ x ∷ y ∷ z ∷ (pair_bytes n ++ rest) → tag_at s at ≡ DifferenceOrRaise x y z n (at + 6)
    difference_or_raise_here x y z n h =
        let f = three_and_length 10 x y z n h in
        sym (difference_or_raise_in s at x y z n f.inside f.first f.second f.third f.sized ∙ tag_10 s at (omega (arith, f.inside)) f.tag)

  -- What stands behind an expression.
  past_expr : (at : ℕ) (e : Expr) (rest : List ℕ) → drop at s ≡ expr_bytes e ++ rest → drop (at + size e) s ≡ rest
  past_expr at e rest h = ap (λ (n : ℕ). drop (at + n) s) (sym (bytes_length e)) ∙ behind s at (expr_bytes e) rest h

  pub expr_stands : (at : ℕ) (e : Expr) (rest : List ℕ) → FieldsFit (version_of s) e → drop at s ≡ expr_bytes e ++ rest → ExprAt s at e
  expr_stands at (let_constant x i e) rest f h = (
    constant_here at (expr_bytes e ++ rest) x i f.0 h,
    expr_stands (at + 6) e rest f.1 (next_here s at (1 ∷ x ∷ (value_bytes i ++ (expr_bytes e ++ rest))) h 6),
  )
  expr_stands at (let_slot x y e) rest f h =
      (copy_here at (expr_bytes e ++ rest) x y h, expr_stands (at + 3) e rest f (next_here s at (2 ∷ x ∷ y ∷ (expr_bytes e ++ rest)) h 3))
  expr_stands at (let_difference x y z e) rest f h =
      (difference_here at (expr_bytes e ++ rest) x y z h, expr_stands (at + 4) e rest f (next_here s at (3 ∷ x ∷ y ∷ z ∷ (expr_bytes e ++ rest)) h 4))
  expr_stands at (jump g k c ss) rest f h =
      let n = next_here s at (4 ∷ (pair_bytes g ++ (k ∷ c ∷ length ss ∷ (ss ++ rest)))) h 6 in
      (jump_here at rest g k c ss h, ap (take (length ss)) n ∙ take-append_seam ss rest)
  expr_stands at (resume k y) rest f h = resume_here at rest k y h
  expr_stands at (handle c y) rest f h =
      handle_here at rest c y f.0 (h ∙ ap (λ (l : List ℕ). 6 ∷ c ∷ (l ++ rest)) (append-nil (slot_bytes y)))
  expr_stands at (if_at_most y z e₁ e₂) rest f h =
      let l = (expr_bytes e₁ ++ expr_bytes e₂) ++ rest in
      let n : drop (at + 5) s ≡ expr_bytes e₁ ++ (expr_bytes e₂ ++ rest) = next_here s at (7 ∷ y ∷ z ∷ (pair_bytes (size e₁) ++ l)) h 5 ∙ append_assoc (expr_bytes e₁) (expr_bytes e₂) rest in (
        branch_here at l y z (size e₁) h,
        expr_stands (at + 5) e₁ (expr_bytes e₂ ++ rest) f.0 n,
        expr_stands (at + 5 + size e₁) e₂ rest f.1 (past_expr (at + 5) e₁ (expr_bytes e₂ ++ rest) n),
      )
  expr_stands at (let_continuation x p e k) rest f h =
      let l = (expr_bytes e ++ expr_bytes k) ++ rest in
      let n : drop (at + 5) s ≡ expr_bytes e ++ (expr_bytes k ++ rest) = next_here s at (8 ∷ x ∷ p ∷ (pair_bytes (size e) ++ l)) h 5 ∙ append_assoc (expr_bytes e) (expr_bytes k) rest in (
        continuation_here at l x p (size e) h,
        expr_stands (at + 5) e (expr_bytes k ++ rest) f.0 n,
        expr_stands (at + 5 + size e) k rest f.1 (past_expr (at + 5) e (expr_bytes k ++ rest) n),
      )
  expr_stands at (let_continuation_with_handler x p t y e c k) rest f h =
      let r = pair_bytes (size c) ++ (expr_bytes c ++ expr_bytes k) in
      let l = (expr_bytes e ++ r) ++ rest in
      let g : drop at s ≡ 9 ∷ x ∷ p ∷ t ∷ (slot_bytes y ++ (pair_bytes (size e) ++ l)) =
      h ∙ ap (λ (m : List ℕ). 9 ∷ x ∷ p ∷ t ∷ m) (append_assoc (slot_bytes y) (pair_bytes (size e) ++ (expr_bytes e ++ r)) rest) in
      let i = at + 6 + slot_width y in
      let j : drop (at + 4 + slot_width y) s ≡ pair_bytes (size e) ++ l =
      behind s (at + 4) (slot_bytes y) (pair_bytes (size e) ++ l) (next_here s at (9 ∷ x ∷ p ∷ t ∷ (slot_bytes y ++ (pair_bytes (size e) ++ l))) g 4) in
      let a : at + 4 + slot_width y + 2 ≡ i = omega arith in
      let n : drop i s ≡ expr_bytes e ++ (r ++ rest) =
      ap (λ (m : ℕ). drop m s) (sym a) ∙ next_here s (at + 4 + slot_width y) (pair_bytes (size e) ++ l) j 2 ∙ append_assoc (expr_bytes e) r rest in
      let o = i + size e in
      let m : drop o s ≡ r ++ rest = past_expr i e (r ++ rest) n in
      let q : o + 0 ≡ o = omega arith in
      let z : pair_at s o ≡ size c = ap (pair_at s) (sym q) ∙ sym (pair_here o (r ++ rest) m 0 (size c) refl refl) in
      let d : drop (o + 2) s ≡ expr_bytes c ++ (expr_bytes k ++ rest) = next_here s o (r ++ rest) m 2 ∙ append_assoc (expr_bytes c) (expr_bytes k) rest in (
        continuation_with_handler_here at l x p t y (size e) f.0 g,
        z,
        expr_stands i e (r ++ rest) f.1.0 n,
        expr_stands (o + 2) c (expr_bytes k ++ rest) f.1.1.0 d,
        expr_stands (o + 2 + size c) k rest f.1.1.1 (past_expr (o + 2) c (expr_bytes k ++ rest) d),
      )
  expr_stands at (let_difference_or_raise x y z r e) rest f h =
      let l = (expr_bytes r ++ expr_bytes e) ++ rest in
      let n : drop (at + 6) s ≡ expr_bytes r ++ (expr_bytes e ++ rest) = next_here s at (10 ∷ x ∷ y ∷ z ∷ (pair_bytes (size r) ++ l)) h 6 ∙ append_assoc (expr_bytes r) (expr_bytes e) rest in (
        difference_or_raise_here at l x y z (size r) h,
        expr_stands (at + 6) r (expr_bytes e ++ rest) f.0 n,
        expr_stands (at + 6 + size r) e rest f.1 (past_expr (at + 6) r (expr_bytes e ++ rest) n),
      )

  pub code_stands : (at : ℕ) (Q : Code) (rest : List ℕ) → All (λ D. FieldsFit (version_of s) D.body) Q → drop at s ≡ joined target_bytes Q ++ rest → CodeAt s at Q
  code_stands at [] rest f h = tt
  code_stands at (D ∷ Q) rest f h =
      let b = expr_bytes D.body in
      let j = joined target_bytes Q in
      let l = D.params ∷ (pair_bytes (size D.body) ++ ((b ++ j) ++ rest)) in
      let n : drop (at + 3) s ≡ b ++ (j ++ rest) = next_here s at l h 3 ∙ append_assoc b j rest in (
        first_here s at l h,
        sym (pair_here at l h 1 (size D.body) refl refl),
        expr_stands (at + 3) D.body (j ++ rest) f.0 n,
        code_stands (at + 3 + size D.body) Q rest f.1 (past_expr (at + 3) D.body (j ++ rest) n),
      )

pub joined_length : (Q : Code) → length (joined target_bytes Q) ≡ code_size Q
joined_length [] = refl
joined_length (D ∷ Q) =
    let a = joined_length Q in
    let b = bytes_length D.body in
    omega (arith, length-append (expr_bytes D.body) (joined target_bytes Q))
