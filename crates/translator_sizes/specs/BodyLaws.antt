-- The bytes that a block becomes are the writing of its translation.
use Prim.Native.Nat.{ℕ, zero, suc, ◌+◌, ◌≤◌}
use Rattle.std.proofs.Common.{arith, sym, ◌∙◌, ne_eqb}
use Rattle.std.specs.Prelude.{◌≡◌, Bool, true, false, cond, eqb, length}
use Rattle.std.proofs.Math.Path.{refl, ap}
use mathlib.Core.List.{List, [], ◌∷◌, ◌++◌, map, append_assoc, append-nil}
use Rattle.std.proofs.Math.Option.{Option, none, some}
use Rattle.std.proofs.Math.ListN.{length-map}
use Rattle.parsing.specs.Bytes.{pair_bytes, value_bytes}
use Rattle.semantics.specs.Program.{Variable, Block, constant, copy, difference, call, goto, return, branch, raise, Function, variables}
use Rattle.semantics.specs.Code.{Slot, Expr, jump, handle, if_at_most, let_difference_or_raise}
use Rattle.semantics.specs.Translation.{slot_of, slots_from, to_label, spare_slot, receiver_at, receiver_slot, parameter_slot, bind_raised, raise_code, code}
use Rattle.target_file.specs.Writing.{slot_bytes, size, expr_bytes}
use Rattle.target_file.proofs.ReadsBackLaws.{bytes_length}
use Rattle.translator_bytes.specs.Bytes.{if_any, jump_head, label_jump, call_jump, plain_call, guarded_head, guarded_call, branch_bytes, raise_end, raise_bytes, raise_size, raise_value_bytes, difference_bytes, call_bytes}
use Rattle.translator_bytes.proofs.LengthLaws.{length_slots}
use Rattle.translator_sizes.specs.Parts.{slot_byte, under_of, body_bytes}
use Rattle.translator_sizes.specs.SizeLaws.{guarded_test, raise_size_lem}

two : (x : ℕ) → x + 2 ≡ suc (suc x)
two x = omega arith

three : (x : ℕ) → x + 3 ≡ suc (suc (suc x))
three x = omega arith

-- The slot of a number is not 0, which stands for none.
abbrev Shown : Option Slot → Type 0
Shown none = Unit {0}
Shown (some x) = 1 ≤ x

spare_shown : (F : Function) → Shown (spare_slot F)
spare_shown F = by (eqb F.version 2)
  where
    by : (t : Bool) → Shown (cond t (some (slot_of (suc (suc (variables F))))) none)
    by true = omega arith
    by false = tt

receiver_shown : (r : Option Variable) → Shown (receiver_slot r)
receiver_shown none = tt
receiver_shown (some x) = omega arith

parameter_shown : (F : Function) (r : Option Variable) → Shown (parameter_slot F r)
parameter_shown F none = spare_shown F
parameter_shown F (some x) = omega arith

-- Its byte, and what it is bound to.
slot_is : (y : Option Slot) → Shown y → slot_bytes y ≡ if_any (slot_byte y) (slot_byte y ∷ [])
unfolding if_any
slot_is none k = refl
slot_is (some x) k = rw (ne_eqb x 0 (λ e. omega arith))

bound_zero : (y : Option Slot) → Shown y → (e : Expr) → expr_bytes (bind_raised y none e) ≡ if_any (slot_byte y) ((1 ∷ slot_byte y ∷ []) ++ (0 ∷ 0 ∷ 0 ∷ 0 ∷ [])) ++ expr_bytes e
unfolding if_any
bound_zero none k e = refl
bound_zero (some x) k e = rw (ne_eqb x 0 (λ e. omega arith))

bound_value : (y : Option Slot) → Shown y → (z : Variable) (e : Expr) → expr_bytes (bind_raised y (some z) e) ≡ if_any (slot_byte y) (2 ∷ slot_byte y ∷ (z + 2) ∷ []) ++ expr_bytes e
unfolding if_any
bound_value none k z e = refl
bound_value (some x) k z e = rw (ne_eqb x 0 (λ e. omega arith), two z)

-- The forms.
label_is : (base v l : ℕ) → expr_bytes (to_label base v l) ≡ label_jump base v l
unfolding label_jump jump_head
label_is base v l = ap (λ (n : ℕ). (4 ∷ (pair_bytes (base + l) ++ (0 ∷ 1 ∷ n ∷ slots_from 2 v)))) (length_slots 2 v)

call_is : (g k h n : ℕ) (ys : List ℕ) → length ys ≡ n → expr_bytes (jump g k h (map slot_of ys)) ≡ call_jump g k h n ys
unfolding call_jump jump_head
call_is g k h n ys e = ap (λ (m : ℕ). (4 ∷ (pair_bytes g ++ (k ∷ h ∷ m ∷ map slot_of ys)))) (length-map ys slot_of ∙ e)

branch_is : (base v y z l m : ℕ) → expr_bytes (if_at_most (slot_of y) (slot_of z) (to_label base v l) (to_label base v m)) ≡ branch_bytes base v y z l m
unfolding branch_bytes
branch_is base v y z l m = rw (two y, two z, ← label_is base v l, ← label_is base v m, length_slots 2 v)

handle_is : (y : Option Slot) → Shown y → expr_bytes (handle 1 y) ≡ (6 ∷ 1 ∷ []) ++ if_any (slot_byte y) (slot_byte y ∷ [])
handle_is y k = ap (λ (w : List ℕ). 6 ∷ 1 ∷ w) (append-nil (slot_bytes y) ∙ slot_is y k)

module _ (base : ℕ) (F : Function) where
  zero_is : (h : ℕ) → expr_bytes (raise_code base F h none) ≡ raise_bytes base (under_of F h)
  unfolding raise_bytes raise_end under_of
  zero_is zero =
      let y = spare_slot F in
      bound_zero y (spare_shown F) (handle 1 y)
      ∙ ap (λ (w : List ℕ). if_any (slot_byte y) ((1 ∷ slot_byte y ∷ []) ++ (0 ∷ 0 ∷ 0 ∷ 0 ∷ [])) ++ w) (handle_is y (spare_shown F))
  zero_is (suc l) =
      let y = receiver_slot (receiver_at F (suc l)) in
      rw (guarded_test l)
      (bound_zero y (receiver_shown (receiver_at F (suc l))) (to_label base (variables F) (suc l))
      ∙ ap (λ (w : List ℕ). if_any (slot_byte y) ((1 ∷ slot_byte y ∷ []) ++ (0 ∷ 0 ∷ 0 ∷ 0 ∷ [])) ++ w) (label_is base (variables F) (suc l)))

  value_is : (h z : ℕ) → expr_bytes (raise_code base F h (some z)) ≡ raise_value_bytes base (under_of F h) z
  unfolding raise_value_bytes under_of
  value_is zero z = rw (two z)
  value_is (suc l) z =
      let y = receiver_slot (receiver_at F (suc l)) in
      rw (guarded_test l)
      (bound_value y (receiver_shown (receiver_at F (suc l))) z (to_label base (variables F) (suc l))
      ∙ ap (λ (w : List ℕ). if_any (slot_byte y) (2 ∷ slot_byte y ∷ (z + 2) ∷ []) ++ w) (label_is base (variables F) (suc l)))

  zero_sized : (h : ℕ) → size (raise_code base F h none) ≡ raise_size (under_of F h)
  zero_sized h = sym (bytes_length (raise_code base F h none)) ∙ (ap length (zero_is h) ∙ raise_size_lem base (under_of F h))

  difference_is : (h x y z : ℕ) (e : Expr)
      → expr_bytes (let_difference_or_raise (slot_of x) (slot_of y) (slot_of z) (raise_code base F h none) e) ≡ difference_bytes base (under_of F h) x y z ++ expr_bytes e
  unfolding difference_bytes
  difference_is h x y z e = rw (two x, two y, two z, ← zero_is h, zero_sized h)

  module _ (ns : ℕ → ℕ) where
    plain_is : (x g n : ℕ) (ys : List ℕ) (b : Block) → length ys ≡ n
        → expr_bytes (code ns base F 0 (call x g ys b)) ≡ plain_call (variables F) x (ns g) n ys ++ expr_bytes (code ns base F 0 b)
    unfolding code plain_call
    plain_is x g n ys b e = rw (two (variables F), two x, ← call_is (ns g) (slot_of (variables F)) 1 n ys e, length-map ys slot_of, e)

    guarded_is : (l x g n : ℕ) (ys : List ℕ) (b : Block) → length ys ≡ n
        → expr_bytes (code ns base F (suc l) (call x g ys b)) ≡ guarded_call base (under_of F (suc l)) x (ns g) n ys ++ expr_bytes (code ns base F (suc l) b)
    unfolding code guarded_call guarded_head under_of
    guarded_is l x g n ys b e =
        let v = variables F in
        let q = parameter_slot F (receiver_at F (suc l)) in
        let rest = expr_bytes (code ns base F (suc l) b) in
        let handled = pair_bytes (6 + v) ++ label_jump base v (suc l) in
        rw (
          append_assoc (if_any (slot_byte q) (slot_byte q ∷ [])) (pair_bytes (6 + n) ++ (call_jump (ns g) (v + 2) (v + 3) n ys ++ handled)) rest,
          append_assoc (call_jump (ns g) (v + 2) (v + 3) n ys) handled rest,
          two v,
          two x,
          three v,
          ← slot_is q (parameter_shown F (receiver_at F (suc l))),
          ← call_is (ns g) (suc (suc v)) (suc (suc (suc v))) n ys e,
          ← label_is base v (suc l),
          length-map ys slot_of,
          e,
          length_slots 2 v,
        )

    pub body_is : (h : ℕ) (b : Block) → expr_bytes (code ns base F h b) ≡ body_bytes ns base (under_of F h) b
    unfolding code call_bytes under_of
    body_is h (constant x i b) =
        ap (λ (k : ℕ). 1 ∷ k ∷ (value_bytes i ++ expr_bytes (code ns base F h b))) (sym (two x)) ∙ ap (λ (w : List ℕ). 1 ∷ (x + 2) ∷ (value_bytes i ++ w)) (body_is h b)
    body_is h (copy x y b) = rw (two x, two y) (ap (λ (w : List ℕ). 2 ∷ suc (suc x) ∷ suc (suc y) ∷ w) (body_is h b))
    body_is h (difference x y z b) =
        difference_is h x y z (code ns base F h b) ∙ ap (λ (w : List ℕ). difference_bytes base (under_of F h) x y z ++ w) (body_is h b)
    body_is zero (call x g ys b) =
        plain_is x g (length ys) ys b refl ∙ ap (λ (w : List ℕ). plain_call (variables F) x (ns g) (length ys) ys ++ w) (body_is zero b)
    body_is (suc l) (call x g ys b) =
        rw (guarded_test l)
        (guarded_is l x g (length ys) ys b refl ∙ ap (λ (w : List ℕ). guarded_call base (under_of F (suc l)) x (ns g) (length ys) ys ++ w) (body_is (suc l) b))
    body_is h (goto l) = label_is base (variables F) l
    body_is h (return x) = rw (two x)
    body_is h (branch y z l m) = branch_is base (variables F) y z l m
    body_is h (raise none) = zero_is h
    body_is h (raise (some z)) = value_is h z
