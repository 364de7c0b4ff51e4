-- How many bytes each operation becomes.
use Rattle.std.specs.Prelude.{ℕ, suc, ◌+◌, ◌≡◌, refl, List, [], ◌∷◌, ◌++◌, Bool, true, false, cond, eqb, length}
use Rattle.std.proofs.Common.{arith, ap, ◌∙◌, ne_eqb, length-append}
use Rattle.parsing.specs.Bytes.{pair_bytes}
use Rattle.translator_bytes.specs.declared.jumps.Under.{Under}
use Rattle.translator_bytes.specs.Bytes.{if_any, size_if_any, label_jump, call_jump, plain_call, guarded_head, guarded_call, branch_bytes, raise_end, raise_end_size, raise_bytes, raise_size, raise_value_bytes, raise_value_size, difference_bytes, call_bytes, call_size}
use Rattle.translator_bytes.proofs.LengthLaws.{label_size, call_size_lem, any_size, head_size}

-- A handler in force is not 0.
pub guarded_test : (h : ℕ) → eqb (suc h) 0 ≡ false
guarded_test h = ne_eqb (suc h) 0 (λ e. omega arith)

pub plain_size : (v x g n : ℕ) (ys : List ℕ) → length ys ≡ n → length (plain_call v x g n ys) ≡ 5 + (6 + n)
unfolding plain_call
plain_size v x g n ys e = let a = call_size_lem g (v + 2) 1 n ys e in omega arith

pub guarded_size : (base : ℕ) (u : Under) (x g n : ℕ) (ys : List ℕ) → length ys ≡ n
    → length (guarded_call base u x g n ys) ≡ 8 + size_if_any u.number_slot 1 + ((6 + n) + (6 + u.variables))
unfolding guarded_call
guarded_size base u x g n ys e =
    let v = u.variables in
    let a = call_size_lem g (v + 2) (v + 3) n ys e in
    let b = label_size base v u.handler in
    let c = length-append (call_jump g (v + 2) (v + 3) n ys) (pair_bytes (6 + v) ++ label_jump base v u.handler) in
    let head = guarded_head (v + 2) (x + 2) (v + 3) u.number_slot in
    let d = head_size (v + 2) (x + 2) (v + 3) u.number_slot in
    let f = length-append head (pair_bytes (6 + n) ++ (call_jump g (v + 2) (v + 3) n ys ++ (pair_bytes (6 + v) ++ label_jump base v u.handler))) in
    omega arith

pub called_size : (base : ℕ) (u : Under) (x g n : ℕ) (ys : List ℕ) → length ys ≡ n → length (call_bytes base u x g n ys) ≡ call_size u n
unfolding call_bytes call_size
called_size base u x g n ys e = by (eqb u.handler 0)
  where
    by : (t : Bool)
        → length (cond t (plain_call u.variables x g n ys) (guarded_call base u x g n ys)) ≡ cond t (5 + (6 + n)) (8 + size_if_any u.number_slot 1 + ((6 + n) + (6 + u.variables)))
    by true = plain_size u.variables x g n ys e
    by false = guarded_size base u x g n ys e

pub branch_size : (base v y z l m : ℕ) → length (branch_bytes base v y z l m) ≡ 5 + ((6 + v) + (6 + v))
unfolding branch_bytes
branch_size base v y z l m =
    let a = label_size base v l in
    let b = label_size base v m in
    let c = length-append (label_jump base v l) (label_jump base v m) in
    omega arith

-- The end of a raise, and what it binds before.
end_size : (base : ℕ) (u : Under) → length (raise_end base u) ≡ raise_end_size u
unfolding raise_end raise_end_size
end_size base u = by (eqb u.handler 0)
  where
    by : (t : Bool)
        → length (cond t ((6 ∷ 1 ∷ []) ++ if_any u.number_slot (u.number_slot ∷ [])) (label_jump base u.variables u.handler)) ≡ cond t (2 + size_if_any u.number_slot 1) (6 + u.variables)
    by true = let a : length (if_any u.number_slot (u.number_slot ∷ [])) ≡ size_if_any u.number_slot 1 = any_size u.number_slot (u.number_slot ∷ []) refl in omega arith
    by false = label_size base u.variables u.handler

pub raise_size_lem : (base : ℕ) (u : Under) → length (raise_bytes base u) ≡ raise_size u
unfolding raise_bytes raise_size
raise_size_lem base u =
    let w = (1 ∷ u.bound ∷ []) ++ (0 ∷ 0 ∷ 0 ∷ 0 ∷ []) in
    length-append (if_any u.bound w) (raise_end base u)
    ∙ (ap (λ (n : ℕ). n + length (raise_end base u)) (any_size u.bound w refl) ∙ ap (λ (n : ℕ). size_if_any u.bound 6 + n) (end_size base u))

pub raise_value_size_lem : (base : ℕ) (u : Under) (y : ℕ) → length (raise_value_bytes base u y) ≡ raise_value_size u
unfolding raise_value_bytes raise_value_size
raise_value_size_lem base u y = by (eqb u.handler 0)
  where
    w : List ℕ
    w = 2 ∷ u.bound ∷ (y + 2) ∷ []

    jump : List ℕ
    jump = label_jump base u.variables u.handler

    by : (t : Bool) → length (cond t (6 ∷ 1 ∷ (y + 2) ∷ []) (if_any u.bound w ++ jump)) ≡ cond t 3 (size_if_any u.bound 3 + (6 + u.variables))
    by true = refl
    by false =
        length-append (if_any u.bound w) jump
        ∙ (ap (λ (n : ℕ). n + length jump) (any_size u.bound w refl) ∙ ap (λ (n : ℕ). size_if_any u.bound 3 + n) (label_size base u.variables u.handler))

pub difference_size : (base : ℕ) (u : Under) (x y z : ℕ) → length (difference_bytes base u x y z) ≡ 6 + raise_size u
unfolding difference_bytes
difference_size base u x y z = let a = raise_size_lem base u in omega arith
