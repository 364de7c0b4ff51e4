-- Figure 7: the translation, with document 01's correction (after a call under handler L the continuation is translated under L, where
-- the figure drops it), its slots and its order of functions; and document 02's (Slip 2): a difference becomes tag 10, whose raise part "is what a
-- raise there would become"; Slip 7: the number that a raise carries, in version 2.
use Rattle.std.specs.Prelude.{ℕ, zero, suc, ◌+◌, Bool, cond, List, [], ◌∷◌, ◌++◌, map, eqb, pos, length}
use Rattle.std.proofs.Math.Option.{Option, none, some}
use Rattle.semantics.specs.Program.{FunctionNumber, Variable, Label, Handler, Block, constant, copy, difference, call, goto, return, branch, raise, Labelled, Function, Program, variables}
use Rattle.semantics.specs.Bench.{labelled_at}
use Rattle.semantics.specs.Code.{Slot, Expr, let_constant, let_slot, jump, resume, handle, if_at_most, let_continuation, let_continuation_with_handler, let_difference_or_raise, Target, Code}

-- Variable v is in slot v + 2.
abbrev pub slot_of : Variable → Slot
slot_of v = suc (suc v)

-- The n slots from s upward.
abbrev pub slots_from : Slot → ℕ → List Slot
slots_from s zero = []
slots_from s (suc n) = s ∷ slots_from (suc s) n

-- f.L(k, h, zs): the jump to label l of the function whose entry has number base, with all of its v variables.
abbrev pub to_label : ℕ → ℕ → Label → Expr
to_label base v l = jump (base + l) 0 1 (slots_from (slot_of 0) v)

-- Slot V+4, which version 2 has for a number that no variable receives.
abbrev pub uses_spare : Function → Bool
uses_spare F = eqb F.version 2

abbrev pub spare_slot : Function → Option Slot
spare_slot F = cond (uses_spare F) (some (slot_of (suc (suc (variables F))))) none

-- The last slot that the code of a function uses: the new handler's V+3, and V+4 in version 2.
abbrev pub last_slot : Function → Slot
last_slot F = cond (uses_spare F) (slot_of (suc (suc (variables F)))) (slot_of (suc (variables F)))

-- The receiver of the block with a label.
abbrev pub receiver_in : Option Labelled → Option Variable
receiver_in none = none
receiver_in (some B) = B.receiver

abbrev pub receiver_at : Function → Label → Option Variable
receiver_at F l = receiver_in (labelled_at F.blocks l)

abbrev pub receiver_slot : Option Variable → Option Slot
receiver_slot none = none
receiver_slot (some x) = some (slot_of x)

-- Tag 9's handler parameter: "That parameter is the receiver's slot, or V+4 for none."
abbrev pub parameter_slot : Function → Option Variable → Option Slot
parameter_slot F none = spare_slot F
parameter_slot F (some x) = some (slot_of x)

-- A slot, if any, is bound to what operation 8 or 9 raises: 0, or a variable's value.
abbrev pub bind_raised : Option Slot → Option Variable → Expr → Expr
bind_raised none r e = e
bind_raised (some s) none e = let_constant s (pos 0) e
bind_raised (some s) (some y) e = let_slot s (slot_of y) e

-- A raise under handler h, in a function whose entry has number base. Without one it is tag 6 with slot 1 and, in version 2, the number's slot:
-- "a 0 leaving the function is first bound to V+4". "A raise inside its function binds the receiver, if any (even to itself), and jumps."
abbrev pub raise_code : ℕ → Function → Handler → Option Variable → Expr
raise_code base F zero none = bind_raised (spare_slot F) none (handle 1 (spare_slot F))
raise_code base F zero (some y) = handle 1 (some (slot_of y))
raise_code base F (suc l) r = bind_raised (receiver_slot (receiver_at F (suc l))) r (to_label base (variables F) (suc l))

-- T(f, k, h, V, H, B): the block b under handler h, in a function F of v variables whose entry has number base; `numbers` gives the
-- number of each source function's entry. The new continuation uses slot v + 2, the new handler v + 3.
unfoldable pub code : (FunctionNumber → ℕ) → ℕ → Function → Handler → Block → Expr
code numbers base F h (constant x i b) = let_constant (slot_of x) i (code numbers base F h b)
code numbers base F h (copy x y b) = let_slot (slot_of x) (slot_of y) (code numbers base F h b)
code numbers base F h (difference x y z b) =
    let_difference_or_raise (slot_of x) (slot_of y) (slot_of z) (raise_code base F h none) (code numbers base F h b)
code numbers base F zero (call x g ys b) =
    let_continuation (slot_of (variables F)) (slot_of x) (jump (numbers g) (slot_of (variables F)) 1 (map slot_of ys)) (code numbers base F zero b)
code numbers base F (suc l) (call x g ys b) =
    let_continuation_with_handler (slot_of (variables F)) (slot_of x) (slot_of (suc (variables F))) (parameter_slot F (receiver_at F (suc l)))
    (jump (numbers g) (slot_of (variables F)) (slot_of (suc (variables F))) (map slot_of ys))
    (to_label base (variables F) (suc l))
    (code numbers base F (suc l) b)
code numbers base F h (goto l) = to_label base (variables F) l
code numbers base F h (return x) = resume 0 (slot_of x)
code numbers base F h (branch y z l m) = if_at_most (slot_of y) (slot_of z) (to_label base (variables F) l) (to_label base (variables F) m)
code numbers base F h (raise r) = raise_code base F h r

-- let y1 = 0 in .. let yn = 0 in e, in order, the first in slot s.
abbrev pub bind_zeros : Slot → ℕ → Expr → Expr
bind_zeros s zero e = e
bind_zeros s (suc n) e = let_constant s (pos 0) (bind_zeros (suc s) n e)

-- A function's entry takes the parameters and binds each local to 0, in order.
abbrev pub entry_target : (FunctionNumber → ℕ) → ℕ → Function → Target
entry_target numbers base F =
    record {
      version = F.version;
      params = F.params;
      body = bind_zeros (slot_of F.params) F.locals (code numbers base F 0 F.entry);
    }

-- A labelled block takes all variables.
abbrev pub block_target : (FunctionNumber → ℕ) → ℕ → Function → Labelled → Target
block_target numbers base F B = record { version = F.version; params = variables F; body = code numbers base F B.handler B.block }

-- How many functions of the translation a source function becomes: its entry and its labelled blocks.
abbrev pub targets : Function → ℕ
targets F = suc (length F.blocks)

-- The number of the entry of function f in the translation: "Order: each source function, then its labelled blocks."
abbrev pub number : Program → FunctionNumber → ℕ
number P zero = 0
number [] (suc f) = 0
number (F ∷ P) (suc f) = targets F + number P f

-- T(D), its entry having number base.
abbrev pub translate_function : (FunctionNumber → ℕ) → ℕ → Function → Code
translate_function numbers base F = entry_target numbers base F ∷ map (block_target numbers base F) F.blocks

-- T(D1) ∪ .. ∪ T(Dn), the first entry having number base.
abbrev pub translate_from : (FunctionNumber → ℕ) → ℕ → List Function → Code
translate_from numbers base [] = []
translate_from numbers base (F ∷ Fs) = translate_function numbers base F ++ translate_from numbers (base + targets F) Fs

-- T(P)
unfoldable pub translate : Program → Code
translate P = translate_from (number P) 0 P
