-- The translation by blocks: the bytes from an offset on, and the part of the translated file that a block becomes.
use Rattle.std.specs.Prelude.{ℕ, zero, suc, ◌+◌, ◌*◌, List, [], ◌∷◌, ◌++◌, length}
use Rattle.std.proofs.Math.Option.{Option, none, some}
use Rattle.parsing.specs.Parser.{joined}
use Rattle.parsing.specs.Bytes.{pair_bytes, value_bytes}
use Rattle.semantics.specs.Program.{Handler, Block, constant, copy, difference, call, goto, return, branch, raise, Function, Program, variables, function_of}
use Rattle.semantics.specs.Code.{Slot, Target}
use Rattle.semantics.specs.Translation.{slot_of, spare_slot, receiver_at, receiver_slot, parameter_slot, code, bind_zeros, number, translate_function, translate}
use Rattle.procedure_layout.specs.Rest.{rest_at}
use Rattle.procedure_file.specs.Check.{program_of}
use Rattle.procedure_file.specs.Places.{start_of, block_of, handler_of}
use Rattle.target_file.specs.Writing.{target_bytes}
use Rattle.translator_bytes.specs.declared.jumps.Under.{Under}
use Rattle.translator_bytes.specs.Bytes.{label_jump, branch_bytes, raise_bytes, raise_value_bytes, difference_bytes, call_bytes, zeros}
use Rattle.translator_sizes.specs.declared.Fields.{Fields}

-- A slot's byte; 0 stands for none.
abbrev pub slot_byte : Option Slot → ℕ
slot_byte none = 0
slot_byte (some x) = x

-- The slot that a raise under a handler binds first: V+4 without one, which a 0 leaves in, else the slot of the handler's receiver.
abbrev pub bound_slot : Function → Handler → Option Slot
bound_slot F zero = spare_slot F
bound_slot F (suc l) = receiver_slot (receiver_at F (suc l))

-- What a block of F with handler h is translated under.
unfoldable pub under_of : Function → Handler → Under
under_of F h =
    record { variables = variables F; handler = h; bound = slot_byte (bound_slot F h); number_slot = slot_byte (parameter_slot F (receiver_at F h)) }

-- The bytes that a block becomes, operation by operation.
abbrev pub body_bytes : (ℕ → ℕ) → ℕ → Under → Block → List ℕ
body_bytes numbers base u (constant x i b) = ((1 ∷ (x + 2) ∷ []) ++ value_bytes i) ++ body_bytes numbers base u b
body_bytes numbers base u (copy x y b) = (2 ∷ (x + 2) ∷ (y + 2) ∷ []) ++ body_bytes numbers base u b
body_bytes numbers base u (difference x y z b) = difference_bytes base u x y z ++ body_bytes numbers base u b
body_bytes numbers base u (call x g ys b) = call_bytes base u x (numbers g) (length ys) ys ++ body_bytes numbers base u b
body_bytes numbers base u (goto l) = label_jump base u.variables l
body_bytes numbers base u (return x) = 5 ∷ 0 ∷ (x + 2) ∷ []
body_bytes numbers base u (branch y z l m) = branch_bytes base u.variables y z l m
body_bytes numbers base u (raise none) = raise_bytes base u
body_bytes numbers base u (raise (some y)) = raise_value_bytes base u y

-- Those of the rest of a block from an offset on.
unfoldable pub bytes_at : List ℕ → ℕ → Under → ℕ → List ℕ
bytes_at s base u at = body_bytes (number (program_of s)) base u (rest_at s at)

-- A function of the translated file whose body binds n locals and goes on as the block at an offset: parameter count, body length, body.
unfoldable pub part_bytes : List ℕ → ℕ → ℕ → ℕ → Under → ℕ → List ℕ
part_bytes s base p n u at =
    (p ∷ []) ++ (pair_bytes (6 * n + length (bytes_at s base u at)) ++ (zeros (p + 2) n ++ bytes_at s base u at))

-- By the label of a block: the first for the entry block, which is label 0, the second for the others.
abbrev pub by_label : ℕ → ℕ → ℕ → ℕ
by_label zero a b = a
by_label (suc l) a b = b

-- What that function is made from: its counts, what it is translated under, where the block starts.
unfoldable pub fields_of : Program → ℕ → ℕ → Fields
fields_of P f l =
    record {
      params = by_label l (function_of P f).params (variables (function_of P f));
      locals = by_label l (function_of P f).locals 0;
      under = under_of (function_of P f) (handler_of (function_of P f) l);
      start = start_of P f l;
    }

-- The function of the translated file that the block with label l of F becomes.
abbrev pub part_of : (ℕ → ℕ) → ℕ → Function → ℕ → Target
part_of numbers base F l =
    record {
      version = F.version;
      params = by_label l F.params (variables F);
      body = bind_zeros (slot_of (by_label l F.params (variables F))) (by_label l F.locals 0) (code numbers base F (handler_of F l) (block_of F l));
    }

-- The bytes of the block with label l of function f, and of the whole function.
unfoldable pub label_bytes : List ℕ → ℕ → ℕ → List ℕ
label_bytes s f l = target_bytes (part_of (number (program_of s)) (number (program_of s) f) (function_of (program_of s) f) l)

unfoldable pub function_bytes : List ℕ → ℕ → List ℕ
function_bytes s f = joined target_bytes (translate_function (number (program_of s)) (number (program_of s) f) (function_of (program_of s) f))

-- The bytes of all functions.
unfoldable pub functions_bytes : List ℕ → List ℕ
functions_bytes s = joined target_bytes (translate (program_of s))
