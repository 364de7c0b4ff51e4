-- The layout of a procedure file (document 01, 'The procedure file'): which program its bytes are, or the first refusal of 1 to 6 and 15.
use Rattle.std.specs.Prelude.{ℕ, zero, suc, cond, List, [], ◌∷◌, eqb, length}
use Rattle.std.proofs.Math.Option.{Option, none, some}
use Rattle.semantics.specs.Program.{Variable, Block, constant, copy, difference, call, goto, return, branch, raise, Labelled, Function, Program}
use Rattle.parsing.specs.Parser.{Parsed, read, refuse, Parser, give, and_then, ◌>>=◌, many}
use Rattle.parsing.specs.Fields.{cut, byte, version_of, head, count, ended}
use Rattle.procedure_operations.specs.declared.operation.Operation.{Operation}
use Rattle.procedure_operations.specs.declared.operation.Operation.TheVariants.{Constant, Copy, Difference, Call, Goto, Return, Branch, Raise, RaiseValue, Refused}
use Rattle.procedure_operations.specs.Operation.{operation_at}
pub use Rattle.procedure_operations.specs.Operation.{arguments_at}
pub use Rattle.procedure_operations.specs.Numbers.{max_functions, max_variables}

-- The bytes `SPF`.
abbrev pub spf : List ℕ
spf = 83 ∷ 80 ∷ 70 ∷ []

-- "15 file above its limit (32,768 ..)."
abbrev pub file_limit : ℕ
file_limit = 32768

-- What is made of the operations from an offset on: `step` says what an operation makes of what follows it. The fuel `n` never runs
-- out where it is the file's length; `stop` is what the end of the file makes (`walk_law` in WalkLaws).
abbrev pub walk_n : {A : Type 0} → List ℕ → (ℕ → Operation → (ℕ → A) → A) → A → ℕ → ℕ → A
walk_n s step stop zero at = stop
walk_n s step stop (suc n) at = step at (operation_at s at) (walk_n s step stop n)

unfoldable pub walk : {A : Type 0} → List ℕ → (ℕ → Operation → (ℕ → A) → A) → A → ℕ → A
walk s step stop at = walk_n s step stop (length s) at

-- An operation before a block that was read.
abbrev pub before : (Block → Block) → Parsed Block → Parsed Block
before o (read b next) = read (o b) next
before o (refuse r) = refuse r

-- "A block is operations up to and including the first of 5 to 8", in version 2 of 5 to 9 (document 02, Slip 7).
abbrev pub block_from : List ℕ → ℕ → Operation → (ℕ → Parsed Block) → Parsed Block
block_from s at (Constant x i next) rest = before (constant x i) (rest next)
block_from s at (Copy x y next) rest = before (copy x y) (rest next)
block_from s at (Difference x y z next) rest = before (difference x y z) (rest next)
block_from s at (Call x g n next) rest = before (call x g (arguments_at s at n)) (rest next)
block_from s at (Goto l next) rest = read (goto l) next
block_from s at (Return x next) rest = read (return x) next
block_from s at (Branch y z l m next) rest = read (branch y z l m) next
block_from s at (Raise next) rest = read (raise none) next
block_from s at (RaiseValue x next) rest = read (raise (some x)) next
block_from s at (Refused r) rest = refuse r

unfoldable pub block : Parser Block
block s at = walk s (block_from s) (refuse (cut s)) at

-- "Version 2 procedures have, after each handler byte, a receiving variable (255 for none)" (document 02, Slip 7).
abbrev pub as_receiver : ℕ → Option Variable
as_receiver x = cond (eqb x 255) none (some x)

abbrev pub receiver : Parser (Option Variable)
receiver s at = cond (eqb (version_of s) 2) (and_then (byte s at) (λ x next. read (as_receiver x) next)) (read none at)

-- The bytes before a labelled block's first operation.
unfoldable pub bytes_before : ℕ → ℕ
bytes_before version = cond (eqb version 2) 2 1

-- "A labelled block begins with its handler byte."
unfoldable pub labelled : Parser Labelled
labelled = do
  h ← byte
  r ← receiver
  b ← block
  give (record { handler = h; receiver = r; block = b })

pub record Heading : Type 0 where
  pub params : ℕ
  pub locals : ℕ
  pub blocks : ℕ

-- "parameter count (0 to 8), local count (0 to 24), labelled block count (0 to 63)"
unfoldable pub heading : Parser Heading
heading = do
  p ← count 0 8
  l ← count 0 24
  n ← count 0 63
  give (record { params = p; locals = l; blocks = n })

-- The version of the file that is read.
abbrev pub own_version : Parser ℕ
own_version s at = read (version_of s) at

-- "Each function: ..., entry block, then the labelled blocks in order, labels 1 upward."
unfoldable pub function : Parser Function
function = do
  v ← own_version
  h ← heading
  b ← block
  bs ← many h.blocks labelled
  give (record { version = v; params = h.params; locals = h.locals; entry = b; blocks = bs })

-- Behind the head: "function count (1 to 32)", the functions, and no bytes left over.
unfoldable pub functions : Parser Program
functions = do
  n ← count 1 max_functions
  fs ← many n function
  _ ← ended
  give fs

-- "Mark `SPF`, version (16 bits, 1)", or 2, and the functions.
unfoldable pub program : Parser Program
program = do
  _ ← head spf file_limit
  functions
