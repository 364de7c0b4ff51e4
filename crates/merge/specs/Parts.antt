-- The bytes that the merge writes. In those of the second file n is added to the number of each function that is called.
use Rattle.std.specs.Prelude.{ℕ, ◌+◌, ◌-◌, cond, List, [], ◌∷◌, ◌++◌, eqb, length, get_or, take, drop}
use Rattle.semantics.specs.Program.{function_of}
use Rattle.semantics.specs.Merge.{renumbered_block}
use Rattle.procedure_layout.specs.Rest.{rest_at}
use Rattle.procedure_names.specs.Writing.{block_bytes, receiver_bytes}
use Rattle.procedure_file.specs.Check.{program_of}
use Rattle.procedure_file.specs.Places.{block_of, handler_of, receiver_of}

-- "Mark `SPF`, version (16 bits, 1), function count"; the version is the files' own (document 02, Slip 7).
abbrev pub head_bytes : (version functions : ℕ) → List ℕ
head_bytes version functions = 83 ∷ 80 ∷ 70 ∷ version ∷ 0 ∷ functions ∷ []

-- The bytes from one offset up to another.
abbrev pub stretch : List ℕ → ℕ → ℕ → List ℕ
stretch s at next = take (next - at) (drop at s)

-- "4 call: result variable, function, argument count": the bytes before its arguments.
abbrev pub call_head : List ℕ → ℕ → ℕ → List ℕ
call_head s at n = 4 ∷ get_or s (at + 1) 0 ∷ (n + get_or s (at + 2) 0) ∷ get_or s (at + 3) 0 ∷ []

-- The operation that stands from one offset up to another.
unfoldable pub operation_bytes : List ℕ → ℕ → ℕ → ℕ → List ℕ
operation_bytes s at next n = cond (eqb (get_or s at 0) 4) (call_head s at n ++ stretch s (at + 4) next) (stretch s at next)

-- The rest of a block from an offset on.
unfoldable pub rest_bytes : List ℕ → ℕ → ℕ → List ℕ
rest_bytes s at n = block_bytes (renumbered_block n (rest_at s at))

-- The counts and the entry block of function f.
unfoldable pub entry_bytes : List ℕ → ℕ → ℕ → List ℕ
entry_bytes s f n =
    (function_of (program_of s) f).params ∷ (function_of (program_of s) f).locals ∷ length (function_of (program_of s) f).blocks
    ∷ block_bytes (renumbered_block n (function_of (program_of s) f).entry)

-- What stands before the block with label l of function f: its handler, and in version 2 its receiver.
abbrev pub label_head : List ℕ → ℕ → ℕ → List ℕ
label_head s f l = let F = function_of (program_of s) f in handler_of F l ∷ receiver_bytes F.version (receiver_of F l)

-- That block.
unfoldable pub label_bytes : List ℕ → ℕ → ℕ → ℕ → List ℕ
label_bytes s f l n = label_head s f l ++ block_bytes (renumbered_block n (block_of (function_of (program_of s) f) l))
