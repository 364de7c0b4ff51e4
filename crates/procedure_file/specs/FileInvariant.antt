-- What upper crates may rest on: the facts of an accepted file. Their proof is in FileInvariantLaws.
use Rattle.std.specs.Prelude.{ℕ, ◌≤◌, ◌<◌, ◌≡◌, List, ◌++◌, length, drop}
use Rattle.std.proofs.Math.Option.{some}
use Rattle.std.proofs.Math.ListN.{get_elem?}
use Rattle.parsing.specs.declared.Refusal.{Refusal}
use Rattle.parsing.specs.Fields.{IsVersion, version_of}
use Rattle.semantics.specs.Program.{Function, variables, function_of}
use Rattle.semantics.specs.Bench.{labelled_at}
use Rattle.semantics.specs.WellFormed.{IsLabel, MayName, WellFormed, WellFormedBlock}
use Rattle.procedure_operations.specs.declared.operation.Operation.{Operation}
use Rattle.procedure_operations.specs.declared.operation.Operation.TheVariants.{Call, Refused}
use Rattle.procedure_layout.specs.declared.layout.After.TheVariants.{Onward}
use Rattle.procedure_operations.specs.Operation.{operation_at}
use Rattle.procedure_operations.specs.Ranges.{NumbersInRange}
use Rattle.procedure_layout.specs.Layout.{file_limit, max_functions, arguments_at}
use Rattle.procedure_names.specs.Writing.{block_bytes, writing, ValuesFit}
use Rattle.procedure_file.specs.Check.{program_of}
use Rattle.procedure_layout.specs.Rest.{rest_from, rest_at}
use Rattle.procedure_layout.specs.After.{after_of}
use Rattle.procedure_file.specs.Places.{start_of, block_of, handler_of, receiver_of}

-- An operation of function f stands at an offset: the bytes from there on are the writing of the rest of a block, which is well-formed.
pub record OperationsAt (s : List ℕ) (f at : ℕ) : Type 0 where
  pub there : f < length (program_of s)
  pub past : ℕ
  pub written : drop at s ≡ block_bytes (rest_at s at) ++ drop past s
  pub values : ValuesFit (version_of s) (rest_at s at)
  pub formed : WellFormedBlock (program_of s) (variables (function_of (program_of s) f)) (length (function_of (program_of s) f).blocks) (rest_at s at)

-- The ranges of a function's counts.
pub record Counts (F : Function) : Type 0 where
  pub params : F.params ≤ 8
  pub locals : F.locals ≤ 24
  pub blocks : length F.blocks ≤ 63

pub record FileInvariant (s : List ℕ) : Type 0 where
  -- The program of the file.
  pub written : s ≡ writing (program_of s)
  pub well_formed : WellFormed (program_of s)
  pub known : IsVersion (version_of s)
  pub version : (f : ℕ) → f < length (program_of s) → (function_of (program_of s) f).version ≡ version_of s
  pub most : length (program_of s) ≤ max_functions
  pub counts : (f : ℕ) → f < length (program_of s) → Counts (function_of (program_of s) f)
  pub file_bound : length s ≤ file_limit
  pub function : (f : ℕ) → f < length (program_of s) → get_elem? (program_of s) f ≡ some (function_of (program_of s) f)
  -- Where its blocks stand: label 0 is the entry block.
  pub start : (f l : ℕ) → f < length (program_of s) → l ≤ length (function_of (program_of s) f).blocks → OperationsAt s f (start_of (program_of s) f l)
  pub block : (f l : ℕ) → f < length (program_of s) → l ≤ length (function_of (program_of s) f).blocks
      → rest_at s (start_of (program_of s) f l) ≡ block_of (function_of (program_of s) f) l
  pub labelled : (f l : ℕ) → IsLabel (length (function_of (program_of s) f).blocks) l
      → labelled_at (function_of (program_of s) f).blocks l
      ≡ some (record { handler = handler_of (function_of (program_of s) f) l; receiver = receiver_of (function_of (program_of s) f) l; block = block_of (function_of (program_of s) f) l })
  pub receiver : (f l : ℕ) → f < length (program_of s) → l ≤ length (function_of (program_of s) f).blocks
      → MayName (variables (function_of (program_of s) f)) (receiver_of (function_of (program_of s) f) l)
  -- The operation at an offset where one stands.
  pub inside : (f at : ℕ) → OperationsAt s f at → at < length s
  pub operation : (f at : ℕ) (r : Refusal) → OperationsAt s f at → operation_at s at ≡ Refused r → ⊥
  pub numbers : (f at : ℕ) (o : Operation) → OperationsAt s f at → operation_at s at ≡ o → NumbersInRange s at o
  pub next : (f at m : ℕ) → OperationsAt s f at → after_of (operation_at s at) ≡ Onward m → OperationsAt s f m
  pub forward : (f at m : ℕ) → OperationsAt s f at → after_of (operation_at s at) ≡ Onward m → (at < m) × (m ≤ length s)
  -- The rest of a block, by cases on the operation.
  pub rest : (at : ℕ) → rest_at s at ≡ rest_from s at (operation_at s at) (rest_at s)
  -- A call has as many arguments as its count says.
  pub called : (at x g n m : ℕ) → operation_at s at ≡ Call x g n m → length (arguments_at s at n) ≡ n
