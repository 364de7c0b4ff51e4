-- Document 02, Slip 4, on abstract syntax: "Two procedures in one file." MergeLaws.antt proves what is claimed here.
use Rattle.std.specs.Prelude.{ℕ, ◌+◌, ◌<◌, ◌≡◌, List, ◌++◌, map, ℤ, length}
use Rattle.semantics.specs.Program.{FunctionNumber, Block, constant, copy, difference, call, goto, return, branch, raise, Labelled, Function, Program, function_of}
use Rattle.semantics.specs.Run.{bare_stop}
use Rattle.semantics.specs.Bench.{bench}
use Rattle.semantics.specs.WellFormed.{WellFormed}
use Rattle.semantics.specs.Extras.{extras}

-- "the second's are raised by the first's count, calls too": n is that count.
abbrev pub renumbered_block : ℕ → Block → Block
renumbered_block n (constant x i b) = constant x i (renumbered_block n b)
renumbered_block n (copy x y b) = copy x y (renumbered_block n b)
renumbered_block n (difference x y z b) = difference x y z (renumbered_block n b)
renumbered_block n (call x g ys b) = call x (n + g) ys (renumbered_block n b)
renumbered_block n (goto l) = goto l
renumbered_block n (return x) = return x
renumbered_block n (branch y z l m) = branch y z l m
renumbered_block n (raise r) = raise r

abbrev pub renumbered_labelled : ℕ → Labelled → Labelled
renumbered_labelled n B = record { handler = B.handler; receiver = B.receiver; block = renumbered_block n B.block }

abbrev pub renumbered_function : ℕ → Function → Function
renumbered_function n F =
    record { version = F.version; params = F.params; locals = F.locals; entry = renumbered_block n F.entry; blocks = map (renumbered_labelled n) F.blocks }

-- "the first's functions keep their numbers": the second's follow them.
unfoldable pub merged : Program → Program → Program
merged P Q = P ++ map (renumbered_function (length P)) Q

-- "a function ends as before with the same steps": function g of R as function f of P, at every depth limit d and budget n, and with the same extras.
pub record RunsAlike (P : Program) (f : FunctionNumber) (R : Program) (g : FunctionNumber) (args : List ℤ) : Type 0 where
  pub stop : (d n : ℕ) → bare_stop (bench R g args d n).stop ≡ bare_stop (bench P f args d n).stop
  pub steps : (d n : ℕ) → (bench R g args d n).steps ≡ (bench P f args d n).steps
  pub extras : (d n : ℕ) → extras R g args d n ≡ extras P f args d n

-- The merged program is well-formed, and each function runs alike "started at its old or raised number". The second program's functions do so
-- even where it is not well-formed.
pub record MergedRunsAlike : Type 0 where
  pub well_formed : (P Q : Program) → WellFormed P → WellFormed Q → WellFormed (merged P Q)
  pub first : (P Q : Program) → WellFormed P → (f : FunctionNumber) → f < length P
      → (args : List ℤ) → length args ≡ (function_of P f).params → RunsAlike P f (merged P Q) f args
  pub second : (P Q : Program) (f : FunctionNumber) (args : List ℤ) → RunsAlike Q f (merged P Q) (length P + f) args
