-- The names in a procedure file in reading order, each with its place, and whether it is right (document 01, refusals 7 to 10).
use Rattle.std.specs.Prelude.{ℕ, ◌+◌, Bool, cond, true, false, List, [], ◌∷◌, ◌++◌, map, leb, ltb, eqb, length, get_or}
use Rattle.std.proofs.Math.Option.{Option, none, some}
use Rattle.semantics.specs.Program.{Variable, Label, Handler, FunctionNumber, Block, constant, copy, difference, call, goto, return, branch, raise, Labelled, Function, Program, variables}
use Rattle.parsing.specs.declared.reason.Reason.{Reason}
use Rattle.parsing.specs.declared.reason.Reason.TheVariants.{MissingVariable, MissingLabel, MissingFunction, CalleeArity}
use Rattle.parsing.specs.Parser.{Verdict, accepted, refused}
use Rattle.procedure_layout.specs.Layout.{bytes_before}
use Rattle.procedure_names.specs.Writing.{block_bytes, labelled_bytes, function_bytes}

-- A name that is not right is refused for its reason, at its place.
pub record Name : Type 0 where
  pub reason : Reason
  pub place : ℕ
  pub right : Bool

-- "7 no such variable", of v variables.
abbrev pub variable : ℕ → ℕ → Variable → Name
variable v place x = record { reason = MissingVariable; place = place; right = ltb x v }

-- "8 no such label or handler label", of the labels 1 to n; no handler is 0.
abbrev pub label : ℕ → ℕ → Label → Name
label n place l = record { reason = MissingLabel; place = place; right = cond (leb 1 l) (leb l n) false }

abbrev pub handler : ℕ → ℕ → Handler → Name
handler n place h = record { reason = MissingLabel; place = place; right = leb h n }

-- "7 no such variable", of a receiver (document 02, Slip 7), where there is one.
abbrev pub receiver : ℕ → ℕ → Option Variable → Name
receiver v place none = record { reason = MissingVariable; place = place; right = true }
receiver v place (some x) = variable v place x

-- "9 no such function", where the functions have these numbers of parameters.
abbrev pub function : List ℕ → ℕ → FunctionNumber → Name
function ps place g = record { reason = MissingFunction; place = place; right = ltb g (length ps) }

-- "10 argument count unlike the callee's (at the count)."
abbrev pub arity : List ℕ → ℕ → FunctionNumber → ℕ → Name
arity ps place g n = record { reason = CalleeArity; place = place; right = eqb n (get_or ps g 0) }

abbrev pub arguments : ℕ → ℕ → List Variable → List Name
arguments v place [] = []
arguments v place (y ∷ ys) = variable v place y ∷ arguments v (place + 1) ys

-- The names of a block whose first operation stands at an offset, in a function of v variables and n labels.
abbrev pub block_names : List ℕ → ℕ → ℕ → ℕ → Block → List Name
block_names ps v n at (constant x i b) = variable v (at + 1) x ∷ block_names ps v n (at + 6) b
block_names ps v n at (copy x y b) = variable v (at + 1) x ∷ variable v (at + 2) y ∷ block_names ps v n (at + 3) b
block_names ps v n at (difference x y z b) =
    variable v (at + 1) x ∷ variable v (at + 2) y ∷ variable v (at + 3) z ∷ block_names ps v n (at + 4) b
block_names ps v n at (call x g ys b) =
    variable v (at + 1) x ∷ function ps (at + 2) g ∷ arity ps (at + 3) g (length ys) ∷
    (arguments v (at + 4) ys ++ block_names ps v n (at + 4 + length ys) b)
block_names ps v n at (goto l) = label n (at + 1) l ∷ []
block_names ps v n at (return x) = variable v (at + 1) x ∷ []
block_names ps v n at (branch y z l m) =
    variable v (at + 1) y ∷ variable v (at + 2) z ∷ label n (at + 3) l ∷ label n (at + 4) m ∷ []
block_names ps v n at (raise none) = []
block_names ps v n at (raise (some x)) = variable v (at + 1) x ∷ []

-- The names of labelled blocks of a version, one after the other from an offset on.
abbrev pub labelled_names : ℕ → List ℕ → ℕ → ℕ → ℕ → List Labelled → List Name
labelled_names version ps v n at [] = []
labelled_names version ps v n at (B ∷ more) =
    handler n at B.handler ∷ receiver v (at + 1) B.receiver ∷
    (block_names ps v n (at + bytes_before version) B.block ++ labelled_names version ps v n (at + length (labelled_bytes version B)) more)

-- The names of functions, one after the other from an offset on.
abbrev pub function_names : List ℕ → ℕ → Function → List Name
function_names ps at F =
    block_names ps (variables F) (length F.blocks) (at + 3) F.entry ++
    labelled_names F.version ps (variables F) (length F.blocks) (at + 3 + length (block_bytes F.entry)) F.blocks

abbrev pub functions_names : List ℕ → ℕ → List Function → List Name
functions_names ps at [] = []
functions_names ps at (F ∷ more) = function_names ps at F ++ functions_names ps (at + length (function_bytes F)) more

-- The functions' numbers of parameters.
abbrev pub arities : Program → List ℕ
arities P = map (λ F. F.params) P

-- The names of a program: its first function stands behind mark, version and count.
unfoldable pub names_of : Program → List Name
names_of P = functions_names (arities P) 6 P

-- The first name that is not right.
abbrev pub first_wrong : List Name → Verdict
first_wrong [] = accepted
first_wrong (x ∷ xs) = cond x.right (first_wrong xs) (refused x.reason x.place)
