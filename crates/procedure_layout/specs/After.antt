-- What the functions that walk a file answer.
use Rattle.parsing.specs.declared.Refusal.{Refusal}
use Rattle.std.specs.Prelude.{ℕ, Err, Ok, Result}
use Rattle.parsing.specs.Parser.{Parsed, read, refuse}
use Rattle.procedure_operations.specs.declared.operation.Operation.{Operation}
use Rattle.procedure_operations.specs.declared.operation.Operation.TheVariants.{Constant, Copy, Difference, Call, Goto, Return, Branch, Raise, RaiseValue, Refused}
use Rattle.procedure_layout.specs.declared.layout.After.{After}
use Rattle.procedure_layout.specs.declared.layout.After.TheVariants.{Onward, Ended, Halted}
use Rattle.semantics.specs.Program.{Block}
use Rattle.procedure_layout.specs.Layout.{Heading}

-- Whether the block goes on behind an operation.
abbrev pub after_of : Operation → After
after_of (Constant x i next) = Onward next
after_of (Copy x y next) = Onward next
after_of (Difference x y z next) = Onward next
after_of (Call x g n next) = Onward next
after_of (Goto l next) = Ended next
after_of (Return x next) = Ended next
after_of (Branch y z l m next) = Ended next
after_of (Raise next) = Ended next
after_of (RaiseValue x next) = Ended next
after_of (Refused r) = Halted r

-- The labelled block count of a heading.
abbrev pub blocks_of : Parsed Heading → Result ℕ Refusal
blocks_of (read h next) = Ok h.blocks
blocks_of (refuse r) = Err r

-- The offset past a block.
abbrev pub end_of : Parsed Block → ℕ
end_of (read b next) = next
end_of (refuse r) = 0
