-- Where the functions and blocks of a program stand in its file: each begins behind the writing of those before it.
use Rattle.std.specs.Prelude.{ℕ, zero, suc, ◌+◌, length, get_or, take}
use Rattle.std.proofs.Math.Option.{Option, none}
use Rattle.parsing.specs.Parser.{joined}
use Rattle.semantics.specs.Program.{Variable, Block, Function, Program, function_of}
use Rattle.procedure_layout.specs.Layout.{bytes_before}
pub use Rattle.semantics.specs.Program.{no_labelled}
use Rattle.procedure_names.specs.Writing.{block_bytes, labelled_bytes, function_bytes}

-- Function f, behind mark, version, count and the functions before it.
unfoldable pub function_place : Program → ℕ → ℕ
function_place P f = 6 + length (joined function_bytes (take f P))

-- Behind the entry block and the first l labelled blocks of function f.
unfoldable pub label_place : Program → ℕ → ℕ → ℕ
label_place P f l =
    function_place P f + 3 + length (block_bytes (function_of P f).entry) + length (joined (labelled_bytes (function_of P f).version) (take l (function_of P f).blocks))

-- The first operation of the block with a label of function f; label 0 is the entry block. A labelled block's stands behind its handler byte, and in
-- version 2 behind its receiver.
abbrev pub start_of : Program → ℕ → ℕ → ℕ
start_of P f zero = function_place P f + 3
start_of P f (suc l) = label_place P f l + bytes_before (function_of P f).version

-- The block with a label of a function, its handler and its receiver; label 0 is the entry block, which has none.
abbrev pub block_of : Function → ℕ → Block
block_of F zero = F.entry
block_of F (suc l) = (get_or F.blocks l no_labelled).block

abbrev pub handler_of : Function → ℕ → ℕ
handler_of F zero = 0
handler_of F (suc l) = (get_or F.blocks l no_labelled).handler

abbrev pub receiver_of : Function → ℕ → Option Variable
receiver_of F zero = none
receiver_of F (suc l) = (get_or F.blocks l no_labelled).receiver
