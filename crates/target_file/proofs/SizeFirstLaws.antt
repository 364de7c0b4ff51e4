-- Slip 5 of document 02: which answers of the checker changed.
use Rattle.std.specs.Prelude.{ℕ, ◌≡◌, refl, false, List, []}
use Rattle.std.proofs.Common.{arith}
use Rattle.semantics.specs.Code.{Code}
use Rattle.parsing.specs.Parser.{Parsed, read, refuse, and_then}
use Rattle.parsing.specs.Fields.{head}
use Rattle.parsing.specs.SizeFirst.{head_size_first, AnswerChange}
use Rattle.parsing.specs.SizeFirstLaws.{changed}
use Rattle.target_tags.specs.Tag.{file_limit}
use Rattle.target_layout.specs.Layout.{spc, targets, code}
use Rattle.target_file.specs.Check.{named, check_of}
use Rattle.target_file.specs.SizeFirst.{code_size_first, check_size_first}

-- Both passes have the same head.
named_same : (s : List ℕ) → head spc file_limit s 0 ≡ head_size_first spc file_limit s 0 → (x : Parsed Code) → named code s x ≡ named code_size_first s x
unfolding code code_size_first
named_same s e (refuse r) = refl
named_same s e (read Q next) = rw e

pub check_changed : (s : List ℕ) → AnswerChange spc file_limit s (check_size_first s) (check_of s)
unfolding check_of code check_size_first code_size_first
check_changed s =
    changed spc file_limit s (omega arith) (λ r e. rw e) (λ r e. rw e)
    (λ e. rw e (named_same s e (and_then (head_size_first spc file_limit s 0) (λ u m. targets false [] s m))))
