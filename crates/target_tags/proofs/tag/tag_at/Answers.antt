use Rattle.target_tags.specs.TagLaws.{tag_past, tag_unknown, tag_1, tag_2, tag_3, tag_4, tag_5, tag_6, tag_7, tag_8, tag_9, tag_10}
use native.Mathlib.Omega.{arith}
use mathlib.Core.Path.{◌∙◌}
use borrow.Author.Rules.{rules}
use Rattle.target_tags.proofs.tag.tag_at.Goals as goal

pub returns-then-file-at : goal.returns-then-file-at
returns-then-file-at c = c.cut.ensures ∙ tag_past _ _ c.if-file-at.true

pub returns-in-1 : goal.returns-in-1
returns-in-1 c = c.constant_at.ensures ∙ tag_1 _ _ (omega arith) c.in-1.is

pub returns-in-2 : goal.returns-in-2
returns-in-2 c = c.copy_at.ensures ∙ tag_2 _ _ (omega arith) c.in-2.is

pub returns-in-3 : goal.returns-in-3
returns-in-3 c = c.difference_at.ensures ∙ tag_3 _ _ (omega arith) c.in-3.is

pub returns-in-4 : goal.returns-in-4
returns-in-4 c = c.jump_at.ensures ∙ tag_4 _ _ (omega arith) c.in-4.is

pub returns-in-5 : goal.returns-in-5
returns-in-5 c = c.resume_at.ensures ∙ tag_5 _ _ (omega arith) c.in-5.is

pub returns-in-6 : goal.returns-in-6
returns-in-6 c = c.handle_at.ensures ∙ tag_6 _ _ (omega arith) c.in-6.is

pub returns-in-7 : goal.returns-in-7
returns-in-7 c = c.branch_at.ensures ∙ tag_7 _ _ (omega arith) c.in-7.is

pub returns-in-8 : goal.returns-in-8
returns-in-8 c = c.continuation_at.ensures ∙ tag_8 _ _ (omega arith) c.in-8.is

pub returns-in-9 : goal.returns-in-9
returns-in-9 c = c.continuation_with_handler_at.ensures ∙ tag_9 _ _ (omega arith) c.in-9.is

pub returns-in-10 : goal.returns-in-10
returns-in-10 c = c.difference_or_raise_at.ensures ∙ tag_10 _ _ (omega arith) c.in-10.is

pub returns-in_default : goal.returns-in_default
returns-in_default c =
    tag_unknown _ _ (omega arith) (search rules) (search rules) (search rules) (search rules) (search rules) (search rules) (search rules) (search rules) (search rules) (search rules)
