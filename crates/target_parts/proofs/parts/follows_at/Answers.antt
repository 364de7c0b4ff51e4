use mathlib.Core.Path.{refl}
use Rattle.target_parts.specs.PartsLaws.{follows_by_tag}
use Rattle.target_parts.specs.Parts.{follows_at}
use Rattle.target_parts.proofs.parts.follows_at.Goals as goal

pub returns-in-Constant : goal.returns-in-Constant
unfolding follows_at
returns-in-Constant c = follows_by_tag _ c.in-Constant.is refl

pub returns-in-Copy : goal.returns-in-Copy
unfolding follows_at
returns-in-Copy c = follows_by_tag _ c.in-Copy.is refl

pub returns-in-Difference : goal.returns-in-Difference
unfolding follows_at
returns-in-Difference c = follows_by_tag _ c.in-Difference.is refl

pub returns-in-Jump : goal.returns-in-Jump
unfolding follows_at
returns-in-Jump c = follows_by_tag _ c.in-Jump.is refl

pub returns-in-Resume : goal.returns-in-Resume
unfolding follows_at
returns-in-Resume c = follows_by_tag _ c.in-Resume.is refl

pub returns-in-Handle : goal.returns-in-Handle
unfolding follows_at
returns-in-Handle c = follows_by_tag _ c.in-Handle.is refl

pub returns-in-Branch : goal.returns-in-Branch
unfolding follows_at
returns-in-Branch c = follows_by_tag _ c.in-Branch.is refl

pub returns-in-Continuation : goal.returns-in-Continuation
unfolding follows_at
returns-in-Continuation c = follows_by_tag _ c.in-Continuation.is refl

pub returns-in-ContinuationWithHandler : goal.returns-in-ContinuationWithHandler
unfolding follows_at
returns-in-ContinuationWithHandler c = follows_by_tag _ c.in-ContinuationWithHandler.is refl

pub returns-in-DifferenceOrRaise : goal.returns-in-DifferenceOrRaise
unfolding follows_at
returns-in-DifferenceOrRaise c = follows_by_tag _ c.in-DifferenceOrRaise.is refl

pub returns-in-Refused : goal.returns-in-Refused
unfolding follows_at
returns-in-Refused c = follows_by_tag _ c.in-Refused.is refl
