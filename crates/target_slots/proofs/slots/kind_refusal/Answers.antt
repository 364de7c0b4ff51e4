-- The reason told, by the kind of the slot and the kind needed.
use Rattle.std.specs.Prelude.{◌≡◌, ◌≢◌, refl}
use Rattle.parsing.specs.declared.reason.Reason.TheVariants.{UnboundSlot, NotWhole, NotContinuation, NotHandler}
use Rattle.target_slots.specs.declared.slots.Kind.{Kind}
use Rattle.target_slots.specs.declared.slots.Kind.TheVariants.{Unbound, Whole, Continuation}
use Rattle.target_slots.specs.Slots.{kind_refusal}
use Rattle.target_slots.proofs.slots.kind_refusal.Goals as goal

unbound_told : (k b : Kind) → b ≡ Unbound → UnboundSlot ≡ kind_refusal k b
unfolding kind_refusal
unbound_told k b e = rw e refl

whole_told : (k b : Kind) → k ≡ Whole → b ≢ Unbound → NotWhole ≡ kind_refusal k b
unfolding kind_refusal
whole_told k Unbound e n = absurd (n refl)
whole_told k b e n = rw e refl

continuation_told : (k b : Kind) → k ≡ Continuation → b ≢ Unbound → NotContinuation ≡ kind_refusal k b
unfolding kind_refusal
continuation_told k Unbound e n = absurd (n refl)
continuation_told k b e n = rw e refl

handler_told : (k b : Kind) → b ≢ Unbound → k ≢ Whole → k ≢ Continuation → NotHandler ≡ kind_refusal k b
unfolding kind_refusal
handler_told k Unbound n u v = absurd (n refl)
handler_told Whole b n u v = absurd (u refl)
handler_told Continuation b n u v = absurd (v refl)
handler_told k b n u v = refl

pub returns-in-Unbound-default : goal.returns-in-Unbound-default
returns-in-Unbound-default c = unbound_told _ _ c.in-Unbound-default.is-0

pub returns-in_default-Whole : goal.returns-in_default-Whole
returns-in_default-Whole c = whole_told _ _ c.in_default-Whole.is-1 c.in_default-Whole.not-Unbound-0

pub returns-in_default-Continuation : goal.returns-in_default-Continuation
returns-in_default-Continuation c = continuation_told _ _ c.in_default-Continuation.is-1 c.in_default-Continuation.not-Unbound-0

pub returns-in_default : goal.returns-in_default
returns-in_default c = handler_told _ _ c.in_default.not-Unbound-0 c.in_default.not-Whole-1 c.in_default.not-Continuation-1
