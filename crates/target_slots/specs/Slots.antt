-- A slot that is bound or read (document 01, refusals 11 and 13; document 02, Slip 3, 19 to 21), and the kinds of slots.
use Rattle.target_tags.specs.NumberSlot.{NumberSlot}
use Rattle.std.specs.Prelude.{ℕ, zero, suc, ◌+◌, Bool, true, false, cond, not, List, ◌∷◌, ltb, eqb, get_or, set, replicate, None, Some}
use Rattle.parsing.specs.declared.reason.Reason.{Reason}
use Rattle.parsing.specs.declared.reason.Reason.TheVariants.{UnboundSlot, WrongSlot, NotWhole, NotContinuation, NotHandler}
use Rattle.parsing.specs.Parser.{Verdict, or_else, refused_unless}
use Rattle.target_tags.specs.Tag.{max_slots}
use Rattle.target_slots.specs.declared.slots.Kind.{Kind}
use Rattle.target_slots.specs.declared.slots.Kind.TheVariants.{Unbound, Whole, Continuation, Handler, Other}

-- "Slots are whole, continuation or handler." Below, a list has the kinds of slots 0 to 36 (in version 1 slot 36 is never bound).

-- Whether two kinds are the same.
abbrev pub same_kind : Kind → Kind → Bool
same_kind Unbound Unbound = true
same_kind Whole Whole = true
same_kind Continuation Continuation = true
same_kind Handler Handler = true
same_kind (Other j) (Other k) = eqb j k
same_kind j k = false

-- A slot that is bound: "13 slot above 35", in version 2 above 36 (Slip 7): none of the m slots of a version.
unfoldable pub binds : ℕ → ℕ → ℕ → Verdict
binds m place x = refused_unless (ltb x m) WrongSlot place

-- The reason told for a slot of kind b where another kind k is needed (Slip 3). "Keep 11 for a slot not bound."; "19 when a whole number
-- was needed and another kind is bound; 20 when a continuation was needed ..; 21 when a handler was needed ..".
unfoldable pub kind_refusal : Kind → Kind → Reason
kind_refusal k Unbound = UnboundSlot
kind_refusal Whole b = NotWhole
kind_refusal Continuation b = NotContinuation
kind_refusal k b = NotHandler

-- A slot that is read as one of kind k: "at one byte 13 before 11"; "all three take 11's place in the order".
unfoldable pub reads : ℕ → List Kind → Kind → ℕ → ℕ → Verdict
reads m ks k place x = or_else (binds m place x) (let b = get_or ks x Unbound in refused_unless (same_kind b k) (kind_refusal k b) place)

-- "tag 9 with equal slots for both (at the handler slot)"
unfoldable pub differ : ℕ → ℕ → ℕ → Verdict
differ place x t = refused_unless (not (eqb x t)) WrongSlot place

-- The kinds with a slot bound. "A slot may be bound anew, with another kind."
unfoldable pub bound : List Kind → ℕ → Kind → List Kind
bound ks x k = cond (ltb x max_slots) (set ks x k) ks

-- The kinds with the slot of a number bound, which is whole (Slip 7).
unfoldable pub bound_number : List Kind → NumberSlot → List Kind
bound_number ks (Some q) = bound ks q Whole
bound_number ks None = ks

-- The kinds with which a function of n parameters begins: continuation, handler, its parameters in slots 2 upward.
unfoldable pub entry_kinds : ℕ → List Kind
entry_kinds zero = Continuation ∷ Handler ∷ replicate 35 Unbound
entry_kinds (suc n) = bound (entry_kinds n) (2 + n) Whole
