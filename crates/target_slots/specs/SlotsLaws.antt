-- Laws of slots and their kinds, as the functions over them meet them.
use Rattle.parsing.specs.declared.reason.Reason.{Reason}
use Rattle.parsing.specs.declared.reason.Reason.TheVariants.{WrongSlot}
use Rattle.std.specs.Prelude.{ℕ, ◌+◌, ◌≤◌, ◌<◌, ◌≡◌, refl, true, List, get_or}
use Rattle.std.proofs.Common.{sym, ap, add-one, true≢false, eqb-true, eq-eqb, lt-ltb, le-ltb}
use Rattle.parsing.specs.Parser.{refused, refused_unless}
use Rattle.target_slots.specs.declared.slots.Kind.{Kind}
use Rattle.target_slots.specs.declared.slots.Kind.TheVariants.{Unbound, Whole, Continuation, Handler, Other}
use Rattle.target_slots.specs.contracts.slots.KindPartialEq.TheImpl as equality
use Rattle.target_slots.specs.Slots.{same_kind, kind_refusal, binds, reads, bound, entry_kinds}

-- The test of two kinds, as `==` of the code computes it.
pub equal_same : (j k : Kind) → (equality.ghosts).eq j k ≡ same_kind j k
equal_same Unbound Unbound = refl
equal_same Whole Whole = refl
equal_same Continuation Continuation = refl
equal_same Handler Handler = refl
equal_same (Other a) (Other b) = refl
equal_same j k = refl

pub same_kind-true : (j k : Kind) → same_kind j k ≡ true → j ≡ k
same_kind-true Unbound Unbound e = refl
same_kind-true Whole Whole e = refl
same_kind-true Continuation Continuation e = refl
same_kind-true Handler Handler e = refl
same_kind-true (Other a) (Other b) e = ap Other (eqb-true a b e)
same_kind-true j k e = absurd (true≢false (sym e))

pub same_kind-refl : (k : Kind) → same_kind k k ≡ true
same_kind-refl Unbound = refl
same_kind-refl Whole = refl
same_kind-refl Continuation = refl
same_kind-refl Handler = refl
same_kind-refl (Other a) = eq-eqb a a refl

-- A slot that is read, within the slots that there are and beyond them.
module _ (m : ℕ) (ks : List Kind) (k : Kind) (place x : ℕ) where
  pub reads_within : {b : Kind} {n : Reason} → x < m → b ≡ get_or ks x Unbound → n ≡ kind_refusal k b → refused_unless (same_kind b k) n place ≡ reads m ks k place x
  unfolding reads binds
  reads_within h is e = rw (lt-ltb x m h, e, is)

  pub reads_beyond : m ≤ x → reads m ks k place x ≡ refused WrongSlot place
  unfolding reads binds
  reads_beyond h = rw (le-ltb x m h)

pub entry_more : (n : ℕ) (ks new : List Kind) → ks ≡ entry_kinds n → new ≡ bound ks (2 + n) Whole → new ≡ entry_kinds (n + 1)
unfolding entry_kinds
entry_more n ks new e f = rw (f, e, add-one n)
