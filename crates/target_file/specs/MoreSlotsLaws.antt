-- Code that keeps the slot rules keeps them with more slots.
use Rattle.std.specs.Prelude.{ℕ, ◌≤◌, ◌<◌, List, [], ◌∷◌}
use Rattle.std.proofs.Math.Option.{Option, none, some}
use Rattle.std.proofs.Common.{arith}
use Rattle.semantics.specs.Code.{Slot, Expr, let_constant, let_slot, let_difference, jump, resume, handle, if_at_most, let_continuation, let_continuation_with_handler, let_difference_or_raise, Code}
use Rattle.semantics.specs.WellFormed.{All}
use Rattle.semantics.specs.SlotRules.{whole_kind, Kinds, IsBound, MayRead, MayBind, KeepsRules, entry_kinds, KeepsSlotRules}
use Rattle.target_tags.specs.Tag.{slots_in, max_slots}
use Rattle.target_tags.specs.TagLaws.{slots_bound}

module _ {m n : ℕ} (h : m ≤ n) where
  below : {x : ℕ} → x < m → x < n
  below i = omega arith

  bound_more : {A : Type 0} {x : ℕ} → (x < m) × A → (x < n) × A
  bound_more b = (below b.0, b.1)

  read_more : (ks : Kinds) (y : Option Slot) → MayRead m ks y → MayRead n ks y
  read_more ks none w = tt
  read_more ks (some y) w = bound_more w

  bind_more : (q : Option Slot) → MayBind m q → MayBind n q
  bind_more none w = tt
  bind_more (some q) w = below w

  all_more : (ks : Kinds) (ss : List Slot) → All (IsBound m ks whole_kind) ss → All (IsBound n ks whole_kind) ss
  all_more ks [] w = tt
  all_more ks (y ∷ ss) w = (bound_more w.0, all_more ks ss w.1)

  module _ (Q : Code) where
    rules_more : (ks : Kinds) (e : Expr) → KeepsRules Q m ks e → KeepsRules Q n ks e
    rules_more ks (let_constant x i e) w = (below w.0, rules_more _ e w.1)
    rules_more ks (let_slot x y e) w = (below w.0, bound_more w.1, rules_more _ e w.2)
    rules_more ks (let_difference x y z e) w = (below w.0, bound_more w.1, bound_more w.2, rules_more _ e w.3)
    rules_more ks (jump g k c ss) w = (w.0, bound_more w.1, bound_more w.2, w.3, all_more ks ss w.4)
    rules_more ks (resume k y) w = (bound_more w.0, bound_more w.1)
    rules_more ks (handle c y) w = (bound_more w.0, read_more ks y w.1)
    rules_more ks (if_at_most y z e₁ e₂) w = (bound_more w.0, bound_more w.1, rules_more ks e₁ w.2, rules_more ks e₂ w.3)
    rules_more ks (let_continuation x p e k) w = (below w.0, below w.1, rules_more _ e w.2, rules_more _ k w.3)
    rules_more ks (let_continuation_with_handler x p t q e c k) w =
        (below w.0, below w.1, below w.2, w.3, bind_more q w.4, rules_more _ e w.5, rules_more _ c w.6, rules_more _ k w.7)
    rules_more ks (let_difference_or_raise x y z r e) w = (below w.0, bound_more w.1, bound_more w.2, rules_more ks r w.3, rules_more _ e w.4)

    keeps : (R : Code) → All (λ D. KeepsRules Q m (entry_kinds D.params) D.body) R → All (λ D. KeepsRules Q n (entry_kinds D.params) D.body) R
    keeps [] w = tt
    keeps (D ∷ R) w = (rules_more (entry_kinds D.params) D.body w.0, keeps R w.1)

pub keeps_more : {m n : ℕ} → m ≤ n → (Q : Code) → KeepsSlotRules m Q → KeepsSlotRules n Q
keeps_more h Q w = keeps h Q Q w

-- The slots of either version.
pub keeps_most : (version : ℕ) (Q : Code) → KeepsSlotRules (slots_in version) Q → KeepsSlotRules max_slots Q
keeps_most version Q w = keeps_more (slots_bound version).1 Q w
