-- Names are judged right exactly where the slot rules of `semantics` are kept: the kinds of the m slots of a version, as the rules have them and as
-- the code has them, and functions by their numbers of parameters.
use Rattle.target_tags.specs.NumberSlot.{NumberSlot}
use Rattle.std.specs.Prelude.{ℕ, zero, suc, ◌+◌, ◌≤◌, ◌<◌, ◌≡◌, ◌≢◌, Bool, List, ◌∷◌, ltb, length, get_or, set, replicate, None, Some}
use Rattle.std.proofs.Math.Path.{refl, sym, ap}
use Rattle.std.proofs.Common.{◌∙◌, subst, arith, add-one, length-set, drop-cons, get_or-set_same, get_or-set_other}
use Rattle.std.proofs.Math.Bool.{true, false, not}
use Rattle.std.proofs.Math.Option.{Option, none, some}
use Rattle.std.proofs.Math.Decide.{ℕ_discrete}
use borrow.Author.Tests.{ltb-true, lt-ltb, eqb-true, eqb-false, eq-eqb, ne_eqb}
use Rattle.std.proofs.Math.Dec.{eqb}
use Rattle.std.proofs.lemmas.List.{length-map}
use Rattle.std.proofs.Math.ListN.{get_or-map}
use Rattle.semantics.specs.Code.{Target, Code}
use Rattle.semantics.specs.Controller.{no_target, target_of, put}
use Rattle.semantics.specs.WellFormed.{All}
use Rattle.semantics.specs.SlotRules.{Kind, unbound_kind, whole_kind, continuation_kind, handler_kind, Kinds, kind_at, bind_kind, IsBound, MayRead, MayBind, bind_number_kind}
use Rattle.semantics.specs.SlotRules as rules
use Rattle.semantics.proofs.ListLaws.{put_same, put_other}
use Rattle.parsing.specs.Parser.{Verdict, accepted, or_else, refused_unless}
use Rattle.parsing.specs.VerdictLaws.{or_accepted, unless_accepted}
use Rattle.target_tags.specs.Tag.{slot_in, number_slot}
use Rattle.target_slots.specs.declared.slots.Kind as slots
use Rattle.target_slots.specs.declared.slots.Kind.TheVariants.{Unbound, Whole, Continuation, Handler, Other}
use Rattle.target_slots.specs.SlotsLaws.{same_kind-true, same_kind-refl}
use Rattle.target_slots.specs.Slots.{same_kind, kind_refusal, binds, reads, differ, bound, bound_number, entry_kinds}
use Rattle.target_names.specs.Names.{function, arity, values, reads_number, binds_number, difference_names}
use Rattle.target_expressions.specs.Expressions.{slots_at}
use Rattle.target_expressions.proofs.PartLaws.{impossible}
use Rattle.target_file.specs.Check.{arities}

-- ── The kinds of the rules and the kinds of the code ────────────────────────────────────────────

abbrev kind_in : Kind → slots.Kind
kind_in unbound_kind = Unbound
kind_in whole_kind = Whole
kind_in continuation_kind = Continuation
kind_in handler_kind = Handler

-- (`Other` is none of the kinds of the rules: any of them may stand for it.)
abbrev kind_of : slots.Kind → Kind
kind_of Unbound = unbound_kind
kind_of Whole = whole_kind
kind_of Continuation = continuation_kind
kind_of Handler = handler_kind
kind_of (Other b) = unbound_kind

kind_back : (k : Kind) → kind_of (kind_in k) ≡ k
kind_back unbound_kind = refl
kind_back whole_kind = refl
kind_back continuation_kind = refl
kind_back handler_kind = refl

kind_in-injective : (k l : Kind) → kind_in k ≡ kind_in l → k ≡ l
kind_in-injective k l e = sym (kind_back k) ∙ ap kind_of e ∙ kind_back l

-- The kinds of the code are those of the rules.
pub record Like (m : ℕ) (KS : Kinds) (ks : List slots.Kind) : Type 0 where
  pub most : m ≤ 37
  pub slot_count : length ks ≡ 37
  pub same : (x : ℕ) → x < m → get_or ks x Unbound ≡ kind_in (kind_at KS x)

pub like_bind : {m : ℕ} {KS : Kinds} {ks : List slots.Kind} (x : ℕ) (k : Kind) → x < m → Like m KS ks → Like m (bind_kind KS x k) (bound ks x (kind_in k))
unfolding bound
like_bind {m} {KS} {ks} x k h l =
    rw (lt-ltb x 37 (omega (arith, h, l.most)))
    (record { most = l.most; slot_count = length-set ks x (kind_in k) ∙ l.slot_count; same = same })
  where
    same : (y : ℕ) → y < m → get_or (set ks x (kind_in k)) y Unbound ≡ kind_in (kind_at (bind_kind KS x k) y)
    same y i = go (ℕ_discrete x y)
      where
        go : Dec (x ≡ y) → get_or (set ks x (kind_in k)) y Unbound ≡ kind_in (kind_at (bind_kind KS x k) y)
        go (yes e) =
            let w = l.slot_count in
            let n = l.most in
            subst (λ (z : ℕ). get_or (set ks x (kind_in k)) z Unbound ≡ kind_in (kind_at (bind_kind KS x k) z)) e
            (get_or-set_same ks x (kind_in k) Unbound (omega arith) ∙ ap kind_in (sym (put_same unbound_kind KS x k)))
        go (no d) =
            get_or-set_other ks x y (kind_in k) Unbound (λ (e : y ≡ x). d (sym e))
            ∙ l.same y i ∙ ap kind_in (sym (put_other unbound_kind KS x y k d))

-- The slot of a number, as it was read and as it is written.
pub like_number : {m : ℕ} {KS : Kinds} {ks : List slots.Kind} (z : NumberSlot) → MayBind m (slot_in z) → Like m KS ks → Like m (bind_number_kind KS (slot_in z)) (bound_number ks z)
unfolding bound_number
like_number (Some q) h l = like_bind q whole_kind h l
like_number None h l = l

pub like_slot : {m : ℕ} {KS : Kinds} {ks : List slots.Kind} (q : Option ℕ) → MayBind m q → Like m KS ks → Like m (bind_number_kind KS q) (bound_number ks (number_slot q))
unfolding bound_number
like_slot none h l = l
like_slot (some q) h l = like_bind q whole_kind h l

-- The kinds with which a function begins.
put_after : (n : ℕ) → put unbound_kind (replicate n whole_kind) n whole_kind ≡ replicate (suc n) whole_kind
put_after zero = refl
put_after (suc n) = ap (λ (l : Kinds). whole_kind ∷ l) (put_after n)

pub entry_like : {m : ℕ} → (36 ≤ m) × (m ≤ 37) → (n : ℕ) → n ≤ 34 → Like m (rules.entry_kinds n) (entry_kinds n)
unfolding entry_kinds
entry_like {m} b zero h = record { most = b.1; slot_count = refl; same = unbound }
  where
    past_entry : (i x : ℕ) → get_or (replicate i Unbound) x Unbound ≡ Unbound
    past_entry zero x = refl
    past_entry (suc i) zero = refl
    past_entry (suc i) (suc x) = past_entry i x

    unbound : (x : ℕ) → x < m → get_or (entry_kinds 0) x Unbound ≡ kind_in (kind_at (rules.entry_kinds 0) x)
    unbound zero i = refl
    unbound (suc zero) i = refl
    unbound (suc (suc x)) i = past_entry 35 x
entry_like {m} b (suc n) h =
    let p : 2 + n ≡ suc (suc n) = omega arith in
    let l = like_bind (2 + n) whole_kind (omega (arith, b.0)) (entry_like b n (omega arith)) in
    subst (λ KS. Like m KS (bound (entry_kinds n) (2 + n) Whole))
    (ap (λ (i : ℕ). bind_kind (rules.entry_kinds n) i whole_kind) p ∙ ap (λ (t : Kinds). continuation_kind ∷ handler_kind ∷ t) (put_after n)) l

-- ── Names ───────────────────────────────────────────────────────────────────────────────────────

pub or_holds : {u v : Verdict} → u ≡ accepted → v ≡ accepted → or_else u v ≡ accepted
or_holds p q = rw (p, q)

module _ {m : ℕ} (place x : ℕ) where
  pub binds_right : binds m place x ≡ accepted → x < m
  unfolding binds
  binds_right e = ltb-true x m (unless_accepted (ltb x m) _ _ e)

  pub binds_holds : x < m → binds m place x ≡ accepted
  unfolding binds
  binds_holds h = rw (lt-ltb x m h)

module _ {m : ℕ} {KS : Kinds} {ks : List slots.Kind} (l : Like m KS ks) (k : Kind) (place x : ℕ) where
  pub reads_right : reads m ks (kind_in k) place x ≡ accepted → IsBound m KS k x
  unfolding reads
  reads_right e =
      let test = same_kind (get_or ks x Unbound) (kind_in k) in
      let reason = kind_refusal (kind_in k) (get_or ks x Unbound) in
      let p = or_accepted (binds m place x) (refused_unless test reason place) e in
      let b = binds_right place x p.0 in
      let h = same_kind-true (get_or ks x Unbound) (kind_in k) (unless_accepted test _ _ p.1) in
      (b, kind_in-injective (kind_at KS x) k (sym (l.same x b) ∙ h))

  pub reads_holds : IsBound m KS k x → reads m ks (kind_in k) place x ≡ accepted
  unfolding reads
  reads_holds h =
      let e = l.same x h.0 ∙ ap kind_in h.1 in
      let t = ap (λ j. same_kind j (kind_in k)) e ∙ same_kind-refl (kind_in k) in
      rw (binds_holds place x h.0, t)

-- The slot of a number, as it was read and as it is written.
module _ {m : ℕ} {KS : Kinds} {ks : List slots.Kind} (l : Like m KS ks) (place : ℕ) where
  pub reads_number_right : (z : NumberSlot) → reads_number m ks place z ≡ accepted → MayRead m KS (slot_in z)
  unfolding reads_number
  reads_number_right (Some y) e = reads_right l whole_kind place y e
  reads_number_right None e = tt

  pub reads_number_holds : (y : Option ℕ) → MayRead m KS y → reads_number m ks place (number_slot y) ≡ accepted
  unfolding reads_number
  reads_number_holds none h = refl
  reads_number_holds (some y) h = reads_holds l whole_kind place y h

module _ (m place : ℕ) where
  pub binds_number_right : (z : NumberSlot) → binds_number m place z ≡ accepted → MayBind m (slot_in z)
  unfolding binds_number
  binds_number_right (Some q) e = binds_right place q e
  binds_number_right None e = tt

  pub binds_number_holds : (q : Option ℕ) → MayBind m q → binds_number m place (number_slot q) ≡ accepted
  unfolding binds_number
  binds_number_holds none h = refl
  binds_number_holds (some q) h = binds_holds place q h

-- The names of tags 3 and 10.
module _ {m : ℕ} {KS : Kinds} {ks : List slots.Kind} (l : Like m KS ks) (at x y z : ℕ) where
  pub difference_right : difference_names m ks at x y z ≡ accepted → (x < m) × IsBound m KS whole_kind y × IsBound m KS whole_kind z
  difference_right e =
      let a = or_accepted (binds m (at + 1) x) (or_else (reads m ks Whole (at + 2) y) (reads m ks Whole (at + 3) z)) e in
      let b = or_accepted (reads m ks Whole (at + 2) y) (reads m ks Whole (at + 3) z) a.1 in
      (binds_right (at + 1) x a.0, reads_right l whole_kind (at + 2) y b.0, reads_right l whole_kind (at + 3) z b.1)

  pub difference_holds : x < m → IsBound m KS whole_kind y → IsBound m KS whole_kind z → difference_names m ks at x y z ≡ accepted
  difference_holds a b c = or_holds (binds_holds (at + 1) x a) (or_holds (reads_holds l whole_kind (at + 2) y b) (reads_holds l whole_kind (at + 3) z c))

module _ (place x t : ℕ) where
  pub differ_right : differ place x t ≡ accepted → x ≢ t
  unfolding differ
  differ_right e = go (eqb x t) refl (unless_accepted (not (eqb x t)) _ _ e)
    where
      go : (b : Bool) → eqb x t ≡ b → not b ≡ true → x ≢ t
      go true q w = impossible (cc)
      go false q w = eqb-false x t q

  pub differ_holds : x ≢ t → differ place x t ≡ accepted
  unfolding differ
  differ_holds h = rw (ne_eqb x t h)

module _ {ps : List ℕ} (Q : Code) (named : ps ≡ arities Q) (place g : ℕ) where
  params_at : get_or ps g 0 ≡ (target_of Q g).params
  params_at = ap (λ (l : List ℕ). get_or l g 0) named ∙ get_or-map (λ (D : Target). D.params) Q g no_target

  functions_of : length ps ≡ length Q
  functions_of = ap length named ∙ length-map Q (λ (D : Target). D.params)

  pub function_right : function ps place g ≡ accepted → g < length Q
  unfolding function
  function_right e = omega (arith, ltb-true g (length ps) (unless_accepted (ltb g (length ps)) _ _ e), functions_of)

  pub function_holds : g < length Q → function ps place g ≡ accepted
  unfolding function
  function_holds h = rw (lt-ltb g (length ps) (omega (arith, h, functions_of)))

  pub arity_right : (n : ℕ) → arity ps place g n ≡ accepted → n ≡ (target_of Q g).params
  unfolding arity
  arity_right n e = eqb-true n (get_or ps g 0) (unless_accepted (eqb n (get_or ps g 0)) _ _ e) ∙ params_at

  pub arity_holds : (n : ℕ) → n ≡ (target_of Q g).params → arity ps place g n ≡ accepted
  unfolding arity
  arity_holds n e = rw (eq-eqb n (get_or ps g 0) (e ∙ sym params_at))

slots_cons : (s : List ℕ) (at n : ℕ) → at + suc n ≤ length s → slots_at s at (suc n) ≡ get_or s at 0 ∷ slots_at s (at + 1) n
slots_cons s at n h = rw (drop-cons s at 0 (omega arith), add-one at)

module _ {m : ℕ} {KS : Kinds} {ks : List slots.Kind} (l : Like m KS ks) (s : List ℕ) where
  pub values_right : (n at : ℕ) → at + n ≤ length s → values m ks s at n ≡ accepted → All (IsBound m KS whole_kind) (slots_at s at n)
  values_right zero at h e = tt
  values_right (suc n) at h e =
      let p = or_accepted (reads m ks Whole at (get_or s at 0)) (values m ks s (at + 1) n) e in
      rw (slots_cons s at n h) (reads_right l whole_kind at (get_or s at 0) p.0, values_right n (at + 1) (omega arith) p.1)

  pub values_holds : (n at : ℕ) → at + n ≤ length s → All (IsBound m KS whole_kind) (slots_at s at n) → values m ks s at n ≡ accepted
  values_holds zero at h a = refl
  values_holds (suc n) at h a =
      let b : All (IsBound m KS whole_kind) (get_or s at 0 ∷ slots_at s (at + 1) n) = rw (slots_cons s at n h) at a in
      or_holds (reads_holds l whole_kind at (get_or s at 0) b.0) (values_holds n (at + 1) (omega arith) b.1)
