-- Laws of the names in a node, as the functions that judge them meet them.
use Rattle.std.specs.Prelude.{ℕ, zero, suc, ◌+◌, ◌-◌, ◌≤◌, ◌<◌, ◌≡◌, refl, Bool, true, List, [], ◌∷◌, length, get_or, Err, Ok, Result}
use Rattle.std.proofs.Common.{subst, arith}
use denote.Enum.Declared.{tag_of}
use types.Run.{OneOf, miss}
use Rattle.parsing.specs.declared.Refusal.{Refusal}
use Rattle.parsing.specs.Parser.{Verdict, accepted, refused, verdict_of}
use Rattle.parsing.specs.Fields.{version_of}
use Rattle.target_tags.specs.contracts.tag.Tag.{the_type}
use Rattle.target_tags.specs.declared.tag.Tag.{Tag}
use Rattle.target_tags.specs.declared.tag.Tag.TheVariants.{Jump}
use Rattle.target_tags.specs.Tag.{slots_in, tag_at}
use Rattle.target_tags.specs.ViewLaws.{View, is_constant, is_copy, is_difference, is_jump, is_resume, is_handle, is_branch, is_continuation, is_continuation_with_handler, is_difference_or_raise, is_refused, seen}
use Rattle.target_slots.specs.declared.slots.Kind.{Kind}
use Rattle.target_slots.specs.declared.slots.Kind.TheVariants.{Whole}
use Rattle.target_slots.specs.Slots.{reads}
use Rattle.target_names.specs.Asked.{NoJump}
use Rattle.target_names.specs.Names.{values, names_of, judged}

-- The first of several values, and the others.
module _ (m : ℕ) (ks : List Kind) (s : List ℕ) (at x : ℕ) (is : x ≡ get_or s at 0) {c : Result (Unit {0}) Refusal} (judged : verdict_of c ≡ reads m ks Whole at x) where
  pub values_stop : (n : ℕ) (r : Refusal) → 0 < n → c ≡ Err r → refused r.reason r.place ≡ values m ks s at n
  values_stop zero r h e = absurd (omega arith)
  values_stop (suc n) r h e = rw (← is, ← judged, e)

  pub values_on : (n : ℕ) → 0 < n → c ≡ (Ok tt) → values m ks s (at + 1) (n - 1) ≡ values m ks s at n
  values_on zero h e = absurd (omega arith)
  values_on (suc n) h e =
      let p : suc n - 1 ≡ n = omega arith in
      rw (← is, ← judged, e, p)

pub values_none : (m : ℕ) (ks : List Kind) (s : List ℕ) (at n : ℕ) → n ≤ 0 → accepted ≡ values m ks s at n
values_none m ks s at zero h = refl
values_none m ks s at (suc n) h = absurd (omega arith)

-- Names that are judged, with the slots of the file's version.
pub judged_right : (names : Bool) (ps : List ℕ) (ks : List Kind) (s : List ℕ) (at : ℕ) (t : Tag) {m : ℕ} {v : Verdict} → names ≡ true → m ≡ slots_in (version_of s) → v ≡ names_of m ps ks s at t → v ≡ judged names ps ks s at t
unfolding judged
judged_right names ps ks s at t on is e = rw (on, ← is) e

-- A node that is no jump (the keys of the enum, from 0).
pub no_jump : (t : Tag) → OneOf (0 ∷ 1 ∷ 2 ∷ 4 ∷ 5 ∷ 6 ∷ 7 ∷ 8 ∷ 9 ∷ 10 ∷ []) (tag_of the_type t) → NoJump t
no_jump t w g k h n next e =
    miss (0 ∷ 1 ∷ 2 ∷ 4 ∷ 5 ∷ 6 ∷ 7 ∷ 8 ∷ 9 ∷ 10 ∷ []) 3 tt (subst (λ (u : Tag). OneOf (0 ∷ 1 ∷ 2 ∷ 4 ∷ 5 ∷ 6 ∷ 7 ∷ 8 ∷ 9 ∷ 10 ∷ []) (tag_of the_type u)) e w)

pub jump_fits : (s : List ℕ) (at g k h n next : ℕ) (t : Tag) → t ≡ tag_at s at → t ≡ Jump g k h n next → at + 6 + n ≤ length s
jump_fits s at g k h n next t is e = go (seen s at t is) e
  where
    go : {u : Tag} → View s at u → u ≡ Jump g k h n next → at + 6 + n ≤ length s
    go (is_constant e h) w = let o : ◌≡◌ {A = ℕ} 0 1 = cc in absurd (omega arith)
    go (is_copy e h) w = let o : ◌≡◌ {A = ℕ} 0 1 = cc in absurd (omega arith)
    go (is_difference e h) w = let o : ◌≡◌ {A = ℕ} 0 1 = cc in absurd (omega arith)
    go (is_jump e h) w = let q : get_or s (at + 5) 0 ≡ n = cc in omega arith
    go (is_resume e h) w = let o : ◌≡◌ {A = ℕ} 0 1 = cc in absurd (omega arith)
    go (is_handle e h) w = let o : ◌≡◌ {A = ℕ} 0 1 = cc in absurd (omega arith)
    go (is_branch e h) w = let o : ◌≡◌ {A = ℕ} 0 1 = cc in absurd (omega arith)
    go (is_continuation e h) w = let o : ◌≡◌ {A = ℕ} 0 1 = cc in absurd (omega arith)
    go (is_continuation_with_handler e h) w = let o : ◌≡◌ {A = ℕ} 0 1 = cc in absurd (omega arith)
    go (is_difference_or_raise e h) w = let o : ◌≡◌ {A = ℕ} 0 1 = cc in absurd (omega arith)
    go (is_refused r) w = let o : ◌≡◌ {A = ℕ} 0 1 = cc in absurd (omega arith)
