-- Laws of lengths and levels, as the functions over them meet them.
use Rattle.parsing.specs.declared.reason.Reason.TheVariants.{WrongLength, EndsEarly, OutOfRange}
use Rattle.std.specs.Prelude.{ℕ, ◌+◌, ◌-◌, ◌≤◌, ◌<◌, Bool, List, ltb, eqb, Err, Ok, Result}
use Rattle.std.proofs.Math.Path.{◌≡◌, refl, ap}
use Rattle.std.proofs.Common.{sym, ◌∙◌, arith}
use Rattle.std.proofs.Math.Bool.{true, false, cond}
use borrow.Author.Tests.{le-leb, lt-leb, leb-true, lt-ltb, ltb-true, eq-eqb, ne_eqb, eqb-true}
use Rattle.std.proofs.Math.Dec.{leb}
use Rattle.std.proofs.Math.ListN.{length}
use Rattle.semantics.specs.Code.{Expr}
use Rattle.parsing.specs.declared.Refusal.{Refusal}
use Rattle.parsing.specs.Parser.{refusal, Parsed, read, refuse, past_of, accepted, refused_unless, verdict_of}
use Rattle.parsing.specs.VerdictLaws.{or_accepted, unless_accepted}
use Rattle.parsing.specs.Fields.{cut, counted}
use Rattle.target_tags.specs.declared.tag.Tag.{Tag}
use Rattle.target_tags.specs.Tag.{pair_at}
use Rattle.target_parts.specs.declared.parts.After.{After}
use Rattle.target_parts.specs.Parts.{pair, measured, level_verdict, measured_end, follows_at}

-- A length.
module _ (s : List ℕ) (at : ℕ) where
  pub pair_cut : length s < at + 2 → Err (cut s) ≡ counted (pair s at)
  unfolding pair
  pair_cut h = rw (lt-leb (at + 2) (length s) h)

  pub pair_whole : (n : ℕ) → at + 2 ≤ length s → n ≡ pair_at s at → Ok n ≡ counted (pair s at)
  unfolding pair
  pair_whole n h e = rw (le-leb (at + 2) (length s) h, e)

  pub pair_is : {n : ℕ} → counted (pair s at) ≡ Ok n → pair s at ≡ read n (at + 2)
  unfolding pair
  pair_is {n} e = go (leb (at + 2) (length s)) e
    where
      go : (t : Bool) → counted (cond t (read (pair_at s at) (at + 2)) (refuse (cut s))) ≡ Ok n → cond t (read (pair_at s at) (at + 2)) (refuse (cut s)) ≡ read n (at + 2)
      go true f = ap (λ (k : ℕ). read k (at + 2)) (cc)
      go false f = let z : ◌≡◌ {A = ℕ} 0 1 = cc in absurd (omega arith)

  pub pair_inside : {n : ℕ} → counted (pair s at) ≡ Ok n → at + 2 ≤ length s
  unfolding pair
  pair_inside {n} e = go (leb (at + 2) (length s)) refl e
    where
      go : (t : Bool) → leb (at + 2) (length s) ≡ t → counted (cond t (read (pair_at s at) (at + 2)) (refuse (cut s))) ≡ Ok n → at + 2 ≤ length s
      go true q f = leb-true (at + 2) (length s) q
      go false q f = let z : ◌≡◌ {A = ℕ} 0 1 = cc in absurd (omega arith)

  pub pair_outside : {r : Refusal} → counted (pair s at) ≡ Err r → pair s at ≡ refuse r
  pair_outside {r} e = go (pair s at) e
    where
      go : (x : Parsed ℕ) → counted x ≡ Err r → x ≡ refuse r
      go (read k m) f = let z : ◌≡◌ {A = ℕ} 0 1 = cc in absurd (omega arith)
      go (refuse q) f = ap refuse (cc)

-- A part and its length.
module _ (place at n : ℕ) {part : Result ℕ Refusal} where
  pub measured_stopped : (r : Refusal) → part ≡ Err r → Err r ≡ measured_end place at n part
  unfolding measured_end
  measured_stopped r e = rw e

  pub measured_back : (next : ℕ) → part ≡ Ok next → next < at → Err (refusal WrongLength place) ≡ measured_end place at n part
  unfolding measured_end
  measured_back next e h = rw (e, ne_eqb next (at + n) (λ (q : next ≡ at + n). omega arith))

  pub measured_right : (next : ℕ) → part ≡ Ok next → at ≤ next → next - at ≡ n → Ok next ≡ measured_end place at n part
  unfolding measured_end
  measured_right next e h q = rw (e, eq-eqb next (at + n) (omega arith))

  pub measured_unlike : (next : ℕ) → part ≡ Ok next → at ≤ next → (next - at ≡ n → ⊥) → Err (refusal WrongLength place) ≡ measured_end place at n part
  unfolding measured_end
  measured_unlike next e h d = rw (e, ne_eqb next (at + n) (λ (q : next ≡ at + n). d (omega arith)))

pub past_measured : (place at n : ℕ) (x : Parsed Expr) → measured_end place at n (past_of x) ≡ past_of (measured place at n x)
unfolding measured_end
past_measured place at n (read e next) = go (eqb next (at + n)) refl
  where
    go : (t : Bool) → eqb next (at + n) ≡ t → cond t (Ok next) (Err (refusal WrongLength place)) ≡ past_of (cond t (read e (at + n)) (refuse (refusal WrongLength place)))
    go true q = ap Ok (eqb-true next (at + n) q)
    go false q = refl
past_measured place at n (refuse r) = refl

-- A level.
module _ (s : List ℕ) (level at : ℕ) where
  pub level_right : at < length s → level < 16 → level_verdict s level at ≡ accepted
  unfolding level_verdict
  level_right h l = rw (lt-ltb at (length s) h, lt-ltb level 16 l)

  pub level_read : level_verdict s level at ≡ accepted → (at < length s) × (level < 16)
  unfolding level_verdict
  level_read e =
      let a = or_accepted (refused_unless (ltb at (length s)) EndsEarly (length s)) (refused_unless (ltb level 16) OutOfRange at) e in
      (ltb-true at (length s) (unless_accepted (ltb at (length s)) _ _ a.0), ltb-true level 16 (unless_accepted (ltb level 16) _ _ a.1))

  pub level_accepted : {c : Result (Unit {0}) Refusal} → verdict_of c ≡ level_verdict s level at → c ≡ (Ok tt) → (at < length s) × (level < 16)
  level_accepted v e = level_read (sym v ∙ ap verdict_of e)

-- What follows a node, by its tag.
pub follows_by_tag : (m : ℕ) {t u : Tag} {a : After} → t ≡ u → a ≡ follows_at u m → a ≡ follows_at t m
follows_by_tag m e f = rw e f
