-- Laws of functions and of the whole file, as the functions that read a file meet them.
use Rattle.target_slots.specs.declared.slots.Kind.{Kind}
use Rattle.parsing.specs.declared.reason.Reason.TheVariants.{OutOfRange}
use Rattle.std.specs.Prelude.{ℕ, ◌+◌, ◌≤◌, ◌<◌, ◌≡◌, Bool, List, [], ◌∷◌, ◌++◌, Err, Ok, Result}
use Rattle.std.proofs.Math.Path.{refl, sym, ap, subst}
use Rattle.std.proofs.Common.{◌∙◌}
use Rattle.std.proofs.Math.Bool.{true, false, cond}
use borrow.Author.Tests.{le-leb, lt-leb, leb-true}
use Rattle.std.proofs.Math.Dec.{leb}
use Rattle.std.proofs.Math.ListN.{length}
use Rattle.semantics.specs.Code.{Expr, Target, Code}
use Rattle.parsing.specs.declared.Refusal.{Refusal}
use Rattle.parsing.specs.Parser.{refusal, Parsed, read, refuse, and_then, many, past_of}
use Rattle.parsing.specs.Fields.{cut, IsVersion, version_of, head, count, counted, ended}
use Rattle.parsing.specs.ParserLaws.{past_read, past_refuse, sequence, count_is_lem, count_outside, read_count}
use Rattle.parsing.specs.BytesAtLaws.{BytesAt, read_head, past_head}
use Rattle.target_tags.specs.Tag.{file_limit, pair_at}
use Rattle.target_slots.specs.Slots.{entry_kinds}
use Rattle.target_parts.specs.Parts.{pair, sized}
use Rattle.target_parts.specs.PartsLaws.{pair_is, pair_outside}
use Rattle.target_expressions.specs.Expressions.{expression}
use Rattle.target_expressions.specs.Ends.{body_end}
use Rattle.target_expressions.proofs.PartLaws.{impossible}
use Rattle.target_layout.specs.Layout.{spc, function, functions, targets, code}

-- The number of functions.
module _ (s : List ℕ) (at : ℕ) where
  pub functions_cut : {r : Refusal} → counted (pair s at) ≡ Err r → Err r ≡ counted (functions s at)
  unfolding functions
  functions_cut e = rw (pair_outside s at e)

  module _ (n : ℕ) (is : counted (pair s at) ≡ Ok n) where
    pub functions_none : n < 1 → Err (refusal OutOfRange at) ≡ counted (functions s at)
    unfolding functions
    functions_none h = rw (pair_is s at is, lt-leb 1 n h)

    pub functions_many : 1 ≤ n → 2048 < n → Err (refusal OutOfRange at) ≡ counted (functions s at)
    unfolding functions
    functions_many l h = rw (pair_is s at is, le-leb 1 n l, lt-leb n 2048 h)

    pub functions_some : 1 ≤ n → n ≤ 2048 → Ok n ≡ counted (functions s at)
    unfolding functions
    functions_some l h = rw (pair_is s at is, le-leb 1 n l, le-leb n 2048 h)

  pub functions_right : (n : ℕ) → at + 2 ≤ length s → n ≡ pair_at s at → 1 ≤ n → n ≤ 2048 → functions s at ≡ read n (at + 2)
  unfolding functions pair
  functions_right n inside is l h = rw (le-leb (at + 2) (length s) inside, ← is, le-leb 1 n l, le-leb n 2048 h)

  -- The number of functions that was read.
  pub record ReadFunctions (n next : ℕ) : Type 0 where
    pub inside : at + 2 ≤ length s
    pub is : n ≡ pair_at s at
    pub least : 1 ≤ n
    pub most : n ≤ 2048
    pub past : next ≡ at + 2

  pub read_functions : {n next : ℕ} → functions s at ≡ read n next → ReadFunctions n next
  unfolding functions pair
  read_functions {n} {next} e = go (leb (at + 2) (length s)) refl e
    where
      test : (t u : Bool) → leb 1 (pair_at s at) ≡ t → leb (pair_at s at) 2048 ≡ u → at + 2 ≤ length s
          → cond t (cond u (read (pair_at s at) (at + 2)) (refuse (refusal OutOfRange at))) (refuse (refusal OutOfRange at)) ≡ read n next → ReadFunctions n next
      test true true b c i w =
          let q : pair_at s at ≡ n = cc in
          let r : at + 2 ≡ next = cc in
          let l = leb-true 1 (pair_at s at) b in
          let h = leb-true (pair_at s at) 2048 c in
          record { inside = i; is = sym q; least = rw (← q) l; most = rw (← q) h; past = sym r }
      test true false b c i w = impossible (cc)
      test false u b c i w = impossible (cc)

      go : (t : Bool) → leb (at + 2) (length s) ≡ t
          → and_then (cond t (read (pair_at s at) (at + 2)) (refuse (cut s))) (λ k m. cond (leb 1 k) (cond (leb k 2048) (read k m) (refuse (refusal OutOfRange at))) (refuse (refusal OutOfRange at))) ≡ read n next
          → ReadFunctions n next
      go true a w = test (leb 1 (pair_at s at)) (leb (pair_at s at) 2048) refl refl (leb-true (at + 2) (length s) a) w
      go false a w = impossible (cc)

  pub functions_is : {n : ℕ} → counted (functions s at) ≡ Ok n → functions s at ≡ read n (at + 2)
  functions_is {n} e = go (functions s at) refl e
    where
      go : (x : Parsed ℕ) → functions s at ≡ x → counted x ≡ Ok n → x ≡ read n (at + 2)
      go (read k m) w f = let p = (read_functions w).past in let q : k ≡ n = cc in rw (p, q)
      go (refuse r) w f = impossible (cc)

  pub functions_outside : {r : Refusal} → counted (functions s at) ≡ Err r → functions s at ≡ refuse r
  functions_outside {r} e = go (functions s at) e
    where
      go : (x : Parsed ℕ) → counted x ≡ Err r → x ≡ refuse r
      go (read k m) f = impossible (cc)
      go (refuse q) f = ap refuse (cc)

-- A function.
module _ (names : Bool) (ps s : List ℕ) (at : ℕ) where
  pub function_outside : (r : Refusal) → counted (count 0 32 s at) ≡ Err r → Err r ≡ past_of (function names ps s at)
  unfolding function
  function_outside r e = rw (count_outside 0 32 s at e)

  pub function_in_lem : (p : ℕ) (ks : List Kind) {x : Result ℕ Refusal} → counted (count 0 32 s at) ≡ Ok p → ks ≡ entry_kinds p → x ≡ body_end names ps s ks (at + 1) → x ≡ past_of (function names ps s at)
  unfolding function body_end
  function_in_lem p ks e f g =
      g ∙ ap (λ l. past_of (sized (expression names ps 0 l) s (at + 1))) f
      ∙ rw (count_is_lem 0 32 s at e) (go (sized (expression names ps 0 (entry_kinds p)) s (at + 1)))
    where
      go : (x : Parsed Expr) → past_of x ≡ past_of {A = Target} (and_then x (λ e m. read (record { version = version_of s; params = p; body = e }) m))
      go (read e m) = refl
      go (refuse r) = refl

  pub function_bound_lem : (p : ℕ) → counted (count 0 32 s at) ≡ Ok p → (p ≤ 32) × (at < length s)
  function_bound_lem p e = let r = read_count 0 32 s at (count_is_lem 0 32 s at e) in (r.most, r.byte.inside)

-- The whole file.
module _ (names : Bool) (ps s : List ℕ) where
  pub head_refused : (r : Refusal) → past_of (head spc file_limit s 0) ≡ Err r → Err r ≡ past_of (code names ps s 0)
  unfolding code
  head_refused r e = rw (past_refuse (head spc file_limit s 0) e)

  module _ (a : ℕ) (whole : past_of (head spc file_limit s 0) ≡ Ok a) where
    after_head : head spc file_limit s 0 ≡ read tt 5
    after_head = (past_head s spc file_limit whole).1

    pub count_refused : (r : Refusal) → counted (functions s 5) ≡ Err r → Err r ≡ past_of (code names ps s 0)
    unfolding code targets
    count_refused r e = rw (after_head, functions_outside s 5 e)

    module _ (n : ℕ) (some : counted (functions s 5) ≡ Ok n) where
      pub functions_refused : (r : Refusal) → past_of (many n (function names ps) s 7) ≡ Err r → Err r ≡ past_of (code names ps s 0)
      unfolding code targets
      functions_refused r e = rw (after_head, functions_is s 5 some, past_refuse (many n (function names ps) s 7) e)

      pub functions_past : (m : ℕ) → past_of (many n (function names ps) s 7) ≡ Ok m → past_of (ended s m) ≡ past_of (code names ps s 0)
      unfolding code targets
      functions_past m e =
          let f = past_read (many n (function names ps) s 7) e in
          rw (after_head, functions_is s 5 some, f.is) (go f.what (ended s m))
        where
          go : (Q : Code) (x : Parsed (Unit {0})) → past_of x ≡ past_of (and_then x (λ u k. read Q k))
          go Q (read u k) = refl
          go Q (refuse r) = refl

  -- A file that was read: its limit, its head with its version, and what stands behind it.
  pub read_code : {Q : Code} {next : ℕ} → code names ps s 0 ≡ read Q next
      → (length s ≤ file_limit) × BytesAt s 0 5 (spc ++ version_of s ∷ 0 ∷ []) × (targets names ps s 5 ≡ read Q next) × IsVersion (version_of s)
  unfolding code
  read_code {Q} {next} e =
      let a = sequence (head spc file_limit s 0) (λ u m. targets names ps s m) e in
      let h = read_head s spc file_limit a.reads in (
        h.0,
        subst (λ (m : ℕ). BytesAt s 0 m (spc ++ version_of s ∷ 0 ∷ [])) h.1.past h.1,
        subst (λ (m : ℕ). targets names ps s m ≡ read Q next) h.1.past a.follows,
        h.2,
      )
