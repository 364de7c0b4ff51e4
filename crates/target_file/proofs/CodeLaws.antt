-- The code that was read stands in the file, and code that stands in a file is read.
use Rattle.std.specs.Prelude.{ℕ, ◌+◌, ◌≤◌, Bool, false, List, [], ◌∷◌, ◌++◌, drop}
use Rattle.std.proofs.Math.Path.{◌≡◌, refl, sym, subst}
use Rattle.std.proofs.Common.{ap, ap₂, ◌∙◌}
use Rattle.std.proofs.Math.Bool.{true}
use native.Mathlib.Omega.{arith}
use borrow.Author.Tests.{le-leb}
use Rattle.std.proofs.Math.ListN.{length, get_or}
use Rattle.semantics.specs.Code.{Expr, Target, Code}
use Rattle.semantics.specs.Controller.{code_version}
use Rattle.semantics.specs.WellFormed.{All}
use Rattle.semantics.specs.SlotRules.{KeepsRules}
use Rattle.semantics.specs.SlotRules as rules
use Rattle.parsing.specs.Parser.{Parsed, read, and_then, many}
use Rattle.parsing.specs.Fields.{IsVersion, version_of, count, ended}
use Rattle.parsing.specs.ParserLaws.{sequence, read_count, ReadMany, none, one, read_many, byte_in}
use Rattle.parsing.specs.BytesAtLaws.{BytesAt, read_ended}
use Rattle.parsing.specs.ReadsLaws.{reads_head, reads_ended}
use Rattle.target_tags.specs.Tag.{file_limit, slots_in, pair_at}
use Rattle.target_tags.specs.TagLaws.{slots_bound}
use Rattle.target_slots.specs.Slots.{entry_kinds}
use Rattle.target_parts.specs.Parts.{sized}
use Rattle.target_expressions.specs.Expressions.{expression}
use Rattle.target_layout.specs.Layout.{spc, function, functions, targets, code}
use Rattle.target_file.specs.Check.{arities}
use Rattle.target_file.specs.Writing.{size, Nests}
use Rattle.target_file.specs.LoadedCode.{ExprAt}
use Rattle.target_expressions.proofs.PartLaws.{impossible, sized_read}
use Rattle.target_layout.specs.FileLaws.{read_functions, functions_right, read_code}
use Rattle.target_file.proofs.RightLaws.{entry_like}
use Rattle.target_file.proofs.ReadLaws.{expression_found}
use Rattle.target_file.proofs.ExprLaws.{expr_inside, expr_within, sized_holds, expression_stands}

-- How many bytes functions take.
abbrev pub code_size : Code → ℕ
code_size [] = 0
code_size (D ∷ Q) = 3 + size D.body + code_size Q

-- Functions stand one after the other from an offset on.
abbrev pub CodeAt : List ℕ → ℕ → Code → Type 0
CodeAt s at [] = Unit {0}
CodeAt s at (D ∷ Q) =
    (get_or s at 0 ≡ D.params) × (pair_at s (at + 1) ≡ size D.body) × ExprAt s (at + 3) D.body × CodeAt s (at + 3 + size D.body) Q

-- A function of a version within its range and levels.
pub record Ranged (version : ℕ) (D : Target) : Type 0 where
  pub version_is : D.version ≡ version
  pub params : D.params ≤ 32
  pub levels : Nests 0 D.body

-- A function keeps the slot rules of a version, among functions Q.
abbrev pub KeepsBody : ℕ → Code → Target → Type 0
KeepsBody version Q D = KeepsRules Q (slots_in version) (rules.entry_kinds D.params) D.body

module _ (names : Bool) (ps s : List ℕ) (G : Code) (named : names ≡ true → ps ≡ arities G) where
  pub record FoundFunction (at : ℕ) (D : Target) (next : ℕ) : Type 0 where
    pub heading : get_or s at 0 ≡ D.params
    pub sized : pair_at s (at + 1) ≡ size D.body
    pub here : ExprAt s (at + 3) D.body
    pub past : next ≡ at + 3 + size D.body
    pub ranged : Ranged (version_of s) D
    pub right : names ≡ true → KeepsBody (version_of s) G D

  function_found : (at : ℕ) (D : Target) (next : ℕ) → function names ps s at ≡ read D next → FoundFunction at D next
  unfolding function
  function_found at D next w =
      let a = sequence (count 0 32 s at) (λ p m. and_then (sized (expression names ps 0 (entry_kinds p)) s m) (λ e i. read (record { version = version_of s; params = p; body = e }) i)) w in
      let b = sequence (sized (expression names ps 0 (entry_kinds a.first)) s a.middle) (λ e i. read (record { version = version_of s; params = a.first; body = e }) i) a.follows in
      let c = read_count 0 32 s at a.reads in
      let m : a.middle ≡ at + 1 = c.byte.past in
      go a.first b.first b.middle c.byte.is c.most
      (subst (λ (i : ℕ). sized (expression names ps 0 (entry_kinds a.first)) s i ≡ read b.first b.middle) m b.reads) b.follows
    where
      go : (p : ℕ) (e : Expr) (i : ℕ) → p ≡ get_or s at 0 → p ≤ 32 → sized (expression names ps 0 (entry_kinds p)) s (at + 1) ≡ read e i
          → ◌≡◌ {A = Parsed Target} (read (record { version = version_of s; params = p; body = e }) i) (read D next) → FoundFunction at D next
      go p e i is few r f =
          let z = sized_read (expression names ps 0 (entry_kinds p)) s (at + 1) r in
          let q : at + 1 + 2 ≡ at + 3 = omega arith in
          let x = expression_found names ps s G named 0 (entry_kinds p) (at + 1 + 2) z.reads in
          let d : ◌≡◌ {A = Target} (record { version = version_of s; params = p; body = e }) D = cc in
          let n : i ≡ next = cc in
          subst (λ T. FoundFunction at T next) d
          (record {
            heading = sym is;
            sized = omega (arith, z.fills, x.past);
            here = subst (λ (j : ℕ). ExprAt s j e) q x.here;
            past = omega (arith, x.past);
            ranged = record { version_is = refl; params = few; levels = x.nests };
            right = λ q. x.right q (rules.entry_kinds p) (entry_like (slots_bound (version_of s)) p (omega arith));
          })

  pub record FoundCode (at : ℕ) (Q : Code) (next : ℕ) : Type 0 where
    pub stands : CodeAt s at Q
    pub past : next ≡ at + code_size Q
    pub ranged : All (Ranged (version_of s)) Q
    pub right : names ≡ true → All (KeepsBody (version_of s) G) Q

  functions_found : {at : ℕ} {Q : Code} {next : ℕ} → ReadMany (function names ps) s at Q next → FoundCode at Q next
  functions_found {at} none = record { stands = tt; past = omega arith; ranged = tt; right = λ q. tt }
  functions_found (one {at} {middle} {next} {a = D} {more = Q} r others) =
      let f = function_found at D middle r in
      let g = functions_found others in
      record {
        stands = (f.heading, f.sized, f.here, subst (λ (i : ℕ). CodeAt s i Q) f.past g.stands);
        past = omega (arith, f.past, g.past);
        ranged = (f.ranged, g.ranged);
        right = λ q. (f.right q, g.right q);
      }

  function_stands : (at : ℕ) (D : Target) → get_or s at 0 ≡ D.params → pair_at s (at + 1) ≡ size D.body → ExprAt s (at + 3) D.body → Ranged (version_of s) D → (names ≡ true → KeepsBody (version_of s) G D)
      → function names ps s at ≡ read D (at + 3 + size D.body)
  unfolding function count
  function_stands at D p z h g r =
      let i = expr_inside s (at + 3) D.body h in
      let q : at + 1 + 2 ≡ at + 3 = omega arith in
      let x = expression_stands names ps s G named 0 (rules.entry_kinds D.params) (entry_kinds D.params) (at + 1 + 2) D.body (subst (λ (j : ℕ). ExprAt s j D.body) (sym q) h) g.levels (λ t. entry_like (slots_bound (version_of s)) D.params (omega (arith, g.params))) r in
      let m = sized_holds (expression names ps 0 (entry_kinds D.params)) s (at + 1) (size D.body) (omega arith) z x refl in
      let n : at + 1 + 2 + size D.body ≡ at + 3 + size D.body = omega arith in
      rw (byte_in s at (omega arith), p, le-leb 0 D.params (omega arith), le-leb D.params 32 g.params, m)
      (ap₂ (λ (v i : ℕ). read (record { version = v; params = D.params; body = D.body }) i) (sym g.version_is) n)

  pub functions_stand : (at : ℕ) (Q : Code) → CodeAt s at Q → All (Ranged (version_of s)) Q → (names ≡ true → All (KeepsBody (version_of s) G) Q)
      → many (length Q) (function names ps) s at ≡ read Q (at + code_size Q)
  functions_stand at [] h g r = let q : at ≡ at + 0 = omega arith in ap (read []) q
  functions_stand at (D ∷ Q) h g r =
      let a = function_stands at D h.0 h.1 h.2 g.0 (λ q. (r q).0) in
      let b = functions_stand (at + 3 + size D.body) Q h.3 g.1 (λ q. (r q).1) in
      let n : at + 3 + size D.body + code_size Q ≡ at + (3 + size D.body + code_size Q) = omega arith in
      rw (a, b) (ap (read (D ∷ Q)) n)

-- The code Q stands in the file s, within ranges and levels.
pub record FileAt (s : List ℕ) (Q : Code) : Type 0 where
  pub head : BytesAt s 0 5 (spc ++ version_of s ∷ 0 ∷ [])
  pub version : IsVersion (version_of s)
  pub counted : pair_at s 5 ≡ length Q
  pub least : 1 ≤ length Q
  pub most : length Q ≤ 2048
  pub stands : CodeAt s 7 Q
  pub ranged : All (Ranged (version_of s)) Q
  pub whole : length s ≡ 7 + code_size Q

-- The version of the code is that of the file.
pub code_version_lem : (s : List ℕ) (Q : Code) → FileAt s Q → code_version Q ≡ version_of s
code_version_lem s [] f = let h = f.least in absurd (omega arith)
code_version_lem s (D ∷ Q) f = f.ranged.0.version_is

-- Functions that stand end inside the file.
pub code_within : (s : List ℕ) (at : ℕ) (Q : Code) → at ≤ length s → CodeAt s at Q → at + code_size Q ≤ length s
code_within s at [] l h = omega arith
code_within s at (D ∷ Q) l h =
    let i = expr_within s (at + 3) D.body h.2 in
    let r = code_within s (at + 3 + size D.body) Q i h.3 in
    omega arith

module _ (names : Bool) (ps s : List ℕ) (G : Code) (named : names ≡ true → ps ≡ arities G) where
  pub file_read : (Q : Code) (next : ℕ) → code names ps s 0 ≡ read Q next → FileAt s Q × (names ≡ true → All (KeepsBody (version_of s) G) Q)
  unfolding targets
  file_read Q next w =
      let a = read_code names ps s w in
      let c = sequence (functions s 5) (λ n m₂. and_then (many n (function names ps) s m₂) (λ R m₃. and_then (ended s m₃) (λ u₂ m₄. read R m₄))) a.2 in
      let d = sequence (many c.first (function names ps) s c.middle) (λ R m₃. and_then (ended s m₃) (λ u₂ m₄. read R m₄)) c.follows in
      let e = sequence (ended s d.middle) (λ u₂ m₄. read d.first m₄) d.follows in
      let n = read_functions s 5 c.reads in
      let r : many c.first (function names ps) s 7 ≡ read d.first d.middle = subst (λ (i : ℕ). many c.first (function names ps) s i ≡ read d.first d.middle) n.past d.reads in
      let g : ◌≡◌ {A = Parsed Code} (read d.first e.middle) (read Q next) = e.follows in
      let t = read_ended s d.middle e.reads in
      go a.1 a.3 c.first n.is n.least n.most n.inside d.first d.middle r (cc) t.0
    where
      go : BytesAt s 0 5 (spc ++ version_of s ∷ 0 ∷ []) → IsVersion (version_of s) → (n : ℕ) → n ≡ pair_at s 5 → 1 ≤ n → n ≤ 2048 → 5 + 2 ≤ length s → (R : Code) (m : ℕ)
          → many n (function names ps) s 7 ≡ read R m → R ≡ Q → length s ≤ m → FileAt s Q × (names ≡ true → All (KeepsBody (version_of s) G) Q)
      go top v n is l h i R m r same t =
          let x = read_many (function names ps) s n 7 r in
          let y = functions_found names ps s G named x.0 in
          let c : length R ≡ n = x.1 in
          let w = code_within s 7 R (omega arith) y.stands in
          subst (λ T. FileAt s T × (names ≡ true → All (KeepsBody (version_of s) G) T)) same (
            record {
              head = top;
              version = v;
              counted = sym is ∙ sym c;
              least = omega arith;
              most = omega arith;
              stands = y.stands;
              ranged = y.ranged;
              whole = omega (arith, y.past);
            },
            y.right,
          )

  pub targets_stand : (Q : Code) → FileAt s Q → (names ≡ true → All (KeepsBody (version_of s) G) Q) → targets names ps s 5 ≡ read Q (length s)
  unfolding targets
  targets_stand Q f r =
      let w = f.whole in
      let n = functions_right s 5 (length Q) (omega arith) (sym f.counted) f.least f.most in
      let m = functions_stand names ps s G named 7 Q f.stands f.ranged r in
      let e = reads_ended s (7 + code_size Q) (omega arith) in
      rw (n, m, e) (ap (read Q) (sym w))

  pub file_stands : (Q : Code) → FileAt s Q → length s ≤ file_limit → (names ≡ true → All (KeepsBody (version_of s) G) Q) → code names ps s 0 ≡ read Q (length s)
  unfolding code
  file_stands Q f l r = rw (reads_head spc file_limit s (drop 5 s) f.head.stands f.version l) (targets_stand Q f r)

-- Where no names are judged.
unnamed : {A : Type 0} → false ≡ true → A
unnamed q = impossible (cc)

pub laid_read : (s : List ℕ) (Q : Code) (next : ℕ) → code false [] s 0 ≡ read Q next → FileAt s Q
laid_read s Q next e = (file_read false [] s [] unnamed Q next e).0

pub laid_targets : (s : List ℕ) (Q : Code) → FileAt s Q → targets false [] s 5 ≡ read Q (length s)
laid_targets s Q f = targets_stand false [] s [] unnamed Q f unnamed

pub laid_stands : (s : List ℕ) (Q : Code) → FileAt s Q → length s ≤ file_limit → code false [] s 0 ≡ read Q (length s)
laid_stands s Q f l = file_stands false [] s [] unnamed Q f l unnamed
