-- Laws of readers: parts one after the other, as offsets past them and as what was read.
use Rattle.parsing.specs.declared.reason.Reason.TheVariants.{OutOfRange}
use Rattle.std.specs.Prelude.{ℕ, zero, suc, ◌+◌, ◌-◌, ◌≤◌, ◌<◌, ◌≡◌, Bool, List, [], ◌∷◌, ◌++◌, ltb, length, get_or, Err, Ok, Result}
use Rattle.std.proofs.Math.Path.{refl}
use Rattle.std.proofs.Common.{sym, ap, ◌∙◌, append_assoc, arith}
use Rattle.std.proofs.Math.Bool.{true, false, cond}
use borrow.Author.Tests.{ltb-true, leb-true, le-leb, lt-ltb, le-ltb}
use Rattle.std.proofs.Math.Dec.{leb}
use Rattle.parsing.specs.declared.Refusal.{Refusal}
use Rattle.parsing.specs.Parser.{refusal, Parsed, read, refuse, Parser, and_then, many, joined, past_of, past_then, past_many}
use Rattle.parsing.specs.Fields.{cut, byte, IsVersion, is_version, count, counted}

-- Two constructors that are told equal: `impossible (cc)`.
abbrev pub impossible : {A : Type 0} → ◌≡◌ {A = ℕ} 0 1 → A
impossible o = absurd (omega arith)

-- A part that was read, by the offset past it.
pub record Read {A : Type 0} (x : Parsed A) (next : ℕ) : Type 0 where
  pub what : A
  pub is : x ≡ read what next

pub past_read : {A : Type 0} (x : Parsed A) {next : ℕ} → past_of x ≡ Ok next → Read x next
past_read (read a n) e = record { what = a; is = ap (read a) (cc) }
past_read (refuse r) e = impossible (cc)

pub past_refuse : {A : Type 0} (x : Parsed A) {r : Refusal} → past_of x ≡ Err r → x ≡ refuse r
past_refuse (read a n) e = impossible (cc)
past_refuse (refuse r) e = ap refuse (cc)

-- A part and what follows it.
module _ {A B : Type 0} (x : Parsed A) (k : A → ℕ → Parsed B) where
  pub stop : {r : Refusal} → past_of x ≡ Err r → and_then x k ≡ refuse r
  stop e = rw (past_refuse x e)

-- What follows was read, so the part was.
pub record Sequence {A B : Type 0} (x : Parsed A) (k : A → ℕ → Parsed B) (b : B) (next : ℕ) : Type 0 where
  pub first : A
  pub middle : ℕ
  pub reads : x ≡ read first middle
  pub follows : k first middle ≡ read b next

pub sequence : {A B : Type 0} (x : Parsed A) (k : A → ℕ → Parsed B) {b : B} {next : ℕ} → and_then x k ≡ read b next → Sequence x k b next
sequence (read a m) k e = record { first = a; middle = m; reads = refl; follows = e }
sequence (refuse r) k e = impossible (cc)

-- Several parts that were read.
pub data ReadMany {A : Type 0} (p : Parser A) (s : List ℕ) : ℕ → List A → ℕ → Type 0 where
  none : {at : ℕ} → ReadMany p s at [] at
  one : {at middle next : ℕ} {a : A} {more : List A} → p s at ≡ read a middle → ReadMany p s middle more next → ReadMany p s at (a ∷ more) next

pub read_many : {A : Type 0} (p : Parser A) (s : List ℕ) (n at : ℕ) {as' : List A} {next : ℕ} → many n p s at ≡ read as' next → ReadMany p s at as' next × (length as' ≡ n)
read_many {A} p s zero at {as'} {next} e = go (cc) (cc)
  where
    go : {as'' : List A} {m : ℕ} → [] ≡ as'' → at ≡ m → ReadMany p s at as'' m × (length as'' ≡ 0)
    go a b = rw (← a, ← b) (none, refl)
read_many {A} p s (suc n) at {as'} {next} e =
    let h = sequence (p s at) (λ a m. and_then (many n p s m) (λ as'' m'. read (a ∷ as'') m')) e in
    let t = sequence (many n p s h.middle) (λ as'' m'. read (h.first ∷ as'') m') h.follows in
    let r = read_many p s n h.middle t.reads in
    go t.follows h.reads r.0 r.1
  where
    go : {a : A} {more : List A} {middle m : ℕ} → read (a ∷ more) m ≡ read as' next → p s at ≡ read a middle → ReadMany p s middle more m → length more ≡ n → ReadMany p s at as' next × (length as' ≡ suc n)
    go {a} {more} {middle} {m} w f g l =
        let x : a ∷ more ≡ as' = cc in let y : m ≡ next = cc in rw (← x, ← y) (one f g, ap suc l)

-- The test of a version.
pub version_true : (v : ℕ) → is_version v ≡ true → IsVersion v
version_true v e = by (leb 1 v) refl e
  where
    by : (t : Bool) → leb 1 v ≡ t → cond t (leb v 2) false ≡ true → IsVersion v
    by true i w = (leb-true 1 v i, leb-true v 2 w)
    by false i w = impossible (cc)

pub is_version_lem : (v : ℕ) → IsVersion v → is_version v ≡ true
is_version_lem v h = rw (le-leb 1 v h.0, le-leb v 2 h.1)

pub version_false : (v : ℕ) → is_version v ≡ false → IsVersion v → ⊥
version_false v e h = let p : ◌≡◌ {A = Bool} true false = sym (is_version_lem v h) ∙ e in impossible (cc)

pub no_version : (v : ℕ) → (IsVersion v → ⊥) → is_version v ≡ false
no_version v n = by (is_version v) refl
  where
    by : (t : Bool) → is_version v ≡ t → t ≡ false
    by true e = absurd (n (version_true v e))
    by false e = refl

-- A byte and a count that were read.
module _ (s : List ℕ) (at : ℕ) where
  pub record ReadByte (n next : ℕ) : Type 0 where
    pub inside : at < length s
    pub is : n ≡ get_or s at 0
    pub past : next ≡ at + 1

  pub read_byte : {n next : ℕ} → byte s at ≡ read n next → ReadByte n next
  read_byte {n} {next} e = go (ltb at (length s)) refl e
    where
      go : (t : Bool) → ltb at (length s) ≡ t → cond t (read (get_or s at 0) (at + 1)) (refuse (cut s)) ≡ read n next → ReadByte n next
      go true i w = record { inside = ltb-true at (length s) i; is = cc; past = cc }
      go false i w = impossible (cc)

  pub byte_in : at < length s → byte s at ≡ read (get_or s at 0) (at + 1)
  byte_in h = rw (lt-ltb at (length s) h)

  pub byte_cut : length s ≤ at → byte s at ≡ refuse (cut s)
  byte_cut h = rw (le-ltb at (length s) h)

module _ (low high : ℕ) (s : List ℕ) (at : ℕ) where
  pub record ReadCount (n next : ℕ) : Type 0 where
    pub byte : ReadByte s at n next
    pub least : low ≤ n
    pub most : n ≤ high

  pub read_count : {n next : ℕ} → count low high s at ≡ read n next → ReadCount n next
  unfolding count
  read_count {n} {next} e =
      let h = sequence (byte s at) (λ k m. cond (leb low k) (cond (leb k high) (read k m) (refuse (refusal OutOfRange at))) (refuse (refusal OutOfRange at))) e in
      go h.first h.middle (read_byte s at h.reads) (leb low h.first) (leb h.first high) refl refl h.follows
    where
      go : (k m : ℕ) → ReadByte s at k m → (t u : Bool) → leb low k ≡ t → leb k high ≡ u → cond t (cond u (read k m) (refuse (refusal OutOfRange at))) (refuse (refusal OutOfRange at)) ≡ read n next → ReadCount n next
      go k m b true true l h w =
          let x : k ≡ n = cc in let y : m ≡ next = cc in rw (← x, ← y) (record { byte = b; least = leb-true low k l; most = leb-true k high h })
      go k m b true false l h w = impossible (cc)
      go k m b false u l h w = impossible (cc)

  -- What the function that reads a count answered.
  pub count_is_lem : {n : ℕ} → counted (count low high s at) ≡ Ok n → count low high s at ≡ read n (at + 1)
  count_is_lem {n} e = go (count low high s at) refl e
    where
      go : (x : Parsed ℕ) → count low high s at ≡ x → counted x ≡ Ok n → x ≡ read n (at + 1)
      go (read k m) w f = let p = (read_count w).byte.past in let q : k ≡ n = cc in rw (p, q)
      go (refuse r) w f = impossible (cc)

  pub count_outside : {r : Refusal} → counted (count low high s at) ≡ Err r → count low high s at ≡ refuse r
  count_outside {r} e = go (count low high s at) e
    where
      go : (x : Parsed ℕ) → counted x ≡ Err r → x ≡ refuse r
      go (read k m) f = impossible (cc)
      go (refuse q) f = ap refuse (cc)

-- The offset past n parts, as the turns of a loop over them meet it: i of them are read.
module _ (past : ℕ → Result ℕ Refusal) (n i at : ℕ) where
  pub past_turn : {next : ℕ} → i < n → past at ≡ Ok next → past_many (n - (i + 1)) past next ≡ past_many (n - i) past at
  past_turn {next} h e =
      let m : n - i ≡ suc (n - (i + 1)) = omega arith in
      rw (m, e)

  pub past_halt : {r : Refusal} → i < n → past at ≡ Err r → Err r ≡ past_many (n - i) past at
  past_halt h e =
      let m : n - i ≡ suc (n - (i + 1)) = omega arith in
      rw (m, e)

  pub past_last : n ≤ i → Ok at ≡ past_many (n - i) past at
  past_last h =
      let m : n - i ≡ 0 = omega arith in
      rw m

-- It is that past what a reader of n parts reads.
pub past_parts : {A : Type 0} (p : Parser A) (s : List ℕ) (n at : ℕ) → past_many n (λ (k : ℕ). past_of (p s k)) at ≡ past_of (many n p s at)
past_parts p s zero at = refl
past_parts {A} p s (suc n) at = go (p s at) (λ m. past_parts p s n m)
  where
    last : (a : A) (y : Parsed (List A)) → past_of y ≡ past_of (and_then y (λ more m. read (a ∷ more) m))
    last a (read more m) = refl
    last a (refuse r) = refl

    go : (x : Parsed A) → ((m : ℕ) → past_many n (λ (k : ℕ). past_of (p s k)) m ≡ past_of (many n p s m))
        → past_then (past_of x) (past_many n (λ (k : ℕ). past_of (p s k))) ≡ past_of (and_then x (λ a m. and_then (many n p s m) (λ more m'. read (a ∷ more) m')))
    go (read a m) others = others m ∙ last a (many n p s m)
    go (refuse r) others = refl

-- Writings one after the other.
pub joined_append : {A : Type 0} (bytes : A → List ℕ) (xs ys : List A) → joined bytes (xs ++ ys) ≡ joined bytes xs ++ joined bytes ys
joined_append bytes [] ys = refl
joined_append bytes (x ∷ xs) ys = ap (λ (w : List ℕ). bytes x ++ w) (joined_append bytes xs ys) ∙ sym (append_assoc (bytes x) (joined bytes xs) (joined bytes ys))
