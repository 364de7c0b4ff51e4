-- What was read is what was written: the bytes from an offset on are the writing of what was read, and what is left.
use Rattle.parsing.specs.declared.reason.Reason.TheVariants.{FileTooLong, LeftOver, WrongMark, WrongVersion}
use Rattle.std.specs.Prelude.{ℕ, zero, suc, ◌+◌, ◌*◌, ◌≤◌, ◌<◌, ◌≡◌, Bool, List, [], ◌∷◌, ◌++◌, eqb, take, drop, Ok}
use Rattle.std.proofs.Math.Path.{refl, subst}
use Rattle.std.proofs.Common.{sym, ap, ◌∙◌, append_assoc, add-one, length-append, drop-cons}
use Rattle.std.proofs.Math.Bool.{true, false, cond}
use native.Mathlib.Omega.{arith}
use borrow.Author.Tests.{ltb-true, ltb-false, leb-true, eqb-true}
use Rattle.std.proofs.Math.Dec.{leb, ltb}
use Rattle.std.proofs.Math.ListN.{length, get_or}
use Rattle.parsing.specs.Parser.{refusal, Parsed, read, refuse, Parser, and_then, joined, past_of}
use Rattle.parsing.specs.Fields.{cut, marked, IsVersion, is_version, version, within, head, ended}
use Rattle.parsing.specs.ParserLaws.{impossible, sequence, version_true, ReadMany, none, one}

-- The bytes w stand from `at` on, up to `next`.
pub record BytesAt (s : List ℕ) (at next : ℕ) (w : List ℕ) : Type 0 where
  pub stands : drop at s ≡ w ++ drop next s
  pub past : next ≡ at + length w

module _ (s : List ℕ) where
  pub bytes_at_none : (at : ℕ) → BytesAt s at at []
  bytes_at_none at = record { stands = refl; past = omega arith }

  pub bytes_at_join : {at middle next : ℕ} {v w : List ℕ} → BytesAt s at middle v → BytesAt s middle next w → BytesAt s at next (v ++ w)
  bytes_at_join {at} {middle} {next} {v} {w} a b =
      record {
        stands = a.stands ∙ ap (λ (l : List ℕ). v ++ l) b.stands ∙ sym (append_assoc v w (drop next s));
        past = omega (arith, a.past, b.past, length-append v w);
      }

  pub bytes_at_byte : (at : ℕ) → at < length s → BytesAt s at (at + 1) (get_or s at 0 ∷ [])
  bytes_at_byte at h = record { stands = rw (add-one, drop-cons s at 0 h); past = refl }

  -- One byte more in front.
  pub bytes_at_cons : {at next : ℕ} {w : List ℕ} → at < length s → BytesAt s (at + 1) next w → BytesAt s at next (get_or s at 0 ∷ w)
  bytes_at_cons {at} h a = bytes_at_join (bytes_at_byte at h) a

  pub bytes_at_marked : (ms : List ℕ) (at : ℕ) {u : Unit {0}} {next : ℕ} → marked ms s at ≡ read u next → BytesAt s at next ms
  bytes_at_marked [] at {u} {next} e = let p : at ≡ next = cc in rw (← p) (bytes_at_none at)
  bytes_at_marked (m ∷ ms) at {u} {next} e =
      go (ltb at (length s)) (eqb (get_or s at 0) m) refl refl (λ w. bytes_at_marked ms (at + 1) w) e
    where
      go : (t v : Bool) → ltb at (length s) ≡ t → eqb (get_or s at 0) m ≡ v
          → (marked ms s (at + 1) ≡ read u next → BytesAt s (at + 1) next ms)
          → cond t (cond v (marked ms s (at + 1)) (refuse (refusal WrongMark at))) (refuse (cut s)) ≡ read u next → BytesAt s at next (m ∷ ms)
      go true true i j f w =
          let q = eqb-true (get_or s at 0) m j in
          rw (← q) (bytes_at_cons (ltb-true at (length s) i) (f w))
      go true false i j f w = impossible (cc)
      go false v i j f w = impossible (cc)

  pub bytes_at_version : (at : ℕ) {u : Unit {0}} {next : ℕ} → version s at ≡ read u next → BytesAt s at next (get_or s at 0 ∷ 0 ∷ []) × IsVersion (get_or s at 0)
  unfolding version
  bytes_at_version at {u} {next} e = go (leb (at + 2) (length s)) (is_version (get_or s at 0 + 256 * get_or s (at + 1) 0)) refl refl e
    where
      go : (t v : Bool) → leb (at + 2) (length s) ≡ t → is_version (get_or s at 0 + 256 * get_or s (at + 1) 0) ≡ v
          → cond t (cond v (read tt (at + 2)) (refuse (refusal WrongVersion at))) (refuse (cut s)) ≡ read u next → BytesAt s at next (get_or s at 0 ∷ 0 ∷ []) × IsVersion (get_or s at 0)
      go true true i j w =
          let h = leb-true (at + 2) (length s) i in
          let n = version_true (get_or s at 0 + 256 * get_or s (at + 1) 0) j in
          let b : get_or s (at + 1) 0 ≡ 0 = omega arith in
          let q : at + 2 ≡ next = cc in
          let p : at + 1 + 1 ≡ next = omega arith in
          (go₂ b p (bytes_at_join (bytes_at_byte at (omega arith)) (bytes_at_byte (at + 1) (omega arith))), (omega arith, omega arith))
        where
          go₂ : {x y m : ℕ} → y ≡ 0 → m ≡ next → BytesAt s at m (x ∷ y ∷ []) → BytesAt s at next (x ∷ 0 ∷ [])
          go₂ b p r = rw (b, p) at r
      go true false i j w = impossible (cc)
      go false v i j w = impossible (cc)

  read_within : (limit at : ℕ) {u : Unit {0}} {next : ℕ} → within limit s at ≡ read u next → (length s ≤ limit) × (at ≡ next)
  read_within limit at {u} {next} e = go (leb (length s) limit) refl e
    where
      go : (t : Bool) → leb (length s) limit ≡ t → cond t (read tt at) (refuse (refusal FileTooLong limit)) ≡ read u next → (length s ≤ limit) × (at ≡ next)
      go true l w = (leb-true (length s) limit l, cc)
      go false l w = impossible (cc)

  -- A head that was read: the file is within the limit, and begins with the mark and the version.
  pub read_head : (ms : List ℕ) (limit : ℕ) {u : Unit {0}} {next : ℕ} → head ms limit s 0 ≡ read u next
      → (length s ≤ limit) × BytesAt s 0 next (ms ++ get_or s (length ms) 0 ∷ 0 ∷ []) × IsVersion (get_or s (length ms) 0)
  unfolding head
  read_head ms limit {u} {next} e =
      let a = sequence (marked ms s 0) (λ v k. and_then (version s k) (λ w m. within limit s m)) e in
      let b = sequence (version s a.middle) (λ w m. within limit s m) a.follows in
      let c = read_within limit b.middle b.follows in
      let f = bytes_at_marked ms 0 a.reads in
      let p : a.middle ≡ length ms = omega (arith, f.past) in
      let v = bytes_at_version a.middle b.reads in
      let t = bytes_at_join f v.0 in (
        c.0,
        subst (λ (k : ℕ). BytesAt s 0 next (ms ++ get_or s k 0 ∷ 0 ∷ [])) p (subst (λ (m : ℕ). BytesAt s 0 m (ms ++ get_or s a.middle 0 ∷ 0 ∷ [])) c.1 t),
        subst (λ (k : ℕ). IsVersion (get_or s k 0)) p v.1,
      )

  -- The same, from the offset past it.
  pub past_head : (ms : List ℕ) (limit : ℕ) {next : ℕ} → past_of (head ms limit s 0) ≡ Ok next
      → (length s ≤ limit) × (head ms limit s 0 ≡ read tt (length ms + 2))
  past_head ms limit {next} e = go (head ms limit s 0) refl e
    where
      go : (x : Parsed (Unit {0})) → head ms limit s 0 ≡ x → past_of x ≡ Ok next → (length s ≤ limit) × (x ≡ read tt (length ms + 2))
      go (read tt m) w f =
          let r = read_head ms limit w in
          let p : m ≡ length ms + 2 = omega (arith, r.1.past, length-append ms (get_or s (length ms) 0 ∷ 0 ∷ [])) in
          (r.0, ap (read tt) p)
      go (refuse r) w f = impossible (cc)

  pub read_ended : (at : ℕ) {u : Unit {0}} {next : ℕ} → ended s at ≡ read u next → (length s ≤ at) × (next ≡ at)
  unfolding ended
  read_ended at {u} {next} e = go (ltb at (length s)) refl e
    where
      go : (t : Bool) → ltb at (length s) ≡ t → cond t (refuse (refusal LeftOver at)) (read tt at) ≡ read u next → (length s ≤ at) × (next ≡ at)
      go true i w = impossible (cc)
      go false i w = (ltb-false at (length s) i, cc)

-- The bytes from an offset on, counted from i.
abbrev pub span : List ℕ → ℕ → ℕ → ℕ → List ℕ
span s at i zero = []
span s at i (suc k) = get_or s (at + i) 0 ∷ span s at (suc i) k

module _ (s : List ℕ) (at : ℕ) where
  pub bytes_at_span : (i k : ℕ) → at + (i + k) ≤ length s → BytesAt s (at + i) (at + (i + k)) (span s at i k)
  bytes_at_span i zero h = let p : at + (i + 0) ≡ at + i = omega arith in rw p (bytes_at_none s (at + i))
  bytes_at_span i (suc k) h =
      let p : at + i + 1 ≡ at + suc i = omega arith in
      let q : at + (i + suc k) ≡ at + (suc i + k) = omega arith in
      bytes_at_cons s (omega arith) (rw (p, q) (bytes_at_span (suc i) k (omega arith)))

-- Several parts, of which each that was read is what was written.
module _ {A : Type 0} (p : Parser A) (w : A → List ℕ) (s : List ℕ)
    (wrote : (at : ℕ) (a : A) (next : ℕ) → p s at ≡ read a next → BytesAt s at next (w a)) where
  pub bytes_at_many : {at next : ℕ} {as' : List A} → ReadMany p s at as' next → BytesAt s at next (joined w as')
  bytes_at_many (none {at}) = bytes_at_none s at
  bytes_at_many (one e r) = bytes_at_join s (wrote _ _ _ e) (bytes_at_many r)

  -- Where each part stands.
  pub many_at : {at next : ℕ} {as' : List A} (d : A) → ReadMany p s at as' next → (i : ℕ) → i < length as'
      → p s (at + length (joined w (take i as'))) ≡ read (get_or as' i d) (at + length (joined w (take (suc i) as')))
  many_at d (none) i h = absurd (omega arith)
  many_at d (one {at} {middle} {next} {a} {more} e r) zero h =
      let x = (wrote at a middle e).past in
      let y : at + 0 ≡ at = omega arith in
      let z : at + length (w a ++ []) ≡ middle = omega (arith, length-append (w a) []) in
      rw (y, z) e
  many_at d (one {at} {middle} {next} {a} {more} e r) (suc i) h =
      let x = (wrote at a middle e).past in
      let y : at + length (w a ++ joined w (take i more)) ≡ middle + length (joined w (take i more)) =
      omega (arith, length-append (w a) (joined w (take i more))) in
      let z : at + length (w a ++ joined w (take (suc i) more)) ≡ middle + length (joined w (take (suc i) more)) =
      omega (arith, length-append (w a) (joined w (take (suc i) more))) in
      rw (y, z) (many_at d r i (omega arith))
