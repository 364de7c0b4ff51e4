-- What was written is read: a reader that reads the bytes w as a, wherever they stand in a file of version v.
use Rattle.std.specs.Prelude.{ℕ, suc, ◌+◌, ◌*◌, ◌-◌, ◌≤◌, ◌<◌, ◌≡◌, refl, List, [], ◌∷◌, ◌++◌, length, get_or, drop}
use Rattle.std.proofs.Common.{sym, ap, ◌∙◌, append_assoc, arith, lt-ltb, le-ltb, le-leb, eq-eqb, length-append, length-drop, drop-drop, get_or-drop}
use Rattle.std.proofs.Math.Seq.{drop-append_seam}
use Rattle.parsing.specs.Parser.{read, Parser, and_then, many, joined}
use Rattle.parsing.specs.Fields.{byte, marked, IsVersion, version, version_of, head, count, ended}
use Rattle.parsing.specs.ParserLaws.{byte_in, is_version_lem}

-- The bytes l stand from `at` on, to the end of the file.
module _ (s : List ℕ) (at : ℕ) (l : List ℕ) (here : drop at s ≡ l) where
  pub byte_here : (i : ℕ) → get_or s (at + i) 0 ≡ get_or l i 0
  byte_here i = sym (get_or-drop at s i 0) ∙ ap (λ (m : List ℕ). get_or m i 0) here

  pub first_here : get_or s at 0 ≡ get_or l 0 0
  first_here = let p : at + 0 ≡ at = omega arith in ap (λ (k : ℕ). get_or s k 0) (sym p) ∙ byte_here 0

  pub length_here : length s - at ≡ length l
  length_here = sym (length-drop at s) ∙ ap length here

  pub next_here : (i : ℕ) → drop (at + i) s ≡ drop i l
  next_here i = sym (drop-drop i at s) ∙ ap (λ (m : List ℕ). drop i m) here

-- What stands behind bytes.
pub behind : (s : List ℕ) (at : ℕ) (w rest : List ℕ) → drop at s ≡ w ++ rest → drop (at + length w) s ≡ rest
behind s at w rest h = next_here s at (w ++ rest) h (length w) ∙ drop-append_seam w rest

pub record Reads (v : ℕ) {A : Type 0} (p : Parser A) (a : A) (w : List ℕ) : Type 0 where
  pub reads : (s : List ℕ) (at : ℕ) (rest : List ℕ) → version_of s ≡ v → drop at s ≡ w ++ rest → p s at ≡ read a (at + length w)

module _ {v : ℕ} {A B : Type 0} (p : Parser A) (k : A → Parser B) where
  pub reads_bind : {a : A} {b : B} {u w : List ℕ} → Reads v p a u → Reads v (k a) b w → Reads v (λ s at. and_then (p s at) (λ x m. k x s m)) b (u ++ w)
  reads_bind {a} {b} {u} {w} f g = record { reads = go }
    where
      go : (s : List ℕ) (at : ℕ) (rest : List ℕ) → version_of s ≡ v → drop at s ≡ (u ++ w) ++ rest → and_then (p s at) (λ x m. k x s m) ≡ read b (at + length (u ++ w))
      go s at rest e h =
          let h' : drop at s ≡ u ++ (w ++ rest) = h ∙ append_assoc u w rest in
          let q : at + length u + length w ≡ at + length (u ++ w) = omega (arith, length-append u w) in
          ap (λ x. and_then x (λ y m. k y s m)) (f.reads s at (w ++ rest) e h')
          ∙ g.reads s (at + length u) rest e (behind s at u (w ++ rest) h') ∙ ap (read b) q

  -- The last part, of which a value is made.
  pub reads_map : {a : A} {b : B} {u : List ℕ} → Reads v p a u → ((s : List ℕ) (m : ℕ) → version_of s ≡ v → k a s m ≡ read b m) → Reads v (λ s at. and_then (p s at) (λ x m. k x s m)) b u
  reads_map {a} {b} {u} f g =
      record { reads = λ s at rest e h. ap (λ x. and_then x (λ y m. k y s m)) (f.reads s at rest e h) ∙ g s (at + length u) e }

pub reads_many : {v : ℕ} {A : Type 0} (p : Parser A) (w : A → List ℕ) (as' : List A)
    → ((i : ℕ) (d : A) → i < length as' → Reads v p (get_or as' i d) (w (get_or as' i d))) → Reads v (many (length as') p) as' (joined w as')
reads_many p w [] f = record { reads = λ s at rest e h. let q : at ≡ at + 0 = omega arith in ap (read []) q }
reads_many {v} {A} p w (a ∷ more) f =
    reads_bind p (λ x s m. and_then (many (length more) p s m) (λ xs m'. read (x ∷ xs) m')) (f 0 a (omega arith))
    (reads_map (many (length more) p) (λ xs s m. read (a ∷ xs) m) (reads_many p w more (λ i d h. f (suc i) d (omega arith))) (λ s m e. refl))

pub reads_byte : {v : ℕ} (n : ℕ) → Reads v byte n (n ∷ [])
reads_byte {v} n = record { reads = go }
  where
    go : (s : List ℕ) (at : ℕ) (rest : List ℕ) → version_of s ≡ v → drop at s ≡ n ∷ rest → byte s at ≡ read n (at + 1)
    go s at rest e h =
        let l = length_here s at (n ∷ rest) h in
        byte_in s at (omega arith) ∙ ap (λ (k : ℕ). read k (at + 1)) (first_here s at (n ∷ rest) h)

pub reads_count : {v : ℕ} (low high n : ℕ) → low ≤ n → n ≤ high → Reads v (count low high) n (n ∷ [])
unfolding count
reads_count low high n a b = record { reads = λ s at rest e h. rw ((reads_byte n).reads s at rest e h, le-leb low n a, le-leb n high b) }

pub reads_marked : {v : ℕ} (ms : List ℕ) → Reads v (marked ms) tt ms
reads_marked [] = record { reads = λ s at rest e h. let q : at ≡ at + 0 = omega arith in ap (read tt) q }
reads_marked {v} (m ∷ ms) = record { reads = go (reads_marked ms) }
  where
    go : Reads v (marked ms) tt ms → (s : List ℕ) (at : ℕ) (rest : List ℕ) → version_of s ≡ v → drop at s ≡ m ∷ (ms ++ rest)
        → marked (m ∷ ms) s at ≡ read tt (at + suc (length ms))
    go r s at rest f h =
        let l = length_here s at (m ∷ (ms ++ rest)) h in
        let i = lt-ltb at (length s) (omega arith) in
        let e = eq-eqb (get_or s at 0) m (first_here s at (m ∷ (ms ++ rest)) h) in
        let q : at + 1 + length ms ≡ at + suc (length ms) = omega arith in
        rw (i, e) (r.reads s (at + 1) rest f (next_here s at (m ∷ (ms ++ rest)) h 1) ∙ ap (read tt) q)

-- The version, of any file: it stands behind the mark.
pub reads_version : {v : ℕ} → IsVersion v → (s : List ℕ) (at : ℕ) (rest : List ℕ) → drop at s ≡ v ∷ 0 ∷ rest → version s at ≡ read tt (at + 2)
unfolding version
reads_version {v} k s at rest h =
    let l = length_here s at (v ∷ 0 ∷ rest) h in
    let p : v + 256 * 0 ≡ v = omega arith in
    rw (le-leb (at + 2) (length s) (omega arith), first_here s at (v ∷ 0 ∷ rest) h, byte_here s at (v ∷ 0 ∷ rest) h 1, p, is_version_lem v k)

pub reads_head : (ms : List ℕ) (limit : ℕ) (s rest : List ℕ) {v : ℕ} → s ≡ ms ++ (v ∷ 0 ∷ rest) → IsVersion v → length s ≤ limit → head ms limit s 0 ≡ read tt (length ms + 2)
unfolding head
reads_head ms limit s rest {v} e k h =
    let p : 0 + length ms ≡ length ms = omega arith in
    let x = reads_version k s (length ms) rest (ap (λ (k : ℕ). drop k s) (sym p) ∙ behind s 0 ms (v ∷ 0 ∷ rest) e) in
    rw ((reads_marked ms).reads s 0 (v ∷ 0 ∷ rest) refl e, p, x, le-leb (length s) limit h)

pub reads_ended : (s : List ℕ) (at : ℕ) → length s ≤ at → ended s at ≡ read tt at
unfolding ended
reads_ended s at h = rw (le-ltb at (length s) h)
