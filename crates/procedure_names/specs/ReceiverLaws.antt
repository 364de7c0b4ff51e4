-- Receivers and their bytes (document 02, Slip 7): what was read is what was written, and what was written is read.
use Rattle.std.specs.Prelude.{ℕ, ◌+◌, ◌<◌, ◌≡◌, refl, ◌≢◌, Bool, true, false, cond, List, [], ◌∷◌, ◌++◌, eqb, length, get_or, drop}
use Rattle.std.proofs.Common.{sym, arith, ne_eqb, eqb-true}
use Rattle.std.proofs.Math.Option.{Option, none, some}
use Rattle.std.proofs.lemmas.Bool.{eqb-false}
use Rattle.semantics.specs.Program.{Variable}
use Rattle.parsing.specs.Parser.{read, and_then}
use Rattle.parsing.specs.Fields.{byte, version_of}
use Rattle.parsing.specs.ParserLaws.{sequence, read_byte}
use Rattle.parsing.specs.BytesAtLaws.{BytesAt, bytes_at_none, bytes_at_byte}
use Rattle.parsing.specs.ReadsLaws.{Reads, reads_byte}
use Rattle.procedure_layout.specs.Layout.{as_receiver, receiver, bytes_before}
use Rattle.procedure_names.specs.Writing.{receiver_byte, receiver_bytes, ReceiverFits}

-- The byte of the receiver that a byte names, and the receiver that the byte of one names.
pub receiver_back : (x : ℕ) → receiver_byte (as_receiver x) ≡ x
receiver_back x = by (eqb x 255) refl
  where
    by : (t : Bool) → eqb x 255 ≡ t → receiver_byte (cond t none (some x)) ≡ x
    by true e = sym (eqb-true x 255 e)
    by false e = refl

module _ (version : ℕ) where
  pub receiver_forth : (r : Option Variable) → ReceiverFits version r → as_receiver (receiver_byte r) ≡ r
  receiver_forth none f = refl
  receiver_forth (some x) f = rw (ne_eqb x 255 f.1)

  -- In version 1 there is none.
  pub receiver_one : (r : Option Variable) → version ≢ 2 → ReceiverFits version r → r ≡ none
  receiver_one none n f = refl
  receiver_one (some x) n f = absurd (n f.0)

  receiver_fits : (x : ℕ) → version ≡ 2 → ReceiverFits version (as_receiver x)
  receiver_fits x e = by (eqb x 255) refl
    where
      by : (t : Bool) → eqb x 255 ≡ t → ReceiverFits version (cond t none (some x))
      by true i = tt
      by false i = (e, eqb-false x 255 i)

pub before_length : (version : ℕ) (r : Option Variable) → 1 + length (receiver_bytes version r) ≡ bytes_before version
unfolding bytes_before
before_length version r = by (eqb version 2)
  where
    by : (t : Bool) → 1 + length (cond t (receiver_byte r ∷ []) []) ≡ cond t 2 1
    by true = refl
    by false = refl

-- A receiver that was read, behind a handler byte.
pub record ReadReceiver (s : List ℕ) (at : ℕ) (r : Option Variable) (next : ℕ) : Type 0 where
  pub bytes : BytesAt s at next (receiver_bytes (version_of s) r)
  pub fits : ReceiverFits (version_of s) r

pub read_receiver : (s : List ℕ) (at : ℕ) {r : Option Variable} {next : ℕ} → receiver s at ≡ read r next → ReadReceiver s at r next
read_receiver s at {r} {next} e = by (eqb (version_of s) 2) refl e
  where
    there : eqb (version_of s) 2 ≡ true → (x m : ℕ) → x ≡ get_or s at 0 → m ≡ at + 1 → at < length s → read (as_receiver x) m ≡ read r next → ReadReceiver s at r next
    there i x m ex em h w =
        let p : as_receiver x ≡ r = cc in
        let q : m ≡ next = cc in
        rw (← p, ← q) (record { bytes = rw (i, receiver_back x, ex, em) (bytes_at_byte s at h); fits = receiver_fits (version_of s) x (eqb-true (version_of s) 2 i) })

    by : (t : Bool) → eqb (version_of s) 2 ≡ t → cond t (and_then (byte s at) (λ x m. read (as_receiver x) m)) (read none at) ≡ read r next → ReadReceiver s at r next
    by true i w =
        let x = sequence (byte s at) (λ x m. read (as_receiver x) m) w in
        let b = read_byte s at x.reads in
        there i x.first x.middle b.is b.past b.inside x.follows
    by false i w =
        let p : none ≡ r = cc in
        let q : at ≡ next = cc in
        rw (← p, ← q) (record { bytes = rw i (bytes_at_none s at); fits = tt })

-- A receiver that was written.
pub reads_receiver : (version : ℕ) (r : Option Variable) → ReceiverFits version r → Reads version receiver r (receiver_bytes version r)
reads_receiver version r f = record { reads = λ s at rest e h. by s at rest e (eqb version 2) refl h }
  where
    by : (s : List ℕ) (at : ℕ) (rest : List ℕ) → version_of s ≡ version → (t : Bool) → eqb version 2 ≡ t → drop at s ≡ cond t (receiver_byte r ∷ []) [] ++ rest
        → receiver s at ≡ read r (at + length (cond t (receiver_byte r ∷ []) []))
    by s at rest e true i h = rw (e, i, (reads_byte {v = version} (receiver_byte r)).reads s at rest e h, receiver_forth version r f)
    by s at rest e false i h =
        let n = receiver_one version r (eqb-false version 2 i) f in
        let p : at ≡ at + 0 = omega arith in
        rw (e, i, n, ← p)
