-- The text of `both`, as the code makes it.
use Rattle.std.specs.Prelude.{ℕ, suc, ◌+◌, ◌-◌, ◌*◌, ◌≤◌, ◌<◌, ◌≡◌, Bool, true, false, List, [], ◌∷◌, ◌++◌, leb, ℤ, length, get_or, take, drop, set, Err, Ok, Result}
use Rattle.std.proofs.Common.{arith, sym, ◌∙◌, subst, length-set, length-drop, take_all, take-suc-set, get_or-take, get_or-drop, length-take-le, le-leb, leb-true, leb-false}
use Rattle.std.proofs.Math.Path.{refl, ap}
use Rattle.std.proofs.Math.Seq.{take-length}
use Rattle.std.proofs.lemmas.Bool.{lt-leb}
use Rattle.parsing.specs.Bytes.{Bytes}
use Rattle.parsing.specs.Fields.{version_of, head}
use Rattle.parsing.specs.BytesAtLaws.{read_head}
use Rattle.file_head.specs.HeadLaws.{head_alike}
use Rattle.parsing.specs.Parser.{Parsed, read, refuse, Verdict, verdict_of, past_of}
use Rattle.parsing.specs.declared.Refusal.{Refusal}
use Rattle.memory.specs.LayLaws.{length_lay}
use Rattle.decimal.specs.WroteText.{WroteText}
use Rattle.parsing.specs.Refusals.{number_of}
use Rattle.text.specs.Text.{both_text, refused_text, no_header_text}
use Rattle.runs.specs.Stopped.{stopped_as}
use Rattle.runs.specs.Tells.{Tells, by_verdict}
use Rattle.procedure_layout.specs.Layout.{spf}
use Rattle.procedure_file.specs.Check.{check_of}
use Rattle.translator.specs.Translated.{translation_of, room_verdict}
use Rattle.agreement.specs.declared.Sides.{Sides}
use Rattle.agreement.specs.Sides.{SidesSummary, summary_of, meaning, sides_tell}
use Rattle.report.specs.Report.{pair_of, word_of, count_of, argument_at, arguments_of, depth_of, budget_of, header_of, sides_text, text_by, loaded_text, file_verdict, file_text, text_of}

-- ── Arguments ───────────────────────────────────────────────────────────────────────────────────

-- After i of n arguments.
pub record Filled (s : List ℕ) (n i : ℕ) (a₀ a : List ℤ) : Type 0 where
  pub counter_bound : i ≤ n
  pub front : take i a ≡ arguments_of s i
  pub same_length : length a ≡ length a₀

pub filled_none : (s : List ℕ) (n : ℕ) (a : List ℤ) → Filled s n 0 a a
filled_none s n a = record { counter_bound = omega arith; front = refl; same_length = refl }

pub filled_more : (s : List ℕ) (n i : ℕ) (a₀ a : List ℤ) {v w : ℤ} → Filled s n i a₀ a → i < n → n ≤ length a₀ → v ≡ argument_at s i → w ≡ v → Filled s n (i + 1) a₀ (set a i w)
filled_more s n i a₀ a {v} {w} F h l e q =
    let k : length a ≡ length a₀ = F.same_length in
    let j : i + 1 ≡ suc i = omega arith in
    record {
      counter_bound = omega arith;
      front =
          ap (λ (m : ℕ). take m (set a i w)) j
          ∙ (take-suc-set a i w (omega arith)
          ∙ (ap (λ (x : List ℤ). x ++ (w ∷ [])) F.front
          ∙ (ap (λ (x : ℤ). arguments_of s i ++ (x ∷ [])) (q ∙ e) ∙ ap (λ (m : ℕ). arguments_of s m) (sym j))));
      same_length = length-set a i w ∙ F.same_length;
    }

pub filled_all : (s : List ℕ) (n i : ℕ) (a₀ a : List ℤ) → Filled s n i a₀ a → n ≤ i → take n a ≡ arguments_of s n
filled_all s n i a₀ a F h =
    let l : i ≤ n = F.counter_bound in
    let e : i ≡ n = omega arith in
    subst (λ (k : ℕ). take k a ≡ arguments_of s k) e F.front

pub wrote_as : {at r : ℕ} {v w d d' : List ℕ} → v ≡ w → WroteText at v d r d' → WroteText at w d r d'
wrote_as {at} {r} {v} {w} {d} {d'} e W = subst (λ (x : List ℕ). WroteText at x d r d') e W

pub wrote_within : {at r : ℕ} {w d d' : List ℕ} → WroteText at w d r d' → r ≤ length d'
wrote_within {at} {r} {w} {d} {d'} W =
    let p : r ≡ at + length w = W.past in
    let i : r ≤ length d = W.within in
    let l : length d' ≡ length d = ap length W.same ∙ length_lay at w d (omega arith) in
    omega arith

-- ── What an answer of the call prints ───────────────────────────────────────────────────────────

pub meaning_refused : (version : ℕ) (a : Sides) {r : Refusal} → a.verdict ≡ Err r → refused_text (number_of r.reason) r.place ≡ sides_text version (meaning a)
unfolding sides_text
meaning_refused version a {r} e = ap (λ (v : Result (Unit {0}) Refusal). sides_text version (by_verdict (verdict_of v) (summary_of a))) (sym e)

pub meaning_both : (version : ℕ) (a : Sides) → a.verdict ≡ (Ok tt)
    → both_text version a.target (stopped_as a.bench.stopped) a.bench.steps (stopped_as a.controller.stopped) a.controller.steps ≡ sides_text version (meaning a)
unfolding sides_text
meaning_both version a e = ap (λ (v : Result (Unit {0}) Refusal). sides_text version (by_verdict (verdict_of v) (summary_of a))) (sym e)

-- ── A file ──────────────────────────────────────────────────────────────────────────────────────

-- By what a check answered.
pub checked_text : {c : Result (Unit {0}) Refusal} {v : Verdict} {r : Refusal} (text : List ℕ) → verdict_of c ≡ v → c ≡ Err r → refused_text (number_of r.reason) r.place ≡ text_by v text
checked_text text e q = ap (λ (v : Verdict). text_by v text) (ap verdict_of (sym q) ∙ e)

pub accepted_text : {c : Result (Unit {0}) Refusal} {v : Verdict} (text : List ℕ) → verdict_of c ≡ v → c ≡ (Ok tt) → text ≡ text_by v text
accepted_text text e q = ap (λ (v : Verdict). text_by v text) (ap verdict_of (sym q) ∙ e)

module _ (s : List ℕ) (args : List ℤ) (depth budget : ℕ) where
  -- The room for the translation.
  module _ {n : ℕ} (is : n ≡ length (translation_of s)) {c : Result (Unit {0}) Refusal} (e : verdict_of c ≡ room_verdict n 8192) where
    pub room_refused : {r : Refusal} → c ≡ Err r → refused_text (number_of r.reason) r.place ≡ loaded_text s args depth budget
    unfolding loaded_text
    room_refused q = checked_text _ (e ∙ ap (λ (k : ℕ). room_verdict k 8192) is) q

    pub loaded_sides : c ≡ (Ok tt) → {t : Tells SidesSummary} {v : ℕ} (f r k : ℕ) → v ≡ version_of s → t ≡ sides_tell s 0 args depth budget f r k → f ≡ 12288 → r ≡ 8192 → k ≡ 12288 → sides_text v t ≡ loaded_text s args depth budget
    unfolding loaded_text
    loaded_sides q {t} f r k ev g ef er ek = ap (λ (n : ℕ). sides_text n t) ev ∙ ap (sides_text (version_of s)) (g ∙ cc (ef, er, ek)) ∙ accepted_text _ (e ∙ ap (λ (k : ℕ). room_verdict k 8192) is) q

  -- The head by the limit of `both`, then the file's own checks.
  module _ {x : Result ℕ Refusal} (h : x ≡ past_of (head spf 2048 s 0)) where
    pub head_refused : {r : Refusal} → x ≡ Err r → refused_text (number_of r.reason) r.place ≡ file_text s args depth budget
    unfolding file_text file_verdict
    head_refused q = rw (sym h ∙ q) refl

    module _ {next : ℕ} (q : x ≡ Ok next) {c : Result (Unit {0}) Refusal} (e : verdict_of c ≡ check_of s) where
      pub file_refused : {r : Refusal} → c ≡ Err r → refused_text (number_of r.reason) r.place ≡ file_text s args depth budget
      unfolding file_text file_verdict
      file_refused k = rw (sym h ∙ q) (checked_text _ e k)

      pub file_loaded : c ≡ (Ok tt) → loaded_text s args depth budget ≡ file_text s args depth budget
      unfolding file_text file_verdict
      file_loaded k = rw (sym h ∙ q) (accepted_text _ e k)

-- ── An input ────────────────────────────────────────────────────────────────────────────────────

pub no_byte : (s : List ℕ) → length s < 1 → no_header_text ≡ text_of s
unfolding text_of
no_byte [] h = refl
no_byte (x ∷ s) h = absurd (omega arith)

pub no_header : (s : List ℕ) → length s < header_of s → no_header_text ≡ text_of s
unfolding text_of
no_header s h = rw (lt-leb (header_of s) (length s) h) refl

pub with_header : (s : List ℕ) → header_of s ≤ length s → {k depth budget : ℕ} {args : List ℤ} → k ≡ length s - header_of s → args ≡ arguments_of s (count_of s)
    → depth ≡ pair_of (get_or s (4 * count_of s + 1) 0) (get_or s (4 * count_of s + 1 + 1) 0)
    → budget ≡ word_of (get_or s (4 * count_of s + 3) 0) (get_or s (4 * count_of s + 3 + 1) 0) (get_or s (4 * count_of s + 3 + 2) 0) (get_or s (4 * count_of s + 3 + 3) 0)
    → file_text (take k (drop (header_of s) s)) args depth budget ≡ text_of s
unfolding text_of depth_of budget_of
with_header s h {k} {depth} {budget} {args} ek ea ed eb = rw (le-leb (header_of s) (length s) h) (cc (whole, ea, ed, eb))
  where
    whole : take k (drop (header_of s) s) ≡ drop (header_of s) s
    whole = ap (λ (m : ℕ). take m (drop (header_of s) s)) (ek ∙ sym (length-drop (header_of s) s)) ∙ take-length (drop (header_of s) s)

-- ── What is left unread changes nothing ─────────────────────────────────────────────────────────

-- An input with more than 2,048 bytes behind its header: a refusal of its head is its text.
long_input : (s : List ℕ) → header_of s + 2048 < length s → {r : Refusal} → head spf 2048 (drop (header_of s) s) 0 ≡ refuse r → refused_text (number_of r.reason) r.place ≡ text_of s
unfolding text_of
long_input s h e =
    rw (le-leb (header_of s) (length s) (omega arith))
    (head_refused (drop (header_of s) s) (arguments_of s (count_of s)) (depth_of s) (budget_of s) refl (ap past_of e))

-- An input of more than 4,096 bytes, and its first 4,096: the same head stands behind both headers, and is refused.
module _ (s : List ℕ) (bytes : Bytes s) (long : 4096 < length s) where
  header_first : header_of (take 4096 s) ≡ header_of s
  header_first = ap (λ (n : ℕ). 4 * n + 7) (get_or-take 4096 s 0 0 (omega arith))

  length_first : length (take 4096 s) ≡ 4096
  length_first = length-take-le 4096 s (omega arith)

  header_bound : header_of s < 1028
  header_bound = let b : count_of s < 256 = bytes 0 in omega arith

  byte_first : (i : ℕ) → i < 5 → get_or (drop (header_of (take 4096 s)) (take 4096 s)) i 0 ≡ get_or (drop (header_of s) s) i 0
  byte_first i h =
      rw (header_first, get_or-drop (header_of s) (take 4096 s) i 0, get_or-drop (header_of s) s i 0) (get_or-take 4096 s (header_of s + i) 0 (omega (arith, header_bound)))

  head_first : head spf 2048 (drop (header_of (take 4096 s)) (take 4096 s)) 0 ≡ head spf 2048 (drop (header_of s) s) 0
  head_first =
      head_alike _ _ spf 2048 (omega arith)
      (omega (arith, length-drop (header_of (take 4096 s)) (take 4096 s), header_first, length_first, header_bound))
      (omega (arith, length-drop (header_of s) s, header_bound)) byte_first

  first_text : (x : Parsed (Unit {0})) → head spf 2048 (drop (header_of s) s) 0 ≡ x → text_of (take 4096 s) ≡ text_of s
  first_text (read u next) e = absurd (omega (arith, (read_head (drop (header_of s) s) spf 2048 e).0, length-drop (header_of s) s, header_bound))
  first_text (refuse r) e =
      sym (long_input (take 4096 s) (omega (arith, header_first, length_first, header_bound)) (head_first ∙ e)) ∙ long_input s (omega (arith, header_bound)) e

-- The first 4,096 bytes of an input make its text.
pub whole_input : (s : List ℕ) → Bytes s → text_of (take 4096 s) ≡ text_of s
whole_input s bytes = by (leb (length s) 4096) refl
  where
    by : (c : Bool) → leb (length s) 4096 ≡ c → text_of (take 4096 s) ≡ text_of s
    by true e = ap text_of (take_all 4096 s (leb-true (length s) 4096 e))
    by false e = first_text s bytes (leb-false (length s) 4096 e) (head spf 2048 (drop (header_of s) s) 0) refl
