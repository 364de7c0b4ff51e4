-- Laws of finding a block, as the functions meet them.
use Rattle.parsing.specs.declared.reason.Reason.TheVariants.{MissingFunction, MissingLabel}
use Rattle.std.specs.Prelude.{ℕ, zero, suc, ◌-◌, ◌≤◌, ◌<◌, ◌≡◌, refl, Bool, true, false, cond, List, [], leb, ltb, get_or, drop, Err, Ok, Result}
use Rattle.std.proofs.Math.Path.{sym, ap}
use Rattle.std.proofs.Common.{ap₂, ◌∙◌, subst, arith, leb-true, le-leb, ltb-true, lt-ltb, le-ltb}
use Rattle.std.proofs.lemmas.Bool.{lt-leb}
use Rattle.std.proofs.Math.ListN.{length, take}
use Rattle.std.proofs.Math.Seq.{take_at}
use Rattle.std.specs.Result.{is_ok}
use Rattle.parsing.specs.declared.Refusal.{Refusal}
use Rattle.parsing.specs.Bytes.{Bytes}
use Rattle.parsing.specs.ParserLaws.{impossible}
use Rattle.parsing.specs.Parser.{Verdict, accepted, refused, or_else, verdict_of, refusal}
use Rattle.parsing.specs.BytesAtLaws.{BytesAt, bytes_at_cons, bytes_at_join}
use Rattle.parsing.specs.Fields.{version_of}
use Rattle.semantics.specs.Program.{Program, function_of}
use Rattle.procedure_layout.specs.Layout.{block, bytes_before}
use Rattle.procedure_names.specs.Writing.{labelled_bytes}
use Rattle.procedure_layout.specs.After.{end_of}
use Rattle.procedure_file.specs.Check.{check_of, program_of}
use Rattle.procedure_file.specs.Places.{label_place, start_of, no_labelled}
use Rattle.procedure_file.specs.Loaded.{Laid}
use Rattle.procedure_file.proofs.AcceptedLaws.{laid_reads, passed, laid_by}
use Rattle.procedure_file.specs.WrittenLaws.{bytes_at_block}
use Rattle.procedure_file.specs.PlacesLaws.{block_inside, version_is_lem, start_at, label_at}
use Rattle.procedure_file.proofs.TableLaws.{end_is, start_behind}
use Rattle.procedure_lookup.specs.declared.Place.{Place}
use Rattle.procedure_lookup.specs.Lookup.{block_there, lookup_of, stretch, stretch_by, stretch_of, stretch_start, place_by, place_of, part_at}

abbrev pub place : ℕ → ℕ → Place
place a b = record { from = a; to = b }

-- By the table.
module _ (s : List ℕ) (L : Laid s) (f l : ℕ) where
  abbrev P : Program
  P = program_of s

  pub find_none : length P ≤ f → Err (refusal MissingFunction 0) ≡ place_by (block_there P f l) P f l
  find_none h = rw (le-ltb f (length P) h)

  module _ (there : f < length P) where
    pub find_label : length (function_of P f).blocks < l → Err (refusal MissingLabel 0) ≡ place_by (block_there P f l) P f l
    find_label h = rw (lt-ltb f (length P) there, lt-leb l (length (function_of P f).blocks) h)

    module _ (known : l ≤ length (function_of P f).blocks) (x to : ℕ) (start : x ≡ start_of P f l) (past : to ≡ end_of (block s x)) where
      found : (k a : ℕ) → k ≡ l → a ≡ stretch_start P f k → Ok (place a to) ≡ place_by (block_there P f l) P f l
      found k a e h =
          ap₂ (λ (i j : ℕ). Ok (place i j)) (h ∙ ap (stretch_start P f) e) (past ∙ ap (λ (y : ℕ). end_of (block s y)) start ∙ end_is s L f there l known)
          ∙ rw (lt-ltb f (length P) there, le-leb l (length (function_of P f).blocks) known)

      pub find_entry : l ≡ 0 → Ok (place x to) ≡ place_by (block_there P f l) P f l
      find_entry z = found 0 x (sym z) (start ∙ ap (start_of P f) z)

      pub find_labelled : (b : ℕ) → b ≡ bytes_before (version_of s) → (l ≡ 0 → ⊥) → Ok (place (x - b) to) ≡ place_by (block_there P f l) P f l
      find_labelled b e n = found l (x - b) refl (ap (λ (y : ℕ). y - b) start ∙ before l n)
        where
          before : (k : ℕ) → (k ≡ 0 → ⊥) → start_of P f k - b ≡ stretch_start P f k
          before zero m = absurd (m refl)
          before (suc k) m = omega (arith, e, start_behind s L f there k)

-- After the file's checks.
module _ (s : List ℕ) (f l : ℕ) where
  pub place_refused : (r : Result (Unit {0}) Refusal) (q : Refusal) → verdict_of r ≡ check_of s → r ≡ Err q → Err q ≡ place_of s f l
  unfolding place_of lookup_of
  place_refused r q e x = rw (← e, x)

  pub place_found : (g k : ℕ) → g ≡ f → k ≡ l → check_of s ≡ accepted → place_by (block_there (program_of s) g k) (program_of s) g k ≡ place_of s f l
  unfolding place_of lookup_of
  place_found g k eg ek e = rw (e, eg, ek)

  -- What the place tells of the lookup.
  by_place : (v : Verdict) (P : Program) (q : Refusal) → place_by v P f l ≡ Err q → v ≡ refused q.reason q.place
  by_place accepted P q e = impossible (cc)
  by_place (refused n p) P q e =
      let h : refusal n p ≡ q = cc in ap₂ refused (ap (λ (k : Refusal). k.reason) h) (ap (λ (k : Refusal). k.place) h)

  at_place : (v : Verdict) (P : Program) (a b : ℕ) → place_by v P f l ≡ Ok (place a b) → (v ≡ accepted) × (a ≡ stretch_start P f l) × (b ≡ label_place P f l)
  at_place accepted Q a b e =
      let h : place a b ≡ place (stretch_start Q f l) (label_place Q f l) = cc in
      (refl, ap (λ (p : Place). p.from) h, ap (λ (p : Place). p.to) h)
  at_place (refused n p) Q a b e = impossible (cc)

  pub lookup_none : (q : Refusal) → place_of s f l ≡ Err q → refused q.reason q.place ≡ lookup_of s f l
  unfolding place_of
  lookup_none q e = sym (by_place (lookup_of s f l) (program_of s) q e)

  pub lookup_some : (a b : ℕ) → place_of s f l ≡ Ok (place a b) → accepted ≡ lookup_of s f l
  unfolding place_of
  lookup_some a b e = sym (at_place (lookup_of s f l) (program_of s) a b e).0

  -- The answer that keeps of a place no more than its refusal.
  pub lookup_told : (p : Result Place Refusal) (r : Result (Unit {0}) Refusal) → p ≡ place_of s f l
      → ((q : Refusal) → p ≡ Err q → r ≡ Err q) → is_ok r ≡ is_ok p → verdict_of r ≡ lookup_of s f l
  lookup_told (Ok p) (Ok u) e k v = lookup_some p.from p.to (sym e)
  lookup_told (Ok p) (Err q) e k v = impossible (cc)
  lookup_told (Err q) r e k v = ap verdict_of (k q refl) ∙ lookup_none q (sym e)

  pub stretch_none : (q : Refusal) → place_of s f l ≡ Err q → ([] ≡ part_at s (place_of s f l)) × ([] ≡ stretch_of s f l)
  unfolding stretch_of place_of
  stretch_none q e = (sym (ap (part_at s) e), rw (by_place (lookup_of s f l) (program_of s) q e))

  -- The stretch is the block's bytes.
  accepted_both : (v u : Verdict) → or_else v u ≡ accepted → (v ≡ accepted) × (u ≡ accepted)
  accepted_both accepted u e = (refl, e)
  accepted_both (refused n p) u e = impossible (cc)

  there_both : (t u : Bool) → cond t (cond u accepted (refused MissingLabel 0)) (refused MissingFunction 0) ≡ accepted → (t ≡ true) × (u ≡ true)
  there_both true true e = (refl, refl)
  there_both true false e = impossible (cc)
  there_both false u e = impossible (cc)

  stretch_bytes_at : (L : Laid s) (k : ℕ) (h : f < length (program_of s)) → k ≤ length (function_of (program_of s) f).blocks
      → BytesAt s (stretch_start (program_of s) f k) (label_place (program_of s) f k) (stretch (function_of (program_of s) f) k) × (label_place (program_of s) f k ≤ length s)
  stretch_bytes_at L zero h m =
      let b = start_at s L.bytes (program_of s) (laid_reads L) f h 0 m in
      (bytes_at_block s L.bytes b, (block_inside s b).1)
  stretch_bytes_at L (suc k) h m =
      let P = program_of s in
      let B = label_at s L.bytes P (laid_reads L) f h k m in
      let b : BytesAt s (label_place P f k) (label_place P f (suc k)) (labelled_bytes (version_of s) (get_or (function_of P f).blocks k no_labelled)) =
      rw B.handler_is (bytes_at_cons s B.inside (bytes_at_join s B.receives.bytes (bytes_at_block s L.bytes B.block))) in (
        subst (λ (v : ℕ). BytesAt s (label_place P f k) (label_place P f (suc k)) (labelled_bytes v (get_or (function_of P f).blocks k no_labelled))) (sym (version_is_lem s L.bytes P (laid_reads L) f h)) b,
        (block_inside s B.block).1,
      )

  pub record Stretch (a b : ℕ) : Type 0 where
    pub order : a ≤ b
    pub inside : b ≤ length s
    pub bytes : (take (b - a) (drop a s) ≡ part_at s (place_of s f l)) × (take (b - a) (drop a s) ≡ stretch_of s f l)

  pub stretch_some : Bytes s → (a b : ℕ) → place_of s f l ≡ Ok (place a b) → Stretch a b
  unfolding stretch_of place_of lookup_of
  stretch_some bytes a b e =
      let p = at_place (lookup_of s f l) (program_of s) a b e in
      let v = accepted_both (check_of s) (block_there (program_of s) f l) p.0 in
      let t = there_both (ltb f (length (program_of s))) (leb l (length (function_of (program_of s) f).blocks)) v.1 in
      let q = passed s v.0 in
      let L = (laid_by s bytes q.what q.next q.reads q.file_bound).0 in
      let w = stretch_bytes_at L l (ltb-true f (length (program_of s)) t.0) (leb-true l (length (function_of (program_of s) f).blocks) t.1) in
      let x : b - a ≡ length (stretch (function_of (program_of s) f) l) = omega (arith, p.1, p.2, w.0.past) in
      record {
        order = omega (arith, p.1, p.2, w.0.past);
        inside = omega (arith, p.2, w.1);
        bytes = (
          sym (ap (part_at s) e),
          ap (λ (k : ℕ). take (b - a) (drop k s)) p.1 ∙ ap (take (b - a)) w.0.stands ∙ take_at (stretch (function_of (program_of s) f) l) (drop (label_place (program_of s) f l) s) (b - a) (sym x)
              ∙ sym (ap (λ (u : Verdict). stretch_by u (stretch (function_of (program_of s) f) l)) p.0),
        );
      }
