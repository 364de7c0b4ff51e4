-- Laws of checking and loading, as the functions meet them.
use Rattle.std.specs.Prelude.{ℕ, ◌≡◌, refl, List, Err, Ok, Result}
use Rattle.std.proofs.Common.{sym, ap, ◌∙◌, subst}
use Rattle.parsing.specs.declared.reason.Reason.{Reason}
use Rattle.parsing.specs.declared.Refusal.{Refusal}
use Rattle.parsing.specs.Bytes.{Bytes}
use Rattle.parsing.specs.Parser.{Verdict, accepted, refused, past_of, verdict_of}
use Rattle.parsing.specs.ParserLaws.{past_read, past_refuse}
use Rattle.procedure_layout.specs.Layout.{program}
use Rattle.procedure_layout.proofs.LayoutLaws.{program_fits}
use Rattle.procedure_names.specs.Names.{names_of, first_wrong}
use Rattle.procedure_file.specs.Check.{named, check_of, program_of}
use Rattle.procedure_file.specs.Table.{Table}
use Rattle.procedure_file.specs.Loaded.{Laid, LoadedOr}
use Rattle.procedure_file.proofs.AcceptedLaws.{laid_by, check_layout}

module _ (s starts : List ℕ) where
  load_refused : (n : Reason) (p : ℕ) → refused n p ≡ check_of s → (refused n p ≡ check_of s) × LoadedOr (check_of s) s starts starts
  load_refused n p e = (e, subst (λ (v : Verdict). LoadedOr v s starts starts) e refl)

  pub load_stopped : (r : Refusal) → past_of (program s 0) ≡ Err r → (refused r.reason r.place ≡ check_of s) × LoadedOr (check_of s) s starts starts
  load_stopped r e = load_refused r.reason r.place (sym (check_layout s ∙ ap named (past_refuse (program s 0) e)))

  pub layout_whole : Bytes s → (next : ℕ) → past_of (program s 0) ≡ Ok next → Laid s
  layout_whole bytes next whole = let r = past_read (program s 0) whole in (laid_by s bytes r.what next r.is (program_fits s r.is)).0

  -- Behind a whole layout, names decide.
  module _ (L : Laid s) (r : Result (Unit {0}) Refusal) (bare_stop : verdict_of r ≡ first_wrong (names_of (program_of s))) where
    check_named : verdict_of r ≡ check_of s
    check_named = bare_stop ∙ sym (check_layout s ∙ ap named L.layout)

    pub load_wrong : (q : Refusal) → r ≡ Err q
        → (refused q.reason q.place ≡ check_of s) × LoadedOr (check_of s) s starts starts
    load_wrong q x = load_refused q.reason q.place (sym (ap verdict_of x) ∙ check_named)

    pub load_right : (filled : List ℕ) → r ≡ (Ok tt) → Table (program_of s) filled → (accepted ≡ check_of s) × LoadedOr (check_of s) s starts filled
    load_right filled x t =
        let h : accepted ≡ check_of s = sym (ap verdict_of x) ∙ check_named in
        (h, subst (λ (v : Verdict). LoadedOr v s starts filled) h (record { tabled = record { laid = L; table = t }; is_accepted = sym h }))
