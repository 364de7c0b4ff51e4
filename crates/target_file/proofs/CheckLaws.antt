-- Laws of the checker's answer, as the functions that give it meet them.
use Rattle.std.specs.Prelude.{ℕ, ◌≡◌, true, length, take, Err, Ok}
use Rattle.std.proofs.Common.{ap, ◌∙◌}
use Rattle.std.proofs.Math.Bool.{false}
use mathlib.Core.List.{List, []}
use Rattle.parsing.specs.declared.Refusal.{Refusal}
use Rattle.parsing.specs.Parser.{Parsed, past_of, accepted, refused}
use Rattle.parsing.specs.ParserLaws.{past_read, past_refuse}
use Rattle.target_layout.specs.Layout.{code}
use Rattle.target_layout.specs.FileLaws.{read_code}
use Rattle.target_file.specs.Check.{verdict, arities, check_of, code_of}

module _ {A : Type 0} (x : Parsed A) where
  pub verdict_past : (n : ℕ) → past_of x ≡ Ok n → accepted ≡ verdict x
  verdict_past n e = rw (past_read x e).is

  pub verdict_stop : (r : Refusal) → past_of x ≡ Err r → refused r.reason r.place ≡ verdict x
  verdict_stop r e = rw (past_refuse x e)

module _ (s : List ℕ) where
  -- Names are judged among the functions of the table.
  module _ (ps params : List ℕ) (n : ℕ) (is : n ≡ length (code_of s)) (part : ps ≡ take n params) (counts : take (length (code_of s)) params ≡ arities (code_of s)) where
    table : ps ≡ arities (code_of s)
    table = part ∙ ap (λ (i : ℕ). take i params) is ∙ counts

    pub names_past : (m : ℕ) → past_of (code true ps s 0) ≡ Ok m → accepted ≡ verdict (code true (arities (code_of s)) s 0)
    names_past m e = verdict_past (code true ps s 0) m e ∙ ap (λ l. verdict (code true l s 0)) table

    pub names_stop : (r : Refusal) → past_of (code true ps s 0) ≡ Err r → refused r.reason r.place ≡ verdict (code true (arities (code_of s)) s 0)
    names_stop r e = verdict_stop (code true ps s 0) r e ∙ ap (λ l. verdict (code true l s 0)) table

  pub check_stop : (r : Refusal) → past_of (code false [] s 0) ≡ Err r → refused r.reason r.place ≡ check_of s
  unfolding check_of
  check_stop r e = rw (past_refuse (code false [] s 0) e)

  pub check_names : (n : ℕ) → past_of (code false [] s 0) ≡ Ok n → verdict (code true (arities (code_of s)) s 0) ≡ check_of s
  unfolding check_of code_of
  check_names n e = let r = past_read (code false [] s 0) e in rw (r.is, (read_code false [] s r.is).2)
