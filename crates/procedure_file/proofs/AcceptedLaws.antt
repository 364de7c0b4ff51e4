-- The proof of demand 1 for procedure files.
use Rattle.std.specs.Prelude.{ℕ, ◌≤◌, ◌≡◌, List, length}
use Rattle.std.proofs.Math.Path.{refl, ap}
use Rattle.std.proofs.Common.{sym, ◌∙◌}
use Rattle.parsing.specs.ParserLaws.{impossible}
use Rattle.parsing.specs.Parser.{Parsed, read, refuse, accepted}
use Rattle.semantics.specs.Program.{Program}
use Rattle.procedure_layout.specs.Layout.{program}
use Rattle.procedure_layout.proofs.LayoutLaws.{program_fits}
use Rattle.procedure_names.specs.Writing.{writing}
use Rattle.procedure_names.specs.Names.{names_of, first_wrong}
use Rattle.procedure_file.specs.Check.{named, check_of, program_read, program_of}
use Rattle.parsing.specs.Bytes.{Bytes}
use Rattle.procedure_file.specs.Accepted.{HasFile, Acceptance}
use Rattle.procedure_file.specs.WrittenLaws.{ReadProgram, read_program, written, in_range_lem}
use Rattle.procedure_file.specs.ReadsBackLaws.{reads_program}
use Rattle.procedure_file.proofs.BytesLaws.{writing_bytes}
use Rattle.procedure_names.specs.NamesLaws.{names_right, names_formed}
use Rattle.procedure_file.specs.Loaded.{Laid}

-- What is read of it.
pub laid_reads : {s : List ℕ} → Laid s → ReadProgram s (program_of s)
laid_reads {s} L = read_program s L.bytes (program_of s) L.past L.layout

module _ (s : List ℕ) (bytes : Bytes s) where
  pub laid_by : (P : Program) (next : ℕ) → program s 0 ≡ read P next → length s ≤ 32768 → Laid s × (program_of s ≡ P)
  unfolding program_of
  laid_by P next e l =
      let p : program_of s ≡ P = ap program_read e in
      (record { bytes = bytes; file_bound = l; past = next; layout = e ∙ ap (λ (Q : Program). read Q next) (sym p) }, p)

-- What the checker answers, by its parts.
module _ (s : List ℕ) where
  pub check_layout : check_of s ≡ named (program s 0)
  unfolding check_of
  check_layout = refl

  pub record Passed : Type 0 where
    pub file_bound : length s ≤ 32768
    pub what : Program
    pub next : ℕ
    pub reads : program s 0 ≡ read what next
    pub right : first_wrong (names_of what) ≡ accepted

  pub passed : check_of s ≡ accepted → Passed
  unfolding check_of
  passed e = go (program s 0) refl e
    where
      go : (x : Parsed Program) → program s 0 ≡ x → named x ≡ accepted → Passed
      go (read P next) r w = record { file_bound = program_fits s r; what = P; next = next; reads = r; right = w }
      go (refuse q) r w = impossible (cc)

pub is_writing_lem : (s : List ℕ) → Bytes s → check_of s ≡ accepted → HasFile (program_of s) × (s ≡ writing (program_of s))
is_writing_lem s bytes e =
    let a = passed s e in
    let l = laid_by s bytes a.what a.next a.reads a.file_bound in
    let w = written s bytes (program_of s) (laid_reads l.0) in
    let f : first_wrong (names_of (program_of s)) ≡ accepted = ap (λ (P : Program). first_wrong (names_of P)) l.1 ∙ a.right in (
      record {
        in_range = in_range_lem s bytes (program_of s) (laid_reads l.0);
        well_formed = names_formed (program_of s) f;
        fits = rw (← w) a.file_bound;
      },
      w,
    )

pub is_accepted_lem : (P : Program) → HasFile P → (check_of (writing P) ≡ accepted) × (program_of (writing P) ≡ P)
unfolding program_of
is_accepted_lem P h =
    let r = reads_program P h.in_range h.fits in
    (check_layout (writing P) ∙ ap named r ∙ names_right P h.well_formed, ap program_read r)

pub acceptance : Acceptance
acceptance =
    record {
      exactly = λ s bytes. (
        (λ e. (program_of s, (is_writing_lem s bytes e).0, (is_writing_lem s bytes e).1)),
        (λ w. ap check_of w.2 ∙ (is_accepted_lem w.0 w.1).0),
      );
      is_writing = is_writing_lem;
      is_accepted = is_accepted_lem;
      is_bytes = writing_bytes;
      is_unique = λ P Q p q e. sym (is_accepted_lem P p).1 ∙ ap program_of e ∙ (is_accepted_lem Q q).1;
    }
