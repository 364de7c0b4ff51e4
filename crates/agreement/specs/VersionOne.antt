-- Document 02, Slip 7, over files: "Version 1 files translate and run as ever." A name that ends in ₁ is a rule as it was before that request: VersionOne
-- of crate `semantics`. VersionOneLaws.antt proves it.
use Rattle.std.specs.Prelude.{ℕ, ◌≡◌, List, ℤ, length}
use Rattle.semantics.specs.Run.{summary}
use Rattle.semantics.specs.Program.{FunctionNumber}
use Rattle.semantics.specs.Bench.{bench}
use Rattle.semantics.specs.Controller.{controller}
use Rattle.semantics.specs.VersionOne.{bench₁, extras₁, translate₁, controller₁, ReportsZero}
use Rattle.parsing.specs.Parser.{accepted}
use Rattle.parsing.specs.Fields.{version_of}
use Rattle.parsing.specs.Bytes.{Bytes}
use Rattle.procedure_file.specs.Check as Procedure
use Rattle.target_file.specs.Check as Target
use Rattle.target_file.specs.Writing.{writing}
use Rattle.translator.specs.Translated.{translation_of}
use Rattle.runs.specs.Tells.{by_verdict}
use Rattle.bench.specs.Published.{bench_verdict, bench_tells}
use Rattle.controller.specs.Published.{controller_verdict, controller_tells}

-- Of a procedure file: the bytes of its translation, what the bench answers to every call (the same refusal; or end, steps and extras), and that a run
-- that ends uncaught reports 0.
pub record ProcedureAsEver (s : List ℕ) : Type 0 where
  pub translation : translation_of s ≡ writing (translate₁ (Procedure.program_of s))
  pub answers : (f : FunctionNumber) (args : List ℤ) (depth budget words : ℕ)
      → bench_tells s f args depth budget words
      ≡ by_verdict (bench_verdict s f (length args) depth words)
      (record { result = summary (bench₁ (Procedure.program_of s) f args depth budget); extras = extras₁ (Procedure.program_of s) f args depth budget })
  pub uncaught : (f : FunctionNumber) (args : List ℤ) (depth : ℕ) → ReportsZero (bench (Procedure.program_of s) f args depth)

-- Of a translated file, hand-written too: what the controller answers to every call, and that a run that ends uncaught reports 0.
pub record CodeAsEver (t : List ℕ) : Type 0 where
  pub answers : (g : ℕ) (args : List ℤ) (depth budget words : ℕ)
      → controller_tells t g args depth budget words ≡ by_verdict (controller_verdict t g (length args) depth words) (summary (controller₁ (Target.code_of t) g args depth budget))
  pub uncaught : (g : ℕ) (args : List ℤ) (depth : ℕ) → ReportsZero (controller (Target.code_of t) g args depth)

-- For every accepted file of version 1.
pub record AsEver : Type 0 where
  pub procedures : (s : List ℕ) → Bytes s → Procedure.check_of s ≡ accepted → version_of s ≡ 1 → ProcedureAsEver s
  pub translated_files : (t : List ℕ) → Bytes t → Target.check_of t ≡ accepted → version_of t ≡ 1 → CodeAsEver t
