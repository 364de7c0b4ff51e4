-- Document 02, Slip 7: accepted files of version 1 translate and run as before that request.
use Rattle.std.specs.Prelude.{ℕ, ◌≡◌, refl, List, [], ◌∷◌, length}
use Rattle.std.proofs.Common.{arith, sym, ap, ◌∙◌, subst}
use Rattle.std.proofs.Math.Option.{Option, none, some}
use Rattle.semantics.specs.Program.{Variable, Block, constant, copy, difference, call, goto, return, branch, raise, Labelled, Function, program_version}
use Rattle.semantics.specs.Run.{Result, summary}
use Rattle.semantics.specs.WellFormed.{All}
use Rattle.semantics.specs.Code.{Slot, Expr, let_constant, let_slot, let_difference, jump, resume, handle, if_at_most, let_continuation, let_continuation_with_handler, let_difference_or_raise, Target}
use Rattle.semantics.specs.Controller.{Control, code_version}
use Rattle.semantics.specs.VersionOne.{BlockOne, ProgramOne, ExprOne, CodeOne}
use Rattle.semantics.proofs.VersionOneLaws.{version_one}
use Rattle.parsing.specs.Parser.{accepted}
use Rattle.parsing.specs.Fields.{version_of}
use Rattle.parsing.specs.Bytes.{Bytes}
use Rattle.target_tags.specs.Tag.{number_width}
use Rattle.procedure_names.specs.Writing.{ValuesFit, ReceiverFits, LabelledFits, FunctionInRange}
use Rattle.procedure_names.specs.Writing as ProcedureWriting
use Rattle.procedure_file.specs.Check as Procedure
use Rattle.procedure_file.proofs.AcceptedLaws as ProcedureLaws
use Rattle.target_file.specs.Check as Target
use Rattle.target_file.specs.Writing.{slot_width, FieldsFit, TargetInRange, writing}
use Rattle.target_file.proofs.AcceptedLaws as TargetLaws
use Rattle.translator.specs.Translated.{translation_of}
use Rattle.runs.specs.Tells.{by_verdict}
use Rattle.bench.specs.Published.{bench_verdict, bench_tells}
use Rattle.controller.specs.Published.{controller_verdict, controller_tells}
use Rattle.agreement.specs.VersionOne.{ProcedureAsEver, CodeAsEver, AsEver}

-- ── What has version 1 has no part of version 2 ─────────────────────────────────────────────────

block_one : (b : Block) → ValuesFit 1 b → BlockOne b
block_one (constant x i b) f = block_one b f.1
block_one (copy x y b) f = block_one b f
block_one (difference x y z b) f = block_one b f
block_one (call x g ys b) f = block_one b f
block_one (goto l) f = tt
block_one (return x) f = tt
block_one (branch y z l m) f = tt
block_one (raise none) f = refl
block_one (raise (some x)) f = absurd (omega arith)

receiver_one : (r : Option Variable) → ReceiverFits 1 r → r ≡ none
receiver_one none f = refl
receiver_one (some x) f = let e = f.0 in absurd (omega (arith, e))

blocks_one : (Bs : List Labelled) → All (LabelledFits 1) Bs → All (λ B. (B.receiver ≡ none) × BlockOne B.block) Bs
blocks_one [] a = tt
blocks_one (B ∷ Bs) a = ((receiver_one B.receiver a.0.0, block_one B.block a.0.1), blocks_one Bs a.1)

functions_one : (Fs : List Function) → All (FunctionInRange 1) Fs → ProgramOne Fs
functions_one [] a = tt
functions_one (F ∷ Fs) a = (
  record { version = a.0.version_is; entry = block_one F.entry a.0.entry_values; blocks = blocks_one F.blocks a.0.block_values },
  functions_one Fs a.1,
)

program_one : (s : List ℕ) → Bytes s → Procedure.check_of s ≡ accepted → version_of s ≡ 1 → ProgramOne (Procedure.program_of s)
unfolding ProcedureWriting.writing
program_one s bytes ok one =
    let P = Procedure.program_of s in
    let w = ProcedureLaws.is_writing_lem s bytes ok in
    let v : program_version P ≡ 1 = sym (ap version_of w.1) ∙ one in
    functions_one P (subst (λ (n : ℕ). All (FunctionInRange n) P) v w.0.in_range.functions)

slot_one : (y : Option Slot) → slot_width y ≡ number_width 1 → y ≡ none
unfolding number_width
slot_one none e = refl
slot_one (some y) e = absurd (omega arith)

expr_one : (e : Expr) → FieldsFit 1 e → ExprOne e
expr_one (let_constant x i e) f = expr_one e f.1
expr_one (let_slot x y e) f = expr_one e f
expr_one (let_difference x y z e) f = expr_one e f
expr_one (jump g k h ss) f = tt
expr_one (resume k y) f = tt
expr_one (handle h y) f = slot_one y f.0
expr_one (if_at_most y z e₁ e₂) f = (expr_one e₁ f.0, expr_one e₂ f.1)
expr_one (let_continuation x p e k) f = (expr_one e f.0, expr_one k f.1)
expr_one (let_continuation_with_handler x p t q e h k) f = (slot_one q f.0, expr_one e f.1.0, expr_one h f.1.1.0, expr_one k f.1.1.1)
expr_one (let_difference_or_raise x y z r e) f = (expr_one r f.0, expr_one e f.1)

targets_one : (Q : List Target) → All (TargetInRange 1) Q → CodeOne Q
targets_one [] a = tt
targets_one (D ∷ Q) a = (expr_one D.body a.0.fields, targets_one Q a.1)

code_one : (t : List ℕ) → Bytes t → Target.check_of t ≡ accepted → version_of t ≡ 1 → CodeOne (Target.code_of t)
unfolding writing
code_one t bytes ok one =
    let Q = Target.code_of t in
    let w = TargetLaws.is_writing_lem t bytes ok in
    let v : code_version Q ≡ 1 = sym (ap version_of w.1) ∙ one in
    targets_one Q (subst (λ (n : ℕ). All (TargetInRange n) Q) v w.0.in_range.targets)

-- ── The statement ───────────────────────────────────────────────────────────────────────────────

procedures : (s : List ℕ) → Bytes s → Procedure.check_of s ≡ accepted → version_of s ≡ 1 → ProcedureAsEver s
unfolding translation_of bench_tells
procedures s bytes ok one =
    let P = Procedure.program_of s in
    let p : ProgramOne P = program_one s bytes ok one in
    record {
      translation = ap writing (version_one.translates P p);
      answers = λ f args depth budget words.
          let r = (version_one.bench P p f args depth).0 budget in
          λ i. by_verdict (bench_verdict s f (length args) depth words) (record { result = summary (r.0 i); extras = r.1 i });
      uncaught = λ f args depth. (version_one.bench P p f args depth).1;
    }

translated_files_lem : (t : List ℕ) → Bytes t → Target.check_of t ≡ accepted → version_of t ≡ 1 → CodeAsEver t
unfolding controller_tells
translated_files_lem t bytes ok one =
    let Q = Target.code_of t in
    let q : CodeOne Q = code_one t bytes ok one in
    record {
      answers = λ g args depth budget words.
          ap (λ (r : Result Control). by_verdict (controller_verdict t g (length args) depth words) (summary r)) ((version_one.controller Q q g args depth).0 budget);
      uncaught = λ g args depth. (version_one.controller Q q g args depth).1;
    }

pub as_ever : AsEver
as_ever = record { procedures = procedures; translated_files = translated_files_lem }
