-- Document 02, Slip 4, over files, proved: from the theorem of the rules, and for the controller from demand 3.
use Rattle.std.specs.Prelude.{ℕ, ◌+◌, ◌≤◌, ◌<◌, ◌≡◌, refl, List, ℤ, pos, length, replicate}
use Rattle.std.proofs.Common.{arith, ap, ◌∙◌, subst}
use Rattle.std.proofs.Math.Path.{sym}
use Rattle.std.proofs.lemmas.List.{length-replicate}
use Rattle.semantics.specs.Program.{FunctionNumber, Function, Program, function_of}
use Rattle.semantics.specs.Run.{Result, summary}
use Rattle.semantics.specs.Controller.{target_of}
use Rattle.semantics.specs.Translation.{translate}
use Rattle.semantics.specs.Merge.{merged, RunsAlike}
use Rattle.semantics.proofs.MergeLaws.{merged_runs_alike, merged_length, merged_first, merged_second}
use Rattle.semantics.proofs.AlikeLaws.{Paired, controllers_alike, forever_alike}
use Rattle.parsing.specs.Parser.{Verdict, accepted, refused, or_else}
use Rattle.parsing.specs.Bytes.{Bytes}
use Rattle.parsing.specs.VerdictLaws.{or_accepted}
use Rattle.memory.specs.Frame.{frame_size}
use Rattle.memory.specs.Call.{arguments_verdict, call_verdict}
use Rattle.memory.specs.CallLaws.{start_fits, fitting_arguments, fitting_call}
use Rattle.runs.specs.Tells.{by_verdict}
use Rattle.procedure_file.specs.Check.{check_of, program_of}
use Rattle.procedure_file.proofs.AcceptedLaws.{is_writing_lem}
use Rattle.target_file.specs.Check as Target
use Rattle.target_file.specs.Writing.{writing}
use Rattle.translator.specs.Translated.{translation_of}
use Rattle.bench.specs.Published.{run_summary, bench_verdict, bench_tells}
use Rattle.controller.specs.Published.{controller_verdict, controller_tells}
use Rattle.merge.specs.Merged.{merged_of, files_verdict, merge_verdict, MergedFile}
use Rattle.merge.proofs.AcceptedLaws.{merges_accepted}
use Rattle.agreement.specs.Statement.{entry_of, translation_run, Claim}
use Rattle.agreement.specs.Theorem.{files_agree}
use Rattle.agreement.specs.Merged.{AsBefore, FilesMerge}
use Rattle.agreement.specs.MergedSizeLaws.{head_long, merged_size}

-- An accepted file, and a function that it has.
record Start (s : List ℕ) (f : FunctionNumber) : Type 0 where
  bytes : Bytes s
  is_accepted : check_of s ≡ accepted
  there : f < length (program_of s)

-- What a call tells depends on its answer only where it is accepted.
tells_alike : {A : Type 0} (v : Verdict) (a b : A) → (v ≡ accepted → a ≡ b) → by_verdict v a ≡ by_verdict v b
tells_alike accepted a b e = ap (by_verdict accepted) (e refl)
tells_alike (refused reason place) a b e = refl

stop_of : {a b : Result (Unit {0})} → a ≡ b → a.stop ≡ b.stop
stop_of e = ap (λ (r : Result (Unit {0})). r.stop) e

-- A call that starts at a function that is there is judged by the arguments that it takes.
call_alike : {f f' n n' : ℕ} (given size depth words : ℕ) {wanted wanted' : ℕ} → f < n → f' < n' → wanted' ≡ wanted → call_verdict f' n' (arguments_verdict given wanted') size depth words ≡ call_verdict f n (arguments_verdict given wanted) size depth words
unfolding call_verdict
call_alike {f} {f'} {n} {n'} given size depth words h h' e = rw (start_fits f n h, start_fits f' n' h', e)

module _ {s : List ℕ} {f : FunctionNumber} (S : Start s f) (fits : length (translation_of s) ≤ 65535) where
  claim : (args : List ℤ) → length args ≡ (function_of (program_of s) f).params → (depth : ℕ) → Claim s f args depth
  claim args la depth = files_agree s S.bytes S.is_accepted fits f S.there args la depth

  -- Of the translation whatever the arguments: it is accepted, and the entry is there and takes as many.
  entry : (Target.check_of (translation_of s) ≡ accepted) × (entry_of s f < length (Target.code_of (translation_of s)))
      × ((target_of (Target.code_of (translation_of s)) (entry_of s f)).params ≡ (function_of (program_of s) f).params)
  entry =
      let n = (function_of (program_of s) f).params in
      let zeros = replicate n (pos 0) in
      let l : length zeros ≡ n = length-replicate n (pos 0) in
      let C = claim zeros l 0 in
      (C.is_accepted, C.entry, sym C.arguments ∙ l)

  paired : (args : List ℤ) → length args ≡ (function_of (program_of s) f).params → (depth : ℕ)
      → Paired (program_of s) f (Target.code_of (translation_of s)) (entry_of s f) args depth
  paired args la depth =
      let C = claim args la depth in
      record { agree = C.agree; bench_moves = C.bench_moves.moves; controller_moves = C.controller_moves.moves }

module _ {s r : List ℕ} {f g : FunctionNumber} (S : Start s f) (R : Start r g) (same : (function_of (program_of r) g).params ≡ (function_of (program_of s) f).params)
    (shorter : length (translation_of s) ≤ length (translation_of r))
    (alike : (args : List ℤ) → length args ≡ (function_of (program_of s) f).params → RunsAlike (program_of s) f (program_of r) g args) where
  controllers : length (translation_of r) ≤ 65535 → (args : List ℤ) → length args ≡ (function_of (program_of s) f).params → (depth budget : ℕ)
      → summary (translation_run r g args depth budget) ≡ summary (translation_run s f args depth budget)
  controllers fits args la depth budget =
      let e = controllers_alike (paired S (omega arith) args la depth) (paired R fits args (la ∙ sym same) depth) (alike args la) budget in
      λ i. record { stop = e.0 i; steps = e.1 i }

  bench_answers_lem : (args : List ℤ) (depth budget words : ℕ) → bench_tells r g args depth budget words ≡ bench_tells s f args depth budget words
  unfolding bench_tells bench_verdict
  bench_answers_lem args depth budget words =
      let v = call_verdict f (length (program_of s)) (arguments_verdict (length args) (function_of (program_of s) f).params) frame_size depth words in
      rw (R.is_accepted, S.is_accepted, call_alike (length args) frame_size depth words S.there R.there same)
      (tells_alike v (run_summary r g args depth budget) (run_summary s f args depth budget) (λ ok. same_summary (alike args (fitting_arguments _ _ (fitting_call _ _ _ _ _ _ ok).1))))
    where
      same_summary : RunsAlike (program_of s) f (program_of r) g args → run_summary r g args depth budget ≡ run_summary s f args depth budget
      same_summary E = λ i. record { result = record { stop = E.stop depth budget i; steps = E.steps depth budget i }; extras = E.extras depth budget i }

  controller_answers_lem : length (translation_of r) ≤ 65535 → (args : List ℤ) (depth budget words : ℕ)
      → controller_tells (translation_of r) (entry_of r g) args depth budget words ≡ controller_tells (translation_of s) (entry_of s f) args depth budget words
  unfolding controller_tells controller_verdict
  controller_answers_lem fits args depth budget words =
      let E = entry S (omega arith) in
      let E' = entry R fits in
      let v = call_verdict (entry_of s f) (length (Target.code_of (translation_of s))) (arguments_verdict (length args) (target_of (Target.code_of (translation_of s)) (entry_of s f)).params) frame_size depth words in
      rw (E.0, E'.0, call_alike (length args) frame_size depth words E.1 E'.1 (E'.2 ∙ (same ∙ sym E.2)))
      (tells_alike v (summary (translation_run r g args depth budget)) (summary (translation_run s f args depth budget))
      (λ ok. controllers fits args (fitting_arguments _ _ (fitting_call _ _ _ _ _ _ ok).1 ∙ E.2) depth budget))

  as_before : AsBefore s f r g
  as_before =
      record {
        bench_runs = alike;
        controller_runs = λ fits args la depth.
            let e = controllers fits args la depth in
            let own = translation_run s f args depth in
            let there = translation_run r g args depth in
            (e, (forever_alike there own (λ n. stop_of (e n)), forever_alike own there (λ n. sym (stop_of (e n)))));
        bench_answers = bench_answers_lem;
        controller_answers = controller_answers_lem;
      }

-- ── Two files that were merged ──────────────────────────────────────────────────────────────────

pub files_merge : FilesMerge
unfolding merge_verdict translation_of
files_merge s t bs bt room e =
    record {
      first = λ f below.
          as_before (record { bytes = bs; is_accepted = checks.0; there = below }) (start f (omega (arith, below, long))) (ap (λ (F : Function). F.params) (at f ∙ merged_first P Q f below))
          (omega (arith, sizes, second_head))
          (λ args la. subst (λ (N : Program). RunsAlike P f N f args) (sym M.program) (merged_runs_alike.first P Q (is_writing_lem s bs checks.0).0.well_formed f below args la));
      second = λ f below.
          let g : FunctionNumber = length P + f in
          as_before (record { bytes = bt; is_accepted = checks.1; there = below }) (start g (omega (arith, below, long))) (ap (λ (F : Function). F.params) (at g ∙ merged_second P Q f))
          (omega (arith, sizes, first_head))
          (λ args la. subst (λ (N : Program). RunsAlike Q f N g args) (sym M.program) (merged_runs_alike.second P Q f args));
    }
  where
    P : Program
    P = program_of s

    Q : Program
    Q = program_of t

    M : MergedFile s t
    M = merges_accepted s t bs bt room e

    checks : (check_of s ≡ accepted) × (check_of t ≡ accepted)
    checks = let a = or_accepted (check_of s) (or_else (check_of t) (files_verdict s t room)) e in (a.0, (or_accepted (check_of t) (files_verdict s t room) a.1).0)

    long : length (program_of (merged_of s t)) ≡ length P + length Q
    long = ap length M.program ∙ merged_length P Q

    start : (g : FunctionNumber) → g < length (program_of (merged_of s t)) → Start (merged_of s t) g
    start g below = record { bytes = M.bytes; is_accepted = M.is_accepted; there = below }

    at : (g : FunctionNumber) → function_of (program_of (merged_of s t)) g ≡ function_of (merged P Q) g
    at g = ap (λ (N : Program). function_of N g) M.program

    sizes : length (writing (translate (program_of (merged_of s t)))) + 7 ≡ length (writing (translate P)) + length (writing (translate Q))
    sizes = ap (λ (N : Program). length (writing (translate N)) + 7) M.program ∙ merged_size P Q

    first_head : 7 ≤ length (writing (translate P))
    first_head = head_long (translate P)

    second_head : 7 ≤ length (writing (translate Q))
    second_head = head_long (translate Q)
