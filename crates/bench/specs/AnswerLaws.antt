-- The call: refusals in their order, and the run from function f.
use Rattle.std.specs.Prelude.{ℕ, ◌<◌, ◌≡◌, List, ℤ, length, Err, Ok, Result}
use Rattle.std.proofs.Math.Path.{refl, ap}
use Rattle.std.proofs.Common.{sym, ◌∙◌, subst}
use Rattle.semantics.specs.Program.{FunctionNumber, function_of}
use Rattle.parsing.specs.declared.Refusal.{Refusal}
use Rattle.parsing.specs.Parser.{Verdict, refused, verdict_of}
use Rattle.memory.specs.Frame.{frame_size}
use Rattle.memory.specs.Call.{arguments_verdict, call_verdict}
use Rattle.memory.specs.CallLaws.{fitting_arguments, fitting_call, refused_by_check, judged_so}
use Rattle.runs.proofs.CallLaws.{Promised, promised_refused, promised_ran}
use Rattle.procedure_file.specs.Check.{check_of, program_of}
use Rattle.procedure_file.specs.Loaded.{Loaded}
use Rattle.bench.specs.declared.machine.Answer.{Answer}
use Rattle.bench.specs.Published.{summary_of, run_summary, RunWords, bench_verdict, bench_tells, refused_answer, CallFits, RunAnswered}

module _ (s : List ℕ) (f : FunctionNumber) (args : List ℤ) (depth budget : ℕ) (words : List ℤ) where
  abbrev verdict : Verdict
  verdict = bench_verdict s f (length args) depth (length words)

  -- The three promises of the call.
  abbrev pub Promises : Answer → List ℤ → Type 0
  Promises a words' = Promised (λ b. verdict_of b.verdict) summary_of refused_answer (bench_tells s f args depth budget (length words)) verdict (RunWords s f args depth budget a words words') a words words'

  refused_so : {a : Answer} {r : Refusal} → verdict ≡ refused r.reason r.place → a ≡ refused_answer r → Promises a words
  unfolding bench_tells
  refused_so {a} {r} e q =
      promised_refused (λ b. verdict_of b.verdict) summary_of refused_answer (run_summary s f args depth budget) refl (RunWords s f args depth budget a words words) a words r refl e q

  -- The file's own checks.
  pub file_refused : {a : Answer} {u : Result (Unit {0}) Refusal} {r : Refusal} → verdict_of u ≡ check_of s → u ≡ Err r → a ≡ refused_answer r → Promises a words
  unfolding bench_verdict
  file_refused e q k =
      refused_so (refused_by_check (check_of s) f (length (program_of s)) (arguments_verdict (length args) (function_of (program_of s) f).params) frame_size depth (length words) e q) k

  -- A loaded file: what the call itself is refused for, by the number of functions and that of the arguments that are wanted.
  module _ {starts : List ℕ} (L : Loaded s starts) {functions wanted : ℕ} (en : functions ≡ length (program_of s)) (ew : wanted ≡ (function_of (program_of s) f).params)
      {v : Verdict} (ev : v ≡ arguments_verdict (length args) wanted) {u : Result (Unit {0}) Refusal} (eu : verdict_of u ≡ call_verdict f functions v frame_size depth (length words)) where
    verdict_is : {c : Result (Unit {0}) Refusal} → u ≡ c → verdict ≡ verdict_of c
    unfolding bench_verdict
    verdict_is q =
        judged_so (check_of s) f (length (program_of s)) (arguments_verdict (length args) (function_of (program_of s) f).params) frame_size depth (length words)
        L.is_accepted en (ev ∙ ap (arguments_verdict (length args)) ew) eu q

    pub call_refused : {a : Answer} {r : Refusal} → u ≡ Err r → a ≡ refused_answer r → Promises a words
    call_refused q k = refused_so (verdict_is q) k

    pub call_fits : u ≡ (Ok tt) → CallFits s f args depth words
    call_fits q =
        let k = fitting_call f functions v frame_size depth (length words) (sym eu ∙ ap verdict_of q) in
        record { exists = subst (λ (n : ℕ). f < n) en k.0; arguments = fitting_arguments (length args) wanted (sym ev ∙ k.1) ∙ ew; depth_bound = k.2; room = k.3 }

    pub call_answered : {a : Answer} {words' : List ℤ} {b : ℕ} → u ≡ (Ok tt) → b ≡ budget → RunAnswered s f args depth b a words words' → Promises a words'
    unfolding bench_tells
    call_answered {a} {words'} q e W =
        let R = subst (λ (n : ℕ). RunAnswered s f args depth n a words words') e W in
        promised_ran (λ b. verdict_of b.verdict) summary_of refused_answer (run_summary s f args depth budget) refl (RunWords s f args depth budget a words words') a words words' (verdict_is q) R.answer R.held
