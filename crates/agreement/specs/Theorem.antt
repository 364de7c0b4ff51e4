-- Demand 3 over files, proved: from the theorem of the rules and what the two file crates promise.
use Rattle.std.specs.Prelude.{ℕ, zero, suc, ◌+◌, ◌*◌, ◌≤◌, ◌<◌, ◌≡◌, refl, List, [], ◌∷◌, ℤ, length}
use Rattle.std.proofs.Common.{arith, sym, ◌∙◌, subst}
use Rattle.std.proofs.Math.Path.{ap}
use Rattle.std.proofs.Math.Option.{Option, none, some}
use Rattle.semantics.specs.Program.{FunctionNumber, Variable, Block, constant, copy, difference, call, goto, return, branch, raise, Labelled, Function, Program, function_of, program_version}
use Rattle.semantics.specs.WellFormed.{All, WellFormedState}
use Rattle.semantics.specs.Code.{Target, Code}
use Rattle.semantics.specs.Run.{Stop, ended, spent, deep, broken, IsBroken, Result, bare_stop, one_more_if_deep, summary}
use Rattle.semantics.specs.Bench.{State, waiting, bench}
use Rattle.semantics.specs.Controller.{in_use, controller, target_of, no_target, code_version}
use Rattle.semantics.specs.SlotStates.{StateKeeps}
use Rattle.semantics.specs.SlotCount.{UsesSlots, slots_used}
use Rattle.semantics.proofs.SlotCountLaws.{translation_uses, used_above}
use Rattle.semantics.specs.Translation.{entry_target, number, translate}
use Rattle.semantics.specs.Extras.{extras}
use Rattle.semantics.specs.Statement.{StopsMatch, Agree, Sound}
use Rattle.semantics.proofs.ListLaws.{at_below, get_d_at}
use Rattle.semantics.proofs.TranslationLaws.{entry_at}
use Rattle.semantics.proofs.Theorem.{demand3, bench_is_sound}
use Rattle.semantics.proofs.SlotStateLaws.{controller_is_sound}
use Rattle.semantics.proofs.DroppedLaws.{dropped_forgotten}
use Rattle.semantics.proofs.AlikeLaws.{one_more_bare}
use Rattle.semantics.proofs.StopLaws.{bench_bound, extras_bound_lem, Together, together, Exactly, exactly, bench_again, controller_left}
use Rattle.parsing.specs.Parser.{Verdict, accepted, refused}
use Rattle.parsing.specs.Bytes.{Bytes}
use Rattle.memory.specs.Frame.{frame_size}
use Rattle.memory.specs.Call.{arguments_verdict}
use Rattle.memory.specs.CallLaws.{arguments_fit, call_fits}
use Rattle.runs.specs.Tells.{Tells, tells, by_verdict}
use Rattle.procedure_names.specs.Writing.{ValuesFit, ReceiverFits, LabelledFits, FunctionInRange}
use Rattle.procedure_file.specs.Check as Procedure
use Rattle.procedure_file.specs.Accepted.{HasFile}
use Rattle.procedure_file.proofs.AcceptedLaws.{is_writing_lem}
use Rattle.target_file.specs.Check as Target
use Rattle.target_file.specs.Translated.{NamedInTwo, BlockFits, FunctionFits, Source}
use Rattle.target_file.specs.Translated as Translated
use Rattle.target_tags.specs.Tag.{slots_in}
use Rattle.target_file.proofs.AcceptedLaws as TargetLaws
use Rattle.target_file.proofs.TranslatedLaws.{translation_accepted, translation_rules}
use Rattle.translator.specs.Translated.{translation_of}
use Rattle.bench.specs.Published.{bench_verdict, bench_tells}
use Rattle.bench.specs.Published as Bench
use Rattle.controller.specs.Published.{controller_verdict, controller_tells}
use Rattle.charge.specs.Charge.{charge, with_extras}
use Rattle.charge.specs.ChargeLaws.{ended_charged}
use Rattle.agreement.specs.Statement.{NeverBroken, FilesMove, entry_of, translation_run, controller_budget, AnswersAgree, Claim, FilesAgree}

-- The ranges of a procedure, as the crate of translated files has them.
block_fits : (v : ℕ) (b : Block) → ValuesFit v b → BlockFits v b
block_fits v (constant x i b) f = (f.0, block_fits v b f.1)
block_fits v (copy x y b) f = block_fits v b f
block_fits v (difference x y z b) f = block_fits v b f
block_fits v (call x g ys b) f = block_fits v b f
block_fits v (goto l) f = tt
block_fits v (return x) f = tt
block_fits v (branch y z l m) f = tt
block_fits v (raise none) f = tt
block_fits v (raise (some x)) f = f

receiver_fits : (v : ℕ) (r : Option Variable) → ReceiverFits v r → NamedInTwo v r
receiver_fits v none f = tt
receiver_fits v (some x) f = f.0

blocks_fit : (v : ℕ) (bs : List Labelled) → All (LabelledFits v) bs → All (Translated.LabelledBlockFits v) bs
blocks_fit v [] a = tt
blocks_fit v (B ∷ bs) a = ((receiver_fits v B.receiver a.0.0, block_fits v B.block a.0.1), blocks_fit v bs a.1)

functions_fit : (v : ℕ) (Fs : List Function) → All (FunctionInRange v) Fs → All (FunctionFits v) Fs
functions_fit v [] a = tt
functions_fit v (F ∷ Fs) a = (
  record {
    version_is = a.0.version_is;
    params = a.0.params;
    locals = a.0.locals;
    blocks = a.0.blocks;
    entry = block_fits v F.entry a.0.entry_values;
    labelled = blocks_fit v F.blocks a.0.block_values;
  },
  functions_fit v Fs a.1,
)

source : (P : Program) → HasFile P → Source P
source P h =
    record {
      well_formed = h.well_formed;
      version = h.in_range.version;
      some = h.in_range.some;
      most = h.in_range.most;
      functions = functions_fit (program_version P) P h.in_range.functions;
    }

-- ── What each machine tells where it does not refuse ────────────────────────────────────────────

module _ (s : List ℕ) (f : FunctionNumber) (args : List ℤ) (depth frames : ℕ) (ok : Procedure.check_of s ≡ accepted) (below : f < length (Procedure.program_of s))
    (la : length args ≡ (function_of (Procedure.program_of s) f).params) (depth_bound : depth ≤ 256) (room : frame_size * depth ≤ frames) where
  pub bench_tells_lem : (budget : ℕ) → bench_tells s f args depth budget frames ≡ tells (Bench.run_summary s f args depth budget)
  unfolding bench_tells bench_verdict
  bench_tells_lem budget = rw (ok, call_fits f (length (Procedure.program_of s)) (arguments_verdict (length args) (function_of (Procedure.program_of s) f).params) frame_size depth frames below (arguments_fit (length args) (function_of (Procedure.program_of s) f).params la) depth_bound room)

module _ (t : List ℕ) (g : ℕ) (args : List ℤ) (depth records : ℕ) (ok : Target.check_of t ≡ accepted) (below : g < length (Target.code_of t))
    (la : length args ≡ (target_of (Target.code_of t) g).params) (depth_bound : depth ≤ 256) (room : frame_size * depth ≤ records) where
  pub controller_tells_lem : (budget : ℕ) → controller_tells t g args depth budget records ≡ tells (summary (controller (Target.code_of t) g args depth budget))
  unfolding controller_tells controller_verdict
  controller_tells_lem budget = rw (ok, call_fits g (length (Target.code_of t)) (arguments_verdict (length args) (target_of (Target.code_of t) g).params) frame_size depth records below (arguments_fit (length args) (target_of (Target.code_of t) g).params la) depth_bound room)

locals_bound_lem : (v : ℕ) (P : Program) → All (FunctionInRange v) P → (g : ℕ) → (function_of P g).locals ≤ 24
locals_bound_lem v [] a g = omega arith
locals_bound_lem v (F ∷ Fs) a zero = a.0.locals
locals_bound_lem v (F ∷ Fs) a (suc g) = locals_bound_lem v Fs a.1 g

few_extras : (s : List ℕ) → Bytes s → Procedure.check_of s ≡ accepted → (f : FunctionNumber) (args : List ℤ) (depth budget : ℕ)
    → extras (Procedure.program_of s) f args depth budget ≤ 24 + 25 * (bench (Procedure.program_of s) f args depth budget).steps
few_extras s bytes ok =
    let P = Procedure.program_of s in
    extras_bound_lem P 24 (omega arith) (locals_bound_lem (program_version P) P (is_writing_lem s bytes ok).0.in_range.functions)

-- Bench steps and extras together, for a budget of 32 bits.
pub few_steps : (s : List ℕ) → Bytes s → Procedure.check_of s ≡ accepted → (f : FunctionNumber) (args : List ℤ) (depth budget : ℕ) → budget < 4294967296
    → (bench (Procedure.program_of s) f args depth budget).steps + extras (Procedure.program_of s) f args depth budget < 9223372036854775807
few_steps s bytes ok f args depth budget h =
    let k = bench_bound (Procedure.program_of s) f args depth budget in
    let l = few_extras s bytes ok f args depth budget in
    omega (arith, k, l)

-- ── From the rules to the answers ───────────────────────────────────────────────────────────────

module _ (s : List ℕ) (f : FunctionNumber) (args : List ℤ) (depth : ℕ) (ok : Procedure.check_of s ≡ accepted) (below : f < length (Procedure.program_of s))
    (la : length args ≡ (function_of (Procedure.program_of s) f).params) (accepts : Target.check_of (translation_of s) ≡ accepted) (there : entry_of s f < length (Target.code_of (translation_of s)))
    (lt : length args ≡ (target_of (Target.code_of (translation_of s)) (entry_of s f)).params)
    (bench_moves : Sound (WellFormedState (Procedure.program_of s)) waiting depth (bench (Procedure.program_of s) f args depth))
    (controller_moves : Sound (StateKeeps (Target.code_of (translation_of s)) (slots_in (code_version (Target.code_of (translation_of s))))) in_use depth (translation_run s f args depth))
    (agree : Agree (Procedure.program_of s) (bench (Procedure.program_of s) f args depth) (extras (Procedure.program_of s) f args depth) (translation_run s f args depth)) where
  abbrev P : Program
  P = Procedure.program_of s

  runs_together : (budget : ℕ) → Together P (bench P f args depth budget) (extras P f args depth budget) (translation_run s f args depth)
  runs_together = together P agree bench_moves.moves controller_moves.moves (bench_again P f args depth) (controller_left (Target.code_of (translation_of s)) (entry_of s f) args depth)

  runs_exactly : (budget : ℕ) → Exactly (bench P f args depth) (extras P f args depth) (translation_run s f args depth) budget
  runs_exactly = exactly P agree bench_moves.moves controller_moves.moves (bench_again P f args depth) (controller_left (Target.code_of (translation_of s)) (entry_of s f) args depth)

  module _ (budget : ℕ) where
    abbrev b : Result State
    b = bench P f args depth budget

    abbrev x : ℕ
    x = extras P f args depth budget

    pub budget_is : controller_budget (Bench.run_summary s f args depth budget) ≡ b.steps + x + one_more_if_deep b.stop
    unfolding controller_budget
    budget_is = ap (λ (k : ℕ). b.steps + x + k) (one_more_bare b.stop)

    pub ran_alike : summary (translation_run s f args depth (controller_budget (Bench.run_summary s f args depth budget))) ≡ record { stop = bare_stop b.stop; steps = b.steps + x }
    ran_alike = rw (budget_is, (runs_together budget).stops.alike, (runs_together budget).steps)

    pub stops_match : StopsMatch P b.stop (translation_run s f args depth (controller_budget (Bench.run_summary s f args depth budget))).stop
    stops_match = rw budget_is (runs_together budget).stops

    answers_agree : Bytes s → depth ≤ 256 → (frames records : ℕ) → frame_size * depth ≤ frames → frame_size * depth ≤ records → AnswersAgree s f args depth budget frames records
    answers_agree bytes depth_bound frames records lf lr =
        record {
          answer = Bench.run_summary s f args depth budget;
          bench_answers = bench_answers_lem;
          controller_answers = controller_answers_lem;
          exactly = answers (b.steps + x) ∙ rw ((runs_exactly budget).stop, (runs_exactly budget).steps) refl;
          same_deep = rw (bench_tells_lem s f args depth frames ok below la depth_bound lf (b.steps + 1), answers (b.steps + x + 1)) (runs_exactly budget).same_deep;
          same_charge = ap charge (controller_answers_lem ∙ sym (ap with_extras bench_answers_lem));
          in_cents = λ small e q. ap (λ (t : Tells Bench.BenchSummary). charge (with_extras t)) bench_answers_lem ∙ ended_charged (bare_stop b.stop) (b.steps + x) e q (few small);
        }
      where
        answers : (n : ℕ) → controller_tells (translation_of s) (entry_of s f) args depth n records ≡ tells (summary (translation_run s f args depth n))
        answers = controller_tells_lem (translation_of s) (entry_of s f) args depth records accepts there lt depth_bound lr

        bench_answers_lem : bench_tells s f args depth budget frames ≡ tells (Bench.run_summary s f args depth budget)
        bench_answers_lem = bench_tells_lem s f args depth frames ok below la depth_bound lf budget

        controller_answers_lem : controller_tells (translation_of s) (entry_of s f) args depth (controller_budget (Bench.run_summary s f args depth budget)) records
            ≡ tells (record { stop = bare_stop b.stop; steps = b.steps + x })
        controller_answers_lem = answers (controller_budget (Bench.run_summary s f args depth budget)) ∙ ap tells ran_alike

        few : budget < 4294967296 → b.steps + x ≤ 18446744073709551615
        few small = let l = few_steps s bytes ok f args depth budget small in omega (arith, l)

  claimed : Bytes s → Claim s f args depth
  claimed bytes =
      record {
        is_accepted = accepts;
        entry = there;
        arguments = lt;
        bench_moves = bench_moves;
        controller_moves = controller_moves;
        agree = agree;
        answers = λ d n. answers_agree n bytes d;
        extras_bound = few_extras s bytes ok f args depth;
      }

pub files_agree : FilesAgree
unfolding translation_of
files_agree s bytes ok fits f below args la depth =
    claimed s f args depth ok below la ((translation_accepted.fits P S).1 fits) (subst (λ (Q : Code). g < length Q) (sym back) there)
    (la ∙ sym (ap (λ (D : Target). D.params) (ap (λ (Q : Code). target_of Q g) back ∙ entry_is)))
    (bench_is_sound P h.well_formed f below args la depth)
    (subst (λ (Q : Code). Sound (StateKeeps Q (slots_in (code_version Q))) in_use depth (controller Q g args depth)) (sym back) (controller_is_sound (slots_in (code_version (translate P))) (translate P) (translation_rules P S) g there args (la ∙ sym (ap (λ (D : Target). D.params) entry_is)) depth))
    (subst (λ (Q : Code). Agree P (bench P f args depth) (extras P f args depth) (controller Q g args depth)) (sym back) (demand3 P h.well_formed f below args la depth))
    bytes
  where
    P : Program
    P = Procedure.program_of s

    g : ℕ
    g = number P f

    h : HasFile P
    h = (is_writing_lem s bytes ok).0

    S : Source P
    S = source P h

    back : Target.code_of (translation_of s) ≡ translate P
    back = translation_accepted.reads_back P S

    entry_is : target_of (translate P) g ≡ entry_target (number P) g (function_of P f)
    entry_is = get_d_at (translate P) g (entry_target (number P) g (function_of P f)) no_target (entry_at P f below)

    there : g < length (translate P)
    there = at_below (translate P) g (entry_target (number P) g (function_of P f)) (entry_at P f below)

-- The translation of an accepted procedure uses no more slots than are counted.
pub translation_slots : (s : List ℕ) → Bytes s → Procedure.check_of s ≡ accepted → UsesSlots (slots_used (Procedure.program_of s)) (Target.code_of (translation_of s))
unfolding translation_of
translation_slots s bytes ok =
    let P = Procedure.program_of s in
    let h : HasFile P = (is_writing_lem s bytes ok).0 in
    subst (λ (Q : Code). UsesSlots (slots_used P) Q) (sym (translation_accepted.reads_back P (source P h))) (translation_uses (slots_used P) P h.well_formed (used_above P))

-- ── Demand 1 ────────────────────────────────────────────────────────────────────────────────────

bare_broken : {S : Type 0} (x : Stop S) → ¬ IsBroken x → ¬ IsBroken (bare_stop x)
bare_broken (ended e) n b = n b
bare_broken (spent s) n b = n b
bare_broken (deep s) n b = n b
bare_broken (broken s) n b = n b

never_broken : {A : Type 0} (result : A → Result (Unit {0})) (a : A) → ¬ IsBroken (result a).stop → (v : Verdict) → NeverBroken result (by_verdict v a)
never_broken result a n accepted = n
never_broken result a n (refused reason place) = tt

pub files_move : FilesMove
unfolding bench_tells controller_tells
files_move =
    record {
      bench = λ s bytes ok f below args la depth.
          let S = bench_is_sound (Procedure.program_of s) (is_writing_lem s bytes ok).0.well_formed f below args la depth in
          (S, λ budget words. never_broken (λ t. t.result) (Bench.run_summary s f args depth budget) (bare_broken (bench (Procedure.program_of s) f args depth budget).stop (S.moves budget)) (bench_verdict s f (length args) depth words));
      controller = λ t bytes ok g below args la depth.
          let S = controller_is_sound (slots_in (code_version (Target.code_of t))) (Target.code_of t) (TargetLaws.is_writing_lem t bytes ok).0.rules g below args la depth in
          (S, λ budget words. never_broken (λ r. r) (summary (controller (Target.code_of t) g args depth budget)) (bare_broken (controller (Target.code_of t) g args depth budget).stop (S.moves budget)) (controller_verdict t g (length args) depth words));
      dropped = λ t bytes ok g args depth c r. dropped_forgotten (Target.code_of t) g args depth r.0 c r.1;
    }
