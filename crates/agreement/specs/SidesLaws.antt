-- The side-by-side call, as the code has it.
use Rattle.std.specs.Prelude.{ℕ, ◌+◌, ◌*◌, ◌≤◌, ◌<◌, ◌≡◌, List, ◌++◌, ℤ, length, take, drop, Err, Ok, Result}
use Rattle.std.proofs.Common.{arith, sym, ap₂, ◌∙◌, subst, length-append}
use Rattle.std.proofs.Math.Path.{refl, ap}
use Rattle.std.proofs.Math.Seq.{take-append_seam}
use Rattle.semantics.specs.Program.{FunctionNumber, function_of}
use Rattle.semantics.specs.SlotCount.{UsesSlots, slots_used}
use Rattle.semantics.specs.Run.{Stop, ended, spent, deep, broken, one_more_if_deep, summary}
use Rattle.semantics.specs.Run as Rules
use Rattle.parsing.specs.declared.Refusal.{Refusal}
use Rattle.parsing.specs.Parser.{Verdict, accepted, refused, verdict_of, or_else}
use Rattle.parsing.specs.Bytes.{Bytes}
use Rattle.parsing.specs.VerdictLaws.{or_accepted}
use Rattle.memory.specs.Frame.{frame_size}
use Rattle.memory.specs.Call.{start_verdict, arguments_verdict, words_verdict}
use Rattle.memory.specs.CallLaws.{fitting_start, fitting_arguments, fitting_words}
use Rattle.runs.specs.Stopped.{stopped_as}
use Rattle.runs.specs.Tells.{tells}
use Rattle.runs.proofs.TellsLaws.{answered}
use Rattle.runs.proofs.CallLaws.{Promised, promised_refused, promised_ran}
use Rattle.runs.proofs.OutputLaws.{lay_front}
use Rattle.procedure_file.specs.Check.{check_of, program_of}
use Rattle.procedure_file.specs.Loaded.{Laid}
use Rattle.target_file.specs.Check as Target
use Rattle.translator.specs.Translated.{translation_of, room_verdict}
use Rattle.translator.specs.AnswerLaws.{fitting_room}
use Rattle.byte_writers.specs.Writes.{Room, Wrote}
use Rattle.bench.specs.declared.machine.Answer as BenchAnswer
use Rattle.bench.specs.Published as Bench
use Rattle.controller.specs.declared.machine.Answer as ControllerAnswer
use Rattle.controller.specs.Published as Controller
use Rattle.controller_records.specs.Steps.{SlotsKept}
use Rattle.agreement.specs.declared.Sides.{Sides}
use Rattle.agreement.specs.Statement.{entry_of, controller_budget, Claim}
use Rattle.agreement.specs.Sides.{call_verdict, sides_verdict, summary_of, controller_run, runs_summary, sides_tell, Memory, Ran, refused_sides, CallFits, MachinesRan}
use Rattle.agreement.specs.Theorem.{few_steps, translation_slots, ran_alike, stops_match, files_agree}

one_at_most : {S : Type 0} (o : Stop S) → one_more_if_deep o ≤ 1
one_at_most (ended e) = omega arith
one_at_most (spent s) = omega arith
one_at_most (deep s) = omega arith
one_at_most (broken s) = omega arith

-- ── Both runs ───────────────────────────────────────────────────────────────────────────────────

module _ {s : List ℕ} {f : FunctionNumber} {args : List ℤ} {depth : ℕ} {frames records : List ℤ} (R : CallFits s f args depth frames records) where
  claim : Claim s f args depth
  claim = files_agree s R.bytes R.is_accepted R.fits f R.function args R.arguments depth

  module _ {target : List ℕ} (it : target ≡ translation_of s) where
    pub target_accepted : Target.check_of target ≡ accepted
    target_accepted = ap Target.check_of it ∙ claim.is_accepted

    pub target_kept : {n : ℕ} → (n ≡ slots_used (program_of s)) × (n ≤ 37) → SlotsKept target n
    target_kept {n} c =
        (subst (λ (t : List ℕ). UsesSlots n (Target.code_of t)) (sym it) (subst (λ (k : ℕ). UsesSlots k (Target.code_of (translation_of s))) (sym c.0) (translation_slots s R.bytes R.is_accepted)), c.1)

    pub controller_fits : {g : ℕ} → g ≡ entry_of s f → Controller.CallFits target g args depth records
    controller_fits {g} ig =
        subst (λ (t : List ℕ). Controller.CallFits t g args depth records) (sym it)
        (subst (λ (k : ℕ). Controller.CallFits (translation_of s) k args depth records) (sym ig)
        (record { exists = claim.entry; arguments = claim.arguments; depth_bound = R.depth_bound; room = R.records_fit }))

  -- The bench's answer.
  module _ {budget : ℕ} {a : BenchAnswer.Answer} {frames' : List ℤ} (B : Bench.RunAnswered s f args depth budget a frames frames') where
    bench_summary : (a.verdict ≡ Ok tt) × (Bench.summary_of a ≡ Bench.run_summary s f args depth budget)
    bench_summary = answered a.verdict (Bench.summary_of a) (Bench.run_summary s f args depth budget) B.answer

    pub sum_small : budget < 4294967296 → a.steps + a.extras < 9223372036854775807
    sum_small h =
        subst (λ (t : Bench.BenchSummary). t.result.steps + t.extras < 9223372036854775807) (sym bench_summary.1)
        (few_steps s R.bytes R.is_accepted f args depth budget h)

    module _ {m : ℕ} (em : m ≡ one_more_if_deep (stopped_as a.stopped)) where
      pub more_small : m ≤ 1
      more_small = subst (λ (k : ℕ). k ≤ 1) (sym em) (one_at_most (stopped_as a.stopped))

      budget_is : a.steps + a.extras + m ≡ controller_budget (Bench.run_summary s f args depth budget)
      unfolding controller_budget
      budget_is = ap (λ (k : ℕ). a.steps + a.extras + k) em ∙ ap controller_budget bench_summary.1

      -- Both answers.
      module _ {target : List ℕ} {g n : ℕ} {c : ControllerAnswer.Answer} {records' : List ℤ} (it : target ≡ translation_of s) (ig : g ≡ entry_of s f)
          (en : n ≡ a.steps + a.extras + m) (C : Controller.RunAnswered target g args depth n c records records') where
        controller_answered : Controller.RunAnswered (translation_of s) (entry_of s f) args depth (controller_budget (Bench.run_summary s f args depth budget)) c records records'
        controller_answered =
            subst (λ (k : ℕ). Controller.RunAnswered (translation_of s) (entry_of s f) args depth k c records records') (en ∙ budget_is)
            (subst (λ (k : ℕ). Controller.RunAnswered (translation_of s) k args depth n c records records') ig
            (subst (λ (t : List ℕ). Controller.RunAnswered t g args depth n c records records') it C))

        controller_summary : (c.verdict ≡ Ok tt) × (Controller.summary_of c ≡ summary (controller_run s f args depth budget))
        controller_summary = answered c.verdict (Controller.summary_of c) (summary (controller_run s f args depth budget)) controller_answered.answer

        together_summary : summary (controller_run s f args depth budget) ≡ record { stop = (Bench.summary_of a).result.stop; steps = a.steps + a.extras }
        together_summary =
            ran_alike s f args depth R.is_accepted R.function R.arguments claim.is_accepted claim.entry claim.arguments claim.bench_moves claim.controller_moves claim.agree budget
            ∙ ap (λ (t : Bench.BenchSummary). record { stop = t.result.stop; steps = t.result.steps + t.extras }) (sym bench_summary.1)

        pub machines_ran : MachinesRan s f args depth budget (record { verdict = Ok tt; target = length target; bench = a; controller = c }) frames frames' records records'
        machines_ran =
            record {
              answer = ap tells (cc (ap length it, bench_summary.1, controller_summary.1));
              together =
                  record {
                    frame_words = B.held;
                    record_words = controller_answered.held;
                    stops = stops_match s f args depth R.is_accepted R.function R.arguments claim.is_accepted claim.entry claim.arguments claim.bench_moves claim.controller_moves claim.agree budget;
                    counted = ap (λ (r : Rules.Result (Unit {0})). r.steps) (controller_summary.1 ∙ together_summary);
                    neither_refused = (bench_summary.0, controller_summary.0);
                    claim = claim;
                  };
            }

-- ── The call on a loaded file ───────────────────────────────────────────────────────────────────

module _ (s : List ℕ) (f : FunctionNumber) (args : List ℤ) (depth budget : ℕ) (m : Memory) where
  abbrev verdict : Verdict
  verdict = sides_verdict s f (length args) depth (length m.frames) (length m.room) (length m.records)

  -- The three promises of the call.
  abbrev pub Promises : Sides → Memory → Type 0
  Promises a m' =
      Promised (λ b. verdict_of b.verdict) summary_of refused_sides (sides_tell s f args depth budget (length m.frames) (length m.room) (length m.records)) verdict (Ran s f args depth budget a m m') a m m'

  -- A refused call.
  pub refused_so : {r : Refusal} (a : Sides) → a ≡ refused_sides r → verdict ≡ refused r.reason r.place → Promises a m
  unfolding sides_tell
  refused_so {r} a q e = promised_refused (λ b. verdict_of b.verdict) summary_of refused_sides (runs_summary s f args depth budget) refl (Ran s f args depth budget a m m) a m r refl e q

  pub file_refused : {v : Result (Unit {0}) Refusal} {r : Refusal} (a : Sides) → verdict_of v ≡ check_of s → v ≡ Err r → a ≡ refused_sides r → Promises a m
  unfolding sides_verdict
  file_refused a e q k = refused_so a k (rw (sym e ∙ ap verdict_of q))

-- What an accepted call fits.
record FittingCall (start functions given wanted size room depth frames records : ℕ) : Type 0 where
  function : start < functions
  arguments : given ≡ wanted
  size_bound : size ≤ 65535
  room_fits : size ≤ room
  depth_bound : depth ≤ 256
  frames_fit : frame_size * depth ≤ frames
  records_fit : frame_size * depth ≤ records

fitting_call : (start functions given wanted size room depth frames records : ℕ) → call_verdict start functions given wanted size room depth frames records ≡ accepted
    → FittingCall start functions given wanted size room depth frames records
unfolding call_verdict
fitting_call start functions given wanted size room depth frames records e =
    let s = or_accepted (start_verdict start functions) (or_else (arguments_verdict given wanted) (or_else (room_verdict size room) (or_else (words_verdict frame_size depth frames) (words_verdict frame_size depth records)))) e in
    let a = or_accepted (arguments_verdict given wanted) (or_else (room_verdict size room) (or_else (words_verdict frame_size depth frames) (words_verdict frame_size depth records))) s.1 in
    let b = or_accepted (room_verdict size room) (or_else (words_verdict frame_size depth frames) (words_verdict frame_size depth records)) a.1 in
    let c = or_accepted (words_verdict frame_size depth frames) (words_verdict frame_size depth records) b.1 in
    let r = fitting_room size room b.0 in
    let x = fitting_words frame_size depth frames c.0 in
    record {
      function = fitting_start start functions s.0;
      arguments = fitting_arguments given wanted a.0;
      size_bound = r.0;
      room_fits = r.1;
      depth_bound = x.0;
      frames_fit = x.1;
      records_fit = (fitting_words frame_size depth records c.1).1;
    }

-- A call on a loaded file, judged.
pub record JudgedAs (s : List ℕ) (f : FunctionNumber) (args : List ℤ) (depth : ℕ) (m : Memory) (v : Result (Unit {0}) Refusal) : Type 0 where
  pub bytes : Bytes s
  pub is_accepted : check_of s ≡ accepted
  pub verdict : verdict_of v ≡ call_verdict f (length (program_of s)) (length args) (function_of (program_of s) f).params (length (translation_of s)) (length m.room) depth (length m.frames) (length m.records)

pub judged_as : {s : List ℕ} {f : FunctionNumber} {depth : ℕ} (args : List ℤ) (m : Memory) (v : Result (Unit {0}) Refusal) {functions wanted size : ℕ} → Laid s → check_of s ≡ accepted → functions ≡ length (program_of s)
    → wanted ≡ (function_of (program_of s) f).params → size ≡ length (translation_of s)
    → verdict_of v ≡ call_verdict f functions (length args) wanted size (length m.room) depth (length m.frames) (length m.records) → JudgedAs s f args depth m v
judged_as {s} {f = f} {depth = depth} args m v {functions} {wanted} {size} L a en ew es e =
    record {
      bytes = L.bytes;
      is_accepted = a;
      verdict =
          e
          ∙ (ap₂ (λ (n k : ℕ). call_verdict f n (length args) k size (length m.room) depth (length m.frames) (length m.records)) en ew
          ∙ ap (λ (k : ℕ). call_verdict f (length (program_of s)) (length args) (function_of (program_of s) f).params k (length m.room) depth (length m.frames) (length m.records)) es);
    }

module _ (s : List ℕ) (f : FunctionNumber) (args : List ℤ) (depth budget : ℕ) (m : Memory) (v : Result (Unit {0}) Refusal) (J : JudgedAs s f args depth m v) where
  judged : verdict_of v ≡ sides_verdict s f (length args) depth (length m.frames) (length m.room) (length m.records)
  unfolding sides_verdict
  judged = rw J.is_accepted J.verdict

  pub call_refused : {r : Refusal} (a : Sides) → v ≡ Err r → a ≡ refused_sides r → Promises s f args depth budget m a m
  call_refused a q k = refused_so s f args depth budget m a k (sym judged ∙ ap verdict_of q)

  module _ (q : v ≡ Ok tt) where
    fitting : FittingCall f (length (program_of s)) (length args) (function_of (program_of s) f).params (length (translation_of s)) (length m.room) depth (length m.frames) (length m.records)
    fitting = fitting_call _ _ _ _ _ _ _ _ _ (sym J.verdict ∙ ap verdict_of q)

    pub translation_room : Room 0 (length (translation_of s)) m.room
    translation_room = let r = fitting in record { fits = omega (arith, r.room_fits); small = omega (arith, r.size_bound) }

    pub call_fits : CallFits s f args depth m.frames m.records
    call_fits =
        let r = fitting in
        record {
          bytes = J.bytes;
          is_accepted = J.is_accepted;
          function = r.function;
          arguments = r.arguments;
          fits = r.size_bound;
          depth_bound = r.depth_bound;
          frames_fit = r.frames_fit;
          records_fit = r.records_fit;
        }

    -- The translation is written at the front of the room.
    module _ {n size : ℕ} {room' : List ℕ} (W : Wrote 0 (translation_of s) m.room n room') (es : size ≡ length (translation_of s)) where
      room_is : room' ≡ translation_of s ++ drop (length (translation_of s)) m.room
      room_is = W.laid ∙ lay_front (translation_of s) m.room

      pub size_there : size ≤ length room'
      size_there =
          let l : length room' ≡ length (translation_of s) + length (drop (length (translation_of s)) m.room) = ap length room_is ∙ length-append (translation_of s) (drop (length (translation_of s)) m.room) in
          omega arith

      pub front_is : take size room' ≡ translation_of s
      front_is =
          ap (λ (k : ℕ). take k room') es
          ∙ (ap (λ (d : List ℕ). take (length (translation_of s)) d) room_is ∙ take-append_seam (translation_of s) (drop (length (translation_of s)) m.room))

      pub call_ran : {frames' records' : List ℤ} (a : Sides) → MachinesRan s f args depth budget a m.frames frames' m.records records'
          → Promises s f args depth budget m a (record { frames = frames'; room = room'; records = records' })
      unfolding sides_tell
      call_ran {frames'} {records'} a M =
          let m' : Memory = record { frames = frames'; room = room'; records = records' } in
          promised_ran (λ b. verdict_of b.verdict) summary_of refused_sides (runs_summary s f args depth budget) refl (Ran s f args depth budget a m m') a m m' (sym judged ∙ ap verdict_of q) M.answer
          (record { translation = room_is; together = M.together })
