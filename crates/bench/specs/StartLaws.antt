-- A run from function f: its start, its end and the clearing of frames, as the code has them.
use Rattle.std.specs.Prelude.{ℕ, zero, suc, ◌+◌, ◌*◌, ◌-◌, ◌≤◌, ◌<◌, ◌≡◌, refl, ℤ, pos, take, Ok}
use Rattle.std.proofs.Common.{arith, zero-add, ◌∙◌}
use Rattle.std.proofs.Math.Path.{sym, ap, subst}
use mathlib.Core.List.{List, [], ◌∷◌, ◌++◌}
use Rattle.std.proofs.Math.ListN.{length, drop, replicate}
use Rattle.std.proofs.lemmas.List.{length-replicate}
use Rattle.std.proofs.Math.Seq.{take-append-add, take-length}
use Rattle.semantics.specs.Program.{FunctionNumber, Block}
use Rattle.semantics.specs.Run.{Result, run, total, summary}
use Rattle.semantics.specs.Bench.{Frame, State, state, begun, step, bench}
use Rattle.semantics.specs.WellFormed.{WellFormedState}
use Rattle.semantics.specs.Extras.{extra, extras}
use Rattle.semantics.proofs.Theorem.{start_well_formed}
use Rattle.memory.specs.Lay.{lay}
use Rattle.memory.specs.Frame.{frame_size}
use Rattle.memory.specs.LayLaws.{length_lay}
use Rattle.memory.specs.FrameLaws.{frame_same}
use Rattle.runs.specs.Stopped.{stopped_as, in_use}
use Rattle.runs.specs.Tells.{tells}
use Rattle.runs.specs.WordsLaws.{in_use_as, in_use_fits, Cleared, cleared, words_after}
use Rattle.procedure_layout.specs.Rest.{rest_at}
use Rattle.procedure_file.specs.Check.{program_of}
use Rattle.procedure_file.specs.Places.{start_of}
use Rattle.procedure_file.specs.FileInvariant.{FileInvariant, OperationsAt}
use Rattle.bench_frames.specs.declared.registers.Regs.{Regs}
use Rattle.bench_frames.specs.Machine.{function_at, vars_of, frames_of, state_of, FrameStands, Standing}
use Rattle.bench_frames.specs.StateLaws.{length_frames, frames_same}
use Rattle.runs.specs.declared.Ran.{Ran}
use Rattle.bench.specs.declared.machine.Answer.{Answer}
use Rattle.runs.specs.Machine.{held, StoppedFrom}
use Rattle.bench.specs.RunResult.{StandsFor, machine, StoppedAt, RunResult}
use Rattle.bench.specs.Published.{ZeroAtEnd, run_of, frames_in, StateGiven, CallFits, RunAnswered}

drop_replicate : {A : Type 0} (n m : ℕ) (x : A) → drop n (replicate m x) ≡ replicate (m - n) x
drop_replicate zero m x = let q : m - 0 ≡ m = omega arith in ap (λ (k : ℕ). replicate k x) (sym q)
drop_replicate (suc n) zero x = let q : 0 - suc n ≡ 0 = omega arith in ap (λ (k : ℕ). replicate k x) (sym q)
drop_replicate (suc n) (suc m) x = let q : suc m - suc n ≡ m - n = omega arith in drop_replicate n m x ∙ ap (λ (k : ℕ). replicate k x) (sym q)

take_replicate : {A : Type 0} (n m : ℕ) (x : A) → n ≤ m → take n (replicate m x) ≡ replicate n x
take_replicate zero m x h = refl
take_replicate (suc n) zero x h = absurd (omega arith)
take_replicate {A} (suc n) (suc m) x h = ap (λ (l : List A). x ∷ l) (take_replicate n m x (omega arith))

module _ {s : List ℕ} (F : FileInvariant s) {f : FunctionNumber} {args : List ℤ} {depth : ℕ} {words : List ℤ} (C : CallFits s f args depth words) where
  there : f < length (program_of s)
  there = C.exists

  pub arguments_bound : length args ≤ 8
  arguments_bound = let a : length args ≡ (function_at s f).params = C.arguments in let b : (function_at s f).params ≤ 8 = (F.counts f there).params in omega arith

  -- Where the run starts.
  module _ {vs : List ℤ} {at : ℕ} (ev : vs ≡ lay 0 (take (length args) (drop 0 args)) (replicate 32 (pos 0))) (ea : at ≡ start_of (program_of s) f 0) (x : ℕ) where
    abbrev begins : Regs
    begins = record { function = f; handler = 0; at = at; waiting = 0; extras = x }

    vars_are : vs ≡ args ++ replicate (32 - length args) (pos 0)
    unfolding lay
    vars_are =
        ev ∙ (ap (λ (l : List ℤ). l ++ drop (0 + length l) (replicate 32 (pos 0))) (take-length args)
        ∙ ap (λ (l : List ℤ). args ++ l) (ap (λ (k : ℕ). drop k (replicate 32 (pos 0))) (zero-add (length args)) ∙ drop_replicate (length args) 32 (pos 0)))

    start_vars : take (vars_of s f) vs ≡ args ++ replicate (function_at s f).locals (pos 0)
    start_vars =
        let a : length args ≡ (function_at s f).params = C.arguments in
        let b : (function_at s f).params ≤ 8 = (F.counts f there).params in
        let l : (function_at s f).locals ≤ 24 = (F.counts f there).locals in
        ap (λ (us : List ℤ). take (vars_of s f) us) vars_are
        ∙ (ap (λ (k : ℕ). take (k + (function_at s f).locals) (args ++ replicate (32 - length args) (pos 0))) (sym a)
        ∙ (take-append-add args (replicate (32 - length args) (pos 0)) (function_at s f).locals
        ∙ ap (λ (us : List ℤ). args ++ us) (take_replicate (function_at s f).locals (32 - length args) (pos 0) (omega arith))))

    start_is : state_of s begins vs words ≡ begun f (function_at s f) args []
    unfolding state_of
    start_is =
        ap (λ (us : List ℤ). state f 0 (rest_at s at) us []) start_vars
        ∙ ap (λ (b : Block). state f 0 b (args ++ replicate (function_at s f).locals (pos 0)) []) (ap (λ (k : ℕ). rest_at s k) ea ∙ F.block f 0 there (omega arith))

    vars_long : length vs ≡ 32
    vars_long =
        let n : length args ≤ 8 = arguments_bound in
        let t : length (take (length args) args) ≡ length args = ap length (take-length args) in
        ap length ev ∙ (length_lay 0 (take (length args) (drop 0 args)) (replicate 32 (pos 0)) (omega arith) ∙ length-replicate 32 (pos 0))

    pub start_held : Standing s depth begins vs words
    start_held =
        record {
          good = subst (WellFormedState (program_of s)) (sym start_is) (start_well_formed (program_of s) F.well_formed f there args C.arguments);
          here = subst (λ (k : ℕ). OperationsAt s f k) (sym ea) (F.start f 0 there (omega arith));
          frames = λ d l. absurd (omega arith);
          waiting = omega arith;
          depth_bound = C.depth_bound;
          room = C.room;
          variables = vars_long;
        }

    pub start_small : x ≡ (function_at s f).locals → x < 4294967296
    start_small ex = let l : (function_at s f).locals ≤ 24 = (F.counts f there).locals in let e : x ≡ (function_at s f).locals = ex in omega arith

    -- Where it stopped, with w frames in use.
    module _ {budget : ℕ} {y : Ran Regs} {us words₁ : List ℤ} (R : RunResult s depth budget begins vs words y us words₁) where
      stops : StoppedFrom (machine s depth) budget (ZeroAtEnd y.regs.extras y.regs us) (held begins vs words) (state_of s begins vs words) (record { stop = stopped_as y.stopped; steps = y.steps }) (held y.regs us words₁)
      stops = R.ran.stops (state_of s begins vs words) (refl, start_held)

      ran : run (step (program_of s) depth) budget (state_of s begins vs words) ≡ run_of s f args depth budget
      unfolding bench
      ran = ap (λ (S : State). run (step (program_of s) depth) budget S) start_is

      sum : x ≡ (function_at s f).locals → x + total (step (program_of s) depth) (extra (program_of s)) budget (state_of s begins vs words) ≡ extras (program_of s) f args depth budget
      unfolding extras
      sum ex =
          ap (λ (S : State). x + total (step (program_of s) depth) (extra (program_of s)) budget S) start_is
          ∙ ap (λ (k : ℕ). k + total (step (program_of s) depth) (extra (program_of s)) budget (begun f (function_at s f) args [])) ex

      tells_so : summary (run_of s f args depth budget) ≡ record { stop = stopped_as y.stopped; steps = y.steps }
      tells_so = ap summary (sym ran) ∙ stops.tells

      reached : StoppedAt s depth (held y.regs us words₁) (run_of s f args depth budget).stop
      reached = subst (λ (b : Result State). StoppedAt s depth (held y.regs us words₁) b.stop) ran stops.state

      module _ {w : ℕ} (ew : w ≡ in_use (stopped_as y.stopped) y.regs.waiting) where
        used : w ≡ in_use (run_of s f args depth budget).stop y.regs.waiting
        used = in_use_as y.regs.waiting (run_of s f args depth budget).stop (ap (λ (b : Result (Unit {0})). b.stop) tells_so) ew

        fits : w ≤ depth
        fits = subst (λ (k : ℕ). k ≤ depth) (sym used) (in_use_fits y.regs.waiting (ZeroAtEnd y.regs.extras y.regs us) (run_of s f args depth budget).stop (λ S h. h.1.waiting) reached)

        pub clear_fits : (w ≤ depth) × (frame_size * depth ≤ length words₁)
        clear_fits = let k : frame_size * depth ≤ length words = C.room in let m : length words₁ ≡ length words = R.ran.keeps.same_length in (fits, omega arith)

        module _ {words₂ : List ℤ} (ec : words₂ ≡ lay (frame_size * w) (replicate (frame_size * depth - frame_size * w) (pos 0)) words₁) where
          clean : Cleared frame_size depth w words words₁ words₂
          clean = cleared frame_size fits C.room R.ran.keeps.past R.ran.keeps.same_length ec

          abbrev answer : Answer
          answer = record { verdict = (Ok tt); stopped = y.stopped; steps = y.steps; extras = y.regs.extras; regs = y.regs; vars = us }

          -- The state is still stood for once the other frames are cleared.
          still : (S : State) → w ≡ y.regs.waiting → StandsFor s depth (held y.regs us words₁) S
              → StateGiven s answer words₂ S × (frames_of s words₂ (length (frames_in S)) ≡ frames_in S) × (y.regs.waiting ≡ length (frames_in S))
          unfolding state_of
          still S q (e, I) =
              let k : frames_of s words₂ y.regs.waiting ≡ frames_of s words₁ y.regs.waiting =
              subst (λ (n : ℕ). frames_of s words₂ n ≡ frames_of s words₁ n) q (frames_same s w words₂ words₁ clean.below) in
              let g : frames_in S ≡ frames_of s words₂ y.regs.waiting = ap frames_in (sym e) ∙ sym k in
              let n : length (frames_in S) ≡ y.regs.waiting = ap length g ∙ length_frames s words₂ y.regs.waiting in (
                record {
                  is = ap (λ (fs : List Frame). state y.regs.function y.regs.handler (rest_at s y.regs.at) (take (vars_of s y.regs.function) us) fs) k ∙ e;
                  here = I.here;
                  frames = λ d l. subst (FrameStands s) (frame_same frame_size d w words₁ words₂ (omega arith) (sym clean.below)) (I.frames d l);
                  extras = refl;
                },
                ap (frames_of s words₂) n ∙ sym g,
                sym n,
              )

          pub answered : x ≡ (function_at s f).locals → RunAnswered s f args depth budget answer words words₂
          answered ex =
              record {
                answer =
                    ap (λ (k : Result (Unit {0})). tells (record { result = k; extras = y.regs.extras })) (sym tells_so)
                    ∙ ap (λ (n : ℕ). tells (record { result = summary (run_of s f args depth budget); extras = n })) (sym stops.sum ∙ sum ex);
                held =
                    words_after frames_in (λ fs. frames_of s words₂ (length fs) ≡ fs) (ZeroAtEnd y.regs.extras y.regs us) (StandsFor s depth (held y.regs us words₁)) (StateGiven s answer words₂)
                    clean refl still (run_of s f args depth budget).stop used reached;
              }
