-- The rules' state where the machine stands, and what a next state asks.
use Rattle.std.specs.Prelude.{ℕ, zero, suc, ◌+◌, ◌*◌, ◌≤◌, ◌<◌, ◌≡◌, refl, List, ◌∷◌, ℤ, length, take, drop}
use Rattle.std.proofs.Common.{arith, sym, ◌∙◌, subst, take_at, take-take}
use Rattle.std.proofs.Math.Path.{ap}
use Rattle.semantics.specs.Program.{Block, Program}
use Rattle.semantics.specs.Run.{next}
use Rattle.semantics.specs.Bench.{Frame, frame, State, state, waiting, step}
use Rattle.semantics.specs.WellFormed.{WellFormedPlace}
use Rattle.semantics.specs.Extras.{extra}
use Rattle.semantics.proofs.FollowCall.{step_well_formed}
use Rattle.memory.specs.declared.Head.{Head}
use Rattle.memory.specs.Lay.{lay}
use Rattle.memory.specs.Frame.{frame_size, frame_at}
use Rattle.memory.specs.FrameLaws.{frame_same}
use Rattle.procedure_operations.specs.declared.operation.Operation.{Operation}
use Rattle.procedure_operations.specs.Operation.{operation_at}
use Rattle.procedure_operations.specs.Ranges.{NumbersInRange}
use Rattle.procedure_file.specs.Check.{program_of}
use Rattle.procedure_layout.specs.Rest.{rest_from, rest_at}
use Rattle.bench_frames.specs.declared.registers.Regs.{Regs}
use Rattle.bench_frames.specs.declared.registers.Step.{Step}
use Rattle.bench_frames.specs.declared.registers.Step.TheVariants.{Next}
use Rattle.procedure_file.specs.FileInvariant.{FileInvariant, OperationsAt}
use Rattle.bench_frames.specs.Machine.{function_at, vars_of, frame_of, frames_of, state_of, FrameStands, Standing}
use Rattle.bench_frames.specs.Steps.{StepResult}
use Rattle.bench_frames.specs.OperationsLaws.{GoesOn, goes_on, rest_is}

pub length_frames : (s : List ℕ) (words : List ℤ) (d : ℕ) → length (frames_of s words d) ≡ d
length_frames s words zero = refl
length_frames s words (suc d) = ap suc (length_frames s words d)

-- The frames below d are those of the first frame_size × d words.
pub frames_same : (s : List ℕ) (d : ℕ) (ws us : List ℤ) → take (frame_size * d) ws ≡ take (frame_size * d) us → frames_of s ws d ≡ frames_of s us d
frames_same s zero ws us e = refl
frames_same s (suc d) ws us e =
    ap (λ (w : List ℤ). frame_of s w ∷ frames_of s ws d) (frame_same frame_size d (suc d) ws us (omega arith) e)
    ∙ ap (λ (fs : List Frame). frame_of s (frame_at d us) ∷ fs) (frames_same s d ws us (shorter ws us e))
  where
    shorter : (a b : List ℤ) → take (frame_size * suc d) a ≡ take (frame_size * suc d) b → take (frame_size * d) a ≡ take (frame_size * d) b
    shorter a b q = sym (cut a) ∙ (ap (λ (l : List ℤ). take (frame_size * d) l) q ∙ cut b)
      where
        cut : (l : List ℤ) → take (frame_size * d) (take (frame_size * suc d) l) ≡ take (frame_size * d) l
        cut l = take-take (frame_size * d) (frame_size * suc d) l (omega arith)

-- The first n words, once n words are laid at the front.
pub front : (n : ℕ) (w d : List ℤ) → length w ≡ n → take n (lay 0 w d) ≡ w
unfolding lay
front n w d q = take_at w (drop (0 + length w) d) n q

-- The frame with head h and variables vs.
abbrev pub frame_with : List ℕ → Head → List ℤ → Frame
frame_with s h vs = frame h.word0 h.word1 (rest_at s h.word2) (take (vars_of s h.word0) vs) h.word3

-- What a step gives from where the machine stands.
abbrev pub Gives : {s : List ℕ} {limit : ℕ} {r : Regs} {vs words : List ℤ} → Standing s limit r vs words → Step → List ℤ → List ℤ → Type 0
Gives {s} {limit} {r} {vs} {words} H x vs' words' = StepResult s limit r vs words x vs' words'

module _ {s : List ℕ} (F : FileInvariant s) where
  pub vars_bound : {f : ℕ} → f < length (program_of s) → vars_of s f ≤ 32
  vars_bound {f} h = let p : (function_at s f).params ≤ 8 = (F.counts f h).params in let l : (function_at s f).locals ≤ 24 = (F.counts f h).locals in omega arith

  module _ {limit : ℕ} {r : Regs} {vs words : List ℤ} (H : Standing s limit r vs words) where
    abbrev P : Program
    P = program_of s

    abbrev f : ℕ
    f = r.function

    abbrev now_vars : List ℤ
    now_vars = take (vars_of s r.function) vs

    abbrev now_frames : List Frame
    now_frames = frames_of s words r.waiting

    -- The rules' state where operation o stands.
    abbrev pub before : Operation → State
    before o = state f r.handler (rest_from s r.at o (rest_at s)) now_vars now_frames

    known : {o : Operation} → operation_at s r.at ≡ o → state_of s r vs words ≡ before o
    unfolding state_of
    known {o} e = ap (λ (x : Block). state f r.handler x now_vars now_frames) (rest_is (F) r.at o e)

    pub stepped : {o : Operation} → operation_at s r.at ≡ o → step P limit (state_of s r vs words) ≡ step P limit (before o)
    stepped e = ap (step P limit) (known e)

    pub extra_is : {o : Operation} → operation_at s r.at ≡ o → extra P (state_of s r vs words) ≡ extra P (before o)
    extra_is e = ap (extra P) (known e)

    pub place : WellFormedPlace P f r.handler (rest_at s r.at) now_vars
    unfolding state_of
    place = H.good.0

    pub placed : {o : Operation} → operation_at s r.at ≡ o → WellFormedPlace P f r.handler (rest_from s r.at o (rest_at s)) now_vars
    placed {o} e = subst (λ (x : Block). WellFormedPlace P f r.handler x now_vars) (rest_is (F) r.at o e) place

    pub there : r.function < length (program_of s)
    there = place.function

    pub small : vars_of s r.function ≤ 32
    small = vars_bound there

    -- The numbers that the operation names are in range.
    pub in_range_lem : {o : Operation} → operation_at s r.at ≡ o → NumbersInRange s r.at o
    in_range_lem {o} e = F.numbers r.function r.at o H.here e

    -- A next state.
    pub moved : {q : Regs} {vs' words' : List ℤ} → step P limit (state_of s r vs words) ≡ next (state_of s q vs' words') → OperationsAt s q.function q.at
        → ((d : ℕ) → d < q.waiting → FrameStands s (frame_at d words')) → length vs' ≡ 32 → length words' ≡ length words → drop (frame_size * limit) words' ≡ drop (frame_size * limit) words
        → q.extras ≡ r.extras + extra P (state_of s r vs words) → Gives H (Next q) vs' words'
    moved {q} {vs'} {words'} e st fr lv lw k x =
        let w = step_well_formed P F.well_formed limit (state_of s r vs words) (state_of s q vs' words') H.good e in
        record {
          outcome = sym e;
          held = (
            record {
              good = w.0;
              here = st;
              frames = fr;
              waiting = count_is_lem q vs' words' (w.1 (count_back H.waiting));
              depth_bound = H.depth_bound;
              room = subst (λ (n : ℕ). frame_size * limit ≤ n) (sym lw) H.room;
              variables = lv;
            },
            x,
          );
          kept = k;
          same_length = lw;
        }
      where
        count_is_lem : (p : Regs) (us ws : List ℤ) → waiting (state_of s p us ws) ≤ limit → p.waiting ≤ limit
        count_is_lem p us ws h = subst (λ (n : ℕ). n ≤ limit) (length_frames s ws p.waiting) (unfold state_of in h)

        count_back : r.waiting ≤ limit → waiting (state_of s r vs words) ≤ limit
        count_back h = unfold state_of in (subst (λ (n : ℕ). n ≤ limit) (sym (length_frames s words r.waiting)) h)

    pub on : {o : Operation} → operation_at s r.at ≡ o → GoesOn s r.function o
    on e = subst (GoesOn s r.function) e (goes_on (F) H.here)
