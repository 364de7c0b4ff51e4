-- What reads waiting frames: return, and a step that raises. One law a way, as the code has it.
use Prim.Native.Nat.{ℕ, zero, suc, ◌+◌, ◌*◌, ◌-◌, ◌≤◌, ◌<◌}
use native.Mathlib.Omega.{arith}
use Rattle.std.proofs.Common.{add-zero, add_assoc, ◌∙◌, subst, ne_eqb, length-set, take-take}
use Rattle.std.proofs.Math.Decide.{ℕ_discrete}
use Rattle.std.specs.Prelude.{◌≡◌, Bool, eqb, pos, get_or, set, drop}
use Rattle.std.proofs.Math.Path.{refl, sym, ap}
use Rattle.std.proofs.Math.Bool.{true, false, cond}
use mathlib.Core.List.{List, ◌∷◌}
use Rattle.std.proofs.Math.Option.{Option, none, some}
use Rattle.std.proofs.Math.IntN.{ℤ}
use Rattle.std.proofs.Math.ListN.{length, take}
use Rattle.std.proofs.Math.Seq.{take-set-lt}
use Rattle.semantics.specs.Program.{Variable, Block, Program}
use Rattle.semantics.specs.Run.{uncaught, next, end}
use Rattle.semantics.specs.Bench.{Frame, frame, state, returned, enter_by_raise, unwound, raised, step}
use Rattle.semantics.specs.WellFormed.{All, IsLabel, WellFormedFrame}
use Rattle.semantics.specs.Extras.{caught, one, bindings, raise_extra}
use Rattle.semantics.specs.Translation.{slot_of, receiver_at}
use Rattle.semantics.proofs.Follow.{length_received}
use Rattle.parsing.specs.Fields.{version_of}
use Rattle.procedure_file.specs.Places.{start_of, handler_of, receiver_of}
use Rattle.semantics.specs.Matching.{newest_guarded}
use Rattle.semantics.proofs.SlotLaws.{given_some}
use Rattle.memory.specs.declared.Head.{Head}
use Rattle.memory.specs.Lay.{lay}
use Rattle.memory.specs.Frame.{frame_size, frame_at, head_of, values_of}
use Rattle.memory.specs.LayLaws.{length_lay, length_part}
use Rattle.memory.specs.FrameLaws.{frame_values}
use Rattle.procedure_operations.specs.declared.operation.Operation.TheVariants.{Return}
use Rattle.procedure_operations.specs.Operation.{operation_at}
use Rattle.procedure_file.specs.Check.{program_of}
use Rattle.procedure_layout.specs.Rest.{rest_at}
use Rattle.bench_frames.specs.declared.registers.Regs.{Regs}
use Rattle.bench_frames.specs.declared.registers.Step.TheVariants.{Next, Ended}
use Rattle.runs.specs.declared.End.TheVariants.{Value, Uncaught}
use Rattle.procedure_file.specs.FileInvariant.{FileInvariant, OperationsAt}
use Rattle.bench_frames.specs.Machine.{function_at, vars_of, start_regs, frame_of, frames_of, state_of, Standing}
use Rattle.bench_frames.specs.StateLaws.{Gives, length_frames, front, frame_with, vars_bound, stepped, extra_is, place, placed, there, moved}
use Rattle.bench_unwind.specs.Raises.{is_zero, leaving, Receives, Leaves, Raises}
use Rattle.bench_unwind.specs.Guarded.{newest_guarded_in, FramesFit}
use Rattle.bench_unwind.specs.GuardedLaws.{frame_ready}
use Rattle.bench_unwind.specs.EnterLaws.{enters_by_raise, receiver_at_lem, receiver_set, value_is, no_extras}

-- A waiting frame is well-formed.
waits : (s : List ℕ) (words : List ℤ) (d w : ℕ) → d < w → All (WellFormedFrame (program_of s)) (frames_of s words w) → WellFormedFrame (program_of s) (frame_of s (frame_at d words))
waits s words d zero l a = absurd (omega arith)
waits s words d (suc w) l a = by (ℕ_discrete d w) (λ (k : d < w). waits s words d w k a.1)
  where
    by : Dec (d ≡ w) → (d < w → WellFormedFrame (program_of s) (frame_of s (frame_at d words))) → WellFormedFrame (program_of s) (frame_of s (frame_at d words))
    by (yes e) more = subst (λ (k : ℕ). WellFormedFrame (program_of s) (frame_of s (frame_at k words))) (sym e) a.0
    by (no e) more = more (omega (arith, l, e))

-- The waiting frames lie in the words, and their heads can be read.
pub frames_fit_lem : {s : List ℕ} {limit : ℕ} {r : Regs} {vs words : List ℤ} → Standing s limit r vs words → FramesFit frame_size words r.waiting
frames_fit_lem {limit = limit} {r = r} {words = words} H =
    let m : r.waiting ≤ limit = H.waiting in let k : frame_size * limit ≤ length words = H.room in record { head_room = omega arith; room = omega arith; heads = λ d l. (H.frames d l).head }

-- The frames up to frame d, with handler k in frame d.
abbrev frames_with : List ℕ → List ℤ → ℕ → ℕ → List Frame
frames_with s words d k =
    let h = head_of (frame_at d words) in
    frame h.word0 k (rest_at s h.word2) (take (vars_of s h.word0) (values_of (frame_at d words))) h.word3 ∷ frames_of s words d

-- ── The newest frame with a handler ─────────────────────────────────────────────────────────────

-- The one that is found in the words is the one of the rules.
pub guarded_in : (s : List ℕ) (words : List ℤ) (w : ℕ) → newest_guarded_in frame_size words w ≡ newest_guarded (frames_of s words w)
unfolding newest_guarded_in
guarded_in s words zero = refl
guarded_in s words (suc w) = by (head_of (frame_at w words)).word1 (guarded_in s words w)
  where
    by : (k : ℕ) → newest_guarded_in frame_size words w ≡ newest_guarded (frames_of s words w) → cond (eqb k 0) (newest_guarded_in frame_size words w) (suc w) ≡ newest_guarded (frames_with s words w k)
    by zero e = e
    by (suc l) e = rw (ne_eqb (suc l) 0 (λ (z : suc l ≡ 0). omega (arith, z))) (ap suc (sym (length_frames s words w)))

-- What a raise of n comes to that its own function does not catch, by the count of the newest frame with a handler.
abbrev Unwinds : List ℕ → ℤ → List ℤ → ℕ → ℕ → Type 0
Unwinds s n words w zero = (unwound (program_of s) n (frames_of s words w) ≡ end (uncaught n)) × (caught (frames_of s words w) ≡ 0)
Unwinds s n words w (suc d) =
    (d < w) × (1 ≤ (head_of (frame_at d words)).word1) × (unwound (program_of s) n (frames_of s words w) ≡ unwound (program_of s) n (frames_of s words (suc d))) × (caught (frames_of s words w) ≡ 1)

unwinds_past : (s : List ℕ) (n : ℤ) (words : List ℤ) (w m : ℕ) → (head_of (frame_at w words)).word1 ≡ 0 → Unwinds s n words w m → Unwinds s n words (suc w) m
unwinds_past s n words w zero e u = (ap (λ (k : ℕ). unwound (program_of s) n (frames_with s words w k)) e ∙ u.0, ap (λ (k : ℕ). caught (frames_with s words w k)) e ∙ u.1)
unwinds_past s n words w (suc d) e u =
    let l : d < w = u.0 in
    (omega arith, u.1, ap (λ (k : ℕ). unwound (program_of s) n (frames_with s words w k)) e ∙ u.2, ap (λ (k : ℕ). caught (frames_with s words w k)) e ∙ u.3)

unwinds : (s : List ℕ) (n : ℤ) (words : List ℤ) (w : ℕ) → Unwinds s n words w (newest_guarded (frames_of s words w))
unwinds s n words zero = (refl, refl)
unwinds s n words (suc w) = by (head_of (frame_at w words)).word1 refl (unwinds s n words w)
  where
    by : (k : ℕ) → (head_of (frame_at w words)).word1 ≡ k → Unwinds s n words w (newest_guarded (frames_of s words w)) → Unwinds s n words (suc w) (newest_guarded (frames_of s words (suc w)))
    by zero e u = subst (Unwinds s n words (suc w)) (sym (ap (λ (k : ℕ). newest_guarded (frames_with s words w k)) e)) (unwinds_past s n words w (newest_guarded (frames_of s words w)) e u)
    by (suc l) e u =
        subst (Unwinds s n words (suc w)) (sym (ap (λ (k : ℕ). newest_guarded (frames_with s words w k)) e ∙ ap suc (length_frames s words w)))
        (omega arith, omega arith, refl, ap (λ (k : ℕ). caught (frames_with s words w k)) e)

unwound_guarded : (P : Program) (n : ℤ) (f k : ℕ) (b : Block) (vs : List ℤ) (x : ℕ) (fs : List Frame) → 1 ≤ k → unwound P n (frame f k b vs x ∷ fs) ≡ enter_by_raise P f k n vs fs
unwound_guarded P n f zero b vs x fs l = absurd (omega arith)
unwound_guarded P n f (suc k) b vs x fs l = refl

module _ {s : List ℕ} (F : FileInvariant s) {limit : ℕ} {r : Regs} {vs words : List ℤ} (H : Standing s limit r vs words) where
  -- What is known of a waiting frame and of its head h.
  pub record FrameSafe (d : ℕ) (h : Head) : Type 0 where
    pub function : h.word0 < length (program_of s)
    pub handler : h.word1 ≤ length (function_at s h.word0).blocks
    pub variable_bound : vars_of s h.word0 ≤ 32
    pub variable : h.word3 < vars_of s h.word0
    pub result : h.word3 < 32
    pub stands : OperationsAt s h.word0 h.word2
    pub copied : (frame_size * d + 4 + 32 ≤ length words) × (0 + 32 ≤ length vs)
    pub depth_bound : d < 256

  pub frame_safe : {d : ℕ} {h : Head} → d < r.waiting → h ≡ head_of (frame_at d words) → FrameSafe d h
  frame_safe {d} {h} l e =
      let w : WellFormedFrame (program_of s) (frame_with s h (values_of (frame_at d words))) = rw e (waits s words d r.waiting l frames_good) in
      let v : vars_of s h.word0 ≤ 32 = vars_bound F w.0.function in
      let x : h.word3 < vars_of s h.word0 = subst (λ (k : ℕ). h.word3 < k) w.0.variables w.1 in
      let k : frame_size * d + frame_size ≤ length words = (frame_ready (frames_fit_lem H) l).0.1 in
      let b : length vs ≡ 32 = H.variables in
      let y : r.waiting ≤ limit = H.waiting in
      let z : limit ≤ 256 = H.depth_bound in
      record {
        function = w.0.function;
        handler = w.0.handler;
        variable_bound = v;
        variable = x;
        result = omega arith;
        stands = rw e (H.frames d l).place;
        copied = (omega arith, omega arith);
        depth_bound = omega arith;
      }
    where
      frames_good : All (WellFormedFrame (program_of s)) (frames_of s words r.waiting)
      frames_good = unfold state_of in H.good.1

  -- A waiting frame whose values are copied to the machine's variables.
  module _ {d : ℕ} {h : Head} {us : List ℤ} (l : d < r.waiting) (eh : h ≡ head_of (frame_at d words)) (eu : us ≡ lay 0 (take 32 (drop (frame_size * d + 4) words)) vs) where
    abbrev part : List ℤ
    part = take 32 (drop (frame_size * d + 4) words)

    part_long : length part ≡ 32
    part_long = length_part (frame_size * d + 4) 32 words (frame_safe l eh).copied.0

    part_is : (v : ℕ) → v ≤ 32 → take v us ≡ take v (drop (frame_size * d + 4) words)
    part_is v h =
        ap (take v) eu
        ∙ (sym (take-take v 32 (lay 0 part vs) h) ∙ (ap (take v) (front 32 part vs part_long) ∙ take-take v 32 (drop (frame_size * d + 4) words) h))

    frame_is : frame_of s (frame_at d words) ≡ frame_with s h us
    frame_is =
        let v : vars_of s h.word0 ≤ 32 = (frame_safe l eh).variable_bound in
        ap (λ (k : Head). frame_with s k (values_of (frame_at d words))) (sym eh)
        ∙ ap (λ (ws : List ℤ). frame h.word0 h.word1 (rest_at s h.word2) ws h.word3)
        (frame_values frame_size d (vars_of s h.word0) words (omega arith) ∙ sym (part_is (vars_of s h.word0) v))

    us_long : length us ≡ 32
    us_long =
        let k : length part ≡ 32 = part_long in
        let b : length vs ≡ 32 = H.variables in
        ap length eu ∙ (length_lay 0 part vs (omega arith) ∙ b)

  -- 6 return
  returning : {x y n : ℕ} {v : ℤ} → operation_at s r.at ≡ Return x n → y ≡ x → v ≡ get_or vs y (pos 0) → step (program_of s) limit (state_of s r vs words) ≡ returned v (frames_of s words r.waiting)
  unfolding step
  returning e ey q = rw (q, ey) (stepped F H e ∙ given_some (λ (z : ℤ). returned z (frames_of s words r.waiting)) (value_is F H (placed F H e).block))

  pub return_value : {x y n : ℕ} {v : ℤ} → operation_at s r.at ≡ Return x n → y ≡ x → v ≡ get_or vs y (pos 0) → r.waiting ≡ 0 → Gives H (Ended (Value v) r.extras) vs words
  return_value {v = v} e ey q z = record { outcome = sym (returning e ey q ∙ ap (λ (d : ℕ). returned v (frames_of s words d)) z); held = no_extras (extra_is F H e); kept = refl; same_length = refl }

  pub last_below : ¬ (r.waiting ≡ 0) → r.waiting - 1 < r.waiting
  last_below w = omega (arith, w)

  pub return_frame : {x y n : ℕ} {v : ℤ} {h : Head} {us : List ℤ} → operation_at s r.at ≡ Return x n → y ≡ x → v ≡ get_or vs y (pos 0) → ¬ (r.waiting ≡ 0) → h ≡ head_of (frame_at (r.waiting - 1) words)
      → us ≡ lay 0 (take 32 (drop (frame_size * (r.waiting - 1) + 4) words)) vs
      → Gives H (Next (record { function = h.word0; handler = h.word1; at = h.word2; waiting = r.waiting - 1; extras = r.extras })) (set us h.word3 v) words
  unfolding state_of
  return_frame {v = v} {h = h} {us = us} e ey q w eh eu =
      let l : r.waiting - 1 < r.waiting = last_below w in
      let z : r.waiting ≡ suc (r.waiting - 1) = omega arith in
      let S = frame_safe l eh in
      moved F H
      (returning e ey q
      ∙ (ap (λ (d : ℕ). returned v (frames_of s words d)) z
      ∙ (ap (λ (g : Frame). returned v (g ∷ frames_of s words (r.waiting - 1))) (frame_is l eh eu)
      ∙ ap (λ (ws : List ℤ). next (state h.word0 h.word1 (rest_at s h.word2) ws (frames_of s words (r.waiting - 1)))) (sym (take-set-lt (vars_of s h.word0) us h.word3 v S.variable)))))
      S.stands (λ i k. H.frames i (omega arith)) (length-set us h.word3 v ∙ us_long l eh eu) refl refl (no_extras (extra_is F H e))

  -- A step that raises, under a handler.
  pub here_safe : ¬ (r.handler ≡ 0) → (r.function < length (program_of s)) × IsLabel (length (function_at s r.function).blocks) r.handler
  here_safe z = (there F H, (omega (arith, z), (place F H).handler))

  abbrev Leaving : ℕ → ℤ → Type 0
  Leaving x n = Leaves s limit r vs words x n

  module _ {x : ℕ} {n : ℤ} {c : Bool} (R : Raises s limit r vs words x n c) where
    pub raise_here : {us : List ℤ} {k : ℕ} {q : Regs} → ¬ (r.handler ≡ 0) → Receives (receiver_of (function_at s r.function) r.handler) n vs us k
        → q ≡ start_regs s r.function r.handler r.waiting (x + k) → Gives H (Next q) us words
    unfolding state_of
    raise_here {us} {k} z E eq =
        let f : ℕ = r.function in
        let l : ℕ = r.handler in
        let i : IsLabel (length (function_at s f).blocks) l = (here_safe z).1 in
        let p : Option Variable = receiver_of (function_at s f) l in
        let ws : List ℤ = take (vars_of s f) vs in
        let fs : List Frame = frames_of s words r.waiting in
        rw eq
        (moved F H
        (R.outcome
        ∙ (by_handler l z
        ∙ (enters_by_raise F (there F H) i n ws fs
        ∙ ap (λ (zs : List ℤ). next (state f (handler_of (function_at s f) l) (rest_at s (start_of (program_of s) f l)) zs fs)) (sym (ap (take (vars_of s f)) E.set ∙ receiver_set F (there F H) i n vs)))))
        (F.start f l (there F H) i.1) H.frames (ap length E.set ∙ (length_received p n vs ∙ H.variables)) refl refl
        (sym (R.counted ∙ ap (λ (m : ℕ). x + m) (binding l z ∙ sym (E.counted ∙ ap one (sym (receiver_at_lem F f l i)))))))
      where
        by_handler : (m : ℕ) → ¬ (m ≡ 0) → raised (program_of s) r.function m n (take (vars_of s r.function) vs) (frames_of s words r.waiting) ≡ enter_by_raise (program_of s) r.function m n (take (vars_of s r.function) vs) (frames_of s words r.waiting)
        by_handler zero h = absurd (h refl)
        by_handler (suc m) h = refl

        binding : (m : ℕ) → ¬ (m ≡ 0) → raise_extra (program_of s) r.function m R.named (frames_of s words r.waiting) ≡ one (receiver_at (function_at s r.function) m)
        binding zero h = absurd (h refl)
        binding (suc m) h = add-zero (one (receiver_at (function_at s r.function) (suc m)))

    -- Without one it leaves the function.
    pub raise_leaves : {k : ℕ} → r.handler ≡ 0 → k ≡ leaving (version_of s) c → Leaving (x + k) n
    unfolding leaving
    raise_leaves {k} z e =
        record {
          outcome = R.outcome ∙ ap (λ (m : ℕ). raised (program_of s) r.function m n (take (vars_of s r.function) vs) (frames_of s words r.waiting)) z;
          counted =
              R.counted
              ∙ (ap (λ (m : ℕ). x + raise_extra (program_of s) r.function m R.named (frames_of s words r.waiting)) z
              ∙ (sym (add_assoc x (bindings (function_at s r.function) 0 R.named) (caught (frames_of s words r.waiting)))
              ∙ ap (λ (m : ℕ). x + m + caught (frames_of s words r.waiting)) (bound R.named (e ∙ ap (leaving (version_of s)) R.zero_is))));
        }
      where
        bound : (q : Option Variable) → k ≡ leaving (version_of s) (is_zero q) → bindings (function_at s r.function) 0 q ≡ k
        bound none h = ap (λ (v : ℕ). one (cond (eqb v 2) (some (slot_of (suc (suc (vars_of s r.function))))) none)) (F.version r.function (there F H)) ∙ (by (eqb (version_of s) 2) ∙ sym h)
          where
            by : (t : Bool) → one (cond t (some (slot_of (suc (suc (vars_of s r.function))))) none) ≡ cond t 1 0
            by true = refl
            by false = refl
        bound (some y) h = sym h

  pub leaves_as : {x : ℕ} {n z : ℤ} → z ≡ n → Leaving x n → Leaving x z
  leaves_as {x} e L = subst (λ (i : ℤ). Leaving x i) (sym e) L

  -- No frame has one.
  pub raise_uncaught : {x k : ℕ} {n z : ℤ} → Leaving x n → z ≡ n → k ≡ newest_guarded (frames_of s words r.waiting) → k ≡ 0 → Gives H (Ended (Uncaught z) x) vs words
  raise_uncaught {x} {n = n} L e g q =
      let u : Unwinds s n words r.waiting 0 = subst (Unwinds s n words r.waiting) (sym g ∙ q) (unwinds s n words r.waiting) in
      record { outcome = ap (λ (i : ℤ). end (uncaught i)) e ∙ sym (L.outcome ∙ u.0); held = no_extras refl ∙ sym (L.counted ∙ ap (λ (m : ℕ). x + m) u.1); kept = refl; same_length = refl }

  -- The newest frame that has one, the k-th oldest.
  module _ {k : ℕ} (g : k ≡ newest_guarded (frames_of s words r.waiting)) (p : 0 < k) where
    unwinding : (n : ℤ) → Unwinds s n words r.waiting (suc (k - 1))
    unwinding n = let q : k ≡ suc (k - 1) = omega arith in subst (Unwinds s n words r.waiting) (sym g ∙ q) (unwinds s n words r.waiting)

    pub caught_below : k - 1 < r.waiting
    caught_below = (unwinding (pos 0)).0

    pub caught_label : {h : Head} → h ≡ head_of (frame_at (k - 1) words)
        → (h.word0 < length (program_of s)) × IsLabel (length (function_at s h.word0).blocks) h.word1
    caught_label eh = let S = frame_safe caught_below eh in (S.function, (rw eh (unwinding (pos 0)).1, S.handler))

    pub raise_caught : {x m : ℕ} {n : ℤ} {h : Head} {us ws : List ℤ} {q : Regs} → Leaving x n → h ≡ head_of (frame_at (k - 1) words)
        → us ≡ lay 0 (take 32 (drop (frame_size * (k - 1) + 4) words)) vs → Receives (receiver_of (function_at s h.word0) h.word1) n us ws m
        → q ≡ start_regs s h.word0 h.word1 (k - 1) (x + 1) → Gives H (Next q) ws words
    unfolding state_of
    raise_caught {x} {n = n} {h = h} {us = us} L eh eu E eq =
        let l : k - 1 < r.waiting = caught_below in
        let S = frame_safe l eh in
        let f : ℕ = h.word0 in
        let i : IsLabel (length (function_at s f).blocks) h.word1 = (caught_label eh).1 in
        let fs : List Frame = frames_of s words (k - 1) in
        rw eq
        (moved F H
        (L.outcome
        ∙ ((unwinding n).2
        ∙ (ap (λ (g : Frame). unwound (program_of s) n (g ∷ fs)) (frame_is l eh eu)
        ∙ (unwound_guarded (program_of s) n f h.word1 (rest_at s h.word2) (take (vars_of s f) us) h.word3 fs i.0
        ∙ (enters_by_raise F S.function i n (take (vars_of s f) us) fs
        ∙ ap (λ (zs : List ℤ). next (state f (handler_of (function_at s f) h.word1) (rest_at s (start_of (program_of s) f h.word1)) zs fs)) (sym (ap (take (vars_of s f)) E.set ∙ receiver_set F S.function i n us)))))))
        (F.start f h.word1 S.function i.1) (λ j x. H.frames j (omega arith)) (ap length E.set ∙ (length_received (receiver_of (function_at s f) h.word1) n us ∙ us_long l eh eu)) refl refl
        (sym (L.counted ∙ ap (λ (m : ℕ). x + m) (unwinding n).3)))
