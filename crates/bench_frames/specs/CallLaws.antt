-- A call, as the code has it.
use Rattle.std.specs.Prelude.{ℕ, suc, ◌+◌, ◌*◌, ◌-◌, ◌≤◌, ◌<◌, ◌≡◌, ℤ, pos, length, get_or, set, take}
use Rattle.std.proofs.Common.{arith, add-one, zero-add, ◌∙◌, subst, length-append}
use Rattle.std.proofs.Math.Decide.{ℕ_discrete}
use Rattle.std.proofs.Math.Path.{refl, sym, ap}
use mathlib.Core.List.{List, [], ◌∷◌, ◌++◌, map}
use borrow.Author.Tests.{le-leb, lt-leb}
use Rattle.std.proofs.Math.ListN.{replicate}
use Rattle.std.proofs.lemmas.List.{length-map, length-replicate}
use Rattle.std.proofs.Math.Seq.{take-length}
use Rattle.semantics.specs.Program.{Block, no_function}
use Rattle.semantics.specs.Run.{next, too_deep}
use Rattle.semantics.specs.Bench.{Frame, frame, state, begun, step}
use Rattle.semantics.specs.WellFormed.{All}
use Rattle.semantics.proofs.ListLaws.{at_get_d}
use Rattle.semantics.proofs.SlotLaws.{values_are}
use Rattle.memory.specs.declared.Head.{Head}
use Rattle.memory.specs.Lay.{lay}
use Rattle.memory.specs.Frame.{frame_size, frame_at, Small, frame_words, values_of}
use Rattle.memory.specs.LayLaws.{length_lay, join}
use Rattle.memory.specs.GatherLaws.{Gathered, gathered_none, gathered_more, gathered_all}
use Rattle.memory.specs.FrameLaws.{frame_same, pushed, pushed_head, pushed_fits, pushed_values, pushed_below, pushed_past, pushed_long, pushed_value}
use Rattle.procedure_operations.specs.declared.operation.Operation.{Operation}
use Rattle.procedure_operations.specs.declared.operation.Operation.TheVariants.{Call}
use Rattle.procedure_operations.specs.Operation.{operation_at}
use Rattle.procedure_operations.specs.Ranges.{NumbersInRange}
use Rattle.procedure_fields.specs.Number.{count_of}
use Rattle.procedure_layout.specs.Layout.{arguments_at}
use Rattle.procedure_file.specs.Check.{program_of}
use Rattle.procedure_layout.specs.Rest.{rest_at}
use Rattle.bench_frames.specs.declared.registers.Regs.{Regs}
use Rattle.bench_frames.specs.declared.registers.Step.TheVariants.{Next, Deep}
use Rattle.procedure_file.specs.Places.{start_of}
use Rattle.procedure_file.specs.FileInvariant.{FileInvariant, OperationsAt}
use Rattle.bench_frames.specs.Machine.{function_at, vars_of, frame_of, frames_of, state_of, FrameStands, Standing}
use Rattle.bench_frames.specs.Steps.{ArgumentsInBounds}
use Rattle.bench_frames.specs.StateLaws.{Gives, length_frames, frames_same, front, frame_with, vars_bound, before, stepped, extra_is, placed, small, in_range_lem, on, moved}

map_same : {A B : Type 0} (f g : A → B) (Q : A → Type 0) (xs : List A) → All Q xs → ((x : A) → Q x → f x ≡ g x) → map f xs ≡ map g xs
map_same f g Q [] a h = refl
map_same {B = B} f g Q (x ∷ xs) a h = ap (λ (y : B). y ∷ map f xs) (h x a.0) ∙ ap (λ (l : List B). g x ∷ l) (map_same f g Q xs a.1 h)

-- The arguments of a call, read one by one.
module _ {s : List ℕ} {at k : ℕ} {words : List ℤ} {base : ℕ} (A : ArgumentsInBounds s at k words base) where
  pub argument_there : {i : ℕ} → i < k → (i < count_of (operation_at s at)) × NumbersInRange s at (operation_at s at)
  argument_there {i} l = (subst (λ (n : ℕ). i < n) (sym A.count) l, A.numbers)

  pub argument_is : (i : ℕ) {x y : ℕ} → x ≡ get_or (arguments_at s at (count_of (operation_at s at))) i 0 → y ≡ x → y ≡ get_or (arguments_at s at k) i 0
  argument_is i e q = q ∙ (e ∙ ap (λ (n : ℕ). get_or (arguments_at s at n) i 0) A.count)

  -- The value that argument i names is there.
  pub value_there : (i : ℕ) {y : ℕ} → i < k → y ≡ get_or (arguments_at s at k) i 0 → base + y < length words
  value_there i l e = let r : base + 32 ≤ length words = A.room in let m : get_or (arguments_at s at k) i 0 < 32 = A.small i l in omega arith

  -- After i of them.
  abbrev pub Read : List ℤ → ℕ → List ℤ → Type 0
  Read us₀ i us = Gathered (λ y. get_or words (base + y) (pos 0)) (arguments_at s at k) 0 k us₀ i us

  pub read_none : (us : List ℤ) → length us ≡ 32 → Read us 0 us
  read_none us q =
      let h : length (arguments_at s at k) ≡ k = A.arguments in
      let b : k ≤ 32 = A.count_bound in
      gathered_none (λ y. get_or words (base + y) (pos 0)) (arguments_at s at k) 0 k us (λ j l. omega arith) (omega arith)

  pub read_more : {us₀ us : List ℤ} {i y : ℕ} {v : ℤ} → Read us₀ i us → i < k → y ≡ get_or (arguments_at s at k) i 0 → v ≡ get_or words (base + y) (pos 0) → Read us₀ (i + 1) (set us i v)
  read_more {i = i} p l e ev =
      gathered_more (λ y. get_or words (base + y) (pos 0)) p l
      (ev ∙ ap (λ (y : ℕ). get_or words (base + y) (pos 0)) (e ∙ ap (λ (j : ℕ). get_or (arguments_at s at k) j 0) (sym (zero-add i))))

  pub read_all : {us₀ us : List ℤ} {i : ℕ} → Read us₀ i us → k ≤ i → us ≡ lay 0 (map (λ y. get_or words (base + y) (pos 0)) (arguments_at s at k)) us₀
  read_all {us₀} p l =
      gathered_all (λ y. get_or words (base + y) (pos 0)) p l
      ∙ ap (λ (ys : List ℕ). lay 0 (map (λ y. get_or words (base + y) (pos 0)) ys) us₀)
      (ap (λ (n : ℕ). take n (arguments_at s at k)) (sym A.arguments) ∙ take-length (arguments_at s at k))

-- The same call, by the numbers that the code has.
pub call_named : {o : Operation} {x y g h c k n : ℕ} → o ≡ Call x g c n → y ≡ x → h ≡ g → k ≡ c → o ≡ Call y h k n
call_named e p q r = rw (p, q, r) e

module _ {s : List ℕ} (F : FileInvariant s) {limit : ℕ} {r : Regs} {vs words : List ℤ} (H : Standing s limit r vs words)
    {x g c n : ℕ} (op : operation_at s r.at ≡ Call x g c n) where
  abbrev ys : List ℕ
  ys = arguments_at s r.at c

  callee : g < length (program_of s)
  callee = (placed F H op).block.1

  -- With all frames waiting.
  pub call_deep : limit ≤ r.waiting → Gives H Deep vs words
  unfolding step
  call_deep l =
      let d : step (program_of s) limit (before F H (Call x g c n)) ≡ too_deep = rw (length_frames s words r.waiting, le-leb limit r.waiting l) in
      record { outcome = sym (stepped F H op ∙ d); held = (refl, refl); kept = refl; same_length = refl }

  count : length ys ≡ (function_at s g).params
  count = (placed F H op).block.2

  c_is : c ≡ (function_at s g).params
  c_is = sym (F.called r.at x g c n op) ∙ count

  -- What the code may rely on.
  pub record CallSafe : Type 0 where
    pub function : g < length (program_of s)
    pub target : x < 32
    pub variable_bound : vars_of s r.function ≤ 32
    pub callee : (function_at s g).params + (function_at s g).locals ≤ 32
    pub behind : n < 32768
    pub handler : r.handler ≤ 63
    pub own : r.function < length (program_of s)
    pub own_bound : r.function < 32

  pub call_safe : CallSafe
  call_safe =
      let w = placed F H op in
      let lg : g < length (program_of s) = callee in
      let lf : r.function < length (program_of s) = w.function in
      let functions : length (program_of s) ≤ 32 = F.most in
      let file_bound : length s ≤ 32768 = F.file_bound in
      let v : vars_of s r.function ≤ 32 = small F H in
      let b : n < length s = F.inside r.function n (on F H op) in
      let k : length (function_at s r.function).blocks ≤ 63 = (F.counts r.function lf).blocks in
      let h : r.handler ≤ length (function_at s r.function).blocks = w.handler in
      record {
        function = lg;
        target = (in_range_lem F H op).0;
        variable_bound = v;
        callee = vars_bound F lg;
        behind = omega arith;
        handler = omega arith;
        own = lf;
        own_bound = omega arith;
      }

  -- The caller's variables, the head of the frame that keeps them, and the frames with that one.
  abbrev own : List ℤ
  own = take (vars_of s r.function) vs

  abbrev pub saved : Head
  saved = record { word0 = r.function; word1 = r.handler; word2 = n; word3 = x }

  abbrev frames : List Frame
  frames = frame r.function r.handler (rest_at s n) own x ∷ frames_of s words r.waiting

  abbrev args : List ℤ
  args = map (λ (y : ℕ). get_or own y (pos 0)) ys

  own_long : length own ≡ vars_of s r.function
  own_long = (placed F H op).variables

  ys_small : All (λ (y : ℕ). y < length own) ys
  ys_small = subst (λ (m : ℕ). All (λ (y : ℕ). y < m) ys) (sym own_long) (placed F H op).block.3

  -- With a frame free, and the count v of the caller's variables.
  module _ (free : r.waiting < limit) {v : ℕ} (v_is : v ≡ vars_of s r.function) where
    pub call_push : (frame_size * r.waiting + frame_size ≤ length words) × (Small saved × ((v ≤ length vs) × (4 + v ≤ frame_size)))
    call_push =
        let S = call_safe in
        let q : v ≡ vars_of s r.function = v_is in
        let b : length vs ≡ 32 = H.variables in
        let k : frame_size * limit ≤ length words = H.room in
        (omega arith, (record { word0 = omega arith; word1 = omega arith; word2 = omega arith; word3 = omega arith }, (omega arith, omega arith)))

    -- The rules' step.
    calling : step (program_of s) limit (state_of s r vs words) ≡ next (begun g (function_at s g) args frames)
    unfolding step
    calling =
        let d : step (program_of s) limit (before F H (Call x g c n)) ≡ next (begun g (function_at s g) args frames) =
        rw (length_frames s words r.waiting, lt-leb limit r.waiting free, at_get_d (program_of s) g no_function callee, values_are own ys ys_small) in
        stepped F H op ∙ d

    room : frame_size * r.waiting + frame_size ≤ length words
    room = call_push.0

    own_bound_lem : 4 + length own ≤ frame_size
    own_bound_lem = let e : length own ≡ vars_of s r.function = own_long in let m : vars_of s r.function ≤ 32 = small F H in omega arith

    abbrev after : List ℤ
    after = pushed frame_size r.waiting saved own words own_bound_lem room

    -- The frames, with the new one.
    frames_are : frames_of s after (suc r.waiting) ≡ frames
    frames_are =
        ap (λ (fs : List Frame). frame_of s (frame_at r.waiting after) ∷ fs) (frames_same s r.waiting after words (pushed_below frame_size r.waiting saved own words own_bound_lem room))
        ∙ (ap (λ (h : Head). frame_with s h (values_of (frame_at r.waiting after)) ∷ frames_of s words r.waiting) (pushed_head frame_size r.waiting saved own words own_bound_lem room)
        ∙ ap (λ (us : List ℤ). frame r.function r.handler (rest_at s n) us x ∷ frames_of s words r.waiting)
        (ap (λ (m : ℕ). take m (values_of (frame_at r.waiting after))) (sym own_long) ∙ pushed_values frame_size r.waiting saved own words own_bound_lem room))

    stands_are : (i : ℕ) → i < suc r.waiting → FrameStands s (frame_at i after)
    stands_are i l = by (ℕ_discrete i r.waiting)
      where
        by : Dec (i ≡ r.waiting) → FrameStands s (frame_at i after)
        by (yes e) =
            rw e
            (record {
              head = pushed_fits frame_size r.waiting saved own words own_bound_lem room;
              place = subst (λ (h : Head). OperationsAt s h.word0 h.word2) (sym (pushed_head frame_size r.waiting saved own words own_bound_lem room)) (on F H op);
            })
        by (no e) =
            let k : i < r.waiting = omega (arith, l, e) in
            subst (FrameStands s) (sym (frame_same frame_size i r.waiting after words k (pushed_below frame_size r.waiting saved own words own_bound_lem room))) (H.frames i k)

    -- The words with that frame, and the variables with the arguments.
    module _ {words' : List ℤ} (ew : words' ≡ lay (frame_size * r.waiting) (frame_words saved (take v vs)) words) where
      words_are : words' ≡ after
      words_are = ew ∙ ap (λ (j : ℕ). lay (frame_size * r.waiting) (frame_words saved (take j vs)) words) v_is

      words_long : length words' ≡ length words
      words_long = ap length words_are ∙ pushed_long frame_size r.waiting saved own words own_bound_lem room

      count_is_lem : count_of (operation_at s r.at) ≡ c
      unfolding count_of
      count_is_lem = ap count_of op

      pub call_arguments : ArgumentsInBounds s r.at c words' (frame_size * r.waiting + 4) × (length vs ≡ 32)
      call_arguments =
          let S = call_safe in
          let q : c ≡ (function_at s g).params = c_is in
          let y : frame_size * r.waiting + frame_size ≤ length words = room in
          let z : length words' ≡ length words = words_long in (
            record {
              count = count_is_lem;
              count_bound = omega arith;
              numbers = subst (NumbersInRange s r.at) (sym op) (in_range_lem F H op);
              arguments = F.called r.at x g c n op;
              small = (in_range_lem F H op).2;
              room = omega arith;
            },
            H.variables,
          )

      args_are : map (λ (y : ℕ). get_or words' (frame_size * r.waiting + 4 + y) (pos 0)) ys ≡ args
      args_are =
          rw words_are
          (map_same (λ (y : ℕ). get_or after (frame_size * r.waiting + 4 + y) (pos 0)) (λ (y : ℕ). get_or own y (pos 0)) (λ (y : ℕ). y < length own) ys ys_small
          (λ y l. pushed_value frame_size r.waiting saved own words own_bound_lem room y l))

      args_long : length args ≡ c
      args_long = length-map ys (λ (y : ℕ). get_or own y (pos 0)) ∙ (count ∙ sym c_is)

      module _ {us₁ : List ℤ} (e₁ : us₁ ≡ lay 0 (map (λ (y : ℕ). get_or words' (frame_size * r.waiting + 4 + y) (pos 0)) ys) vs) {l : ℕ} (l_is : l ≡ (function_at s g).locals) where
        with_args : us₁ ≡ lay 0 args vs
        with_args = e₁ ∙ ap (λ (zs : List ℤ). lay 0 zs vs) args_are

        all_bound : c + l ≤ 32
        all_bound = let S = call_safe in let q : c ≡ (function_at s g).params = c_is in let p : l ≡ (function_at s g).locals = l_is in omega arith

        pub call_clear : (c ≤ c + l) × (c + l ≤ length us₁)
        call_clear =
            let a : c + l ≤ 32 = all_bound in
            let b : length vs ≡ 32 = H.variables in
            let m : length args ≡ c = args_long in
            let w : length us₁ ≡ length vs = ap length with_args ∙ length_lay 0 args vs (omega arith) in
            (omega arith, omega arith)

        abbrev all : List ℤ
        all = args ++ replicate l (pos 0)

        all_long : length all ≡ c + l
        all_long = simp (length-append, length-replicate) (ap (λ (j : ℕ). j + l) args_long)

        pub call_done : {a m : ℕ} {us₂ : List ℤ} → us₂ ≡ lay c (replicate (c + l - c) (pos 0)) us₁ → a ≡ start_of (program_of s) g 0 → m ≡ l
            → Gives H (Next (record { function = g; handler = 0; at = a; waiting = r.waiting + 1; extras = r.extras + 1 + m })) us₂ words'
        call_done {us₂ = us₂} e₂ ea em =
            let b : c + l ≤ 32 = all_bound in
            let d : length vs ≡ 32 = H.variables in
            let m : length args ≡ c = args_long in
            let z : c + l - c ≡ l = omega arith in
            let o : length all ≡ c + l = all_long in
            let t : r.extras + 1 + l ≡ r.extras + suc l = omega arith in
            let e : us₂ ≡ lay 0 all vs =
            join 0 c args (replicate l (pos 0)) all vs us₁ us₂ with_args (e₂ ∙ ap (λ (j : ℕ). lay c (replicate j (pos 0)) us₁) z) (omega arith) refl (omega arith) in
            rw (words_are, ea, em)
            (moved F H (calling ∙ lands e o) (F.start g 0 callee (omega arith)) (λ i j. stands_are i (subst (λ (w : ℕ). i < w) (add-one r.waiting) j))
            (ap length e ∙ (length_lay 0 all vs (omega arith) ∙ d))
            (pushed_long frame_size r.waiting saved own words own_bound_lem room) (pushed_past frame_size r.waiting saved own words own_bound_lem room limit free)
            (t ∙ ap (λ (j : ℕ). r.extras + j) (ap suc l_is ∙ sym (extra_is F H op))))
          where
            lands : us₂ ≡ lay 0 all vs → length all ≡ c + l
                → next (begun g (function_at s g) args frames) ≡ next (state_of s (record { function = g; handler = 0; at = start_of (program_of s) g 0; waiting = r.waiting + 1; extras = r.extras + 1 + l }) us₂ after)
            lands e o = unfold state_of in
                ap (λ (b : Block). next (state g 0 b (args ++ replicate (function_at s g).locals (pos 0)) frames)) (sym (F.block g 0 callee (omega arith)))
                ∙ (ap (λ (j : ℕ). next (state g 0 (rest_at s (start_of (program_of s) g 0)) (args ++ replicate j (pos 0)) frames)) (sym l_is)
                ∙ (ap (λ (us : List ℤ). next (state g 0 (rest_at s (start_of (program_of s) g 0)) us frames)) (sym (ap (take (vars_of s g)) e ∙ front (vars_of s g) all vs (o ∙ (ap (λ (j : ℕ). j + l) c_is ∙ ap (λ (j : ℕ). (function_at s g).params + j) l_is))))
                ∙ ap (λ (fs : List Frame). next (state g 0 (rest_at s (start_of (program_of s) g 0)) (take (vars_of s g) us₂) fs)) (sym frames_are ∙ ap (frames_of s after) (sym (add-one r.waiting)))))
