-- Laws of the layout, as the functions that walk a file meet them.
use Rattle.std.specs.Prelude.{ℕ, ◌+◌, ◌≤◌, ◌<◌, ◌≡◌, Bool, true, false, cond, ◌≢◌, ltb, eqb, length, Err, Ok}
use Rattle.std.proofs.Math.Path.{refl, ap}
use Rattle.std.proofs.Common.{sym, ◌∙◌, arith, eq-eqb, ne_eqb, ltb-false}
use mathlib.Core.List.{List}
use Rattle.std.proofs.Math.Option.{Option, none}
use Rattle.std.proofs.Math.ListN.{get_or}
use Rattle.parsing.specs.declared.Refusal.{Refusal}
use Rattle.parsing.specs.Parser.{Parsed, read, refuse, and_then, many, past_of}
use Rattle.parsing.specs.Fields.{cut, byte, version_of, head, count, counted, ended}
use Rattle.parsing.specs.ParserLaws.{impossible, past_read, past_refuse, byte_in, byte_cut, read_count, count_is_lem, count_outside, sequence}
use Rattle.parsing.specs.BytesAtLaws.{read_head, past_head}
use Rattle.semantics.specs.Program.{Variable, Block, Labelled, Function, Program}
use Rattle.procedure_operations.specs.declared.operation.Operation.{Operation}
use Rattle.procedure_layout.specs.declared.layout.After.TheVariants.{Onward, Ended, Halted}
use Rattle.procedure_operations.specs.Operation.{operation_at}
use Rattle.procedure_layout.specs.Layout.{spf, file_limit, block_from, before, block, as_receiver, bytes_before, labelled, Heading, heading, function, functions, program}
use Rattle.procedure_layout.specs.After.{after_of, blocks_of, end_of}
use Rattle.procedure_operations.specs.OperationLaws.{operation_past}
use Rattle.procedure_operations.specs.ViewLaws.{View, is_constant, is_copy, is_difference, is_call, is_goto, is_return, is_branch, is_raise, is_raise_value, is_refused, view}
use Rattle.procedure_layout.proofs.WalkLaws.{block_law}

past_before : (o : Block → Block) (x : Parsed Block) → past_of (before o x) ≡ past_of x
past_before o (read b next) = refl
past_before o (refuse r) = refl

-- A block, by what follows its first operation.
module _ (s : List ℕ) (at next : ℕ) where
  pub block_onward : after_of (operation_at s at) ≡ Onward next → past_of (block s at) ≡ past_of (block s next)
  block_onward e = ap past_of (block_law s at) ∙ go (view s at) e
    where
      move : (o : Block → Block) (m : ℕ) → m ≡ next → past_of (before o (block s m)) ≡ past_of (block s next)
      move o m p = past_before o (block s m) ∙ ap (λ (k : ℕ). past_of (block s k)) p

      go : {o : Operation} → View s at o → after_of o ≡ Onward next → past_of (block_from s at o (block s)) ≡ past_of (block s next)
      go (is_constant e h) w = move _ _ (cc)
      go (is_copy e h) w = move _ _ (cc)
      go (is_difference e h) w = move _ _ (cc)
      go (is_call e h) w = move _ _ (cc)
      go (is_goto e h) w = impossible (cc)
      go (is_return e h) w = impossible (cc)
      go (is_branch e h) w = impossible (cc)
      go (is_raise e h) w = impossible (cc)
      go (is_raise_value e h v) w = impossible (cc)
      go (is_refused r) w = impossible (cc)

  pub block_ended : after_of (operation_at s at) ≡ Ended next → past_of (block s at) ≡ Ok next
  block_ended e = ap past_of (block_law s at) ∙ go (view s at) e
    where
      go : {o : Operation} → View s at o → after_of o ≡ Ended next → past_of (block_from s at o (block s)) ≡ Ok next
      go (is_constant e h) w = impossible (cc)
      go (is_copy e h) w = impossible (cc)
      go (is_difference e h) w = impossible (cc)
      go (is_call e h) w = impossible (cc)
      go (is_goto e h) w = cc
      go (is_return e h) w = cc
      go (is_branch e h) w = cc
      go (is_raise e h) w = cc
      go (is_raise_value e h v) w = cc
      go (is_refused r) w = impossible (cc)

  -- An operation that does not end a block leads forward, inside the file.
  pub onward_moves : after_of (operation_at s at) ≡ Onward next → (at < next) × (next ≤ length s)
  onward_moves e = go (view s at) e
    where
      move : (m : ℕ) → m ≡ next → at < m → m ≤ length s → (at < next) × (next ≤ length s)
      move m p a b = rw (← p) (a, b)

      go : {o : Operation} → View s at o → after_of o ≡ Onward next → (at < next) × (next ≤ length s)
      go (is_constant e h) w = move (at + 6) (cc) (omega arith) (omega arith)
      go (is_copy e h) w = move (at + 3) (cc) (omega arith) (omega arith)
      go (is_difference e h) w = move (at + 4) (cc) (omega arith) (omega arith)
      go (is_call e h) w = move (at + 4 + get_or s (at + 3) 0) (cc) (omega arith) (omega arith)
      go (is_goto e h) w = impossible (cc)
      go (is_return e h) w = impossible (cc)
      go (is_branch e h) w = impossible (cc)
      go (is_raise e h) w = impossible (cc)
      go (is_raise_value e h v) w = impossible (cc)
      go (is_refused r) w = impossible (cc)

pub block_halted : (s : List ℕ) (at : ℕ) (r : Refusal) → after_of (operation_at s at) ≡ Halted r → past_of (block s at) ≡ Err r
block_halted s at r e = ap past_of (block_law s at) ∙ go (view s at) e
  where
    go : {o : Operation} → View s at o → after_of o ≡ Halted r → past_of (block_from s at o (block s)) ≡ Err r
    go (is_constant e h) w = impossible (cc)
    go (is_copy e h) w = impossible (cc)
    go (is_difference e h) w = impossible (cc)
    go (is_call e h) w = impossible (cc)
    go (is_goto e h) w = impossible (cc)
    go (is_return e h) w = impossible (cc)
    go (is_branch e h) w = impossible (cc)
    go (is_raise e h) w = impossible (cc)
    go (is_raise_value e h v) w = impossible (cc)
    go (is_refused q) w = cc

-- A labelled block.
module _ (s : List ℕ) (at : ℕ) where
  pub labelled_cut : length s ≤ at → past_of (labelled s at) ≡ Err (cut s)
  unfolding labelled
  labelled_cut h = rw (byte_cut s at h)

  pub labelled_in : at < length s → past_of (labelled s at) ≡ past_of (block s (at + bytes_before (version_of s)))
  unfolding labelled bytes_before
  labelled_in h = rw (byte_in s at h) (by (eqb (version_of s) 2))
    where
      last : (r : Option Variable) (x : Parsed Block) → past_of {A = Labelled} (and_then x (λ b m. read (record { handler = get_or s at 0; receiver = r; block = b }) m)) ≡ past_of x
      last r (read b m) = refl
      last r (refuse q) = refl

      behind : (t : Bool) → ltb (at + 1) (length s) ≡ t
          → past_of {A = Labelled} (and_then (and_then (cond t (read (get_or s (at + 1) 0) (at + 1 + 1)) (refuse (cut s))) (λ x m. read (as_receiver x) m)) (λ r m. and_then (block s m) (λ b k. read (record { handler = get_or s at 0; receiver = r; block = b }) k)))
          ≡ past_of (block s (at + 2))
      behind true e = let p : at + 1 + 1 ≡ at + 2 = omega arith in rw p (last (as_receiver (get_or s (at + 1) 0)) (block s (at + 2)))
      behind false e =
          let l = ltb-false (at + 1) (length s) e in
          sym (ap past_of (block_law s (at + 2) ∙ ap (λ o. block_from s (at + 2) o (block s)) (operation_past s (at + 2) (omega arith))))

      by : (t : Bool)
          → past_of {A = Labelled} (and_then (cond t (and_then (byte s (at + 1)) (λ x m. read (as_receiver x) m)) (read none (at + 1))) (λ r m. and_then (block s m) (λ b k. read (record { handler = get_or s at 0; receiver = r; block = b }) k)))
          ≡ past_of (block s (at + cond t 2 1))
      by true = behind (ltb (at + 1) (length s)) refl
      by false = last none (block s (at + 1))

-- The bytes before a labelled block's first operation, by the version.
module _ {version : ℕ} where
  pub before_two : version ≡ 2 → bytes_before version ≡ 2
  unfolding bytes_before
  before_two e = rw (eq-eqb version 2 e)

  pub before_one : version ≢ 2 → bytes_before version ≡ 1
  unfolding bytes_before
  before_one n = rw (ne_eqb version 2 n)

pub before_bounds : (version : ℕ) → (1 ≤ bytes_before version) × (bytes_before version ≤ 2)
unfolding bytes_before
before_bounds version = by (eqb version 2)
  where
    by : (t : Bool) → (1 ≤ cond t 2 1) × (cond t 2 1 ≤ 2)
    by true = (omega arith, omega arith)
    by false = (omega arith, omega arith)

-- A heading.
module _ (s : List ℕ) (at : ℕ) where
  pub heading_1 : (r : Refusal) → counted (count 0 8 s at) ≡ Err r → blocks_of (heading s at) ≡ Err r
  unfolding heading
  heading_1 r e = rw (count_outside 0 8 s at e)

  pub heading_2 : (p : ℕ) (r : Refusal) → counted (count 0 8 s at) ≡ Ok p → counted (count 0 24 s (at + 1)) ≡ Err r → blocks_of (heading s at) ≡ Err r
  unfolding heading
  heading_2 p r e f = rw (count_is_lem 0 8 s at e, count_outside 0 24 s (at + 1) f)

  pub heading_3 : (p l : ℕ) → counted (count 0 8 s at) ≡ Ok p → counted (count 0 24 s (at + 1)) ≡ Ok l
      → blocks_of (heading s at) ≡ counted (count 0 63 s (at + 1 + 1))
  unfolding heading
  heading_3 p l e f = rw (count_is_lem 0 8 s at e, count_is_lem 0 24 s (at + 1) f) (go (count 0 63 s (at + 1 + 1)))
    where
      go : (x : Parsed ℕ) → blocks_of (and_then x (λ n m. read (record { params = p; locals = l; blocks = n }) m)) ≡ counted x
      go (read n m) = refl
      go (refuse r) = refl

-- The heading that was read, and its bytes.
pub record HeadingAt (s : List ℕ) (at : ℕ) (h : Heading) : Type 0 where
  pub inside : at + 3 ≤ length s
  pub params_are : h.params ≡ get_or s at 0
  pub locals_are : h.locals ≡ get_or s (at + 1) 0
  pub blocks_are : h.blocks ≡ get_or s (at + 2) 0
  pub params_bound : h.params ≤ 8
  pub locals_bound : h.locals ≤ 24
  pub blocks_bound : h.blocks ≤ 63

pub count_inside : (low high : ℕ) (s : List ℕ) (at n : ℕ) → counted (count low high s at) ≡ Ok n → at < length s
count_inside low high s at n e = (read_count low high s at (count_is_lem low high s at e)).byte.inside

pub read_heading : (s : List ℕ) (at : ℕ) (h : Heading) (next : ℕ) → heading s at ≡ read h next → HeadingAt s at h × (next ≡ at + 3)
unfolding heading
read_heading s at h next e =
    let a = sequence (count 0 8 s at) (λ p m. and_then (count 0 24 s m) (λ l m₂. and_then (count 0 63 s m₂) (λ n m₃. read (record { params = p; locals = l; blocks = n }) m₃))) e in
    let b = sequence (count 0 24 s a.middle) (λ l m₂. and_then (count 0 63 s m₂) (λ n m₃. read (record { params = a.first; locals = l; blocks = n }) m₃)) a.follows in
    let c = sequence (count 0 63 s b.middle) (λ n m₃. read (record { params = a.first; locals = b.first; blocks = n }) m₃) b.follows in
    let p = read_count 0 8 s at a.reads in
    let l = read_count 0 24 s a.middle b.reads in
    let n = read_count 0 63 s b.middle c.reads in
    let m₁ : a.middle ≡ at + 1 = p.byte.past in
    let m₂ : b.middle ≡ at + 2 = omega (arith, l.byte.past) in
    let m₃ : c.middle ≡ at + 3 = omega (arith, n.byte.past) in
    let eh : ◌≡◌ {A = Parsed Heading} (read (record { params = a.first; locals = b.first; blocks = c.first }) c.middle) (read h next) = c.follows in
    let hh : record { params = a.first; locals = b.first; blocks = c.first } ≡ h = cc in
    let hn : c.middle ≡ next = cc in
    go hh p.byte.is (l.byte.is ∙ ap (λ (k : ℕ). get_or s k 0) m₁) (n.byte.is ∙ ap (λ (k : ℕ). get_or s k 0) m₂)
    p.most l.most n.most (omega (arith, n.byte.inside)) (omega arith)
  where
    go : {x y z : ℕ} → record { params = x; locals = y; blocks = z } ≡ h → x ≡ get_or s at 0 → y ≡ get_or s (at + 1) 0 → z ≡ get_or s (at + 2) 0
        → x ≤ 8 → y ≤ 24 → z ≤ 63 → at + 3 ≤ length s → next ≡ at + 3 → HeadingAt s at h × (next ≡ at + 3)
    go e x y z a b c i n =
        rw (← e) (record { inside = i; params_are = x; locals_are = y; blocks_are = z; params_bound = a; locals_bound = b; blocks_bound = c }, n)

pub record HeadingIs (s : List ℕ) (at n : ℕ) : Type 0 where
  pub heading : Heading
  pub reads : Rattle.procedure_layout.specs.Layout.heading s at ≡ read heading (at + 3)
  pub here : HeadingAt s at heading
  pub blocks : heading.blocks ≡ n

pub heading_is : (s : List ℕ) (at n : ℕ) → blocks_of (heading s at) ≡ Ok n → HeadingIs s at n
heading_is s at n e = go (heading s at) refl e
  where
    go : (x : Parsed Heading) → heading s at ≡ x → blocks_of x ≡ Ok n → HeadingIs s at n
    go (read h next) w f =
        let r = read_heading s at h next w in
        record { heading = h; reads = w ∙ ap (read h) r.1; here = r.0; blocks = cc }
    go (refuse r) w f = impossible (cc)

pub heading_outside : (s : List ℕ) (at : ℕ) (r : Refusal) → blocks_of (heading s at) ≡ Err r → heading s at ≡ refuse r
heading_outside s at r e = go (heading s at) e
  where
    go : (x : Parsed Heading) → blocks_of x ≡ Err r → x ≡ refuse r
    go (read h next) f = impossible (cc)
    go (refuse q) f = ap refuse (cc)

-- A function.
module _ (s : List ℕ) (at : ℕ) where
  pub function_1 : (r : Refusal) → blocks_of (heading s at) ≡ Err r → past_of (function s at) ≡ Err r
  unfolding function
  function_1 r e = rw (heading_outside s at r e)

  pub function_2 : (n : ℕ) (r : Refusal) → blocks_of (heading s at) ≡ Ok n → past_of (block s (at + 3)) ≡ Err r → past_of (function s at) ≡ Err r
  unfolding function
  function_2 n r e f = rw ((heading_is s at n e).reads, past_refuse (block s (at + 3)) f)

  pub function_3 : (n next : ℕ) → blocks_of (heading s at) ≡ Ok n → past_of (block s (at + 3)) ≡ Ok next
      → past_of (function s at) ≡ past_of (many n labelled s next)
  unfolding function
  function_3 n next e f =
      let h = heading_is s at n e in
      let b = past_read (block s (at + 3)) f in
      rw (h.reads, b.is)
      (go h.heading b.what (many h.heading.blocks labelled s next) ∙ ap (λ (k : ℕ). past_of (many k labelled s next)) h.blocks)
    where
      go : (h : Heading) (b : Block) (x : Parsed (List Labelled))
          → past_of {A = Function} (and_then x (λ bs m. read (record { version = version_of s; params = h.params; locals = h.locals; entry = b; blocks = bs }) m)) ≡ past_of x
      go h b (read bs m) = refl
      go h b (refuse r) = refl

  pub function_inside : (n : ℕ) → blocks_of (heading s at) ≡ Ok n → at + 3 ≤ length s
  function_inside n e = (heading_is s at n e).here.inside

-- The whole file.
module _ (s : List ℕ) where
  pub program_1 : (r : Refusal) → past_of (head spf file_limit s 0) ≡ Err r → past_of (program s 0) ≡ Err r
  unfolding program
  program_1 r e = rw (past_refuse (head spf file_limit s 0) e)

  module _ (a : ℕ) (whole : past_of (head spf file_limit s 0) ≡ Ok a) where
    after_head : head spf file_limit s 0 ≡ read tt 5
    after_head = (past_head s spf file_limit whole).1

    pub program_2 : (r : Refusal) → counted (count 1 32 s 5) ≡ Err r → past_of (program s 0) ≡ Err r
    unfolding program functions
    program_2 r e = rw (after_head, count_outside 1 32 s 5 e)

    module _ (n : ℕ) (some : counted (count 1 32 s 5) ≡ Ok n) where
      pub program_3 : (r : Refusal) → past_of (many n function s 6) ≡ Err r → past_of (program s 0) ≡ Err r
      unfolding program functions
      program_3 r e = rw (after_head, count_is_lem 1 32 s 5 some, past_refuse (many n function s 6) e)

      pub program_4 : (m : ℕ) → past_of (many n function s 6) ≡ Ok m → past_of (program s 0) ≡ past_of (ended s m)
      unfolding program functions
      program_4 m e =
          let f = past_read (many n function s 6) e in
          rw (after_head, count_is_lem 1 32 s 5 some, f.is) (go f.what (ended s m))
        where
          go : (fs : List Function) (x : Parsed (Unit {0})) → past_of (and_then x (λ u k. read fs k)) ≡ past_of x
          go fs (read u k) = refl
          go fs (refuse r) = refl

  -- A file whose layout was read is within its limit.
  pub program_fits : {P : Program} {next : ℕ} → program s 0 ≡ read P next → length s ≤ file_limit
  unfolding program
  program_fits e =
      let h = sequence (head spf file_limit s 0) (λ u m. functions s m) e in
      (read_head s spf file_limit h.reads).0

-- The offset past a block, from its end.
pub end_past : (x : Parsed Block) (next : ℕ) → past_of x ≡ Ok next → next ≡ end_of x
end_past (read b m) next e = cc
end_past (refuse r) next e = impossible (cc)

pub end_stopped : (x : Parsed Block) (r : Refusal) → past_of x ≡ Err r → 0 ≡ end_of x
end_stopped (read b m) r e = impossible (cc)
end_stopped (refuse q) r e = refl
