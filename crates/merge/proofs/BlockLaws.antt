-- The operations of a block, written one behind the other.
use Rattle.std.specs.Prelude.{ℕ, ◌+◌, ◌-◌, ◌≤◌, ◌<◌, ◌≡◌, refl, ◌≢◌, List, [], ◌∷◌, ◌++◌}
use native.Mathlib.Omega.{arith}
use Rattle.std.proofs.Math.Path.{sym, ap}
use Rattle.std.proofs.Common.{◌∙◌, subst, ne_eqb}
use Rattle.std.proofs.Math.ListN.{length, get_or, take, drop}
use Rattle.parsing.specs.declared.Refusal.{Refusal}
use Rattle.parsing.specs.ParserLaws.{impossible}
use Rattle.parsing.specs.Bytes.{value_bytes}
use Rattle.parsing.specs.Fields.{value_at}
use Rattle.semantics.specs.Program.{Block, Program, variables, function_of}
use Rattle.semantics.specs.WellFormed.{WellFormedBlock}
use Rattle.semantics.specs.Merge.{renumbered_block}
use Rattle.memory.specs.LayLaws.{length_part}
use Rattle.procedure_operations.specs.declared.operation.Operation.{Operation}
use Rattle.procedure_operations.specs.declared.operation.Operation.TheVariants.{Refused}
use Rattle.procedure_operations.specs.Operation.{operation_at, arguments_at}
use Rattle.procedure_operations.specs.ViewLaws.{View, is_constant, is_copy, is_difference, is_call, is_goto, is_return, is_branch, is_raise, is_raise_value, is_refused, view}
use Rattle.procedure_layout.specs.declared.layout.After.{After}
use Rattle.procedure_layout.specs.declared.layout.After.TheVariants.{Onward, Ended, Halted}
use Rattle.procedure_layout.specs.Rest.{rest_from, rest_at}
use Rattle.procedure_layout.specs.After.{after_of}
use Rattle.procedure_names.specs.Writing.{block_bytes}
use Rattle.procedure_file.specs.Check.{program_of}
use Rattle.byte_writers.specs.Writes.{Room, Wrote}
use Rattle.byte_writers.specs.WriteLaws.{Rest, rest_none, rest_from_lem, rest_room, rest_as, rest_more, rest_last, room_front}
use Rattle.merge.specs.Parts.{stretch, call_head, operation_bytes, rest_bytes}
use Rattle.merge.specs.Asked.{OperationInFile, OperationFits}
use Rattle.merge.proofs.StretchLaws.{stretch_is}

-- ── What stands at an operation's offset, and what is written for it ────────────────────────────

module _ (s : List ℕ) (at n : ℕ) where
  plain_bytes : (next : ℕ) → get_or s at 0 ≢ 4 → operation_bytes s at next n ≡ stretch s at next
  unfolding operation_bytes
  plain_bytes next h = rw (ne_eqb (get_or s at 0) 4 h)

  call_bytes_lem : (next : ℕ) → get_or s at 0 ≡ 4
      → operation_bytes s at next n ≡ call_head s at n ++ stretch s (at + 4) next
  unfolding operation_bytes
  call_bytes_lem next e = rw e

  pub plain_rest : (next : ℕ) {o : ℕ} {d : List ℕ} → get_or s at 0 ≢ 4 → Room o (length (operation_bytes s at next n)) d → Rest o (operation_bytes s at next n) d o (stretch s at next) d
  plain_rest next h R = rest_from_lem R (plain_bytes next h)

  pub call_rest : (next : ℕ) {o : ℕ} {d : List ℕ} → get_or s at 0 ≡ 4 → Room o (length (operation_bytes s at next n)) d
      → Rest o (operation_bytes s at next n) d o (call_head s at n ++ stretch s (at + 4) next) d
  call_rest next e R = rest_from_lem R (call_bytes_lem next e)

  -- What is written from an operation on, by what follows it.
  abbrev parts : After → List ℕ
  parts (Onward m) = operation_bytes s at m n ++ rest_bytes s m n
  parts (Ended m) = stretch s at m
  parts (Halted r) = []

  -- An operation that is no call: its bytes w.
  plain_split : (m : ℕ) (w r : List ℕ) → get_or s at 0 ≢ 4 → drop at s ≡ w ++ r → m ≡ at + length w → w ++ rest_bytes s m n ≡ parts (Onward m)
  plain_split m w r h e q = ap (λ (x : List ℕ). x ++ rest_bytes s m n) (sym (plain_bytes m h ∙ stretch_is s at m w r e q))

  split : {o : Operation} → View s at o → (r : List ℕ) → drop at s ≡ block_bytes (rest_from s at o (rest_at s)) ++ r → ((x : Refusal) → o ≡ Refused x → ⊥)
      → block_bytes (renumbered_block n (rest_from s at o (rest_at s))) ≡ parts (after_of o)
  unfolding rest_bytes
  split (is_constant e h) r w f =
      plain_split (at + 6) (1 ∷ get_or s (at + 1) 0 ∷ value_bytes (value_at s (at + 2))) (block_bytes (rest_at s (at + 6)) ++ r) (λ q. omega arith) w (omega arith)
  split (is_copy e h) r w f = plain_split (at + 3) (2 ∷ get_or s (at + 1) 0 ∷ get_or s (at + 2) 0 ∷ []) (block_bytes (rest_at s (at + 3)) ++ r) (λ q. omega arith) w (omega arith)
  split (is_difference e h) r w f =
      plain_split (at + 4) (3 ∷ get_or s (at + 1) 0 ∷ get_or s (at + 2) 0 ∷ get_or s (at + 3) 0 ∷ []) (block_bytes (rest_at s (at + 4)) ++ r) (λ q. omega arith) w (omega arith)
  split (is_call e h) r w f =
      let c = get_or s (at + 3) 0 in
      let m = at + 4 + c in
      let k : m - (at + 4) ≡ c = omega arith in
      let ys : stretch s (at + 4) m ≡ arguments_at s at c = ap (λ (j : ℕ). take j (drop (at + 4) s)) k in
      let l : length (arguments_at s at c) ≡ c = length_part (at + 4) c s h in
      rw (call_bytes_lem m e, ys, l)
  split (is_goto e h) r w f = sym (stretch_is s at (at + 2) (5 ∷ get_or s (at + 1) 0 ∷ []) r w (omega arith))
  split (is_return e h) r w f = sym (stretch_is s at (at + 2) (6 ∷ get_or s (at + 1) 0 ∷ []) r w (omega arith))
  split (is_branch e h) r w f =
      sym (stretch_is s at (at + 5) (7 ∷ get_or s (at + 1) 0 ∷ get_or s (at + 2) 0 ∷ get_or s (at + 3) 0 ∷ get_or s (at + 4) 0 ∷ []) r w (omega arith))
  split (is_raise e h) r w f = sym (stretch_is s at (at + 1) (8 ∷ []) r w (omega arith))
  split (is_raise_value e h v) r w f = sym (stretch_is s at (at + 2) (9 ∷ get_or s (at + 1) 0 ∷ []) r w (omega arith))
  split (is_refused x) r w f = absurd (f x refl)

-- ── Where an operation ends, and the function that a call names ─────────────────────────────────

module _ (s : List ℕ) (at : ℕ) where
  refused_after : (r : Refusal) {o : Operation} → View s at o → after_of o ≡ Halted r → ((x : Refusal) → o ≡ Refused x → ⊥) → ⊥
  refused_after r (is_constant e h) q f = impossible (cc)
  refused_after r (is_copy e h) q f = impossible (cc)
  refused_after r (is_difference e h) q f = impossible (cc)
  refused_after r (is_call e h) q f = impossible (cc)
  refused_after r (is_goto e h) q f = impossible (cc)
  refused_after r (is_return e h) q f = impossible (cc)
  refused_after r (is_branch e h) q f = impossible (cc)
  refused_after r (is_raise e h) q f = impossible (cc)
  refused_after r (is_raise_value e h v) q f = impossible (cc)
  refused_after r (is_refused x) q f = f x refl

module _ (s : List ℕ) (at m : ℕ) where
  ends_inside : {o : Operation} → View s at o → after_of o ≡ Ended m → (at ≤ m) × (m ≤ length s)
  ends_inside (is_constant e h) q = impossible (cc)
  ends_inside (is_copy e h) q = impossible (cc)
  ends_inside (is_difference e h) q = impossible (cc)
  ends_inside (is_call e h) q = impossible (cc)
  ends_inside (is_goto e h) q = let k : at + 2 ≡ m = cc in (omega arith, omega arith)
  ends_inside (is_return e h) q = let k : at + 2 ≡ m = cc in (omega arith, omega arith)
  ends_inside (is_branch e h) q = let k : at + 5 ≡ m = cc in (omega arith, omega arith)
  ends_inside (is_raise e h) q = let k : at + 1 ≡ m = cc in (omega arith, omega arith)
  ends_inside (is_raise_value e h v) q = let k : at + 2 ≡ m = cc in (omega arith, omega arith)
  ends_inside (is_refused r) q = impossible (cc)

  module _ (P : Program) (v k : ℕ) where
    callee_fits : {o : Operation} → View s at o → after_of o ≡ Onward m → get_or s at 0 ≡ 4 → WellFormedBlock P v k (rest_from s at o (rest_at s))
        → (at + 4 ≤ m) × (get_or s (at + 2) 0 < length P)
    callee_fits (is_constant e h) q c w = absurd (omega arith)
    callee_fits (is_copy e h) q c w = absurd (omega arith)
    callee_fits (is_difference e h) q c w = absurd (omega arith)
    callee_fits (is_call e h) q c w = let k : at + 4 + get_or s (at + 3) 0 ≡ m = cc in (omega arith, w.1)
    callee_fits (is_goto e h) q c w = absurd (omega arith)
    callee_fits (is_return e h) q c w = absurd (omega arith)
    callee_fits (is_branch e h) q c w = absurd (omega arith)
    callee_fits (is_raise e h) q c w = absurd (omega arith)
    callee_fits (is_raise_value e h v) q c w = absurd (omega arith)
    callee_fits (is_refused r) q c w = impossible (cc)

module _ {s : List ℕ} {at : ℕ} (H : OperationInFile s at) where
  not_refused : (r : Refusal) → operation_at s at ≡ Refused r → ⊥
  not_refused r e = H.invariant.operation H.function at r H.stands e

  parts_are : (n : ℕ) → rest_bytes s at n ≡ parts s at n (after_of (operation_at s at))
  unfolding rest_bytes
  parts_are n =
      let rest = H.invariant.rest at in
      ap (λ (b : Block). block_bytes (renumbered_block n b)) rest
      ∙ split s at n (view s at) (drop H.stands.past s)
      (subst (λ (b : Block). drop at s ≡ block_bytes b ++ drop H.stands.past s) rest H.stands.written) not_refused

  operation_fits : (n m : ℕ) → n ≤ 32 → after_of (operation_at s at) ≡ Onward m → OperationFits s at m n
  operation_fits n m small e =
      let P = program_of s in
      let F = function_of P H.function in
      let moves = H.invariant.forward H.function at m H.stands e in
      let formed = subst (WellFormedBlock P (variables F) (length F.blocks)) (H.invariant.rest at) H.stands.formed in
      record {
        forward = moves.0;
        inside = moves.1;
        call = λ four.
            let c = callee_fits s at m P (variables F) (length F.blocks) (view s at) e four formed in
            (c.0, omega (arith, c.1, H.invariant.most));
      }

-- ── The loop over a block's operations ──────────────────────────────────────────────────────────

pub record Turn (s : List ℕ) (start n o₀ : ℕ) (d₀ : List ℕ) (at o : ℕ) (d : List ℕ) : Type 0 where
  pub here : OperationInFile s at
  pub rest : Rest o₀ (rest_bytes s start n) d₀ o (rest_bytes s at n) d

pub turn_none : {s : List ℕ} {start n o : ℕ} {d : List ℕ} → OperationInFile s start → Room o (length (rest_bytes s start n)) d → Turn s start n o d start o d
turn_none H R = record { here = H; rest = rest_none R }

module _ {s : List ℕ} {start n o₀ : ℕ} {d₀ : List ℕ} {at o : ℕ} {d : List ℕ} (T : Turn s start n o₀ d₀ at o d) {x : Operation} (e : x ≡ operation_at s at) {a : After} (ea : a ≡ after_of x) where
  after_is : {b : After} → a ≡ b → after_of (operation_at s at) ≡ b
  after_is q = ap after_of (sym e) ∙ (sym ea ∙ q)

  parts_by : {b : After} → a ≡ b → rest_bytes s at n ≡ parts s at n b
  parts_by q = parts_are T.here n ∙ ap (parts s at n) (after_is q)

  module _ {m : ℕ} (q : a ≡ Onward m) where
    pub turn_fits : n ≤ 32 → OperationFits s at m n
    turn_fits small = operation_fits T.here n m small (after_is q)

    pub turn_room : Room o (length (operation_bytes s at m n)) d
    turn_room = room_front (operation_bytes s at m n) (rest_bytes s m n) (rest_as T.rest _ (parts_by q))

    pub turn_moves : (at < m) × (m ≤ length s)
    turn_moves = let H = T.here in H.invariant.forward H.function at m H.stands (after_is q)

    pub turn_next : {r : ℕ} {d' : List ℕ} → Wrote o (operation_bytes s at m n) d r d' → Turn s start n o₀ d₀ m r d'
    turn_next W =
        let H = T.here in
        record {
          here = record { invariant = H.invariant; function = H.function; stands = H.invariant.next H.function at m H.stands (after_is q) };
          rest = rest_more T.rest (operation_bytes s at m n) (rest_bytes s m n) (parts_by q) W;
        }

  module _ {m : ℕ} (q : a ≡ Ended m) where
    pub turn_inside : (at ≤ m) × (m ≤ length s)
    turn_inside = ends_inside s at m (view s at) (after_is q)

    last_rest : Rest o₀ (rest_bytes s start n) d₀ o (stretch s at m) d
    last_rest = subst (λ (w : List ℕ). Rest o₀ (rest_bytes s start n) d₀ o w d) (parts_by q) T.rest

    pub turn_last : Room o (length (stretch s at m)) d
    turn_last = rest_room last_rest

    pub turn_done : {r : ℕ} {d' : List ℕ} → Wrote o (stretch s at m) d r d' → Wrote o₀ (rest_bytes s start n) d₀ r d'
    turn_done W = rest_last last_rest W

  pub turn_never : {r : Refusal} {A : Type 0} → a ≡ Halted r → A
  turn_never {r} q = absurd (refused_after s at r (view s at) (after_is q) (not_refused T.here))
