-- A block that was read, operation by operation.
use Rattle.std.specs.Prelude.{ℕ, zero, suc, ◌+◌, ◌≤◌, ◌<◌, ◌≡◌, List, length, get_or}
use Rattle.std.proofs.Common.{sym, ap, ◌∙◌, arith}
use Rattle.std.proofs.Math.Option.{none, some}
use Rattle.parsing.specs.ParserLaws.{impossible}
use Rattle.parsing.specs.Parser.{Parsed, read, refuse}
use Rattle.parsing.specs.Fields.{version_of, value_at}
use Rattle.semantics.specs.Program.{Block, constant, copy, difference, call, goto, return, branch, raise}
use Rattle.procedure_operations.specs.declared.operation.Operation.{Operation}
use Rattle.procedure_layout.specs.Layout.{block_from, before, arguments_at, block}
use Rattle.procedure_operations.specs.ViewLaws.{View, is_constant, is_copy, is_difference, is_call, is_goto, is_return, is_branch, is_raise, is_raise_value, is_refused, view}
use Rattle.procedure_layout.proofs.WalkLaws.{block_law}

pub data ReadBlock (s : List ℕ) : ℕ → Block → ℕ → Type 0 where
  read_constant : {at next : ℕ} {b : Block} → get_or s at 0 ≡ 1 → at + 6 ≤ length s → ReadBlock s (at + 6) b next
      → ReadBlock s at (constant (get_or s (at + 1) 0) (value_at s (at + 2)) b) next
  read_copy : {at next : ℕ} {b : Block} → get_or s at 0 ≡ 2 → at + 3 ≤ length s → ReadBlock s (at + 3) b next
      → ReadBlock s at (copy (get_or s (at + 1) 0) (get_or s (at + 2) 0) b) next
  read_difference : {at next : ℕ} {b : Block} → get_or s at 0 ≡ 3 → at + 4 ≤ length s → ReadBlock s (at + 4) b next
      → ReadBlock s at (difference (get_or s (at + 1) 0) (get_or s (at + 2) 0) (get_or s (at + 3) 0) b) next
  read_call : {at next : ℕ} {b : Block} → get_or s at 0 ≡ 4 → at + 4 + get_or s (at + 3) 0 ≤ length s
      → ReadBlock s (at + 4 + get_or s (at + 3) 0) b next
      → ReadBlock s at (call (get_or s (at + 1) 0) (get_or s (at + 2) 0) (arguments_at s at (get_or s (at + 3) 0)) b) next
  read_goto : {at : ℕ} → get_or s at 0 ≡ 5 → at + 2 ≤ length s → ReadBlock s at (goto (get_or s (at + 1) 0)) (at + 2)
  read_return : {at : ℕ} → get_or s at 0 ≡ 6 → at + 2 ≤ length s → ReadBlock s at (return (get_or s (at + 1) 0)) (at + 2)
  read_branch : {at : ℕ} → get_or s at 0 ≡ 7 → at + 5 ≤ length s
      → ReadBlock s at (branch (get_or s (at + 1) 0) (get_or s (at + 2) 0) (get_or s (at + 3) 0) (get_or s (at + 4) 0)) (at + 5)
  read_raise : {at : ℕ} → get_or s at 0 ≡ 8 → at + 1 ≤ length s → ReadBlock s at (raise none) (at + 1)
  read_raise_value : {at : ℕ} → get_or s at 0 ≡ 9 → at + 2 ≤ length s → version_of s ≡ 2 → ReadBlock s at (raise (some (get_or s (at + 1) 0))) (at + 2)

-- A block behind its first operation was read.
record Behind (o : Block → Block) (x : Parsed Block) (b : Block) (next : ℕ) : Type 0 where
  rest : Block
  reads : x ≡ read rest next
  is : o rest ≡ b

before_read : (o : Block → Block) (x : Parsed Block) {b : Block} {next : ℕ} → before o x ≡ read b next → Behind o x b next
before_read o (read c m) e = record { rest = c; reads = ap (read c) (cc); is = cc }
before_read o (refuse r) e = impossible (cc)

module _ (s : List ℕ) where
  by_operation : (at : ℕ) {o : Operation} {b : Block} {next : ℕ} → View s at o
      → ((m : ℕ) (c : Block) (n : ℕ) → at < m → m ≤ length s → block s m ≡ read c n → ReadBlock s m c n)
      → block_from s at o (block s) ≡ read b next → ReadBlock s at b next
  by_operation at (is_constant e h) rec w =
      let x = before_read (constant (get_or s (at + 1) 0) (value_at s (at + 2))) (block s (at + 6)) w in
      rw (← x.is) (read_constant e h (rec (at + 6) _ _ (omega arith) h x.reads))
  by_operation at (is_copy e h) rec w =
      let x = before_read (copy (get_or s (at + 1) 0) (get_or s (at + 2) 0)) (block s (at + 3)) w in
      rw (← x.is) (read_copy e h (rec (at + 3) _ _ (omega arith) h x.reads))
  by_operation at (is_difference e h) rec w =
      let x = before_read (difference (get_or s (at + 1) 0) (get_or s (at + 2) 0) (get_or s (at + 3) 0)) (block s (at + 4)) w in
      rw (← x.is) (read_difference e h (rec (at + 4) _ _ (omega arith) h x.reads))
  by_operation at (is_call e h) rec w =
      let n = get_or s (at + 3) 0 in
      let x = before_read (call (get_or s (at + 1) 0) (get_or s (at + 2) 0) (arguments_at s at n)) (block s (at + 4 + n)) w in
      rw (← x.is) (read_call e h (rec (at + 4 + n) _ _ (omega arith) h x.reads))
  by_operation at {o} {b} {next} (is_goto e h) rec w =
      let p : goto (get_or s (at + 1) 0) ≡ b = cc in let q : at + 2 ≡ next = cc in rw (← p, ← q) (read_goto e h)
  by_operation at {o} {b} {next} (is_return e h) rec w =
      let p : return (get_or s (at + 1) 0) ≡ b = cc in let q : at + 2 ≡ next = cc in rw (← p, ← q) (read_return e h)
  by_operation at {o} {b} {next} (is_branch e h) rec w =
      let p : branch (get_or s (at + 1) 0) (get_or s (at + 2) 0) (get_or s (at + 3) 0) (get_or s (at + 4) 0) ≡ b = cc in
      let q : at + 5 ≡ next = cc in
      rw (← p, ← q) (read_branch e h)
  by_operation at {o} {b} {next} (is_raise e h) rec w =
      let p : raise none ≡ b = cc in let q : at + 1 ≡ next = cc in rw (← p, ← q) (read_raise e h)
  by_operation at {o} {b} {next} (is_raise_value e h v) rec w =
      let p : raise (some (get_or s (at + 1) 0)) ≡ b = cc in let q : at + 2 ≡ next = cc in rw (← p, ← q) (read_raise_value e h v)
  by_operation at (is_refused r) rec w = impossible (cc)

  with_fuel : (n at : ℕ) {b : Block} {next : ℕ} → length s ≤ n + at → block s at ≡ read b next → ReadBlock s at b next
  with_fuel zero at h e = by_operation at (view s at) (λ m c k lt le w. absurd (omega arith)) (sym (block_law s at) ∙ e)
  with_fuel (suc n) at h e =
      by_operation at (view s at) (λ m c k lt le w. with_fuel n m (omega arith) w) (sym (block_law s at) ∙ e)

  pub read_block : (at : ℕ) {b : Block} {next : ℕ} → block s at ≡ read b next → ReadBlock s at b next
  read_block at e = with_fuel (length s) at (omega arith) e
