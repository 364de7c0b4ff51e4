-- The part of a block: its bytes from its fields, and its size.
use Prim.Native.Nat.{ℕ, zero, suc, ◌+◌, ◌*◌, ◌≤◌, ◌<◌}
use Rattle.std.proofs.Common.{arith, sym, ap, ◌∙◌, length-append}
use Rattle.std.specs.Prelude.{◌≡◌, List, ◌∷◌, ◌++◌, length}
use Rattle.std.proofs.Math.Path.{refl}
use Rattle.parsing.specs.Bytes.{pair_bytes}
use Rattle.semantics.specs.Program.{Block, Function, Program, variables, function_of}
use Rattle.semantics.specs.Code.{Expr}
use Rattle.semantics.specs.Translation.{slot_of, code, bind_zeros, number}
use Rattle.procedure_layout.specs.Rest.{rest_at}
use Rattle.procedure_file.specs.Check.{program_of}
use Rattle.procedure_file.specs.Places.{start_of, block_of, handler_of}
use Rattle.procedure_file.specs.FileInvariant.{FileInvariant}
use Rattle.target_file.specs.Writing.{size, expr_bytes, target_bytes}
use Rattle.translator_bytes.specs.declared.jumps.Under.{Under}
use Rattle.translator_bytes.specs.Bytes.{zeros}
use Rattle.translator_sizes.specs.declared.Fields.{Fields}
use Rattle.translator_sizes.specs.Parts.{under_of, body_bytes, bytes_at, part_bytes, by_label, fields_of, label_bytes}
use Rattle.translator_sizes.specs.Asked.{OperationInFile, BlockSize, LabelSize}
use Rattle.translator_bytes.proofs.LengthLaws.{length_zeros}
use Rattle.translator_sizes.specs.BodyLaws.{body_is}
use Rattle.target_file.proofs.ReadsBackLaws.{bytes_length}

by_label_other : (l a b : ℕ) → (l ≡ 0 → ⊥) → b ≡ by_label l a b
by_label_other zero a b h = absurd (h refl)
by_label_other (suc l) a b h = refl

-- A body that begins with locals bound to 0.
zeros_are : (x n : ℕ) (e : Expr) → expr_bytes (bind_zeros x n e) ≡ zeros x n ++ expr_bytes e
zeros_are x zero e = refl
zeros_are x (suc n) e = ap (λ (w : List ℕ). 1 ∷ x ∷ 0 ∷ 0 ∷ 0 ∷ 0 ∷ w) (zeros_are (suc x) n e)

zeros_size : (x n : ℕ) (e : Expr) → size (bind_zeros x n e) ≡ 6 * n + length (expr_bytes e)
zeros_size x n e =
    let a : length (expr_bytes (bind_zeros x n e)) ≡ size (bind_zeros x n e) = bytes_length (bind_zeros x n e) in
    let b : length (expr_bytes (bind_zeros x n e)) ≡ length (zeros x n) + length (expr_bytes e) = ap length (zeros_are x n e) ∙ length-append (zeros x n) (expr_bytes e) in
    let c : length (zeros x n) ≡ 6 * n = length_zeros x n in
    omega arith

part_is : (s : List ℕ) (base p n : ℕ) (u : Under) (at version : ℕ) (e : Expr) → expr_bytes e ≡ bytes_at s base u at
    → target_bytes (record { version = version; params = p; body = bind_zeros (slot_of p) n e }) ≡ part_bytes s base p n u at
unfolding part_bytes
part_is s base p n u at version e q =
    let t : suc (suc p) ≡ p + 2 = omega arith in
    ap (λ (k : ℕ). p ∷ (pair_bytes k ++ expr_bytes (bind_zeros (slot_of p) n e))) (zeros_size (slot_of p) n e)
    ∙ (ap (λ (w : List ℕ). p ∷ (pair_bytes (6 * n + length (expr_bytes e)) ++ w)) (zeros_are (slot_of p) n e)
    ∙ (ap (λ (x : ℕ). p ∷ (pair_bytes (6 * n + length (expr_bytes e)) ++ (zeros x n ++ expr_bytes e))) t
    ∙ ap (λ (w : List ℕ). p ∷ (pair_bytes (6 * n + length w) ++ (zeros (p + 2) n ++ w))) q))

-- Its size.
pub part_size : (s : List ℕ) (base p n : ℕ) (u : Under) (at : ℕ) → length (part_bytes s base p n u at) ≡ 3 + (6 * n + length (bytes_at s base u at))
unfolding part_bytes
part_size s base p n u at =
    let a : length (zeros (p + 2) n ++ bytes_at s base u at) ≡ length (zeros (p + 2) n) + length (bytes_at s base u at) = length-append (zeros (p + 2) n) (bytes_at s base u at) in
    let b : length (zeros (p + 2) n) ≡ 6 * n = length_zeros (p + 2) n in
    omega arith

-- The fields of a block, as they are read.
module _ (P : Program) (f l own others v : ℕ) (u : Under) (at : ℕ) (ep : own ≡ (function_of P f).params) (el : others ≡ (function_of P f).locals) (ev : v ≡ own + others)
    (ea : at ≡ start_of P f l) where
  pub entry_fields : l ≡ 0 → u ≡ under_of (function_of P f) 0 → record { params = own; locals = others; under = u; start = at } ≡ fields_of P f l
  unfolding fields_of
  entry_fields z eu = rw (eu, ep, el, ea, z)

  pub label_fields : (l ≡ 0 → ⊥) → {h : ℕ} → h ≡ handler_of (function_of P f) l → u ≡ under_of (function_of P f) h → record { params = v; locals = 0; under = u; start = at } ≡ fields_of P f l
  unfolding fields_of
  label_fields n eh eu = rw (eu, eh, ev, ep, el, ea, ← by_label_other l (function_of P f).params (variables (function_of P f)) n, ← by_label_other l (function_of P f).locals 0 n)

-- The writing of a block's translation is what stands for it at its offset.
bytes_at_lem : (s : List ℕ) (base : ℕ) (F : Function) (h : ℕ) (b : Block) (at : ℕ) → rest_at s at ≡ b → expr_bytes (code (number (program_of s)) base F h b) ≡ bytes_at s base (under_of F h) at
unfolding bytes_at
bytes_at_lem s base F h b at e = body_is base F (number (program_of s)) h b ∙ ap (body_bytes (number (program_of s)) base (under_of F h)) (sym e)

-- An accepted file.
module _ {s : List ℕ} (known : FileInvariant s) where
  module _ (f : ℕ) (there : f < length (program_of s)) where
    abbrev F : Function
    F = function_of (program_of s) f

    -- The part of one block, from its fields.
    module _ (l : ℕ) (block : l ≤ length F.blocks) (x : Fields) (e : x ≡ fields_of (program_of s) f l) where
      pub label_here : OperationInFile s x.under.variables x.start
      unfolding fields_of under_of
      label_here = rw e (record { invariant = known; function = f; stands = known.start f l there block; vars = refl })

      pub label_is : label_bytes s f l ≡ part_bytes s (number (program_of s) f) x.params x.locals x.under x.start
      unfolding fields_of label_bytes
      label_is =
          let P = program_of s in
          rw e
          (part_is s (number P f) (by_label l F.params (variables F)) (by_label l F.locals 0) (under_of F (handler_of F l)) (start_of P f l) F.version
          (code (number P) (number P f) F (handler_of F l) (block_of F l)) written)
        where
          written : expr_bytes (code (number (program_of s)) (number (program_of s) f) F (handler_of F l) (block_of F l)) ≡ bytes_at s (number (program_of s) f) (under_of F (handler_of F l)) (start_of (program_of s) f l)
          written = bytes_at_lem s (number (program_of s) f) F (handler_of F l) (block_of F l) (start_of (program_of s) f l) (known.block f l there block)

      pub counts_bound : (x.params ≤ 32) × (x.locals ≤ 24)
      unfolding fields_of
      counts_bound = rw e (by l)
        where
          by : (k : ℕ) → (by_label k F.params (variables F) ≤ 32) × (by_label k F.locals 0 ≤ 24)
          by zero = let c = known.counts f there in (omega (arith, c.params), c.locals)
          by (suc k) = let c = known.counts f there in (omega (arith, c.params, c.locals), omega arith)

      -- Its size.
      pub label_sized : (n k : ℕ) → n ≡ x.locals → BlockSize s x.under x.start k → LabelSize s f l (3 + (6 * n + k))
      label_sized n k en B =
          let base = number (program_of s) f in
          let a = ap length label_is ∙ part_size s base x.params x.locals x.under x.start in
          record { is = omega (arith, a, B.is base, en); size_bound = omega (arith, B.size_bound, en, counts_bound.1) }
