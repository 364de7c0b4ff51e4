-- Laws of reading a file by its table, as the functions that read it meet them.
use Rattle.std.specs.Prelude.{ℕ, zero, suc, ◌+◌, ◌-◌, ◌*◌, ◌≤◌, ◌<◌, ◌≡◌, ◌≢◌, List, [], ◌∷◌, length, get_or, drop}
use Rattle.std.proofs.Common.{sym, ap, ◌∙◌, subst, arith, length-append}
use Rattle.std.proofs.Math.Decide.{ℕ_discrete}
use borrow.Author.Tests.{le-leb, lt-leb, lt-ltb, le-ltb}
use Rattle.std.proofs.Math.ListN.{get_or-eq_default}
use Rattle.parsing.specs.Fields.{version_of}
use Rattle.semantics.specs.Program.{Function, Program, no_function, function_of}
use Rattle.procedure_layout.specs.Layout.{block, as_receiver, bytes_before}
use Rattle.procedure_layout.proofs.LayoutLaws.{before_two, before_one, before_bounds}
use Rattle.procedure_names.specs.Writing.{receiver_byte}
use Rattle.procedure_layout.specs.After.{end_of}
use Rattle.procedure_file.specs.Check.{program_of}
use Rattle.procedure_file.specs.Places.{function_place, label_place, start_of, handler_of, receiver_of}
use Rattle.procedure_file.specs.Table.{entry_of}
use Rattle.procedure_file.specs.Loaded.{Laid, Tabled}
use Rattle.procedure_file.proofs.AcceptedLaws.{laid_reads}
use Rattle.procedure_file.specs.WrittenLaws.{ReadFunction}
use Rattle.procedure_file.specs.PlacesLaws.{block_is, block_inside, function_at_lem, version_is_lem, label_at, handler_at, receiver_at_lem, receiver_absent, receiver_known, start_at}

-- An entry, by whether the block is there.
module _ (P : Program) (f l : ℕ) where
  pub entry_there : f < length P → l ≤ length (function_of P f).blocks → entry_of P f l ≡ start_of P f l
  unfolding entry_of
  entry_there h k = rw (lt-ltb f (length P) h, le-leb l (length (function_of P f).blocks) k)

  pub entry_no_label : f < length P → length (function_of P f).blocks < l → entry_of P f l ≡ 0
  unfolding entry_of
  entry_no_label h k = rw (lt-ltb f (length P) h, lt-leb l (length (function_of P f).blocks) k)

  pub entry_no_function : length P ≤ f → entry_of P f l ≡ 0
  unfolding entry_of
  entry_no_function h = rw (le-ltb f (length P) h)

-- Where there is no function f, it takes 0 arguments.
pub no_params : (P : Program) (f : ℕ) → length P ≤ f → 0 ≡ (function_of P f).params
no_params P f h = sym (ap (λ (F : Function). F.params) (get_or-eq_default P no_function h))

-- The function count stands behind mark and version.
pub count_byte : (s : List ℕ) (L : Laid s) → get_or s 5 0 ≡ length (program_of s)
count_byte s L = ap (λ (l : List ℕ). get_or l 5 0) (laid_reads L).head.stands

pub count_inside : (s : List ℕ) (L : Laid s) → 5 < length s
count_inside s L = let l = ap length (laid_reads L).head.stands in omega (arith, l, length-append (83 ∷ 80 ∷ 70 ∷ version_of s ∷ 0 ∷ length (program_of s) ∷ []) (drop 6 s))

module _ (s : List ℕ) (L : Laid s) (f : ℕ) (there : f < length (program_of s)) where
  abbrev P : Program
  P = program_of s

  abbrev F : Function
  F = function_of P f

  -- The heading of function f.
  function_read : ReadFunction s (function_place P f) F (function_place P (suc f))
  function_read = function_at_lem s L.bytes P (laid_reads L) f there

  pub heading_inside : function_place P f + 3 ≤ length s
  heading_inside = function_read.here.inside

  pub params_byte : get_or s (function_place P f) 0 ≡ F.params
  params_byte = sym function_read.here.params_are

  pub blocks_byte : get_or s (function_place P f + 2) 0 ≡ length F.blocks
  blocks_byte = sym function_read.here.blocks_are

  pub blocks_bound_lem : length F.blocks ≤ 63
  blocks_bound_lem = function_read.here.blocks_bound

  pub params_bound_lem : F.params ≤ 8
  params_bound_lem = function_read.here.params_bound

  pub locals_bound_lem : F.locals ≤ 24
  locals_bound_lem = function_read.here.locals_bound

  pub functions_bound : f < 32
  functions_bound = omega (arith, (laid_reads L).most)

  -- It stands before the entry block.
  pub record Heading (x : ℕ) : Type 0 where
    pub low : 3 ≤ x
    pub inside : x ≤ length s
    pub params_are : get_or s (x - 3) 0 ≡ F.params
    pub locals_are : get_or s (x - 2) 0 ≡ F.locals
    pub blocks_are : get_or s (x - 1) 0 ≡ length F.blocks

  pub heading : (x : ℕ) → x ≡ start_of P f 0 → Heading x
  heading x e =
      let a : x - 3 ≡ function_place P f = omega arith in
      let b : x - 2 ≡ function_place P f + 1 = omega arith in
      let d : x - 1 ≡ function_place P f + 2 = omega arith in
      record {
        low = omega arith;
        inside = omega (arith, heading_inside);
        params_are = ap (λ (k : ℕ). get_or s k 0) a ∙ params_byte;
        locals_are = ap (λ (k : ℕ). get_or s k 0) b ∙ sym function_read.here.locals_are;
        blocks_are = ap (λ (k : ℕ). get_or s k 0) d ∙ blocks_byte;
      }

  -- A block ends where the next begins.
  pub end_is : (l : ℕ) → l ≤ length F.blocks → end_of (block s (start_of P f l)) ≡ label_place P f l
  end_is l h = ap end_of (block_is s (start_at s L.bytes P (laid_reads L) f there l h))

  pub start_room : (l x : ℕ) → l ≤ length F.blocks → x ≡ start_of P f l → (1 ≤ x) × (x < length s)
  start_room l x h e =
      let i = block_inside s (start_at s L.bytes P (laid_reads L) f there l h) in
      (rw e (positive l), omega (arith, e, i.0, i.1))
    where
      positive : (k : ℕ) → 1 ≤ start_of P f k
      positive zero = omega arith
      positive (suc k) = omega (arith, before_bounds F.version)

  pub place_inside : (l : ℕ) → l < length F.blocks → label_place P f l < length s
  place_inside l h = (label_at s L.bytes P (laid_reads L) f there l h).inside

  -- The version of a file whose layout is whole is the number of bytes before a labelled block's first operation.
  pub version_before : get_or s 3 0 ≡ bytes_before (version_of s)
  version_before = by (ℕ_discrete (version_of s) 2)
    where
      by : Dec (version_of s ≡ 2) → version_of s ≡ bytes_before (version_of s)
      by (yes e) = e ∙ sym (before_two e)
      by (no n) = let k = (laid_reads L).known in let q : version_of s ≡ 1 = omega (arith, k.0, k.1, n) in q ∙ sym (before_one n)

  -- A labelled block's first operation stands behind its handler and its receiver.
  pub start_behind : (l : ℕ) → start_of P f (suc l) ≡ label_place P f l + bytes_before (version_of s)
  start_behind l = ap (λ (v : ℕ). label_place P f l + bytes_before v) (version_is_lem s L.bytes P (laid_reads L) f there)

  module _ (l x b : ℕ) (some : 1 ≤ l) (known : l ≤ length F.blocks) (start : x ≡ start_of P f l) (before : b ≡ bytes_before (version_of s)) where
    pub before_room : b ≤ x
    before_room = by l some start
      where
        by : (k : ℕ) → 1 ≤ k → x ≡ start_of P f k → b ≤ x
        by zero i e = absurd (omega arith)
        by (suc k) i e = omega (arith, e, start_behind k)

    pub handler_byte : get_or s (x - b) 0 ≡ handler_of F l
    handler_byte = by l some known start
      where
        by : (k : ℕ) → 1 ≤ k → k ≤ length F.blocks → x ≡ start_of P f k → get_or s (x - b) 0 ≡ handler_of F k
        by zero i h e = absurd (omega arith)
        by (suc k) i h e =
            let a : x - b ≡ label_place P f k = omega (arith, e, start_behind k) in
            ap (λ (j : ℕ). get_or s j 0) a ∙ handler_at s L.bytes P (laid_reads L) f there k (omega arith)

  module _ (l : ℕ) (some : 1 ≤ l) (known : l ≤ length F.blocks) where
    -- In version 2 a receiver stands right before its block.
    pub receiver_byte_lem : (x : ℕ) → x ≡ start_of P f l → version_of s ≡ 2 → get_or s (x - 1) 0 ≡ receiver_byte (receiver_of F l)
    receiver_byte_lem x start v = by l some known start
      where
        by : (k : ℕ) → 1 ≤ k → k ≤ length F.blocks → x ≡ start_of P f k → get_or s (x - 1) 0 ≡ receiver_byte (receiver_of F k)
        by zero i h e = absurd (omega arith)
        by (suc k) i h e =
            let a : x - 1 ≡ label_place P f k + 1 = omega (arith, e, start_behind k, before_two v) in
            ap (λ (j : ℕ). get_or s j 0) a ∙ receiver_at_lem s L.bytes P (laid_reads L) f there k (omega arith) v

    pub receiver_none : version_of s ≢ 2 → 255 ≡ receiver_byte (receiver_of F l)
    receiver_none n = by l some known
      where
        by : (k : ℕ) → 1 ≤ k → k ≤ length F.blocks → 255 ≡ receiver_byte (receiver_of F k)
        by zero i h = absurd (omega arith)
        by (suc k) i h = sym (ap receiver_byte (receiver_absent s L.bytes P (laid_reads L) f there k (omega arith) n))

    -- The receiver that its byte names.
    pub receiver_named : (x : ℕ) → x ≡ receiver_byte (receiver_of F l) → as_receiver x ≡ receiver_of F l
    receiver_named x e = ap as_receiver e ∙ by l some known
      where
        by : (k : ℕ) → 1 ≤ k → k ≤ length F.blocks → as_receiver (receiver_byte (receiver_of F k)) ≡ receiver_of F k
        by zero i h = absurd (omega arith)
        by (suc k) i h = receiver_known s L.bytes P (laid_reads L) f there k (omega arith)

-- The fields of a file with its table, by its bytes.
pub tabled_as : {file s starts : List ℕ} → file ≡ s → Tabled file starts → Tabled s starts
tabled_as {starts} e T = subst (λ (b : List ℕ). Tabled b starts) e T

pub laid_as : {file s starts : List ℕ} → file ≡ s → Tabled file starts → Laid s
laid_as e T = (tabled_as e T).laid

pub long_as : {file s : List ℕ} {n : ℕ} → file ≡ s → n < length s → n < length file
long_as {n} e h = subst (λ (b : List ℕ). n < length b) (sym e) h

module _ (s starts : List ℕ) (T : Tabled s starts) (f : ℕ) (there : f < length (program_of s)) (l : ℕ)
    (known : l ≤ length (function_of (program_of s) f).blocks) where
  pub index_bound : 64 * f + l < 2048
  index_bound = omega (arith, functions_bound s T.laid f there, blocks_bound_lem s T.laid f there)

  pub start_is : get_or starts (64 * f + l) 0 ≡ start_of (program_of s) f l
  start_is =
      T.table.entries f l (functions_bound s T.laid f there) (omega (arith, blocks_bound_lem s T.laid f there))
      ∙ entry_there (program_of s) f l there known
