-- The file that was read is the writing of its program.
use Rattle.std.specs.Prelude.{ℕ, ◌+◌, ◌≤◌, ◌<◌, ◌≡◌, refl, take, drop}
use Rattle.std.proofs.Math.Path.{sym, ap}
use Rattle.std.proofs.Common.{◌∙◌, subst, arith, take-append-drop, length-drop, drop_of_length-le, length-take-le, drop-drop, SFits}
use mathlib.Core.List.{List, [], ◌∷◌, ◌++◌, append-nil}
use Rattle.std.proofs.Math.Option.{Option}
use Rattle.std.proofs.Math.ListN.{length, get_or}
use Rattle.std.proofs.Math.Seq.{drop-length}
use Rattle.std.specs.Int.{w32}
use Rattle.parsing.specs.Parser.{read, and_then, many, joined}
use Rattle.parsing.specs.Fields.{byte, IsVersion, version_of, head, count, ended, value_of, value_at}
use Rattle.parsing.specs.ParserLaws.{sequence, ReadMany, none, one, read_many, read_byte, read_count}
use Rattle.parsing.specs.BytesAtLaws.{BytesAt, bytes_at_join, bytes_at_cons, bytes_at_byte, span, bytes_at_span, bytes_at_many, read_head, read_ended}
use Rattle.semantics.specs.Program.{Variable, Block, Labelled, Function, Program, program_version}
use Rattle.semantics.specs.WellFormed.{All}
use Rattle.procedure_layout.specs.Layout.{spf, file_limit, arguments_at, block, receiver, bytes_before, labelled, Heading, heading, function, functions, program}
use Rattle.parsing.specs.Bytes.{Bytes, value_bytes}
use Rattle.parsing.specs.BytesLaws.{value_back, value_range}
use Rattle.procedure_names.specs.Writing.{block_bytes, labelled_bytes, function_bytes, writing, ValuesFit, LabelledFits, FunctionInRange, InRange}
use Rattle.procedure_names.specs.ReceiverLaws.{before_length, ReadReceiver, read_receiver}
use Rattle.procedure_layout.proofs.LayoutLaws.{HeadingAt, read_heading}
use Rattle.procedure_layout.proofs.BlockLaws.{ReadBlock, read_constant, read_copy, read_difference, read_call, read_goto, read_return, read_branch, read_raise, read_raise_value, read_block}

module _ (s : List ℕ) (bytes : Bytes s) where
  -- The value behind an operation byte and a variable, by its bytes.
  value_at_lem : (at : ℕ) → value_at s (at + 2) ≡ value_of (get_or s (at + 2) 0) (get_or s (at + 3) 0) (get_or s (at + 4) 0) (get_or s (at + 5) 0)
  value_at_lem at =
      let p : at + 2 + 1 ≡ at + 3 = omega arith in
      let q : at + 2 + 2 ≡ at + 4 = omega arith in
      let r : at + 2 + 3 ≡ at + 5 = omega arith in
      rw (p, q, r)

  value_bytes_lem : (at : ℕ) → value_bytes (value_at s (at + 2)) ≡ get_or s (at + 2) 0 ∷ get_or s (at + 3) 0 ∷ get_or s (at + 4) 0 ∷ get_or s (at + 5) 0 ∷ []
  value_bytes_lem at = ap value_bytes (value_at_lem at) ∙ value_back _ _ _ _ (bytes (at + 2)) (bytes (at + 3)) (bytes (at + 4)) (bytes (at + 5))

  pub value_fits : (at : ℕ) → SFits w32 (value_at s (at + 2))
  value_fits at = rw (value_at_lem at) (value_range _ _ _ _ (bytes (at + 2)) (bytes (at + 3)) (bytes (at + 4)) (bytes (at + 5)))

  -- The operation byte and its operands.
  operands : (at k n : ℕ) → get_or s at 0 ≡ k → at + (1 + n) ≤ length s → BytesAt s at (at + (1 + n)) (k ∷ span s at 1 n)
  operands at k n e h = rw (← e) (bytes_at_cons s (omega arith) (bytes_at_span s at 1 n h))

  bytes_at_arguments : (at n : ℕ) → at + n ≤ length s → BytesAt s at (at + n) (take n (drop at s))
  bytes_at_arguments at n h =
      let l = length-drop at s in
      record {
        stands = sym (take-append-drop n (drop at s)) ∙ ap (λ (r : List ℕ). take n (drop at s) ++ r) (drop-drop n at s);
        past = ap (λ (k : ℕ). at + k) (sym (length-take-le n (drop at s) (omega arith)));
      }

  pub arguments_length_lem : (at n : ℕ) → at + 4 + n ≤ length s → length (arguments_at s at n) ≡ n
  arguments_length_lem at n h = let l = length-drop (at + 4) s in length-take-le n (drop (at + 4) s) (omega arith)

  pub bytes_at_block : {at next : ℕ} {b : Block} → ReadBlock s at b next → BytesAt s at next (block_bytes b)
  bytes_at_block (read_constant {at} {next} {b} e h r) =
      let w : BytesAt s at (at + 6) (1 ∷ get_or s (at + 1) 0 ∷ value_bytes (value_at s (at + 2))) = rw (value_bytes_lem at) (operands at 1 5 e h) in
      bytes_at_join s w (bytes_at_block r)
  bytes_at_block (read_copy {at} e h r) = bytes_at_join s (operands at 2 2 e h) (bytes_at_block r)
  bytes_at_block (read_difference {at} e h r) = bytes_at_join s (operands at 3 3 e h) (bytes_at_block r)
  bytes_at_block (read_call {at} {next} {b} e h r) =
      let n = get_or s (at + 3) 0 in
      let o : BytesAt s at (at + 4) (4 ∷ get_or s (at + 1) 0 ∷ get_or s (at + 2) 0 ∷ n ∷ []) = operands at 4 3 e (omega arith) in
      let a : BytesAt s (at + 4) (at + 4 + n) (arguments_at s at n) = bytes_at_arguments (at + 4) n h in
      rw (arguments_length_lem at n h) (bytes_at_join s o (bytes_at_join s a (bytes_at_block r)))
  bytes_at_block (read_goto {at} e h) = operands at 5 1 e h
  bytes_at_block (read_return {at} e h) = operands at 6 1 e h
  bytes_at_block (read_branch {at} e h) = operands at 7 4 e h
  bytes_at_block (read_raise {at} e h) = rw (← e) (bytes_at_byte s at (omega arith))
  bytes_at_block (read_raise_value {at} e h v) = operands at 9 1 e h

  pub fit_block : {at next : ℕ} {b : Block} → ReadBlock s at b next → ValuesFit (version_of s) b
  fit_block (read_constant {at} e h r) = (value_fits at, fit_block r)
  fit_block (read_copy e h r) = fit_block r
  fit_block (read_difference e h r) = fit_block r
  fit_block (read_call e h r) = fit_block r
  fit_block (read_goto e h) = tt
  fit_block (read_return e h) = tt
  fit_block (read_branch e h) = tt
  fit_block (read_raise e h) = tt
  fit_block (read_raise_value e h v) = v

-- A labelled block that was read.
pub record ReadLabelled (s : List ℕ) (at : ℕ) (B : Labelled) (next : ℕ) : Type 0 where
  pub inside : at < length s
  pub handler_is : B.handler ≡ get_or s at 0
  pub receives : ReadReceiver s (at + 1) B.receiver (at + bytes_before (version_of s))
  pub block : ReadBlock s (at + bytes_before (version_of s)) B.block next

pub read_labelled : (s : List ℕ) (at : ℕ) (B : Labelled) (next : ℕ) → labelled s at ≡ read B next → ReadLabelled s at B next
unfolding labelled
read_labelled s at B next e =
    let x = sequence (byte s at) (λ h m. and_then (receiver s m) (λ r j. and_then (block s j) (λ b k. read (record { handler = h; receiver = r; block = b }) k))) e in
    let y = sequence (receiver s x.middle) (λ r j. and_then (block s j) (λ b k. read (record { handler = x.first; receiver = r; block = b }) k)) x.follows in
    let z = sequence (block s y.middle) (λ b k. read (record { handler = x.first; receiver = y.first; block = b }) k) y.follows in
    let h = read_byte s at x.reads in
    go x.first y.first z.first x.middle y.middle z.middle z.follows h.inside h.is h.past y.reads z.reads
  where
    go : (h : ℕ) (r : Option Variable) (b : Block) (m j k : ℕ) → read (record { handler = h; receiver = r; block = b }) k ≡ read B next → at < length s → h ≡ get_or s at 0 → m ≡ at + 1
        → receiver s m ≡ read r j → block s j ≡ read b k → ReadLabelled s at B next
    go h r b m j k w i ih p u v =
        let e : record { handler = h; receiver = r; block = b } ≡ B = cc in
        let n : k ≡ next = cc in
        let c : ReadReceiver s (at + 1) r j = subst (λ (q : ℕ). ReadReceiver s q r j) p (read_receiver s m u) in
        let q : j ≡ at + bytes_before (version_of s) = omega (arith, c.bytes.past, before_length (version_of s) r) in
        rw (← e, ← n)
        (record {
          inside = i;
          handler_is = ih;
          receives = subst (λ (q : ℕ). ReadReceiver s (at + 1) r q) q c;
          block = subst (λ (q : ℕ). ReadBlock s q b k) q (read_block s j v);
        })

-- A function that was read.
pub record ReadFunction (s : List ℕ) (at : ℕ) (F : Function) (next : ℕ) : Type 0 where
  pub version_is : F.version ≡ version_of s
  pub here : HeadingAt s at (record { params = F.params; locals = F.locals; blocks = length F.blocks })
  pub middle : ℕ
  pub entry : ReadBlock s (at + 3) F.entry middle
  pub labels : ReadMany labelled s middle F.blocks next

pub read_function : (s : List ℕ) (at : ℕ) (F : Function) (next : ℕ) → function s at ≡ read F next → ReadFunction s at F next
unfolding function
read_function s at F next e =
    let x = sequence (heading s at) (λ h m. and_then (block s m) (λ b k. and_then (many h.blocks labelled s k) (λ bs j. read (record { version = version_of s; params = h.params; locals = h.locals; entry = b; blocks = bs }) j))) e in
    let y = sequence (block s x.middle) (λ b k. and_then (many x.first.blocks labelled s k) (λ bs j. read (record { version = version_of s; params = x.first.params; locals = x.first.locals; entry = b; blocks = bs }) j)) x.follows in
    let z = sequence (many x.first.blocks labelled s y.middle) (λ bs j. read (record { version = version_of s; params = x.first.params; locals = x.first.locals; entry = y.first; blocks = bs }) j) y.follows in
    let h = read_heading s at x.first x.middle x.reads in
    let l = read_many labelled s x.first.blocks y.middle z.reads in
    go x.first y.first z.first x.middle y.middle z.middle z.follows h.0 h.1 y.reads l.0 l.1
  where
    go : (h : Heading) (b : Block) (bs : List Labelled) (m k j : ℕ)
        → read (record { version = version_of s; params = h.params; locals = h.locals; entry = b; blocks = bs }) j ≡ read F next
        → HeadingAt s at h → m ≡ at + 3 → block s m ≡ read b k → ReadMany labelled s k bs j → length bs ≡ h.blocks → ReadFunction s at F next
    go h b bs m k j w i p r l n =
        let e : record { version = version_of s; params = h.params; locals = h.locals; entry = b; blocks = bs } ≡ F = cc in
        let q : j ≡ next = cc in
        rw (← e, ← q) (record { version_is = refl; here = rw n i; middle = k; entry = read_block s (at + 3) (rw p at r); labels = l })

-- A program that was read.
pub record ReadProgram (s : List ℕ) (P : Program) : Type 0 where
  pub head : BytesAt s 0 6 (83 ∷ 80 ∷ 70 ∷ version_of s ∷ 0 ∷ length P ∷ [])
  pub known : IsVersion (version_of s)
  pub least : 1 ≤ length P
  pub most : length P ≤ 32
  pub functions : ReadMany function s 6 P (length s)

-- An end that was not passed.
bytes_at_end : (s : List ℕ) (next : ℕ) (w : List ℕ) → BytesAt s 6 next w → 6 ≤ length s → length s ≤ next → next ≡ length s
bytes_at_end s next w a h k =
    let l : length (drop 6 s) ≡ length w =
    ap length (a.stands ∙ ap (λ (r : List ℕ). w ++ r) (drop_of_length-le s k) ∙ append-nil w) in
    omega (arith, l, length-drop 6 s, a.past)

module _ (s : List ℕ) (bytes : Bytes s) where
  pub bytes_at_labelled : (at : ℕ) (B : Labelled) (next : ℕ) → labelled s at ≡ read B next → BytesAt s at next (labelled_bytes (version_of s) B)
  bytes_at_labelled at B next e =
      let r = read_labelled s at B next e in
      rw r.handler_is (bytes_at_cons s r.inside (bytes_at_join s r.receives.bytes (bytes_at_block s bytes r.block)))

  pub bytes_at_function : (at : ℕ) (F : Function) (next : ℕ) → function s at ≡ read F next → BytesAt s at next (function_bytes F)
  bytes_at_function at F next e =
      let r = read_function s at F next e in
      let h = r.here in
      let o : BytesAt s at (at + 3) (F.params ∷ F.locals ∷ length F.blocks ∷ []) =
      rw (h.locals_are, h.blocks_are) (operands s bytes at F.params 2 (sym h.params_are) h.inside) in
      let l = bytes_at_many labelled (labelled_bytes (version_of s)) s bytes_at_labelled r.labels in
      bytes_at_join s o
      (bytes_at_join s (bytes_at_block s bytes r.entry) (subst (λ (v : ℕ). BytesAt s r.middle next (joined (labelled_bytes v) F.blocks)) (sym r.version_is) l))

  -- The version of a program is that of its file.
  first_version : {at next : ℕ} {Fs : List Function} → ReadMany function s at Fs next → 1 ≤ length Fs → program_version Fs ≡ version_of s
  first_version (none) h = absurd (omega arith)
  first_version (one {at} {middle} {next} {a = F} e r) h = (read_function s at F middle e).version_is

  pub read_program : (P : Program) (next : ℕ) → program s 0 ≡ read P next → ReadProgram s P
  unfolding program functions
  read_program P next e =
      let a = sequence (head spf file_limit s 0) (λ u m₂. functions s m₂) e in
      let c = sequence (count 1 32 s a.middle) (λ n m₃. and_then (many n function s m₃) (λ fs m₄. and_then (ended s m₄) (λ w m₅. read fs m₅))) a.follows in
      let d = sequence (many c.first function s c.middle) (λ fs m₄. and_then (ended s m₄) (λ w m₅. read fs m₅)) c.follows in
      let f = sequence (ended s d.middle) (λ w m₅. read d.first m₅) d.follows in
      go a.middle c.first c.middle d.first d.middle f.middle (read_head s spf file_limit a.reads) c.reads d.reads
      (read_ended s d.middle f.reads).0 f.follows
    where
      go : (m₂ n m₃ : ℕ) (fs : List Function) (m₄ m₅ : ℕ) → (length s ≤ file_limit) × BytesAt s 0 m₂ (spf ++ version_of s ∷ 0 ∷ []) × IsVersion (version_of s) → count 1 32 s m₂ ≡ read n m₃
          → many n function s m₃ ≡ read fs m₄ → length s ≤ m₄ → read fs m₅ ≡ read P next → ReadProgram s P
      go m₂ n m₃ fs m₄ m₅ x z w l v =
          let p : fs ≡ P = cc in
          let k = read_count 1 32 s m₂ z in
          let q = read_many function s n m₃ w in
          let e₂ : m₂ ≡ 5 = x.1.past in
          let e₃ : m₃ ≡ 6 = omega (arith, k.byte.past) in
          let r : ReadMany function s 6 P m₄ = rw (← e₃, ← p) q.0 in
          let j : length P ≡ n = rw (← p) q.1 in
          let u = bytes_at_many function function_bytes s bytes_at_function r in
          let i : 6 ≤ length s = omega (arith, k.byte.inside) in
          let o : m₄ ≡ length s = bytes_at_end s m₄ (joined function_bytes P) u i l in
          let g : BytesAt s 5 6 (get_or s 5 0 ∷ []) = bytes_at_byte s 5 (omega arith) in
          let nb : get_or s 5 0 ≡ length P = ap (λ (t : ℕ). get_or s t 0) (sym e₂) ∙ sym k.byte.is ∙ sym j in
          record {
            head = bytes_at_join s (subst (λ (m : ℕ). BytesAt s 0 m (spf ++ version_of s ∷ 0 ∷ [])) e₂ x.1) (rw nb at g);
            known = x.2;
            least = omega (arith, k.least);
            most = omega (arith, k.most);
            functions = rw o at r;
          }

  -- The file is the writing of the program that was read.
  pub written : (P : Program) → ReadProgram s P → s ≡ writing P
  unfolding writing
  written P r =
      let w = bytes_at_join s r.head (bytes_at_many function function_bytes s bytes_at_function r.functions) in
      w.stands ∙ ap (λ (l : List ℕ). (83 ∷ 80 ∷ 70 ∷ version_of s ∷ 0 ∷ length P ∷ joined function_bytes P) ++ l) (drop-length s) ∙ append-nil _
      ∙ ap (λ (v : ℕ). 83 ∷ 80 ∷ 70 ∷ v ∷ 0 ∷ length P ∷ joined function_bytes P) (sym (first_version r.functions r.least))

  -- Its counts and values are in range.
  labels_fit : {at next : ℕ} {Bs : List Labelled} → ReadMany labelled s at Bs next → All (LabelledFits (version_of s)) Bs
  labels_fit (none) = tt
  labels_fit (one {at} {middle} {next} {a = B} e r) =
      let l = read_labelled s at B middle e in
      ((l.receives.fits, fit_block s bytes l.block), labels_fit r)

  function_range : (at : ℕ) (F : Function) (next : ℕ) → function s at ≡ read F next → FunctionInRange (version_of s) F
  function_range at F next e =
      let r = read_function s at F next e in
      record {
        version_is = r.version_is;
        params = r.here.params_bound;
        locals = r.here.locals_bound;
        blocks = r.here.blocks_bound;
        entry_values = fit_block s bytes r.entry;
        block_values = labels_fit r.labels;
      }

  functions_range : {at next : ℕ} {Fs : List Function} → ReadMany function s at Fs next → All (FunctionInRange (version_of s)) Fs
  functions_range (none) = tt
  functions_range (one {at} {middle} {next} {a = F} e r) = (function_range at F middle e, functions_range r)

  pub in_range_lem : (P : Program) → ReadProgram s P → InRange P
  in_range_lem P r =
      let v = sym (first_version r.functions r.least) in
      record {
        version = subst IsVersion v r.known;
        some = r.least;
        most = r.most;
        functions = subst (λ (v : ℕ). All (FunctionInRange v) P) v (functions_range r.functions);
      }
