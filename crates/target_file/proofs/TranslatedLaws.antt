-- The translation of a program within document 01's ranges is code within the ranges and levels of translated files.
use Prim.Native.Nat.{ℕ, zero, suc, ◌+◌, ◌*◌, ◌≤◌, ◌<◌}
use Rattle.std.specs.Prelude.{◌≡◌, Bool, List, [], ◌∷◌, eqb, pos, length}
use Rattle.std.proofs.Math.Path.{refl, subst}
use Rattle.std.proofs.Common.{sym, length-append, SFits}
use Rattle.std.proofs.Math.Bool.{true, false, cond}
use Rattle.std.proofs.Math.Option.{Option, none, some}
use native.Mathlib.Omega.{arith}
use Rattle.std.proofs.lemmas.List.{length-map}
use Rattle.std.specs.Int.{w32}
use Rattle.std.proofs.Math.Facts.{sfits_lit}
use Rattle.semantics.specs.Program.{FunctionNumber, Variable, Label, Handler, Block, constant, copy, difference, call, goto, return, branch, raise, Labelled, Function, Program, variables, program_version}
use Rattle.semantics.specs.Bench.{labelled_at}
use Rattle.semantics.specs.WellFormed.{All}
use Rattle.semantics.specs.Code.{Slot, Expr, handle}
use Rattle.semantics.specs.Controller.{code_version}
use Rattle.semantics.specs.SlotRules.{KeepsSlotRules}
use Rattle.semantics.specs.Translation.{slot_of, to_label, spare_slot, last_slot, receiver_in, receiver_at, receiver_slot, parameter_slot, bind_raised, raise_code, code, bind_zeros, block_target, targets, number, translate_function, translate_from, translate}
use Rattle.semantics.proofs.TranslationRules.{rules}
use Rattle.semantics.proofs.ListLaws.{all_append, all_mapped}
use Rattle.parsing.specs.Fields.{IsVersion}
use Rattle.target_tags.specs.Tag.{slots_in, number_width}
use Rattle.target_tags.specs.TagLaws.{width_two}
use Rattle.target_file.specs.Writing.{slot_width, writing, FieldsFit, Nests, TargetInRange, InRange}
use Rattle.target_file.proofs.LoadedCodeLaws.{passed, code_is}
use Rattle.target_file.specs.Accepted.{HasFile}
use Rattle.target_file.proofs.AcceptedLaws.{is_accepted_lem, written_stands}
use Rattle.target_file.specs.Translated.{NamedInTwo, BlockFits, LabelledBlockFits, FunctionFits, Source, TranslationAccepted}

zero_fits : SFits w32 (pos 0)
zero_fits = sfits_lit tt

-- The receivers of a function's blocks.
receiver_named : (v : ℕ) (Bs : List Labelled) → All (LabelledBlockFits v) Bs → (l : Label) → NamedInTwo v (receiver_in (labelled_at Bs l))
receiver_named v Bs f zero = tt
receiver_named v [] f (suc l) = tt
receiver_named v (B ∷ Bs) f (suc zero) = f.0.0
receiver_named v (B ∷ Bs) f (suc (suc l)) = receiver_named v Bs f.1 (suc l)

module _ (numbers : FunctionNumber → ℕ) (base : ℕ) (F : Function) where
  abbrev v : ℕ
  v = F.version

  -- A number's slot is there in version 2 alone.
  spare_width : slot_width (spare_slot F) ≡ number_width v
  unfolding number_width
  spare_width = go (eqb v 2)
    where
      go : (t : Bool) → slot_width (cond t (some (slot_of (suc (suc (variables F))))) none) ≡ cond t 1 0
      go true = refl
      go false = refl

  parameter_width : (q : Option Variable) → NamedInTwo v q → slot_width (parameter_slot F q) ≡ number_width v
  parameter_width none w = spare_width
  parameter_width (some x) w = width_two refl w

  raised_fits : (q : Option Slot) (r : Option Variable) (e : Expr) → FieldsFit v e → FieldsFit v (bind_raised q r e)
  raised_fits none r e f = f
  raised_fits (some x) none e f = (zero_fits, f)
  raised_fits (some x) (some y) e f = f

  raise_fits : (h : Handler) (r : Option Variable) → NamedInTwo v r → FieldsFit v (raise_code base F h r)
  raise_fits zero none w = raised_fits (spare_slot F) none (handle 1 (spare_slot F)) (spare_width, tt)
  raise_fits zero (some y) w = (width_two refl w, tt)
  raise_fits (suc l) r w = raised_fits (receiver_slot (receiver_at F (suc l))) r (to_label base (variables F) (suc l)) tt

  raised_nests : (level : ℕ) (q : Option Slot) (r : Option Variable) (e : Expr) → Nests level e → Nests level (bind_raised q r e)
  raised_nests level none r e n = n
  raised_nests level (some x) none e n = n
  raised_nests level (some x) (some y) e n = n

  raise_nests : (level : ℕ) (h : Handler) (r : Option Variable) → Nests level (raise_code base F h r)
  raise_nests level zero none = raised_nests level (spare_slot F) none (handle 1 (spare_slot F)) tt
  raise_nests level zero (some y) = tt
  raise_nests level (suc l) r = raised_nests level (receiver_slot (receiver_at F (suc l))) r (to_label base (variables F) (suc l)) tt

  code_fits : All (LabelledBlockFits v) F.blocks → (h : Handler) (b : Block) → BlockFits v b → FieldsFit v (code numbers base F h b)
  unfolding code
  code_fits g h (constant x i b) f = (f.0, code_fits g h b f.1)
  code_fits g h (copy x y b) f = code_fits g h b f
  code_fits g h (difference x y z b) f = (raise_fits h none tt, code_fits g h b f)
  code_fits g zero (call x f' ys b) f = (tt, code_fits g zero b f)
  code_fits g (suc l) (call x f' ys b) f =
      (parameter_width (receiver_at F (suc l)) (receiver_named v F.blocks g (suc l)), (tt, (tt, code_fits g (suc l) b f)))
  code_fits g h (goto l) f = tt
  code_fits g h (return x) f = tt
  code_fits g h (branch y z l m) f = (tt, tt)
  code_fits g h (raise r) f = raise_fits h r f

  -- A block nests one level: the rest of a call and its handler body are jumps, a raise part ends in a jump or tag 6.
  code_nests : (h : Handler) (b : Block) → Nests 0 (code numbers base F h b)
  unfolding code
  code_nests h (constant x i b) = code_nests h b
  code_nests h (copy x y b) = code_nests h b
  code_nests h (difference x y z b) = (omega arith, raise_nests 1 h none, code_nests h b)
  code_nests zero (call x g ys b) = (omega arith, tt, code_nests zero b)
  code_nests (suc l) (call x g ys b) = (omega arith, tt, (omega arith, tt, code_nests (suc l) b))
  code_nests h (goto l) = tt
  code_nests h (return x) = tt
  code_nests h (branch y z l m) = (omega arith, tt, tt)
  code_nests h (raise r) = raise_nests 0 h r

zeros_fit : (v : ℕ) (s : Slot) (n : ℕ) (e : Expr) → FieldsFit v e → FieldsFit v (bind_zeros s n e)
zeros_fit v s zero e f = f
zeros_fit v s (suc n) e f = (zero_fits, zeros_fit v (suc s) n e f)

zeros_nest : (s : Slot) (n : ℕ) (e : Expr) → Nests 0 e → Nests 0 (bind_zeros s n e)
zeros_nest s zero e f = f
zeros_nest s (suc n) e f = zeros_nest (suc s) n e f

module _ (numbers : FunctionNumber → ℕ) where
  function_range : (base : ℕ) (F : Function) → FunctionFits F.version F → All (TargetInRange F.version) (translate_function numbers base F)
  function_range base F f =
      let p = f.params in
      let l = f.locals in (
        record {
          version_is = refl;
          params = omega arith;
          fields = zeros_fit F.version (slot_of F.params) F.locals (code numbers base F 0 F.entry) (code_fits numbers base F f.labelled 0 F.entry f.entry);
          levels = zeros_nest (slot_of F.params) F.locals (code numbers base F 0 F.entry) (code_nests numbers base F 0 F.entry);
        },
        all_mapped (TargetInRange F.version) (LabelledBlockFits F.version) (block_target numbers base F) F.blocks
            (λ B b. record {
              version_is = refl;
              params = omega arith;
              fields = code_fits numbers base F f.labelled B.handler B.block b.1;
              levels = code_nests numbers base F B.handler B.block;
            })
            f.labelled,
      )

  from_range : (v base : ℕ) (Fs : List Function) → All (FunctionFits v) Fs → All (TargetInRange v) (translate_from numbers base Fs)
  from_range v base [] f = tt
  from_range v base (F ∷ Fs) f =
      let own : FunctionFits F.version F = subst (λ (n : ℕ). FunctionFits n F) (sym f.0.version_is) f.0 in
      all_append (TargetInRange v) (translate_function numbers base F) (translate_from numbers (base + targets F) Fs)
      (subst (λ (n : ℕ). All (TargetInRange n) (translate_function numbers base F)) f.0.version_is (function_range base F own)) (from_range v (base + targets F) Fs f.1)

  from_bound : (v base : ℕ) (Fs : List Function) → All (FunctionFits v) Fs → (length Fs ≤ length (translate_from numbers base Fs)) × (length (translate_from numbers base Fs) ≤ 64 * length Fs)
  from_bound v base [] f = (omega arith, omega arith)
  from_bound v base (F ∷ Fs) f =
      let r = from_bound v (base + targets F) Fs f.1 in
      let a = r.0 in
      let b = r.1 in
      let n = f.0.blocks in
      let m = length-map F.blocks (block_target numbers base F) in
      let l = length-append (translate_function numbers base F) (translate_from numbers (base + targets F) Fs) in
      (omega (arith, l, m), omega (arith, l, m))

-- The last slot that code uses is one of its version's.
last_in : (F : Function) → F.params ≤ 8 → F.locals ≤ 24 → last_slot F < slots_in F.version
unfolding slots_in
last_in F p l = go (eqb F.version 2)
  where
    go : (t : Bool) → cond t (slot_of (suc (suc (variables F)))) (slot_of (suc (variables F))) < cond t 37 36
    go true = omega arith
    go false = omega arith

last_bound : (v : ℕ) (Fs : List Function) → All (FunctionFits v) Fs → All (λ F. last_slot F < slots_in v) Fs
last_bound v [] f = tt
last_bound v (F ∷ Fs) f =
    (subst (λ (n : ℕ). last_slot F < slots_in n) f.0.version_is (last_in F f.0.params f.0.locals), last_bound v Fs f.1)

-- A translation has the version of its program.
pub translation_version : (P : Program) → 1 ≤ length P → program_version P ≡ code_version (translate P)
unfolding translate
translation_version [] h = absurd (omega arith)
translation_version (F ∷ Fs) h = refl

module _ (P : Program) (W : Source P) where
  pub translation_range : InRange (translate P)
  unfolding translate
  translation_range =
      let v = program_version P in
      let n = from_bound (number P) v 0 P W.functions in
      let a = n.0 in
      let b = n.1 in
      let s = W.some in
      let m = W.most in
      let e = translation_version P s in
      record {
        version = subst IsVersion e W.version;
        some = omega arith;
        most = omega arith;
        targets = subst (λ (i : ℕ). All (TargetInRange i) (translate P)) e (from_range (number P) v 0 P W.functions);
      }

  pub translation_rules : KeepsSlotRules (slots_in (code_version (translate P))) (translate P)
  translation_rules =
      subst (λ (i : ℕ). KeepsSlotRules (slots_in i) (translate P)) (translation_version P W.some)
      (rules (slots_in (program_version P)) P W.well_formed (last_bound (program_version P) P W.functions))

  pub translation_has_file : length (writing (translate P)) ≤ 65535 → HasFile (translate P)
  translation_has_file h = record { in_range = translation_range; rules = translation_rules; fits = h }

pub translation_accepted : TranslationAccepted
translation_accepted =
    record {
      fits = λ P W. (λ e. (passed (writing (translate P)) e).file_bound, λ h. (is_accepted_lem (translate P) (translation_has_file P W h)).0);
      reads_back = λ P W. code_is (writing (translate P)) (translate P) (written_stands (translate P) (translation_range P W));
    }
