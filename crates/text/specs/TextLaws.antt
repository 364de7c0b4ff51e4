-- Laws of the texts: how long they are, and how a run stopped.
use Rattle.std.specs.Prelude.{ℕ, ◌+◌, ◌≤◌, ◌≡◌, Bool, true, false, cond, List, [], ◌++◌, eqb, ℤ, length}
use Rattle.std.proofs.Common.{arith, sym, ap, ◌∙◌, eq-eqb, ne_eqb, length-append}
use Rattle.semantics.specs.Run as Rules
use Rattle.semantics.specs.Run.{value, uncaught, Stop, ended, spent, deep, broken}
use Rattle.memory.specs.LayLaws.{lay_nil}
use Rattle.decimal.specs.WroteText.{WroteText}
use Rattle.decimal.specs.DecimalLaws.{length_signed, length_numbered}
use Rattle.runs.specs.declared.End.{End}
use Rattle.runs.specs.declared.End.TheVariants.{Value, Uncaught}
use Rattle.runs.specs.declared.Stopped.{Stopped}
use Rattle.runs.specs.Stopped.{end_as, stopped_as}
use Rattle.decimal.specs.Decimal.{signed, numbered}
use Rattle.text.specs.Text.{raised_text, end_text, stop_text, machine_line, target_line, value_word, uncaught_word, steps_word, target_word, space, newline}

length_raised : (version : ℕ) (z : ℤ) → length (raised_text version z) ≤ 22
unfolding raised_text
length_raised version z = by (eqb version 2)
  where
    by : (c : Bool) → length (cond c (space ++ signed z) []) ≤ 22
    by true = let h : length (signed z) ≤ 21 = length_signed z in let e : length (space ++ signed z) ≡ 1 + length (signed z) = length-append space (signed z) in omega arith
    by false = omega arith

length_end : (version : ℕ) (e : Rules.End) → length (end_text version e) ≤ 30
unfolding end_text
length_end version (value z) =
    let h : length (signed z) ≤ 21 = length_signed z in
    let e : length (value_word ++ signed z) ≡ 6 + length (signed z) = length-append value_word (signed z) in
    omega arith
length_end version (uncaught z) =
    let h : length (raised_text version z) ≤ 22 = length_raised version z in
    let e : length (uncaught_word ++ raised_text version z) ≡ 8 + length (raised_text version z) = length-append uncaught_word (raised_text version z) in
    omega arith

pub length_stop : (version : ℕ) (x : Stop (Unit {0})) → length (stop_text version x) ≤ 30
unfolding stop_text
length_stop version (ended e) = length_end version e
length_stop version (spent u) = omega arith
length_stop version (deep u) = omega arith
length_stop version (broken u) = omega arith

pub length_machine : (version : ℕ) (name : List ℕ) (x : Stop (Unit {0})) (n : ℕ) → length (machine_line version name x n) ≤ length name + 59
unfolding machine_line
length_machine version name x n =
    let a : length (name ++ space) ≡ length name + 1 = length-append name space in
    let b : length (name ++ space ++ stop_text version x) ≡ length (name ++ space) + length (stop_text version x) = length-append (name ++ space) (stop_text version x) in
    let c : length (name ++ space ++ stop_text version x ++ numbered steps_word n) ≡ length (name ++ space ++ stop_text version x) + length (numbered steps_word n) = length-append (name ++ space ++ stop_text version x) (numbered steps_word n) in
    let e : length (name ++ space ++ stop_text version x ++ numbered steps_word n ++ newline) ≡ length (name ++ space ++ stop_text version x ++ numbered steps_word n) + 1 = length-append (name ++ space ++ stop_text version x ++ numbered steps_word n) newline in
    let f : length (stop_text version x) ≤ 30 = length_stop version x in
    let g : length (numbered steps_word n) ≤ 7 + 20 = length_numbered steps_word n in
    omega arith

pub length_target : (n : ℕ) → length (target_line n) ≤ 28
unfolding target_line
length_target n =
    let e : length (numbered target_word n ++ newline) ≡ length (numbered target_word n) + 1 = length-append (numbered target_word n) newline in
    let g : length (numbered target_word n) ≤ 7 + 20 = length_numbered target_word n in
    omega arith

-- How a run ended and stopped, as the code has it.
pub end_value : (version : ℕ) (e : End) (x z : ℤ) → e ≡ Value z → x ≡ z → value_word ++ signed x ≡ end_text version (end_as e)
unfolding end_text
end_value version e x z p q = ap (λ (y : ℤ). value_word ++ signed y) q ∙ ap (λ (y : End). end_text version (end_as y)) (sym p)

pub end_uncaught : (version : ℕ) (e : End) (x z : ℤ) → e ≡ Uncaught z → x ≡ z → uncaught_word ++ raised_text version x ≡ end_text version (end_as e)
unfolding end_text
end_uncaught version e x z p q = ap (λ (y : ℤ). uncaught_word ++ raised_text version y) q ∙ ap (λ (y : End). end_text version (end_as y)) (sym p)

pub stopped_as_lem : (version : ℕ) (s t : Stopped) → s ≡ t → stop_text version (stopped_as t) ≡ stop_text version (stopped_as s)
stopped_as_lem version s t p = ap (λ (y : Stopped). stop_text version (stopped_as y)) (sym p)

-- The number raised, by the version.
module _ (version : ℕ) (z : ℤ) where
  pub raised_printed : (x : ℤ) → version ≡ 2 → x ≡ z → space ++ signed x ≡ raised_text version z
  unfolding raised_text
  raised_printed x e q = rw (eq-eqb version 2 e, q)

  pub raised_omitted : (version ≡ 2 → ⊥) → [] ≡ raised_text version z
  unfolding raised_text
  raised_omitted e = rw (ne_eqb version 2 e)

-- Nothing is written.
pub wrote_none : {at : ℕ} {d : List ℕ} → at ≤ length d → WroteText at [] d at d
wrote_none {at} {d} h = record { same = sym (lay_nil at d); past = omega arith; within = h }
