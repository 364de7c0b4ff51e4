-- Laws of the tables, as the loop that fills them meets them.
use Rattle.std.specs.Prelude.{ℕ, suc, ◌+◌, ◌-◌, ◌≤◌, ◌<◌, ◌≡◌, refl, false, List, [], ◌∷◌, ◌++◌, length, get_or, take, drop, set, replicate, Ok}
use Rattle.std.proofs.Math.Path.{sym}
use Rattle.std.proofs.Common.{ap, ap₂, ◌∙◌, subst, arith, add-one, take-append-drop, length-set, take-suc, take-suc-set, drop-drop, drop-set-lt, get_or-drop, take_all}
use Rattle.std.proofs.lemmas.List.{length-map, length-replicate}
use Rattle.std.proofs.Math.ListN.{get_or-map}
use Rattle.std.proofs.Math.Seq.{drop-cons}
use Rattle.semantics.specs.Code.{Target, Code}
use Rattle.semantics.specs.Controller.{no_target}
use Rattle.parsing.specs.Parser.{read, past_of}
use Rattle.parsing.specs.ParserLaws.{past_read}
use Rattle.target_tags.specs.Tag.{pair_at}
use Rattle.target_layout.specs.Layout.{code}
use Rattle.target_layout.specs.FileLaws.{read_code}
use Rattle.target_file.specs.Writing.{size}
use Rattle.target_file.specs.Check.{arities, code_read, code_of}
use Rattle.target_file.proofs.ExprLaws.{expr_inside, expr_within}
use Rattle.target_file.proofs.CodeLaws.{CodeAt, FileAt, laid_read}
use Rattle.target_file.specs.Tables.{LaidOut, starts_from, table_of, Tabled}

-- One more element of a table.
more_filled : (l table : List ℕ) (i v : ℕ) → i < length l → i < length table → take i l ≡ take i table → v ≡ get_or table i 0 → take (i + 1) (set l i v) ≡ take (i + 1) table
more_filled l table i v h k e f = rw (add-one i, take-suc-set l i v h, take-suc table i 0 k, e, f)

pub length_starts : (at : ℕ) (Q : Code) → length (starts_from at Q) ≡ length Q
length_starts at [] = refl
length_starts at (D ∷ Q) = ap suc (length_starts (at + 3 + size D.body) Q)

-- The tables are filled up to function i, which stands at an offset.
pub record Turn (s : List ℕ) (Q : Code) (i at : ℕ) (starts params : List ℕ) : Type 0 where
  pub counter_bound : i ≤ length Q
  pub stands : CodeAt s at (drop i Q)
  pub begins : drop i (starts_from 7 Q) ≡ starts_from at (drop i Q)
  pub table_length : length starts ≡ 2048
  pub others : drop i starts ≡ replicate (2048 - i) 0
  pub counts_length : length params ≡ 2048
  pub bodies : take i starts ≡ take i (starts_from 7 Q)
  pub counts : take i params ≡ take i (arities Q)

pub laid_file : (s : List ℕ) → LaidOut s → FileAt s (code_of s)
laid_file s l = laid_read s (code_of s) l.past l.reads

-- What the code may rely on at the offset of function i.
pub record Head (s : List ℕ) (i at : ℕ) : Type 0 where
  pub inside : at + 3 < length s
  pub sized : at + 3 + pair_at s (at + 1) ≤ length s
  pub file_bound : length s ≤ 65535
  pub counter_bound : i < 2048

module _ {s : List ℕ} (laid : LaidOut s) {n i at : ℕ} {starts params : List ℕ} (counted : n ≡ pair_at s 5) (turn : Turn s (code_of s) i at starts params) (below : i < n) where
  more : i < length (code_of s)
  more = subst (λ (k : ℕ). i < k) (counted ∙ (laid_file s laid).counted) below

  most : length (code_of s) ≤ 2048
  most = (laid_file s laid).most

  D : Target
  D = get_or (code_of s) i no_target

  split : drop i (code_of s) ≡ D ∷ drop (suc i) (code_of s)
  unfolding D
  split = drop-cons (code_of s) i no_target more

  stand : CodeAt s at (D ∷ drop (suc i) (code_of s))
  stand = subst (CodeAt s at) split turn.stands

  pub turn_head : Head s i at
  turn_head =
      let w = expr_within s (at + 3) D.body stand.2 in
      record { inside = expr_inside s (at + 3) D.body stand.2; sized = let q = stand.1 in omega arith; file_bound = laid.file_bound; counter_bound = omega (arith, more, most) }

  module _ {starts' params' : List ℕ} {v m : ℕ} (is : v ≡ get_or s at 0) (sized : m ≡ pair_at s (at + 1))
      (es : starts' ≡ set starts i (at + 3)) (ep : params' ≡ set params i v) where
    begin : drop i (starts_from 7 (code_of s)) ≡ (at + 3) ∷ starts_from (at + 3 + size D.body) (drop (suc i) (code_of s))
    begin = turn.begins ∙ ap (starts_from at) split

    start_is : at + 3 ≡ get_or (starts_from 7 (code_of s)) i 0
    start_is =
        let q : i + 0 ≡ i = omega arith in
        sym (ap (λ (l : List ℕ). get_or l 0 0) begin) ∙ get_or-drop i (starts_from 7 (code_of s)) 0 0 ∙ ap (λ (j : ℕ). get_or (starts_from 7 (code_of s)) j 0) q

    params_is : v ≡ get_or (arities (code_of s)) i 0
    unfolding D
    params_is = is ∙ stand.0 ∙ sym (get_or-map (λ (T : Target). T.params) (code_of s) i no_target)

    place : at + 3 + size D.body ≡ at + 3 + m
    place = ap (λ (j : ℕ). at + 3 + j) (sym stand.1 ∙ sym sized)

    pub turn_on : Turn s (code_of s) (i + 1) (at + 3 + m) starts' params'
    turn_on =
        let l = more in
        let k = most in
        let p : suc i ≡ i + 1 = omega arith in
        let z : 2048 - i ≡ suc (2048 - (i + 1)) = omega arith in
        let w = turn.table_length in
        let b = turn.counts_length in
        record {
          counter_bound = omega arith;
          stands = subst (λ (j : ℕ). CodeAt s (at + 3 + m) (drop j (code_of s))) p (subst (λ (j : ℕ). CodeAt s j (drop (suc i) (code_of s))) place stand.3);
          begins =
              sym (drop-drop 1 i (starts_from 7 (code_of s))) ∙ ap (drop 1) begin
              ∙ ap (λ (j : ℕ). starts_from j (drop (suc i) (code_of s))) place ∙ ap (λ (j : ℕ). starts_from (at + 3 + m) (drop j (code_of s))) p;
          table_length = ap length es ∙ length-set starts i (at + 3) ∙ w;
          others = ap (drop (i + 1)) es ∙ drop-set-lt (i + 1) starts i (at + 3) (omega arith) ∙ sym (drop-drop 1 i starts) ∙ ap (drop 1) (turn.others ∙ ap (λ (k : ℕ). replicate k 0) z);
          counts_length = ap length ep ∙ length-set params i v ∙ b;
          bodies = ap (take (i + 1)) es ∙ more_filled starts (starts_from 7 (code_of s)) i (at + 3) (omega arith) (omega (arith, length_starts 7 (code_of s))) turn.bodies start_is;
          counts = ap (take (i + 1)) ep ∙ more_filled params (arities (code_of s)) i v (omega arith) (omega (arith, length-map (code_of s) (λ (T : Target). T.params))) turn.counts params_is;
        }

-- All functions are in the tables.
pub turn_done : {s : List ℕ} → LaidOut s → {n i at : ℕ} {starts params : List ℕ} → n ≡ pair_at s 5 → Turn s (code_of s) i at starts params → n ≤ i → Tabled s starts params
unfolding table_of
turn_done {s} laid {n} {i} {at} {starts} {params} e turn h =
    let Q = code_of s in
    let k : n ≡ length Q = e ∙ (laid_file s laid).counted in
    let q : i ≡ length Q = let f = turn.counter_bound in omega arith in
    let a : take (length Q) starts ≡ take (length Q) (starts_from 7 Q) = subst (λ (j : ℕ). take j starts ≡ take j (starts_from 7 Q)) q turn.bodies in
    let b : take (length Q) params ≡ take (length Q) (arities Q) = subst (λ (j : ℕ). take j params ≡ take j (arities Q)) q turn.counts in
    record {
      bodies =
          sym (take-append-drop (length Q) starts)
          ∙ ap₂ ◌++◌ (a ∙ take_all (length Q) (starts_from 7 Q) (omega (arith, length_starts 7 Q))) (subst (λ (j : ℕ). drop j starts ≡ replicate (2048 - j) 0) q turn.others);
      counts_length = turn.counts_length;
      counts = b ∙ take_all (length Q) (arities Q) (omega (arith, length-map Q (λ (T : Target). T.params)));
    }

-- The layout of a file that was read to its end.
pub laid_out : (s : List ℕ) (next : ℕ) → past_of (code false [] s 0) ≡ Ok next → LaidOut s
unfolding code_of
laid_out s next e =
    let r = past_read (code false [] s 0) e in
    let h = read_code false [] s r.is in
    record { file_bound = h.0; past = next; reads = r.is ∙ ap (λ Q. read Q next) (sym (ap code_read h.2)) }

pub turn_start : (s : List ℕ) → LaidOut s → Turn s (code_of s) 0 7 (replicate 2048 0) (replicate 2048 0)
turn_start s laid =
    record {
      counter_bound = omega arith;
      stands = (laid_file s laid).stands;
      begins = refl;
      table_length = length-replicate {A = ℕ} 2048 0;
      others = refl;
      counts_length = length-replicate {A = ℕ} 2048 0;
      bodies = refl;
      counts = refl;
    }
