-- The writing of code that has a file is a list of bytes.
use Rattle.std.specs.Prelude.{ℕ, ◌≤◌, ◌<◌, List, ◌++◌, length}
use Rattle.std.proofs.Math.Option.{Option, none, some}
use Rattle.std.proofs.Common.{arith}
use Rattle.semantics.specs.Code.{Slot, Expr, let_constant, let_slot, let_difference, jump, resume, handle, if_at_most, let_continuation, let_continuation_with_handler, let_difference_or_raise, Target, Code}
use Rattle.semantics.specs.Controller.{target_of, no_target, code_version}
use Rattle.semantics.specs.WellFormed.{All}
use Rattle.semantics.specs.SlotRules.{Kinds, whole_kind, IsBound, MayRead, MayBind, KeepsRules}
use Rattle.semantics.proofs.ListLaws.{all_get_d}
use Rattle.parsing.specs.Bytes.{Bytes, pair_bytes}
use Rattle.parsing.specs.RowLaws as row
use Rattle.parsing.specs.RowLaws.{Row, more, row_bytes, append, row_list, row_joined, pair_row, value_row}
use Rattle.target_tags.specs.Tag.{slots_in}
use Rattle.target_tags.specs.TagLaws.{slots_bound}
use Rattle.target_file.specs.Writing.{slot_bytes, size, expr_bytes, target_bytes, writing, FieldsFit, TargetInRange, InRange}
use Rattle.target_file.specs.Accepted.{HasFile}
use Rattle.target_file.proofs.CodeLaws.{code_size, KeepsBody}
use Rattle.target_file.proofs.ReadsBackLaws.{joined_length}

-- An expression behind its length, and what follows.
sized_row : (e : Expr) {t : List ℕ} → size e < 65536 → Row (expr_bytes e) → Row t → Row (pair_bytes (size e) ++ (expr_bytes e ++ t))
sized_row e n a b = append (pair_row (size e) n) (append a b)

-- The slot of a number, read or bound.
read_row : {m : ℕ} (ks : Kinds) (y : Option Slot) → m ≤ 37 → MayRead m ks y → Row (slot_bytes y)
read_row ks none few w = row.none
read_row ks (some y) few w = more y (omega (arith, few, w.0)) row.none

bind_row : {m : ℕ} (q : Option Slot) → m ≤ 37 → MayBind m q → Row (slot_bytes q)
bind_row none few w = row.none
bind_row (some q) few w = more q (omega (arith, few, w)) row.none

module _ (Q : Code) (r : InRange Q) where
  -- The slots of the code's version.
  abbrev m : ℕ
  m = slots_in (code_version Q)

  few : m ≤ 37
  few = (slots_bound (code_version Q)).1

  params_bound_lem : (g : ℕ) → g < length Q → (target_of Q g).params ≤ 32
  params_bound_lem g h = (all_get_d (TargetInRange (code_version Q)) Q g no_target r.targets h).params

  expr_row : (ks : Kinds) (e : Expr) → KeepsRules Q m ks e → FieldsFit (code_version Q) e → size e < 65536 → Row (expr_bytes e)
  expr_row ks (let_constant x i e) w f n =
      more 1 (omega arith) (more x (omega (arith, w.0, few)) (append (value_row i f.0) (expr_row _ e w.1 f.1 (omega (arith, n)))))
  expr_row ks (let_slot x y e) w f n =
      more 2 (omega arith) (more x (omega (arith, w.0, few)) (more y (omega (arith, w.1.0, few)) (expr_row _ e w.2 f (omega (arith, n)))))
  expr_row ks (let_difference x y z e) w f n =
      more 3 (omega arith)
      (more x (omega (arith, w.0, few)) (more y (omega (arith, w.1.0, few)) (more z (omega (arith, w.2.0, few)) (expr_row _ e w.3 f (omega (arith, n))))))
  expr_row ks (jump g k h ss) w f n =
      more 4 (omega arith)
      (append (pair_row g (omega (arith, w.0, r.most)))
      (more k (omega (arith, w.1.0, few))
      (more h (omega (arith, w.2.0, few))
      (more (length ss) (omega (arith, w.3, params_bound_lem g w.0))
      (row_list (All (IsBound m ks whole_kind)) (λ y ys b. (omega (arith, b.0.0, few), b.1)) ss w.4)))))
  expr_row ks (resume k y) w f n = more 5 (omega arith) (more k (omega (arith, w.0.0, few)) (more y (omega (arith, w.1.0, few)) row.none))
  expr_row ks (handle h y) w f n = more 6 (omega arith) (more h (omega (arith, w.0.0, few)) (append (read_row ks y few w.1) row.none))
  expr_row ks (if_at_most y z e₁ e₂) w f n =
      let i : size e₁ < 65536 = omega (arith, n) in
      more 7 (omega arith)
      (more y (omega (arith, w.0.0, few))
      (more z (omega (arith, w.1.0, few)) (sized_row e₁ i (expr_row _ e₁ w.2 f.0 i) (expr_row _ e₂ w.3 f.1 (omega (arith, n))))))
  expr_row ks (let_continuation x p e k) w f n =
      let i : size e < 65536 = omega (arith, n) in
      more 8 (omega arith)
      (more x (omega (arith, w.0, few))
      (more p (omega (arith, w.1, few)) (sized_row e i (expr_row _ e w.2 f.0 i) (expr_row _ k w.3 f.1 (omega (arith, n))))))
  expr_row ks (let_continuation_with_handler x p t q e h k) w f n =
      let i : size e < 65536 = omega (arith, n) in
      let o : size h < 65536 = omega (arith, n) in
      more 9 (omega arith)
      (more x (omega (arith, w.0, few))
      (more p (omega (arith, w.1, few))
      (more t (omega (arith, w.2, few))
      (append (bind_row q few w.4)
      (sized_row e i (expr_row _ e w.5 f.1.0 i) (sized_row h o (expr_row _ h w.6 f.1.1.0 o) (expr_row _ k w.7 f.1.1.1 (omega (arith, n)))))))))
  expr_row ks (let_difference_or_raise x y z c e) w f n =
      let i : size c < 65536 = omega (arith, n) in
      more 10 (omega arith)
      (more x (omega (arith, w.0, few))
      (more y (omega (arith, w.1.0, few))
      (more z (omega (arith, w.2.0, few)) (sized_row c i (expr_row _ c w.3 f.0 i) (expr_row _ e w.4 f.1 (omega (arith, n)))))))

  target_row : (D : Target) → TargetInRange (code_version Q) D → KeepsBody (code_version Q) Q D → size D.body < 65536 → Row (target_bytes D)
  target_row D d w n =
      more D.params (omega (arith, d.params)) (append (pair_row (size D.body) n) (expr_row _ D.body w d.fields n))

written_row : (Q : Code) → HasFile Q → Row (writing Q)
unfolding writing
written_row Q h =
    let r = h.in_range in
    more 83 (omega arith) (more 80 (omega arith) (more 67 (omega arith) (more (code_version Q) (omega (arith, r.version.1)) (more 0 (omega arith)
    (append (pair_row (length Q) (omega (arith, r.most)))
    (row_joined target_bytes (λ Ds. All (TargetInRange (code_version Q)) Ds × All (KeepsBody (code_version Q) Q) Ds × (code_size Ds < 65536))
    (λ D Ds g. (target_row Q r D g.0.0 g.1.0 (omega (arith, g.2)), (g.0.1, g.1.1, omega (arith, g.2)))) Q
    (r.targets, h.rules, omega (arith, h.fits, joined_length Q))))))))

pub writing_bytes : (Q : Code) → HasFile Q → Bytes (writing Q)
writing_bytes Q h = row_bytes (written_row Q h)
