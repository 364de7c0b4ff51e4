-- The proof of demand 1 for translated files.
use Rattle.std.specs.Prelude.{ℕ, ◌+◌, ◌≤◌, ◌≡◌, refl, length}
use Rattle.std.proofs.Common.{sym, ◌∙◌, arith}
use Rattle.std.proofs.Math.Path.{ap, subst}
use mathlib.Core.List.{List, [], ◌∷◌, ◌++◌, append-nil}
use Rattle.std.proofs.Math.ListN.{drop}
use Rattle.std.proofs.Math.Seq.{drop-length}
use Rattle.semantics.specs.Code.{Code}
use Rattle.semantics.specs.Controller.{code_version}
use Rattle.semantics.specs.SlotRules.{KeepsSlotRules}
use Rattle.semantics.specs.WellFormed.{All}
use Rattle.parsing.specs.Parser.{accepted, joined}
use Rattle.parsing.specs.Fields.{IsVersion, version_of}
use Rattle.parsing.specs.Bytes.{Bytes, pair_bytes}
use Rattle.parsing.specs.BytesLaws.{pair_forth}
use Rattle.parsing.specs.BytesAtLaws.{BytesAt, bytes_at_join}
use Rattle.target_tags.specs.Tag.{slots_in}
use Rattle.target_layout.specs.Layout.{spc}
use Rattle.target_file.specs.Writing.{size, target_bytes, writing, FieldsFit, TargetInRange, InRange}
use Rattle.target_file.specs.Check.{check_of, code_of}
use Rattle.target_file.proofs.CodeLaws.{code_size, CodeAt, Ranged, FileAt, code_version_lem}
use Rattle.target_file.proofs.LoadedCodeLaws.{passed, passes, code_is}
use Rattle.target_file.proofs.WrittenLaws.{bytes_at_pair, expr_bytes_at, code_bytes_at}
use Rattle.target_file.proofs.ReadsBackLaws.{code_stands, joined_length}
use Rattle.target_file.proofs.BytesLaws.{writing_bytes}
use Rattle.target_file.specs.Accepted.{HasFile, Acceptance}

module _ (s : List ℕ) (bytes : Bytes s) where
  targets_in_range : (at : ℕ) (Q : Code) → CodeAt s at Q → All (Ranged (version_of s)) Q → All (TargetInRange (version_of s)) Q
  targets_in_range at [] h g = tt
  targets_in_range at (D ∷ Q) h g = (
    record {
      version_is = g.0.version_is;
      params = g.0.params;
      fields = (expr_bytes_at s bytes (at + 3) D.body h.2).1;
      levels = g.0.levels;
    },
    targets_in_range (at + 3 + size D.body) Q h.3 g.1,
  )

  file_written : (Q : Code) → FileAt s Q → s ≡ writing Q
  unfolding writing
  file_written Q f =
      let w = f.whole in
      let c : BytesAt s 5 7 (pair_bytes (length Q)) = subst (λ (n : ℕ). BytesAt s 5 7 (pair_bytes n)) f.counted (bytes_at_pair s bytes 5 (omega arith)) in
      let d = code_bytes_at s bytes 7 Q f.stands in
      let x = bytes_at_join s f.head (bytes_at_join s c d) in
      let e : drop (7 + code_size Q) s ≡ [] = ap (λ (n : ℕ). drop n s) (sym w) ∙ drop-length s in
      x.stands ∙ ap (λ (r : List ℕ). ((spc ++ version_of s ∷ 0 ∷ []) ++ (pair_bytes (length Q) ++ joined target_bytes Q)) ++ r) e
      ∙ ap (λ (v : ℕ). ((spc ++ v ∷ 0 ∷ []) ++ (pair_bytes (length Q) ++ joined target_bytes Q)) ++ []) (sym (code_version_lem s Q f)) ∙ append-nil (writing Q)

pub is_writing_lem : (s : List ℕ) → Bytes s → check_of s ≡ accepted → HasFile (code_of s) × (s ≡ writing (code_of s))
is_writing_lem s bytes e =
    let p = passed s e in
    let w = file_written s bytes (code_of s) p.file in
    let v = sym (code_version_lem s (code_of s) p.file) in (
      record {
        in_range =
            record {
              version = subst IsVersion v p.file.version;
              some = p.file.least;
              most = p.file.most;
              targets = subst (λ (n : ℕ). All (TargetInRange n) (code_of s)) v (targets_in_range s bytes 7 (code_of s) p.file.stands p.file.ranged);
            };
        rules = subst (λ (n : ℕ). KeepsSlotRules (slots_in n) (code_of s)) v p.rules;
        fits = subst (λ (l : List ℕ). length l ≤ 65535) w p.file_bound;
      },
      w,
    )

all_ranged : (version : ℕ) (Q : Code) → All (TargetInRange version) Q → All (Ranged version) Q
all_ranged version [] g = tt
all_ranged version (D ∷ Q) g = (record { version_is = g.0.version_is; params = g.0.params; levels = g.0.levels }, all_ranged version Q g.1)

all_fields : (version : ℕ) (Q : Code) → All (TargetInRange version) Q → All (λ D. FieldsFit version D.body) Q
all_fields version [] g = tt
all_fields version (D ∷ Q) g = (g.0.fields, all_fields version Q g.1)

pub written_stands : (Q : Code) → InRange Q → FileAt (writing Q) Q
unfolding writing
written_stands Q r =
    let j = joined target_bytes Q in
    let s = writing Q in
    let h : drop 7 s ≡ j ++ [] = sym (append-nil j) in
    record {
      head = record { stands = refl; past = refl };
      version = r.version;
      counted = pair_forth (length Q);
      least = r.some;
      most = r.most;
      stands = code_stands s 7 Q [] (all_fields (code_version Q) Q r.targets) h;
      ranged = all_ranged (code_version Q) Q r.targets;
      whole = omega (arith, joined_length Q);
    }

pub is_accepted_lem : (Q : Code) → HasFile Q → (check_of (writing Q) ≡ accepted) × (code_of (writing Q) ≡ Q)
unfolding writing
is_accepted_lem Q h =
    let f = written_stands Q h.in_range in
    (passes (writing Q) Q (record { file_bound = h.fits; file = f; rules = h.rules }), code_is (writing Q) Q f)

pub acceptance : Acceptance
acceptance =
    record {
      exactly = λ s bytes. (
        (λ e. (code_of s, (is_writing_lem s bytes e).0, (is_writing_lem s bytes e).1)),
        (λ w. ap check_of w.2 ∙ (is_accepted_lem w.0 w.1).0),
      );
      is_writing = is_writing_lem;
      is_accepted = is_accepted_lem;
      is_bytes = writing_bytes;
      is_unique = λ Q R q r e. sym (is_accepted_lem Q q).1 ∙ ap code_of e ∙ (is_accepted_lem R r).1;
    }
