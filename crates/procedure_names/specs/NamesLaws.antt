-- Every name is right exactly where the program is well-formed (figure 3).
use Rattle.std.specs.Prelude.{ℕ, ◌+◌, ◌<◌, ◌≡◌, refl, Bool, true, false, cond, List, [], ◌∷◌, ◌++◌, leb, length, get_or}
use Rattle.std.proofs.Common.{sym, ◌∙◌, arith, leb-true, le-leb, ltb-true, lt-ltb, eqb-true, eq-eqb}
use Rattle.std.proofs.Math.Option.{Option, none, some}
use Rattle.std.proofs.lemmas.List.{length-map}
use Rattle.std.proofs.Math.ListN.{get_or-map}
use Rattle.parsing.specs.ParserLaws.{impossible}
use Rattle.parsing.specs.Parser.{Verdict, accepted, refused, or_else}
use Rattle.semantics.specs.Program.{Variable, Block, constant, copy, difference, call, goto, return, branch, raise, Labelled, Function, Program, variables, no_function, function_of}
use Rattle.semantics.specs.WellFormed.{All, IsLabel, MayName, WellFormedBlock, WellFormedLabelled, WellFormedFunction, WellFormed}
use Rattle.procedure_layout.specs.Layout.{bytes_before}
use Rattle.procedure_names.specs.Writing.{block_bytes, labelled_bytes, function_bytes}
use Rattle.procedure_names.specs.Names.{Name, variable, label, handler, receiver, function, arity, arguments, block_names, labelled_names, functions_names, arities, names_of, first_wrong}

pub first_append : (xs ys : List Name) → first_wrong (xs ++ ys) ≡ or_else (first_wrong xs) (first_wrong ys)
first_append [] ys = refl
first_append (x ∷ xs) ys = go x.right (first_append xs ys)
  where
    go : (t : Bool) → first_wrong (xs ++ ys) ≡ or_else (first_wrong xs) (first_wrong ys)
        → cond t (first_wrong (xs ++ ys)) (refused x.reason x.place) ≡ or_else (cond t (first_wrong xs) (refused x.reason x.place)) (first_wrong ys)
    go true e = e
    go false e = refl

both_right : (u v : Verdict) → or_else u v ≡ accepted → (u ≡ accepted) × (v ≡ accepted)
both_right accepted v e = (refl, e)
both_right (refused n p) v e = impossible (cc)

module _ (x : Name) (xs : List Name) where
  pub one_right : first_wrong (x ∷ xs) ≡ accepted → (x.right ≡ true) × (first_wrong xs ≡ accepted)
  one_right e = go x.right refl e
    where
      go : (t : Bool) → x.right ≡ t → cond t (first_wrong xs) (refused x.reason x.place) ≡ accepted → (x.right ≡ true) × (first_wrong xs ≡ accepted)
      go true r w = (r, w)
      go false r w = impossible (cc)

  pub cons_right : x.right ≡ true → first_wrong xs ≡ accepted → first_wrong (x ∷ xs) ≡ accepted
  cons_right r e = rw (r, e)

module _ (xs ys : List Name) where
  pub append_split : first_wrong (xs ++ ys) ≡ accepted → (first_wrong xs ≡ accepted) × (first_wrong ys ≡ accepted)
  append_split e = both_right (first_wrong xs) (first_wrong ys) (sym (first_append xs ys) ∙ e)

  pub append_right : first_wrong xs ≡ accepted → first_wrong ys ≡ accepted → first_wrong (xs ++ ys) ≡ accepted
  append_right a b = first_append xs ys ∙ rw (a, b)

-- A label is right where it is one.
label_right : (n l : ℕ) → IsLabel n l → cond (leb 1 l) (leb l n) false ≡ true
label_right n l h = rw (le-leb 1 l h.0, le-leb l n h.1)

label_is : (n l : ℕ) → cond (leb 1 l) (leb l n) false ≡ true → IsLabel n l
label_is n l e = go (leb 1 l) (leb l n) refl refl e
  where
    go : (t u : Bool) → leb 1 l ≡ t → leb l n ≡ u → cond t u false ≡ true → IsLabel n l
    go true true a b w = (leb-true 1 l a, leb-true l n b)
    go true false a b w = impossible (cc)
    go false u a b w = impossible (cc)

-- A receiver is right where it may be named.
receiver_right : (v place : ℕ) (r : Option Variable) → MayName v r → (receiver v place r).right ≡ true
receiver_right v place none h = refl
receiver_right v place (some x) h = lt-ltb x v h

receiver_formed : (v place : ℕ) (r : Option Variable) → (receiver v place r).right ≡ true → MayName v r
receiver_formed v place none e = tt
receiver_formed v place (some x) e = ltb-true x v e

module _ (v : ℕ) where
  arguments_right : (ys : List ℕ) (place : ℕ) → All (λ y. y < v) ys → first_wrong (arguments v place ys) ≡ accepted
  arguments_right [] place h = refl
  arguments_right (y ∷ ys) place h =
      cons_right (variable v place y) (arguments v (place + 1) ys) (lt-ltb y v h.0) (arguments_right ys (place + 1) h.1)

  arguments_are : (ys : List ℕ) (place : ℕ) → first_wrong (arguments v place ys) ≡ accepted → All (λ y. y < v) ys
  arguments_are [] place e = tt
  arguments_are (y ∷ ys) place e =
      let r = one_right (variable v place y) (arguments v (place + 1) ys) e in
      (ltb-true y v r.0, arguments_are ys (place + 1) r.1)

module _ (P : Program) where
  arities_long : length (arities P) ≡ length P
  arities_long = length-map P (λ F. F.params)

  pub arity_of : (g : ℕ) → get_or (arities P) g 0 ≡ (function_of P g).params
  arity_of g = get_or-map (λ F. F.params) P g no_function

  module _ (v n : ℕ) where
    abbrev names : ℕ → Block → List Name
    names at b = block_names (arities P) v n at b

    pub block_right : (b : Block) (at : ℕ) → WellFormedBlock P v n b → first_wrong (block_names (arities P) v n at b) ≡ accepted
    block_right (constant x i b) at h =
        cons_right (variable v (at + 1) x) (names (at + 6) b) (lt-ltb x v h.0) (block_right b (at + 6) h.1)
    block_right (copy x y b) at h =
        cons_right (variable v (at + 1) x) (variable v (at + 2) y ∷ names (at + 3) b) (lt-ltb x v h.0)
        (cons_right (variable v (at + 2) y) (names (at + 3) b) (lt-ltb y v h.1) (block_right b (at + 3) h.2))
    block_right (difference x y z b) at h =
        cons_right (variable v (at + 1) x) (variable v (at + 2) y ∷ variable v (at + 3) z ∷ names (at + 4) b) (lt-ltb x v h.0)
        (cons_right (variable v (at + 2) y) (variable v (at + 3) z ∷ names (at + 4) b) (lt-ltb y v h.1)
        (cons_right (variable v (at + 3) z) (names (at + 4) b) (lt-ltb z v h.2) (block_right b (at + 4) h.3)))
    block_right (call x g ys b) at h =
        let l = arguments v (at + 4) ys ++ names (at + 4 + length ys) b in
        cons_right (variable v (at + 1) x) (function (arities P) (at + 2) g ∷ arity (arities P) (at + 3) g (length ys) ∷ l) (lt-ltb x v h.0)
        (cons_right (function (arities P) (at + 2) g) (arity (arities P) (at + 3) g (length ys) ∷ l)
        (lt-ltb g (length (arities P)) (omega (arith, h.1, arities_long)))
        (cons_right (arity (arities P) (at + 3) g (length ys)) l (eq-eqb (length ys) (get_or (arities P) g 0) (h.2 ∙ sym (arity_of g)))
        (append_right (arguments v (at + 4) ys) (names (at + 4 + length ys) b) (arguments_right v ys (at + 4) h.3) (block_right b (at + 4 + length ys) h.4))))
    block_right (goto l) at h = cons_right (label n (at + 1) l) [] (label_right n l h) refl
    block_right (return x) at h = cons_right (variable v (at + 1) x) [] (lt-ltb x v h) refl
    block_right (branch y z l m) at h =
        cons_right (variable v (at + 1) y) (variable v (at + 2) z ∷ label n (at + 3) l ∷ label n (at + 4) m ∷ []) (lt-ltb y v h.0)
        (cons_right (variable v (at + 2) z) (label n (at + 3) l ∷ label n (at + 4) m ∷ []) (lt-ltb z v h.1)
        (cons_right (label n (at + 3) l) (label n (at + 4) m ∷ []) (label_right n l h.2)
        (cons_right (label n (at + 4) m) [] (label_right n m h.3) refl)))
    block_right (raise none) at h = refl
    block_right (raise (some x)) at h = cons_right (variable v (at + 1) x) [] (lt-ltb x v h) refl

    pub block_formed : (b : Block) (at : ℕ) → first_wrong (block_names (arities P) v n at b) ≡ accepted → WellFormedBlock P v n b
    block_formed (constant x i b) at e =
        let r = one_right (variable v (at + 1) x) (names (at + 6) b) e in
        (ltb-true x v r.0, block_formed b (at + 6) r.1)
    block_formed (copy x y b) at e =
        let r = one_right (variable v (at + 1) x) (variable v (at + 2) y ∷ names (at + 3) b) e in
        let q = one_right (variable v (at + 2) y) (names (at + 3) b) r.1 in
        (ltb-true x v r.0, ltb-true y v q.0, block_formed b (at + 3) q.1)
    block_formed (difference x y z b) at e =
        let r = one_right (variable v (at + 1) x) (variable v (at + 2) y ∷ variable v (at + 3) z ∷ names (at + 4) b) e in
        let q = one_right (variable v (at + 2) y) (variable v (at + 3) z ∷ names (at + 4) b) r.1 in
        let p = one_right (variable v (at + 3) z) (names (at + 4) b) q.1 in
        (ltb-true x v r.0, ltb-true y v q.0, ltb-true z v p.0, block_formed b (at + 4) p.1)
    block_formed (call x g ys b) at e =
        let l = arguments v (at + 4) ys ++ names (at + 4 + length ys) b in
        let r = one_right (variable v (at + 1) x) (function (arities P) (at + 2) g ∷ arity (arities P) (at + 3) g (length ys) ∷ l) e in
        let q = one_right (function (arities P) (at + 2) g) (arity (arities P) (at + 3) g (length ys) ∷ l) r.1 in
        let p = one_right (arity (arities P) (at + 3) g (length ys)) l q.1 in
        let o = append_split (arguments v (at + 4) ys) (names (at + 4 + length ys) b) p.1 in (
          ltb-true x v r.0,
          omega (arith, ltb-true g (length (arities P)) q.0, arities_long),
          eqb-true (length ys) (get_or (arities P) g 0) p.0 ∙ arity_of g,
          arguments_are v ys (at + 4) o.0,
          block_formed b (at + 4 + length ys) o.1,
        )
    block_formed (goto l) at e = label_is n l (one_right (label n (at + 1) l) [] e).0
    block_formed (return x) at e = ltb-true x v (one_right (variable v (at + 1) x) [] e).0
    block_formed (branch y z l m) at e =
        let r = one_right (variable v (at + 1) y) (variable v (at + 2) z ∷ label n (at + 3) l ∷ label n (at + 4) m ∷ []) e in
        let q = one_right (variable v (at + 2) z) (label n (at + 3) l ∷ label n (at + 4) m ∷ []) r.1 in
        let p = one_right (label n (at + 3) l) (label n (at + 4) m ∷ []) q.1 in
        let o = one_right (label n (at + 4) m) [] p.1 in
        (ltb-true y v r.0, ltb-true z v q.0, label_is n l p.0, label_is n m o.0)
    block_formed (raise none) at e = tt
    block_formed (raise (some x)) at e = ltb-true x v (one_right (variable v (at + 1) x) [] e).0

    module _ (version : ℕ) where
      labels_right : (Bs : List Labelled) (at : ℕ) → All (WellFormedLabelled P v n) Bs → first_wrong (labelled_names version (arities P) v n at Bs) ≡ accepted
      labels_right [] at h = refl
      labels_right (B ∷ more) at h =
          let k = at + bytes_before version in
          let l = labelled_names version (arities P) v n (at + length (labelled_bytes version B)) more in
          cons_right (handler n at B.handler) (receiver v (at + 1) B.receiver ∷ (names k B.block ++ l)) (le-leb B.handler n h.0.handler)
          (cons_right (receiver v (at + 1) B.receiver) (names k B.block ++ l) (receiver_right v (at + 1) B.receiver h.0.receiver)
          (append_right (names k B.block) l (block_right B.block k h.0.block) (labels_right more (at + length (labelled_bytes version B)) h.1)))

      labels_formed : (Bs : List Labelled) (at : ℕ) → first_wrong (labelled_names version (arities P) v n at Bs) ≡ accepted → All (WellFormedLabelled P v n) Bs
      labels_formed [] at e = tt
      labels_formed (B ∷ more) at e =
          let k = at + bytes_before version in
          let l = labelled_names version (arities P) v n (at + length (labelled_bytes version B)) more in
          let r = one_right (handler n at B.handler) (receiver v (at + 1) B.receiver ∷ (names k B.block ++ l)) e in
          let p = one_right (receiver v (at + 1) B.receiver) (names k B.block ++ l) r.1 in
          let q = append_split (names k B.block) l p.1 in (
            record {
              handler = leb-true B.handler n r.0;
              receiver = receiver_formed v (at + 1) B.receiver p.0;
              block = block_formed B.block k q.0;
            },
            labels_formed more (at + length (labelled_bytes version B)) q.1,
          )

  functions_right : (Fs : List Function) (at : ℕ) → All (WellFormedFunction P) Fs → first_wrong (functions_names (arities P) at Fs) ≡ accepted
  functions_right [] at h = refl
  functions_right (F ∷ more) at h =
      let v = variables F in
      let n = length F.blocks in
      let e = block_names (arities P) v n (at + 3) F.entry in
      let l = labelled_names F.version (arities P) v n (at + 3 + length (block_bytes F.entry)) F.blocks in
      append_right (e ++ l) (functions_names (arities P) (at + length (function_bytes F)) more)
      (append_right e l (block_right v n F.entry (at + 3) h.0.entry) (labels_right v n F.version F.blocks (at + 3 + length (block_bytes F.entry)) h.0.blocks))
      (functions_right more (at + length (function_bytes F)) h.1)

  functions_formed : (Fs : List Function) (at : ℕ) → first_wrong (functions_names (arities P) at Fs) ≡ accepted → All (WellFormedFunction P) Fs
  functions_formed [] at e = tt
  functions_formed (F ∷ more) at e =
      let v = variables F in
      let n = length F.blocks in
      let b = block_names (arities P) v n (at + 3) F.entry in
      let l = labelled_names F.version (arities P) v n (at + 3 + length (block_bytes F.entry)) F.blocks in
      let r = append_split (b ++ l) (functions_names (arities P) (at + length (function_bytes F)) more) e in
      let q = append_split b l r.0 in (
        record { entry = block_formed v n F.entry (at + 3) q.0; blocks = labels_formed v n F.version F.blocks (at + 3 + length (block_bytes F.entry)) q.1 },
        functions_formed more (at + length (function_bytes F)) r.1,
      )

  pub names_right : WellFormed P → first_wrong (names_of P) ≡ accepted
  unfolding names_of
  names_right h = functions_right P 6 h

  pub names_formed : first_wrong (names_of P) ≡ accepted → WellFormed P
  unfolding names_of
  names_formed e = functions_formed P 6 e
