-- Laws about lists, reading by index and `put`.
use Rattle.std.specs.Prelude.{ℕ, zero, suc, ◌+◌, ◌<◌, ◌≡◌, refl, ◌≢◌, List, [], ◌∷◌, ◌++◌, map, length, get_or, set}
use Rattle.std.proofs.Common.{zero-add, suc-add, not-suc-le-zero, le_of_suc-le-suc, arith, ap, ◌∙◌, subst, map-id}
use Rattle.std.proofs.Math.Path.{fun_ext}
use Rattle.std.proofs.Math.Option
use Rattle.std.proofs.Math.Option.{some}
use Rattle.std.proofs.Math.ListN.{get_elem?}
use Rattle.semantics.specs.Controller.{put}
use Rattle.semantics.specs.WellFormed.{All}

module _ {A : Type 0} where
  pub at_get_d : (xs : List A) (i : ℕ) (d : A) → i < length xs → get_elem? xs i ≡ some (get_or xs i d)
  at_get_d [] i d h = absurd (not-suc-le-zero h)
  at_get_d (x ∷ xs) zero d h = refl
  at_get_d (x ∷ xs) (suc i) d h = at_get_d xs i d (le_of_suc-le-suc h)

  pub at_below : (xs : List A) (i : ℕ) (a : A) → get_elem? xs i ≡ some a → i < length xs
  at_below [] i a e = let z : ◌≡◌ {A = ℕ} 0 1 = cc in absurd (omega arith)
  at_below (x ∷ xs) zero a e = omega arith
  at_below (x ∷ xs) (suc i) a e = let h : i < length xs = at_below xs i a e in omega arith

  pub get_d_at : (xs : List A) (i : ℕ) (a d : A) → get_elem? xs i ≡ some a → get_or xs i d ≡ a
  get_d_at [] i a d e = let z : ◌≡◌ {A = ℕ} 0 1 = cc in absurd (omega arith)
  get_d_at (x ∷ xs) zero a d e = cc
  get_d_at (x ∷ xs) (suc i) a d e = get_d_at xs i a d e

  pub at_append_left : (xs ys : List A) (i : ℕ) → i < length xs → get_elem? (xs ++ ys) i ≡ get_elem? xs i
  at_append_left [] ys i h = absurd (not-suc-le-zero h)
  at_append_left (x ∷ xs) ys zero h = refl
  at_append_left (x ∷ xs) ys (suc i) h = at_append_left xs ys i (le_of_suc-le-suc h)

  pub at_append_right : (xs ys : List A) (i : ℕ) → get_elem? (xs ++ ys) (length xs + i) ≡ get_elem? ys i
  at_append_right [] ys i = rw zero-add
  at_append_right (x ∷ xs) ys i = rw suc-add (at_append_right xs ys i)

  pub all_get_d : (Q : A → Type 0) (xs : List A) (i : ℕ) (d : A) → All Q xs → i < length xs → Q (get_or xs i d)
  all_get_d Q [] i d a h = absurd (not-suc-le-zero h)
  all_get_d Q (x ∷ xs) zero d a h = a.0
  all_get_d Q (x ∷ xs) (suc i) d a h = all_get_d Q xs i d a.1 (le_of_suc-le-suc h)

  pub all_look : (Q : A → Type 0) (xs : List A) (i : ℕ) (d : A) → All Q xs → Q d → Q (get_or xs i d)
  all_look Q [] i d a h = h
  all_look Q (x ∷ xs) zero d a h = a.0
  all_look Q (x ∷ xs) (suc i) d a h = all_look Q xs i d a.1 h

  pub all_put : (Q : A → Type 0) (d : A) (xs : List A) (i : ℕ) (x : A) → All Q xs → Q d → Q x → All Q (put d xs i x)
  all_put Q d [] zero x a h k = (k, tt)
  all_put Q d [] (suc i) x a h k = (h, all_put Q d [] i x tt h k)
  all_put Q d (y ∷ xs) zero x a h k = (k, a.1)
  all_put Q d (y ∷ xs) (suc i) x a h k = (a.0, all_put Q d xs i x a.1 h k)

  pub all_at : (Q : A → Type 0) (xs : List A) (i : ℕ) (x : A) → All Q xs → get_elem? xs i ≡ some x → Q x
  all_at Q xs i x a e = subst Q (get_d_at xs i x x e) (all_get_d Q xs i x a (at_below xs i x e))

  pub all_every : (Q : A → Type 0) → ((a : A) → Q a) → (xs : List A) → All Q xs
  all_every Q h [] = tt
  all_every Q h (x ∷ xs) = (h x, all_every Q h xs)

  pub all_append : (Q : A → Type 0) (xs ys : List A) → All Q xs → All Q ys → All Q (xs ++ ys)
  all_append Q [] ys a b = b
  all_append Q (x ∷ xs) ys a b = (a.0, all_append Q xs ys a.1 b)

  pub all_mapped : {B : Type 0} (Q : B → Type 0) (R : A → Type 0) (f : A → B) (xs : List A) → ((x : A) → R x → Q (f x)) → All R xs → All Q (map f xs)
  all_mapped Q R f [] h a = tt
  all_mapped Q R f (x ∷ xs) h a = (h x a.0, all_mapped Q R f xs h a.1)

  -- `put` then read
  pub put_same : (d : A) (xs : List A) (i : ℕ) (a : A) → get_or (put d xs i a) i d ≡ a
  put_same d [] zero a = refl
  put_same d [] (suc i) a = put_same d [] i a
  put_same d (x ∷ xs) zero a = refl
  put_same d (x ∷ xs) (suc i) a = put_same d xs i a

  pub put_other : (d : A) (xs : List A) (i j : ℕ) (a : A) → i ≢ j → get_or (put d xs i a) j d ≡ get_or xs j d
  put_other d [] zero zero a h = absurd (h refl)
  put_other d [] zero (suc j) a h = refl
  put_other d [] (suc i) zero a h = refl
  put_other d [] (suc i) (suc j) a h = put_other d [] i j a (λ e. h (ap suc e))
  put_other d (x ∷ xs) zero zero a h = absurd (h refl)
  put_other d (x ∷ xs) zero (suc j) a h = refl
  put_other d (x ∷ xs) (suc i) zero a h = refl
  put_other d (x ∷ xs) (suc i) (suc j) a h = put_other d xs i j a (λ e. h (ap suc e))

  -- `put` at the end appends
  pub put_end : (d : A) (xs : List A) (a : A) → put d xs (length xs) a ≡ xs ++ (a ∷ [])
  put_end d [] a = refl
  put_end d (x ∷ xs) a = ap (λ (l : List A). x ∷ l) (put_end d xs a)

pub put_map : {A B : Type 0} (f : A → B) (d : B) (xs : List A) (i : ℕ) (a : A) → i < length xs → put d (map f xs) i (f a) ≡ map f (set xs i a)
put_map f d [] i a h = absurd (not-suc-le-zero h)
put_map f d (x ∷ xs) zero a h = refl
put_map {B = B} f d (x ∷ xs) (suc i) a h = ap (λ (l : List B). f x ∷ l) (put_map f d xs i a (le_of_suc-le-suc h))

pub map_append_one : {A B : Type 0} (f : A → B) (xs : List A) (a : A) → map f xs ++ (f a ∷ []) ≡ map f (xs ++ (a ∷ []))
map_append_one f [] a = refl
map_append_one {B = B} f (x ∷ xs) a = ap (λ (l : List B). f x ∷ l) (map_append_one f xs a)

pub get_d_map_below : {A B : Type 0} (f : A → B) (xs : List A) (i : ℕ) (d : A) (e : B) → i < length xs → get_or (map f xs) i e ≡ f (get_or xs i d)
get_d_map_below f [] i d e h = absurd (not-suc-le-zero h)
get_d_map_below f (x ∷ xs) zero d e h = refl
get_d_map_below f (x ∷ xs) (suc i) d e h = get_d_map_below f xs i d e (le_of_suc-le-suc h)

pub at_map_any : {A B : Type 0} (f : A → B) (xs : List A) (i : ℕ) → get_elem? (map f xs) i ≡ Option.map f (get_elem? xs i)
at_map_any f [] i = refl
at_map_any f (x ∷ xs) zero = refl
at_map_any f (x ∷ xs) (suc i) = at_map_any f xs i

pub at_map : {A B : Type 0} (f : A → B) (xs : List A) (i : ℕ) (a : A) → get_elem? xs i ≡ some a → get_elem? (map f xs) i ≡ some (f a)
at_map f xs i a e = at_map_any f xs i ∙ ap (Option.map f) e

pub map_same : {A : Type 0} (f : A → A) → ((a : A) → f a ≡ a) → (xs : List A) → map f xs ≡ xs
map_same {A} f e xs = ap (λ (g : A → A). map g xs) (fun_ext e) ∙ map-id xs
