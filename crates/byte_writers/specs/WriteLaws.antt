-- Writes, one behind the other.
use Rattle.std.specs.Prelude.{ℕ, ◌+◌, ◌≤◌, ◌≡◌, refl, List, [], ◌++◌, length, take, drop}
use Rattle.std.proofs.Common.{arith, sym, ap, ◌∙◌, subst, append-nil, length-append}
use Rattle.memory.specs.Lay.{lay}
use Rattle.memory.specs.LayLaws.{length_lay, lay_lay, lay_nil, length_part, lay_part}
use Rattle.byte_writers.specs.Writes.{Room, Wrote}

-- Room for less.
pub room_less : {o n m : ℕ} {d : List ℕ} → Room o m d → n ≤ m → Room o n d
room_less R h = record { fits = omega (arith, R.fits); small = omega (arith, R.small) }

pub room_as : {o n m : ℕ} {d : List ℕ} → n ≡ m → Room o m d → Room o n d
room_as e R = room_less R (omega arith)

pub wrote_length : {o n : ℕ} {w d : List ℕ} {r : ℕ} {d' : List ℕ} → Room o n d → Wrote o w d r d' → length w ≤ n → length d' ≡ length d
wrote_length {o} {w = w} {d} R W h = ap length W.laid ∙ length_lay o w d (omega (arith, R.fits))

-- Room behind what was written.
pub room_behind : (n : ℕ) {o m r : ℕ} {w d d' : List ℕ} → Room o m d → Wrote o w d r d' → length w + n ≤ m → Room r n d'
room_behind n R W h =
    let l = wrote_length R W (omega arith) in
    record { fits = omega (arith, R.fits, W.next, l); small = omega (arith, R.small, W.next) }

pub room_behind_two : (n : ℕ) {o m a b : ℕ} {w w₂ d d₁ d₂ : List ℕ} → Room o m d → Wrote o w d a d₁ → Wrote a w₂ d₁ b d₂ → length w + (length w₂ + n) ≤ m → Room b n d₂
room_behind_two n {w₂ = w₂} R W X h = room_behind n (room_behind (length w₂ + n) R W h) X (omega arith)

-- Nothing.
pub wrote_none : {o : ℕ} {d : List ℕ} → Wrote o [] d o d
wrote_none {o} {d} = record { next = omega arith; laid = sym (lay_nil o d) }

-- Two parts.
pub wrote_after : (a b : List ℕ) {o m r r₂ : ℕ} {d d₁ d₂ : List ℕ} → Room o m d → length a ≤ m → Wrote o a d r d₁ → Wrote r b d₁ r₂ d₂ → Wrote o (a ++ b) d r₂ d₂
wrote_after a b {o} {r = r} {r₂} {d} {d₁} R h W X =
    let e : length (a ++ b) ≡ length a + length b = length-append a b in
    let n : r ≡ o + length a = W.next in
    let m : r₂ ≡ r + length b = X.next in
    record {
      next = omega arith;
      laid = X.laid ∙ (ap (λ (k : ℕ). lay k b d₁) n ∙ (ap (λ (x : List ℕ). lay (o + length a) b x) W.laid ∙ lay_lay o a b d (omega (arith, R.fits))));
    }

pub room_front : (a b : List ℕ) {o : ℕ} {d : List ℕ} → Room o (length (a ++ b)) d → Room o (length a) d
room_front a b R = room_less R (omega (arith, length-append a b))

-- In a loop: the rest w, written from o on, makes what the whole makes from the start.
pub record Rest (o₀ : ℕ) (w₀ d₀ : List ℕ) (o : ℕ) (w d : List ℕ) : Type 0 where
  pub room : Room o₀ (length w₀) d₀
  pub total : o + length w ≡ o₀ + length w₀
  pub same : lay o w d ≡ lay o₀ w₀ d₀
  pub same_length : length d ≡ length d₀

pub rest_none : {o : ℕ} {w d : List ℕ} → Room o (length w) d → Rest o w d o w d
rest_none R = record { room = R; total = refl; same = refl; same_length = refl }

pub rest_from_lem : {o : ℕ} {w x d : List ℕ} → Room o (length w) d → w ≡ x → Rest o w d o x d
rest_from_lem {o} {w} {x} {d} R e = subst (λ (y : List ℕ). Rest o w d o y d) e (rest_none R)

module _ {o₀ : ℕ} {w₀ d₀ : List ℕ} {o : ℕ} {w d : List ℕ} (K : Rest o₀ w₀ d₀ o w d) where
  pub rest_room : Room o (length w) d
  rest_room =
      let f : o₀ + length w₀ ≤ length d₀ = K.room.fits in
      let m : o₀ + length w₀ ≤ 65535 = K.room.small in
      let t : o + length w ≡ o₀ + length w₀ = K.total in
      let l : length d ≡ length d₀ = K.same_length in
      record { fits = omega arith; small = omega arith }

  pub rest_as : (x : List ℕ) → w ≡ x → Room o (length x) d
  rest_as x e = subst (λ (y : List ℕ). Room o (length y) d) e rest_room

  pub rest_more : (a b : List ℕ) → w ≡ a ++ b → {r : ℕ} {d' : List ℕ} → Wrote o a d r d' → Rest o₀ w₀ d₀ r b d'
  rest_more a b e {r} {d'} W =
      let R : Room o (length (a ++ b)) d = rest_as (a ++ b) e in
      let q : length (a ++ b) ≡ length a + length b = length-append a b in
      let p : length w ≡ length (a ++ b) = ap length e in
      let n : r ≡ o + length a = W.next in
      let t : o + length w ≡ o₀ + length w₀ = K.total in
      record {
        room = K.room;
        total = omega arith;
        same =
            ap (λ (k : ℕ). lay k b d') n
            ∙ (ap (λ (x : List ℕ). lay (o + length a) b x) W.laid
            ∙ (lay_lay o a b d (room_front a b R).fits ∙ (ap (λ (x : List ℕ). lay o x d) (sym e) ∙ K.same)));
        same_length = wrote_length (room_front a b R) W (omega arith) ∙ K.same_length;
      }

  pub rest_done : w ≡ [] → Wrote o₀ w₀ d₀ o d
  rest_done e =
      let t : o + length w ≡ o₀ + length w₀ = K.total in
      let p : length w ≡ 0 = ap length e in
      record { next = omega arith; laid = sym (lay_nil o d) ∙ (ap (λ (x : List ℕ). lay o x d) (sym e) ∙ K.same) }

-- The front of the rest.
pub rest_front : (a b : List ℕ) {o₀ o : ℕ} {w₀ d₀ d : List ℕ} → Rest o₀ w₀ d₀ o (a ++ b) d → Room o (length a) d
rest_front a b K = room_front a b (rest_room K)

-- The rest, written whole.
pub rest_last : {o₀ : ℕ} {w₀ d₀ : List ℕ} {o : ℕ} {w d : List ℕ} → Rest o₀ w₀ d₀ o w d → {r : ℕ} {d' : List ℕ} → Wrote o w d r d' → Wrote o₀ w₀ d₀ r d'
rest_last {w = w} K W = rest_done (rest_more K w [] (sym (append-nil w)) W) refl

-- A part copied, as it stands in the output.
pub wrote_part : (o n k : ℕ) (w x d : List ℕ) → Room o n d → k ≡ n → w ≡ x → length w ≡ length (take k (drop o d)) → Wrote o x d (o + n) (take o d ++ (w ++ drop k (drop o d)))
wrote_part o n k w x d R e p h =
    let f : o + n ≤ length d = R.fits in
    let l : length w ≡ k = h ∙ length_part o k d (omega arith) in
    record { next = omega (arith, ap length p); laid = lay_part o k w d (omega arith) h ∙ ap (λ (y : List ℕ). lay o y d) p }
