-- The forms with a jump, as they are written.
use Rattle.std.specs.Prelude.{ℕ, ◌+◌, ◌≤◌, ◌<◌, ◌≡◌, List, [], ◌∷◌, ◌++◌, map, get_or, drop}
use Rattle.std.proofs.Common.{arith, sym, ap, ◌∙◌, subst, eq-eqb, ne_eqb, drop_of_length-le}
use Rattle.std.proofs.Math.Path.{refl}
use Rattle.std.proofs.Math.ListN.{length}
use Rattle.std.proofs.lemmas.List.{length-map}
use Rattle.parsing.specs.Bytes.{pair_bytes, value_bytes}
use Rattle.parsing.specs.BytesLaws.{value_back}
use Rattle.parsing.specs.Fields.{value_of}
use Rattle.semantics.specs.Translation.{slot_of}
use Rattle.procedure_operations.specs.Operation.{operation_at, arguments_at}
use Rattle.procedure_operations.specs.Ranges.{NumbersInRange}
use Rattle.procedure_fields.specs.declared.fields.ConstantBytes.{ConstantBytes}
use Rattle.procedure_fields.specs.Number.{count_of}
use Rattle.procedure_fields.specs.NumberLaws.{argument_in_range}
use Rattle.byte_writers.specs.Writes.{Room, Wrote}
use Rattle.translator_bytes.specs.Writes.{CallInFile}
use Rattle.byte_writers.specs.WriteLaws.{room_less, room_as, room_behind, room_behind_two, wrote_after, room_front, Rest, rest_none, rest_as, rest_more, rest_done}
use Rattle.translator_bytes.proofs.ListLaws.{arguments_more}
use Rattle.translator_bytes.specs.Bytes.{if_any, size_if_any, label_jump, call_jump, plain_call, guarded_head, guarded_call, branch_bytes, raise_end, raise_end_size, raise_bytes, raise_size, raise_value_bytes, raise_value_size, difference_bytes, call_bytes, call_size}
use Rattle.translator_bytes.proofs.LengthLaws.{label_size, call_size_lem, head_size}
use Rattle.translator_bytes.specs.declared.jumps.Under.{Under}

-- A jump's length, where the code has computed it.
pub pair_as : {o j n r : ℕ} {d d' : List ℕ} → j ≡ n → Wrote o (pair_bytes j) d r d' → Wrote o (pair_bytes n) d r d'
pair_as {o} {r = r} {d = d} {d' = d'} e W = subst (λ (k : ℕ). Wrote o (pair_bytes k) d r d') e W

-- The loop over a call's arguments, from the i-th on.
pub record Passing (s : List ℕ) (at n o₀ : ℕ) (d₀ : List ℕ) (i o : ℕ) (d : List ℕ) : Type 0 where
  pub ready : CallInFile s at n
  pub rest : Rest o₀ (map slot_of (arguments_at s at n)) d₀ o (map slot_of (drop i (arguments_at s at n))) d

pub passing_none : {s : List ℕ} {at n o : ℕ} {d : List ℕ} → CallInFile s at n → Room o n d → Passing s at n o d 0 o d
passing_none {s} {at} {n} C R = record { ready = C; rest = rest_none (room_as (length-map (arguments_at s at n) slot_of ∙ C.long) R) }

module _ {s : List ℕ} {at n o₀ : ℕ} {d₀ : List ℕ} {i o : ℕ} {d : List ℕ} (K : Passing s at n o₀ d₀ i o d) where
  pub passing_asks : i < n → (i < count_of (operation_at s at)) × NumbersInRange s at (operation_at s at)
  passing_asks h = (subst (λ (k : ℕ). i < k) K.ready.count h, K.ready.numbers)

  -- The argument's number y, and its slot t.
  module _ (h : i < n) {y : ℕ} (ey : y ≡ get_or (arguments_at s at (count_of (operation_at s at))) i 0) where
    pub passing_small : y < 32
    passing_small = subst (λ (k : ℕ). k < 32) (sym ey) (argument_in_range s at (operation_at s at) K.ready.numbers i (passing_asks h).0)

    module _ {t : ℕ} (et : t ≡ y + 2) where
      first : map slot_of (drop i (arguments_at s at n)) ≡ (t ∷ []) ++ map slot_of (drop (i + 1) (arguments_at s at n))
      first =
          let l : length (arguments_at s at n) ≡ n = K.ready.long in
          let e : y ≡ get_or (arguments_at s at n) i 0 = ey ∙ ap (λ (k : ℕ). get_or (arguments_at s at k) i 0) (sym K.ready.count) in
          arguments_more (arguments_at s at n) i t (omega arith) (et ∙ ap (λ (k : ℕ). k + 2) e)

      pub passing_room : Room o 1 d
      passing_room = room_front (t ∷ []) (map slot_of (drop (i + 1) (arguments_at s at n))) (rest_as K.rest _ first)

      pub passing_more : {r : ℕ} {d' : List ℕ} → Wrote o (t ∷ []) d r d' → Passing s at n o₀ d₀ (i + 1) r d'
      passing_more W = record { ready = K.ready; rest = rest_more K.rest (t ∷ []) (map slot_of (drop (i + 1) (arguments_at s at n))) first W }

  pub passing_done : n ≤ i → Wrote o₀ (map slot_of (arguments_at s at n)) d₀ o d
  passing_done h = let l : length (arguments_at s at n) ≡ n = K.ready.long in rest_done K.rest (ap (map slot_of) (drop_of_length-le (arguments_at s at n) {i = i} (omega arith)))

-- A front, a length, and the part that it is the length of, as they are written one behind the other.
part_wrote : (front part : List ℕ) {n o j m a b r : ℕ} {d d₁ d₂ d₃ : List ℕ} → j ≡ n → Room o m d → length front + 2 ≤ m
    → Wrote o front d a d₁ → Wrote a (pair_bytes j) d₁ b d₂ → Wrote b part d₂ r d₃ → Wrote o (front ++ (pair_bytes n ++ part)) d r d₃
part_wrote front part {n} e R h W X Y =
    wrote_after front (pair_bytes n ++ part) R (omega arith) W (wrote_after (pair_bytes n) part (room_behind 2 R W h) (omega arith) (pair_as e X) Y)

-- Forms of several parts. The slot of a variable x is t.
module _ (v x g n : ℕ) (ys : List ℕ) {t o j a b : ℕ} {d d₁ d₂ : List ℕ} (et : t ≡ x + 2) (e : j ≡ 6 + n) where
  pub plain_wrote : Room o (5 + (6 + n)) d → Wrote o (8 ∷ (v + 2) ∷ t ∷ []) d a d₁ → Wrote a (pair_bytes j) d₁ b d₂ → {r : ℕ} {d₃ : List ℕ}
      → Wrote b (call_jump g (v + 2) 1 n ys) d₂ r d₃ → Wrote o (plain_call v x g n ys) d r d₃
  unfolding plain_call
  plain_wrote R W X Y = rw (← et) (part_wrote (8 ∷ (v + 2) ∷ t ∷ []) (call_jump g (v + 2) 1 n ys) e R (omega arith) W X Y)

-- The room behind the slots of tag 9, and behind each part that follows: a length, a jump, a length.
pub guarded_pair_room : (q n v : ℕ) {o a : ℕ} {head d d₁ : List ℕ} → Room o (8 + size_if_any q 1 + ((6 + n) + (6 + v))) d → length head ≡ 4 + size_if_any q 1 → Wrote o head d a d₁ → Room a 2 d₁
guarded_pair_room q n v R slots W = room_behind 2 R W (omega arith)

module _ (q n v : ℕ) {o a b : ℕ} {head pair d d₁ d₂ : List ℕ} (R : Room o (8 + size_if_any q 1 + ((6 + n) + (6 + v))) d) (slots : length head ≡ 4 + size_if_any q 1) (two : length pair ≡ 2)
    (W : Wrote o head d a d₁) (X : Wrote a pair d₁ b d₂) where
  behind_length : Room b ((6 + n) + (2 + (6 + v))) d₂
  behind_length = room_behind_two ((6 + n) + (2 + (6 + v))) R W X (omega arith)

  pub guarded_jump_room : Room b (6 + n) d₂
  guarded_jump_room = room_less behind_length (omega arith)

  module _ {c : ℕ} {jump d₃ : List ℕ} (long : length jump ≡ 6 + n) (Y : Wrote b jump d₂ c d₃) where
    pub guarded_length_room : Room c 2 d₃
    guarded_length_room = room_behind 2 behind_length Y (omega arith)

    pub guarded_label_room : {f : ℕ} {w d₄ : List ℕ} → length w ≡ 2 → Wrote c w d₃ f d₄ → Room f (6 + v) d₄
    guarded_label_room e Z = room_behind_two (6 + v) behind_length Y Z (omega arith)

module _ (base : ℕ) (u : Under) (x g n : ℕ) (ys : List ℕ) {t o j k a b c f : ℕ} {d d₁ d₂ d₃ d₄ : List ℕ} (et : t ≡ x + 2) (e : j ≡ 6 + n) (ek : k ≡ 6 + u.variables) (long : length ys ≡ n)
    (R : Room o (8 + size_if_any u.number_slot 1 + ((6 + n) + (6 + u.variables))) d) (W : Wrote o (guarded_head (u.variables + 2) t (u.variables + 3) u.number_slot) d a d₁) (X : Wrote a (pair_bytes j) d₁ b d₂)
    (Y : Wrote b (call_jump g (u.variables + 2) (u.variables + 3) n ys) d₂ c d₃) (Z : Wrote c (pair_bytes k) d₃ f d₄) where
  pub guarded_wrote : {r : ℕ} {d₅ : List ℕ} → Wrote f (label_jump base u.variables u.handler) d₄ r d₅ → Wrote o (guarded_call base u x g n ys) d r d₅
  unfolding guarded_call
  guarded_wrote Q =
      let v = u.variables in
      let head = guarded_head (v + 2) t (v + 3) u.number_slot in
      let slots : length head ≡ 4 + size_if_any u.number_slot 1 = head_size (v + 2) t (v + 3) u.number_slot in
      let jump = call_jump g (v + 2) (v + 3) n ys in
      let whole : length jump ≡ 6 + n = call_size_lem g (v + 2) (v + 3) n ys long in
      let label = label_jump base v u.handler in
      rw (← et)
      (part_wrote head (jump ++ (pair_bytes (6 + v) ++ label)) e R (omega arith) W X
      (part_wrote jump label ek (behind_length u.number_slot n v R slots refl W X) (omega arith) Y Z Q))

module _ (base v y z l m : ℕ) {t u o j a b c : ℕ} {d d₁ d₂ d₃ : List ℕ} (et : t ≡ y + 2) (eu : u ≡ z + 2) (e : j ≡ 6 + v) (R : Room o (5 + ((6 + v) + (6 + v))) d) where
  pub branch_wrote : Wrote o (7 ∷ t ∷ u ∷ []) d a d₁ → Wrote a (pair_bytes j) d₁ b d₂ → Wrote b (label_jump base v l) d₂ c d₃ → {r : ℕ} {d₄ : List ℕ}
      → Wrote c (label_jump base v m) d₃ r d₄ → Wrote o (branch_bytes base v y z l m) d r d₄
  unfolding branch_bytes
  branch_wrote W X Y Q =
      let then = label_jump base v l in
      let whole : length then ≡ 6 + v = label_size base v l in
      rw (← et, ← eu)
      (part_wrote (7 ∷ t ∷ u ∷ []) (then ++ label_jump base v m) e R (omega arith) W X
      (wrote_after then (label_jump base v m) (room_behind_two ((6 + v) + (6 + v)) R W X (omega arith)) (omega arith) Y Q))

module _ (base : ℕ) (u : Under) (x y z : ℕ) {t p w o j a b : ℕ} {d d₁ d₂ : List ℕ} (et : t ≡ x + 2) (ep : p ≡ y + 2) (ew : w ≡ z + 2) (e : j ≡ raise_size u) where
  pub difference_wrote : Room o (6 + raise_size u) d → Wrote o (10 ∷ t ∷ p ∷ w ∷ []) d a d₁ → Wrote a (pair_bytes j) d₁ b d₂ → {r : ℕ} {d₃ : List ℕ}
      → Wrote b (raise_bytes base u) d₂ r d₃ → Wrote o (difference_bytes base u x y z) d r d₃
  unfolding difference_bytes
  difference_wrote R W X Q = rw (← et, ← ep, ← ew) (part_wrote (10 ∷ t ∷ p ∷ w ∷ []) (raise_bytes base u) e R (omega arith) W X Q)

-- By the handler in force.
module _ (base : ℕ) (u : Under) (x g n : ℕ) (ys : List ℕ) where
  pub plain_as : u.handler ≡ 0 → call_bytes base u x g n ys ≡ plain_call u.variables x g n ys
  unfolding call_bytes
  plain_as e = rw (eq-eqb u.handler 0 e)

  pub guarded_as : (u.handler ≡ 0 → ⊥) → call_bytes base u x g n ys ≡ guarded_call base u x g n ys
  unfolding call_bytes
  guarded_as e = rw (ne_eqb u.handler 0 e)

module _ (base : ℕ) (u : Under) where
  pub uncaught_as : u.handler ≡ 0 → raise_end base u ≡ (6 ∷ 1 ∷ []) ++ if_any u.number_slot (u.number_slot ∷ [])
  unfolding raise_end
  uncaught_as e = rw (eq-eqb u.handler 0 e)

  pub caught_as : (u.handler ≡ 0 → ⊥) → raise_end base u ≡ label_jump base u.variables u.handler
  unfolding raise_end
  caught_as e = rw (ne_eqb u.handler 0 e)

  pub value_uncaught_as : (y : ℕ) {t : ℕ} → t ≡ y + 2 → u.handler ≡ 0 → raise_value_bytes base u y ≡ 6 ∷ 1 ∷ t ∷ []
  unfolding raise_value_bytes
  value_uncaught_as y et e = rw (eq-eqb u.handler 0 e, et)

  pub value_caught_as : (y : ℕ) → (u.handler ≡ 0 → ⊥) → raise_value_bytes base u y ≡ if_any u.bound (2 ∷ u.bound ∷ (y + 2) ∷ []) ++ label_jump base u.variables u.handler
  unfolding raise_value_bytes
  value_caught_as y e = rw (ne_eqb u.handler 0 e)

module _ (u : Under) where
  pub uncaught_end : {b : ℕ} → u.handler ≡ 0 → b ≡ size_if_any u.number_slot 1 → 2 + b ≡ raise_end_size u
  unfolding raise_end_size
  uncaught_end e q = rw (eq-eqb u.handler 0 e, q)

  pub caught_end : {j : ℕ} → (u.handler ≡ 0 → ⊥) → j ≡ 6 + u.variables → j ≡ raise_end_size u
  unfolding raise_end_size
  caught_end e q = rw (ne_eqb u.handler 0 e, q)

  pub raise_sum : {a b : ℕ} → a ≡ size_if_any u.bound 6 → b ≡ raise_end_size u → a + b ≡ raise_size u
  unfolding raise_size
  raise_sum p q = rw (p, q)

  pub value_uncaught_sum : u.handler ≡ 0 → 3 ≡ raise_value_size u
  unfolding raise_value_size
  value_uncaught_sum e = rw (eq-eqb u.handler 0 e)

  pub value_caught_sum : {a j : ℕ} → (u.handler ≡ 0 → ⊥) → a ≡ size_if_any u.bound 3 → j ≡ 6 + u.variables → a + j ≡ raise_value_size u
  unfolding raise_value_size
  value_caught_sum e p q = rw (ne_eqb u.handler 0 e, p, q)

  pub plain_sum : (n : ℕ) {j : ℕ} → u.handler ≡ 0 → j ≡ 6 + n → 5 + j ≡ call_size u n
  unfolding call_size
  plain_sum n e q = rw (eq-eqb u.handler 0 e, q)

  pub guarded_sum : (n : ℕ) {j k i : ℕ} → (u.handler ≡ 0 → ⊥) → j ≡ 6 + n → k ≡ 6 + u.variables → i ≡ size_if_any u.number_slot 1 → 8 + i + (j + k) ≡ call_size u n
  unfolding call_size
  guarded_sum n e q r t = rw (ne_eqb u.handler 0 e, q, r, t)

-- By whether there is a slot.
module _ (slot : ℕ) where
  pub none_as : (w : List ℕ) → slot ≡ 0 → if_any slot w ≡ []
  unfolding if_any
  none_as w e = rw (eq-eqb slot 0 e)

  pub any_as : (w : List ℕ) → (slot ≡ 0 → ⊥) → if_any slot w ≡ w
  unfolding if_any
  any_as w e = rw (ne_eqb slot 0 e)

  pub any_value_as : (y : ℕ) {t : ℕ} → t ≡ y + 2 → (slot ≡ 0 → ⊥) → if_any slot (2 ∷ slot ∷ (y + 2) ∷ []) ≡ 2 ∷ slot ∷ t ∷ []
  unfolding if_any
  any_value_as y et e = rw (ne_eqb slot 0 e, et)

  pub none_sum : (n : ℕ) → slot ≡ 0 → 0 ≡ size_if_any slot n
  unfolding size_if_any
  none_sum n e = rw (eq-eqb slot 0 e)

  pub any_sum : (n : ℕ) → (slot ≡ 0 → ⊥) → n ≡ size_if_any slot n
  unfolding size_if_any
  any_sum n e = rw (ne_eqb slot 0 e)

pub wrote_as : {o r : ℕ} {w w' d d' : List ℕ} → w ≡ w' → Wrote o w' d r d' → Wrote o w d r d'
wrote_as {o} {r} {d = d} {d' = d'} e W = subst (λ (y : List ℕ). Wrote o y d r d') (sym e) W

-- A constant, its target's slot and the bytes of its value.
abbrev pub ValueFits : ConstantBytes → Type 0
ValueFits x = (x.b0 < 256) × (x.b1 < 256) × (x.b2 < 256) × (x.b3 < 256)

module _ (x : ConstantBytes) (fits : ValueFits x) where
  four : value_bytes (value_of x.b0 x.b1 x.b2 x.b3) ≡ x.b0 ∷ x.b1 ∷ x.b2 ∷ x.b3 ∷ []
  four = value_back x.b0 x.b1 x.b2 x.b3 fits.0 fits.1 fits.2 fits.3

  pub constant_wrote : {t o r : ℕ} {d d₁ : List ℕ} → t ≡ x.target.0 + 2 → Wrote o (1 ∷ t ∷ x.b0 ∷ x.b1 ∷ x.b2 ∷ x.b3 ∷ []) d r d₁
      → Wrote o ((1 ∷ (x.target.0 + 2) ∷ []) ++ value_bytes (value_of x.b0 x.b1 x.b2 x.b3)) d r d₁
  constant_wrote {t} et W = rw (← et) (wrote_as (ap (λ (w : List ℕ). 1 ∷ t ∷ w) four) W)
