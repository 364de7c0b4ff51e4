-- Laws of filling the table, as the functions that fill it meet them.
use Rattle.std.specs.Prelude.{ℕ, zero, suc, ◌+◌, ◌*◌, ◌≤◌, ◌<◌, ◌≡◌, refl, List, length, get_or, set, take, replicate}
use Rattle.std.proofs.Common.{sym, ap, ◌∙◌, arith, length-set, get_or-set_same, get_or-set_other, ext_get_or, get_or-take, length-take-le}
use Rattle.std.proofs.Math.Decide.{dec_lt}
use Rattle.std.proofs.lemmas.List.{length-map, length-replicate}
use Rattle.parsing.specs.Fields.{version_of}
use Rattle.semantics.specs.Program.{Program, function_of}
use Rattle.procedure_layout.specs.Layout.{block, bytes_before}
use Rattle.procedure_layout.proofs.LayoutLaws.{before_bounds}
use Rattle.procedure_layout.specs.After.{end_of}
use Rattle.procedure_names.specs.Names.{arities}
use Rattle.procedure_names.specs.NamesLaws.{arity_of}
use Rattle.procedure_file.specs.Check.{program_of}
use Rattle.procedure_file.specs.Places.{function_place, label_place, start_of}
use Rattle.procedure_file.specs.Table.{index, entry_of, Table}
use Rattle.procedure_file.specs.Loaded.{Laid}
use Rattle.procedure_file.specs.Asked.{FilledTo, Filled, Given}
use Rattle.procedure_file.proofs.AcceptedLaws.{laid_reads}
use Rattle.procedure_file.specs.PlacesLaws.{function_ends}
use Rattle.procedure_file.proofs.TableLaws.{entry_there, entry_no_label, entry_no_function, functions_bound, blocks_bound_lem, heading_inside, params_byte, blocks_byte, end_is, place_inside, start_behind}

zeros : (n i : ℕ) → get_or (replicate {A = ℕ} n 0) i 0 ≡ 0
zeros zero i = refl
zeros (suc n) zero = refl
zeros (suc n) (suc i) = zeros n i

module _ (P : Program) where
  none_filled : FilledTo P 0 (replicate {A = ℕ} 2048 0)
  none_filled =
      record {
        long = length-replicate {A = ℕ} 2048 0;
        done = λ f l a b h. absurd (omega arith);
        empty = λ j h. zeros 2048 j;
      }

  -- One entry more.
  entry_filled : (i : ℕ) (starts : List ℕ) → FilledTo P i starts → (f l x : ℕ) → i ≡ 64 * f + l → f < 32 → l < 64 → x ≡ entry_of P f l
      → FilledTo P (suc i) (set starts i x)
  entry_filled i starts w f l x e a b v =
      record {
        long = length-set starts i x ∙ w.long;
        done = λ g k c d h. by g k c d h (dec_lt (index g k) i);
        empty = λ j h. get_or-set_other starts i j x 0 (λ q. absurd (omega arith)) ∙ w.empty j (omega arith);
      }
    where
      by : (g k : ℕ) → g < 32 → k < 64 → index g k < suc i → Dec (index g k < i) → get_or (set starts i x) (index g k) 0 ≡ entry_of P g k
      by g k c d h (yes p) = get_or-set_other starts i (index g k) x 0 (λ q. absurd (omega arith)) ∙ w.done g k c d p
      by g k c d h (no p) =
          let m : g ≡ f = omega arith in
          let n : k ≡ l = omega arith in
          let q : 64 * f + l ≡ i = omega arith in
          rw (m, n, q) (get_or-set_same starts i x 0 (omega (arith, w.long)) ∙ v)

  -- Behind a function's last label the row is 0.
  row_filled : (f l j : ℕ) (starts : List ℕ) → FilledTo P (64 * f + (l + 1)) starts → f < length P → l ≡ length (function_of P f).blocks → l < 64 → j ≡ f + 1
      → FilledTo P (64 * j) starts
  row_filled f l j starts w there e b i =
      record {
        long = w.long;
        done = λ g k c d h. by g k c d h (dec_lt (index g k) (64 * f + (l + 1)));
        empty = λ m h. w.empty m (omega arith);
      }
    where
      by : (g k : ℕ) → g < 32 → k < 64 → index g k < 64 * j → Dec (index g k < 64 * f + (l + 1)) → get_or starts (index g k) 0 ≡ entry_of P g k
      by g k c d h (yes p) = w.done g k c d p
      by g k c d h (no p) =
          let m : g ≡ f = omega arith in
          w.empty (index g k) (omega arith) ∙ sym (ap (λ (x : ℕ). entry_of P x k) m ∙ entry_no_label P f k there (omega arith))

  -- Behind the last function the table is 0.
  all_filled : (n : ℕ) (starts : List ℕ) → FilledTo P (64 * n) starts → n ≡ length P → Table P starts
  all_filled n starts w e = record { long = w.long; entries = λ f l a b. by f l a b (dec_lt f n) }
    where
      by : (f l : ℕ) → f < 32 → l < 64 → Dec (f < n) → get_or starts (index f l) 0 ≡ entry_of P f l
      by f l a b (yes p) = w.done f l a b (omega arith)
      by f l a b (no p) = w.empty (index f l) (omega arith) ∙ sym (entry_no_function P f l (omega arith))

-- The row of function f is filled up to label l.
pub record Row (s : List ℕ) (f labels : ℕ) (starts : List ℕ) (l place : ℕ) : Type 0 where
  pub laid : Laid s
  pub there : f < length (program_of s)
  pub labels_are : labels ≡ length (function_of (program_of s) f).blocks
  pub counter_bound : l ≤ labels
  pub place_is : place ≡ label_place (program_of s) f l
  pub entries : FilledTo (program_of s) (64 * f + (l + 1)) starts

module _ (s : List ℕ) (f at : ℕ) (starts : List ℕ) (w : Filled s f at starts) (there : f < length (program_of s)) where
  pub row_begins : (starts' : List ℕ) (labels place : ℕ) → starts' ≡ set starts (64 * f) (at + 3) → labels ≡ get_or s (at + 2) 0 → place ≡ end_of (block s (at + 3))
      → Row s f labels starts' 0 place
  row_begins starts' labels place es el ep =
      let P = program_of s in
      let x : at + 3 ≡ start_of P f 0 = ap (λ (k : ℕ). k + 3) w.place in
      let i : suc (64 * f) ≡ 64 * f + (0 + 1) = omega arith in
      record {
        laid = w.laid;
        there = there;
        labels_are = el ∙ ap (λ (k : ℕ). get_or s (k + 2) 0) w.place ∙ blocks_byte s w.laid f there;
        counter_bound = omega arith;
        place_is = ep ∙ ap (λ (k : ℕ). end_of (block s k)) x ∙ end_is s w.laid f there 0 (omega arith);
        entries = rw (es, ← i) (entry_filled P (64 * f) starts w.entries f 0 (at + 3) (omega arith) (functions_bound s w.laid f there) (omega arith) (x ∙ sym (entry_there P f 0 there (omega arith))));
      }

  pub filled_room : (f < 32) × (at + 3 ≤ length s) × (length s ≤ 32768)
  filled_room =
      (functions_bound s w.laid f there, rw w.place (heading_inside s w.laid f there), w.laid.file_bound)

module _ (s : List ℕ) (f labels : ℕ) (starts : List ℕ) (l place : ℕ) (w : Row s f labels starts l place) where
  pub row_more : (before : ℕ) → before ≡ bytes_before (version_of s) → l < labels
      → (starts' : List ℕ) (next : ℕ) → starts' ≡ set starts (64 * f + l + 1) (place + before) → next ≡ end_of (block s (place + before)) → Row s f labels starts' (l + 1) next
  row_more before eb less starts' next es en =
      let P = program_of s in
      let known : l + 1 ≤ length (function_of P f).blocks = omega (arith, w.labels_are) in
      let m : l + 1 ≡ suc l = omega arith in
      let b : place + before ≡ start_of P f (suc l) = omega (arith, w.place_is, start_behind s w.laid f w.there l) in
      let x : place + before ≡ start_of P f (l + 1) = rw m b in
      let j : 64 * f + l + 1 ≡ 64 * f + (l + 1) = omega arith in
      let i : suc (64 * f + (l + 1)) ≡ 64 * f + (l + 1 + 1) = omega arith in
      record {
        laid = w.laid;
        there = w.there;
        labels_are = w.labels_are;
        counter_bound = omega arith;
        place_is = en ∙ ap (λ (k : ℕ). end_of (block s k)) x ∙ end_is s w.laid f w.there (l + 1) known;
        entries = rw (es, j, ← i)
            (entry_filled P (64 * f + (l + 1)) starts w.entries f (l + 1) (place + before) refl (functions_bound s w.laid f w.there)
            (omega (arith, blocks_bound_lem s w.laid f w.there)) (x ∙ sym (entry_there P f (l + 1) w.there known)));
      }

  pub row_full : labels ≤ l → Filled s (f + 1) place starts
  row_full h =
      let P = program_of s in
      let n : l ≡ length (function_of P f).blocks = omega (arith, w.labels_are, w.counter_bound) in
      let q : f + 1 ≡ suc f = omega arith in
      record {
        laid = w.laid;
        place = w.place_is ∙ ap (label_place P f) n ∙ function_ends s w.laid.bytes P (laid_reads w.laid) f w.there ∙ ap (function_place P) (sym q);
        entries = row_filled P f l (f + 1) starts w.entries w.there n (omega (arith, blocks_bound_lem s w.laid f w.there)) refl;
      }

  pub row_room : (before : ℕ) → before ≡ bytes_before (version_of s) → l < labels → (64 * f + (l + 1) < 2048) × (place < length s) × (length s ≤ 32768) × (before ≤ 2)
  row_room before eb h = (
    omega (arith, functions_bound s w.laid f w.there, blocks_bound_lem s w.laid f w.there, w.labels_are),
    rw w.place_is (place_inside s w.laid f w.there l (omega (arith, w.labels_are))),
    w.laid.file_bound,
    omega (arith, before_bounds (version_of s)),
  )

-- The table is filled for the functions before f.
pub record Part (s : List ℕ) (count : ℕ) (starts params : List ℕ) (at f : ℕ) : Type 0 where
  pub count_is : count ≡ length (program_of s)
  pub counter_bound : f ≤ count
  pub filled : Filled s f at starts
  pub params_long : length params ≡ 32
  pub params_are : (g : ℕ) → g < f → get_or params g 0 ≡ (function_of (program_of s) g).params

pub part_begins : (s : List ℕ) (count : ℕ) (starts params : List ℕ) → Laid s → starts ≡ replicate {A = ℕ} 2048 0 → length params ≡ 32 → count ≡ length (program_of s)
    → Part s count starts params 6 0
unfolding function_place
part_begins s count starts params L es lp e =
    record {
      count_is = e;
      counter_bound = omega arith;
      filled = record { laid = L; place = refl; entries = rw es (none_filled (program_of s)) };
      params_long = lp;
      params_are = λ g h. absurd (omega arith);
    }

module _ (s : List ℕ) (count : ℕ) (starts params : List ℕ) (at f : ℕ) (w : Part s count starts params at f) where
  module _ (less : f < count) where
    pub part_there : f < length (program_of s)
    part_there = omega (arith, less, w.count_is)

    pub part_room : (f < 32) × (at + 3 ≤ length s) × (length s ≤ 32768)
    part_room = filled_room s f at starts w.filled part_there

    pub part_more : (starts' params' : List ℕ) (next : ℕ) → params' ≡ set params f (get_or s at 0) → Filled s (f + 1) next starts'
        → Part s count starts' params' next (f + 1)
    part_more starts' params' next e r =
        record {
          count_is = w.count_is;
          counter_bound = omega arith;
          filled = r;
          params_long = ap length e ∙ length-set params f _ ∙ w.params_long;
          params_are = λ g h. rw e (by g h (dec_lt g f));
        }
      where
        by : (g : ℕ) → g < f + 1 → Dec (g < f) → get_or (set params f (get_or s at 0)) g 0 ≡ (function_of (program_of s) g).params
        by g h (yes p) = get_or-set_other params f g _ 0 (λ q. absurd (omega arith)) ∙ w.params_are g p
        by g h (no p) =
            let q : g ≡ f = omega arith in
            rw q (get_or-set_same params f _ 0 (omega (arith, w.params_long, part_room.0))
            ∙ ap (λ (k : ℕ). get_or s k 0) w.filled.place ∙ params_byte s w.filled.laid f part_there)

  pub part_full : count ≤ f → Given s count starts params
  part_full h =
      let P = program_of s in
      let e : f ≡ length P = omega (arith, w.count_is, w.counter_bound) in
      let l : length (take count params) ≡ count = length-take-le count params (omega (arith, w.params_long, w.count_is, (laid_reads w.filled.laid).most)) in
      record {
        count_is = w.count_is;
        table = all_filled P f starts w.filled.entries e;
        params_are = ext_get_or 0 (take count params) (arities P) (l ∙ w.count_is ∙ sym (length-map P (λ F. F.params)))
            (λ i k. get_or-take count params i 0 (omega (arith, l)) ∙ w.params_are i (omega (arith, l, e, w.count_is)) ∙ sym (arity_of P i));
      }
