-- A difference of two signed 32-bit values, as the methods of `i32` make it and as the rules do.
use Rattle.std.specs.Prelude.{ℕ, ◌-◌, ◌%◌, ◌^◌, ◌≡◌, refl, ℤ, pos, negsuc, ◌-ℤ◌, Bool, true, false, Option, Some, None, is_some}
use Rattle.std.proofs.Common.{arith, sym, ap, ◌∙◌, SFits, to_z}
use Rattle.std.specs.Int.{w32, int_wrap}
use Rattle.std.specs.Option.{SomeIff}
use Rattle.semantics.specs.Value.{modulo, wrapped, in_range}
use Rattle.semantics.proofs.ValueLaws.{in_range_value, value_in_range}

pub wrap_same : (d : ℤ) → int_wrap w32 d ≡ wrapped d
unfolding int_wrap wrapped
wrap_same (pos a) = refl
wrap_same (negsuc a) = ap (to_z w32) (omega arith)

-- A difference is there exactly where it is in the range.
pub some_in_range : (d : ℤ) (r : Option ℤ) → SomeIff r (SFits w32 d) d → is_some r ≡ in_range d
some_in_range d (Some x) h = sym (value_in_range d h.0.sfits)
some_in_range d None h = by (in_range d) refl
  where
    by : (c : Bool) → in_range d ≡ c → false ≡ in_range d
    by true e = absurd (h (record { sfits = in_range_value d e }))
    by false e = sym e
