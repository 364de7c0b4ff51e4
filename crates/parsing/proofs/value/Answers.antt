use Rattle.std.proofs.Common.{◌≡◌, ◌+◌, ◌*◌, ◌∙◌, ap, to_z, arith}
use Rattle.std.proofs.Math.Facts.{to_z-of_z}
use Rattle.std.specs.Int.{w32}
use Rattle.parsing.specs.Fields.{value_of}
use Rattle.parsing.proofs.value.Goals as goal

pub returns : goal.returns
unfolding value_of
returns c =
    let a = c.args in
    let order : a.b0 + a.b1 * 256 + a.b2 * 65536 + a.b3 * 16777216 ≡ a.b0 + 256 * a.b1 + 65536 * a.b2 + 16777216 * a.b3 = omega arith in
    to_z-of_z {w = w32} (record { sfits = c.from_le_bytes.type_inv }) ∙ c.from_le_bytes.ensures ∙ ap (to_z w32) order
