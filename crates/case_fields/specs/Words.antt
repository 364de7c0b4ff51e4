-- Words lent to a machine.
use Rattle.std.specs.Prelude.{Bool, true, false, cond, List, [], ◌∷◌, eqb, ℤ, pos, negsuc}

-- Whether two values are the same.
abbrev pub same : ℤ → ℤ → Bool
same (pos a) (pos b) = eqb a b
same (negsuc a) (negsuc b) = eqb a b
same (pos a) (negsuc b) = false
same (negsuc a) (pos b) = false

-- Whether each word is x.
unfoldable pub every : ℤ → List ℤ → Bool
every x [] = true
every x (w ∷ ws) = cond (same w x) (every x ws) false
