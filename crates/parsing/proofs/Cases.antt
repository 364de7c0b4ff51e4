-- Straight-line code against nested tests: the facts of the branches decide the tests.
use mathlib.Core.Path.{refl}
use borrow.Author.Rules.{rules}
use borrow.Author.Tests.{le-leb, lt-leb, le-ltb, lt-ltb, eq-eqb, ne_eqb}

pub ruleset cases = (rules, le-leb, lt-leb, le-ltb, lt-ltb, eq-eqb, ne_eqb, refl)
