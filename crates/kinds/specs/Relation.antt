-- Document 01, "A book and its run": the kind that names each relation of two texts.
use Rattle.std.specs.Prelude.{ℕ}
use Rattle.texts.specs.Kind.{padded_kind, at_most_kind, before_kind, exact_kind, any_case_kind}
use Rattle.kinds.specs.declared.Relation.{Relation}
use Rattle.kinds.specs.declared.Relation.TheVariants.{Padded, AtMost, Before, Exact, AnyCase}

abbrev pub kind_of : Relation → ℕ
kind_of Padded = padded_kind
kind_of AtMost = at_most_kind
kind_of Before = before_kind
kind_of Exact = exact_kind
kind_of AnyCase = any_case_kind
