-- Request 7 of document 02 holds: each field by citation. Assumes nothing.
use mathlib.Core.Path.{refl}
use mathlib.Core.List.{[]}
use native.Mathlib.Omega.{arith}
use Rattle.answers.specs.Turns.{here, later}
use Rattle.answers.proofs.Turns
use Rattle.shapes.proofs.Refused.{shape_not}
use Rattle.find_texts.proofs.Occur.{occurs_within}
use Rattle.find_texts.proofs.Found.{empty_first}
use Rattle.find_texts.proofs.Whole.{lacks_or_has}
use Rattle.find_calls.proofs.Values.{lacks, least_there, greatest_there, between, none_has, none_both, never, empty_answer, thirteen_only}
use Rattle.demands.specs.Call.{find_mark}
use Rattle.demands.specs.Request7.{Request7}
use Rattle.demands.proofs.Refusals.{find}
use Rattle.demands.proofs.Request1.{tells}

pub request_7 : Request7
request_7 = record {
  found = λ xs mark r a p. record {
    lacks = lacks a r p;
    least_there = least_there a r p;
    greatest_there = greatest_there a r p;
    between = between a r p;
    none_has = none_has a r p;
    none_both = none_both a r p;
    never = never a r p;
  };
  lacks_or_has = lacks_or_has;
  lacks_not_has = λ l o. l.nowhere _ o;
  one_first = λ p q. let a = p.first _ q.there in let b = q.first _ p.there in omega arith;
  from_one = λ mark t. record { before = []; after = t; text = refl; index = refl };
  behind = λ mark s t. record { before = s; after = t; text = refl; index = refl };
  none_at_0 = λ o. let w = (occurs_within o).1 in omega arith;
  empty_mark = empty_first;
  empty_answer = λ r a p. empty_answer r a p;
  shape_first = λ g t d. tells find_mark g tt find.demand (λ a. shape_not d a.accepted) (here d);
  thirteen = λ g a l. tells find_mark g tt find.demand (λ b. let few = b.few in omega arith) (later a (here (Turns.lacks (λ few. omega arith))));
  thirteen_only = thirteen_only;
}
