-- `find_calls::seek`: the lengths at which the mark is complete tell the indices, the live states the texts that lack
-- it. Assumes nothing.
use Rattle.shapes.specs.Lent.{shape_of}
use Rattle.find_texts.specs.Occurs.{Indices}
use Rattle.find_calls.proofs.Answer.{nowhere, long_enough, found, some_left, none_left}
use Rattle.find_calls.proofs.seek.Goals as goal
use Rattle.find_calls.proofs.seek.Goals.{After-index_of-greatest}

-- the least and the greatest index
between : (c : After-index_of-greatest) → let a = c.args in
    Indices a.mark.now (shape_of a.shape.now) c.index_of-least.result.at c.index_of-greatest.result.at
between c =
    let l = c in
    found l.read_shape-search.ensures.hits_say l.index_of-least.result.at c.index_of-greatest.result.at l.first.ensures.0 c.last.ensures.0
    l.index_of-least.ensures c.index_of-greatest.ensures

pub read_shape-search-requires : goal.read_shape-search-requires
read_shape-search-requires c = let p = c.requires in (p.1, p.0)

pub returns-then-is_empty : goal.returns-then-is_empty
returns-then-is_empty c = let r = c in nowhere r.read_shape-search.ensures.hits_say (c.is_empty.ensures.so c.if-is_empty.true)

pub first-requires : goal.first-requires
first-requires c = c.is_empty.ensures.not_so c.if-is_empty.false

pub index_of-least-requires : goal.index_of-least-requires
index_of-least-requires c = let f = c.first.ensures in (long_enough c.read_shape-search.ensures.hits_say _ f.0.held, f.1)

pub last-requires : goal.last-requires
last-requires c = let e = c in e.is_empty.ensures.not_so e.if-is_empty.false

pub index_of-greatest-requires : goal.index_of-greatest-requires
index_of-greatest-requires c = let f = c.last.ensures in (long_enough c.read_shape-search.ensures.hits_say _ f.0.held, f.1)

pub returns-then-search-eq0 : goal.returns-then-search-eq0
returns-then-search-eq0 c =
    let t = c in
    (none_left t.read_shape-search.ensures.exactly c.if-search-eq0.true, between (goal.at.returns-then-search-eq0 t).After-index_of-greatest)

pub returns : goal.returns
returns c =
    let t = c in
    (some_left t.read_shape-search.ensures.exactly c.if-search-eq0.false, between (goal.at.returns t).After-index_of-greatest)
