-- `find_reads::read_on`: where no state is live the block changes nothing, else it is read. Assumes nothing.
use Rattle.shapes.specs.Lent.{meant}
use Rattle.find_reads.proofs.Say.{heard_on}
use Rattle.find_reads.proofs.read_on.Goals as goal

pub returns-then-before-eq0 : goal.returns-then-before-eq0
returns-then-before-eq0 c =
    let s = c in
    let p = s.requires.short_mark in
    record {
      exactly = p.1;
      heard = λ z l h. heard_on (meant s.args.b) p.2 p.1 c.if-before-eq0.true h;
    }

pub of_base-ways-requires : goal.of_base-ways-requires
of_base-ways-requires c = let p = c.requires in
    record {
      short_mark = p.short_mark.0;
      continued_rows = p.fall_words.1;
    }

pub read_block-requires : goal.read_block-requires
read_block-requires c =
    let p = c.requires in
    let w = c.of_base-ways.ensures in
    record {
      short_mark = (p.short_mark.0, p.short_mark.1, p.short_mark.2);
      fall_words = (p.fall_words.0, w.0, w.1);
    }
