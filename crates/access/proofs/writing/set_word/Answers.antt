-- `set_word` writes a word of a record, low byte first.
use borrow.Author.Rules.{rules}
use Rattle.table.specs.Writing.{with_word}
use Rattle.access.proofs.writing.set_word.Goals as goal

pub returns : goal.returns
unfolding with_word
returns c = search rules
