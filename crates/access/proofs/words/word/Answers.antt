-- `word` reads a word of a record, low byte first.
use borrow.Author.Rules.{rules}
use Rattle.table.specs.Table.{word as word_of}
use Rattle.access.proofs.words.word.Goals as goal

pub returns : goal.returns
unfolding word_of
returns c = search rules
