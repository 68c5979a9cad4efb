-- `cut_leaf` writes what cutting writes. Rests on Answering.
use Rattle.cutting.proofs.Answering.{cut_words}
use Rattle.cutting.proofs.cut_leaf.Goals as goal

pub returns : goal.returns
returns c =
    cut_words _ _ _ _ _ _ _ _ _ _ _ _ _ _ c.namer_of-before.ensures.0 c.hook_of-hook.ensures.holder_value.0 c.hook_of-hook.ensures.slot_value.0
    c.next-follower.ensures.0 c.right-free.ensures.0 c.set_word.ensures c.set_word-2.ensures c.set_word-3.ensures
    c.set_word-4.ensures c.set_word-5.ensures c.set_word-6.ensures c.set_word-7.ensures
