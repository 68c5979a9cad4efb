-- `hang_first` writes what hanging writes. Rests on Places and Answering.
use native.Mathlib.Omega.{arith}
use Rattle.hanging.proofs.Places.{hang_place}
use Rattle.hanging.proofs.Answering.{hung_words}
use Rattle.hanging.proofs.hang_first.Goals as goal

pub slot_of-requires : goal.slot_of-requires
slot_of-requires c = omega (arith, (hang_place _ _ _ c.requires).1.sided)

pub returns : goal.returns
returns c =
    hung_words _ _ _ _ _ _ _ _ _ _ _ _ _ _ _ c.from-holder.ensures c.from.ensures c.right-leaf.ensures.0 c.next-free.ensures.0
    c.next-follower.ensures.0 c.slot_of.ensures.0 c.set_word.ensures c.set_word-2.ensures c.set_word-3.ensures
    c.set_word-4.ensures c.set_word-5.ensures
