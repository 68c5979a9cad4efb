-- `roles::role::hand_at` meets its contract. Rests on Choices.
use mathlib.Core.Path.{sym, ◌∙◌}
use Rattle.roles.proofs.Choices.{code_same}
use Rattle.roles.proofs.role.hand_at.Goals as goal

pub returns : goal.returns
returns c a o e = c.hand.ensures ∙ (code_same _ a _ o (sym c.role_at.ensures ∙ e)).0
