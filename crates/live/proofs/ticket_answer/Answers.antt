use mathlib.Core.Path.{refl}
use borrow.Author.Rules.{rules}
use Rattle.live.proofs.TicketLaws.{ticket_out, ticket_old, ticket_other, ticket_live}
use Rattle.live.proofs.ticket_answer.Goals as goal

pub returns-then-i-n : goal.returns-then-i-n
returns-then-i-n c = ticket_out _ _ _ _ c.get_index-i.ensures c.if-i-n.true

pub returns-then-present-told : goal.returns-then-present-told
returns-then-present-told c = ticket_old _ _ _ _ c.get_index-i.ensures c.if-i-n.false c.get_generation-told.ensures c.if-present-told.true

pub returns-then-ne : goal.returns-then-ne
returns-then-ne c = ticket_other _ _ _ _ c.get_index-i.ensures c.if-i-n.false c.get_generation-told.ensures c.if-present-told.false c.node_at.ensures refl (search rules)

pub returns : goal.returns
returns c = ticket_live _ _ _ _ c.get_index-i.ensures c.if-i-n.false c.get_generation-told.ensures c.if-present-told.false c.node_at.ensures refl (search rules)
