use mathlib.Core.Path.{refl}
use borrow.Author.Rules.{rules}
use Rattle.written.specs.WriteLaws.{other_kind, own_kind, own_room}
use Rattle.written.proofs.list_slot.Goals as goal

pub returns-then-ne : goal.returns-then-ne
returns-then-ne c = other_kind _ _ _ _ c.node_at-node.ensures refl _ _ (search rules)

pub put_entry-requires : goal.put_entry-requires
put_entry-requires c = own_room _ _ _ _ c.node_at-node.ensures refl _ _ (search rules) c.requires

pub returns : goal.returns
returns c = own_kind _ _ _ _ c.node_at-node.ensures refl _ _ (search rules) c.alloc_id-id.ensures c.put_entry.ensures
