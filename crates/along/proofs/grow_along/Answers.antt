-- `along::grow_along` meets its contract: the last slot of the top chain is found, and stretched or followed by a new one.
-- Assumes nothing.
use Rattle.along.specs.AlongLaws.{chain_has_lem, last_has, last_room, stretch_ready, append_ready, stretch_is_along, append_is_along}
use borrow.Author.Rules.{rules}
use Rattle.along.proofs.grow_along.Goals as goal

pub last_of-i-requires : goal.last_of-i-requires
last_of-i-requires c = chain_has_lem c.requires

pub node_at-last-requires : goal.node_at-last-requires
node_at-last-requires c = last_has c.requires c.last_of-i.ensures

pub stretched_rect-longer-requires : goal.stretched_rect-longer-requires
stretched_rect-longer-requires c = last_room c.requires c.last_of-i.ensures c.node_at-last.ensures

pub stretch-requires : goal.stretch-requires
stretch-requires c = stretch_ready c.requires c.last_of-i.ensures c.node_at-last.ensures c.node_at-o.ensures c.stretched_rect-longer.ensures

pub returns-then-eq : goal.returns-then-eq
returns-then-eq c = stretch_is_along c.requires c.last_of-i.ensures c.node_at-last.ensures c.node_at-o.ensures ((search rules)) c.stretched_rect-longer.ensures (c.stretch.ensures _)

pub appended_rect-new-requires : goal.appended_rect-new-requires
appended_rect-new-requires c = last_room c.requires c.last_of-i.ensures c.node_at-last.ensures

pub append_to-requires : goal.append_to-requires
append_to-requires c = append_ready c.requires c.last_of-i.ensures c.node_at-last.ensures c.node_at-o.ensures ((search rules)) c.appended_rect-new.ensures

pub returns : goal.returns
returns c = append_is_along c.requires c.last_of-i.ensures c.node_at-last.ensures c.node_at-o.ensures ((search rules)) c.appended_rect-new.ensures c.append_to.ensures
