-- `releasing::release` meets its contract: the slot is marked Free, the climb starts there, and where it ends is pushed.
-- Assumes nothing.
use Rattle.releasing.specs.ReleaseLaws.{release_starts, end_has, end_enters, release_done}
use Rattle.releasing.proofs.release.Goals as goal

pub climb-end-requires : goal.climb-end-requires
climb-end-requires c = release_starts c.requires c.set_kind.ensures

pub node_at-node-requires : goal.node_at-node-requires
node_at-node-requires c = end_has c.requires c.set_kind.ensures c.climb-end.ensures

pub add_free_rect-lengths-requires : goal.add_free_rect-lengths-requires
add_free_rect-lengths-requires c = end_enters c.requires c.set_kind.ensures c.climb-end.ensures c.node_at-node.ensures

pub returns : goal.returns
returns c = release_done _ _ _ _ _ _ _ _ _ _ _ c.set_kind.ensures c.climb-end.ensures c.node_at-node.ensures c.setup_of-setup.ensures.0
    c.add_free_rect-lengths.ensures
