-- `growing::append_to` meets its contract: a slot is taken, linked after the last one, and entered.
-- Assumes nothing.
use Rattle.growing.specs.StepLaws.{append_links, append_enters, append_done}
use Rattle.growing.proofs.append_to.Goals as goal

pub link_after-requires : goal.link_after-requires
link_after-requires c = append_links _ c.requires.0 c.requires.1 c.new_node-new.ensures

pub add_free_rect-lengths-requires : goal.add_free_rect-lengths-requires
add_free_rect-lengths-requires c = append_enters _ c.requires.0 c.requires.1 c.new_node-new.ensures _ _ c.link_after.ensures

pub returns : goal.returns
returns c = append_done _ _ _ _ _ _ _ _ _ _ _ _ _ c.new_node-new.ensures c.setup_of-setup.ensures.0 c.link_after.ensures c.add_free_rect-lengths.ensures
