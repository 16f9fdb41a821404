use native.Mathlib.Omega.{arith}
use Rattle.sheets.specs.SheetLaws.{first_pushable, begun_started}
use borrow.Author.Rules.{rules}
use Rattle.sheets.proofs.begin.Goals as goal

pub returns : goal.returns
returns c = begun_started _ _ _ _ _ c.requires _ _ _ _ _ _ _ _ _ _ c.setup_of-setup.ensures.0 c.free_list_for_size-bucket.ensures c.whole_sheet.ensures c.put_node.ensures c.push_to-lengths.ensures
