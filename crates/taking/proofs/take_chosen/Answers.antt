-- `taking::take_chosen` meets its contract: the slots are taken and written, the entry is taken out, and the pieces are entered.
-- Assumes nothing.
use mathlib.Core.Path.{refl}
use native.Mathlib.Omega.{arith}
use Rattle.taking.specs.ReadyLaws.{taken_news, taken_carvable, taken_within, taken_pieces, taken_done}
use borrow.Author.Rules.{rules}
use Rattle.taking.proofs.take_chosen.Goals as goal

pub carve-requires : goal.carve-requires
carve-requires c = taken_carvable _ _ _ _ _ _ _ _ _ c.args.rect _ c.requires c.take_slots-new.ensures

pub enter_pieces-head-requires : goal.enter_pieces-head-requires
enter_pieces-head-requires c = taken_pieces _ _ _ _ _ _ _ _ _ _ _ c.requires c.take_slots-new.ensures _ c.carve.ensures _ c.remove_from-less.ensures

pub bounds-generations-new : goal.bounds-generations-new
bounds-generations-new c = let z = taken_news _ _ _ _ _ _ _ _ _ c.args.rect _ c.requires c.take_slots-new.ensures in omega (arith, z.alloc, z.bytes)

pub alloc_id-id-requires : goal.alloc_id-id-requires
alloc_id-id-requires c = let z = taken_news _ _ _ _ _ _ _ _ _ c.args.rect _ c.requires c.take_slots-new.ensures in search (rules, z.alloc, c.requires.few)

pub returns : goal.returns
returns c = taken_done _ _ _ _ _ _ _ _ _ _ _ c.requires c.take_slots-new.ensures _ c.carve.ensures _ c.remove_from-less.ensures
    _ _ _ _ refl refl refl c.enter_pieces-head.ensures c.alloc_id-id.ensures
