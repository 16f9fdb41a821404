-- `pushes::sweep_and_append` meets its contract: a sweep makes room (`room_swept`).
-- Assumes nothing.
use Rattle.pushes.proofs.PushLaws.{room_swept}
use Rattle.pushes.proofs.sweep_and_append.Goals as goal

pub append-requires : goal.append-requires
append-requires c = room_swept _ _ _ c.requires _ c.sweep-less.ensures
