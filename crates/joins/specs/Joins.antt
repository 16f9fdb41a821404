-- What a walk found, and two places one after the other as one.
-- Assumes nothing.
use Rattle.std.specs.Prelude.{Bool, true, false, ◌&&◌, not, ℕ, ◌-◌, eqb}
use Rattle.geometry.specs.Choice.{pick}
use Rattle.geometry.specs.Rectangles.{empty_rect, no_rect}
use Rattle.geometry.specs.declared.Orientation.{Orientation}
use Rattle.geometry.specs.declared.Orientation.TheVariants.{Vertical, Horizontal}
use Rattle.geometry.specs.declared.Rectangle.{Rectangle}
use Rattle.slots.specs.Slots.{is_none}
use Rattle.slots.specs.declared.AllocIndex.{AllocIndex}
use Rattle.sound.specs.Rules.{join}
use Rattle.joins.specs.declared.Placed.{Placed}

unfoldable pub same_rect : Rectangle → Rectangle → Bool
same_rect r s = eqb r.x0 s.x0 && (eqb r.y0 s.y0 && (eqb r.x1 s.x1 && eqb r.y1 s.y1))

-- s adjoins r along an orientation, as a test (`adjoins_true`, `true_adjoins`).
unfoldable pub adjoins : Orientation → Rectangle → Rectangle → Bool
adjoins Vertical r s = eqb r.y1 s.y0 && (eqb r.x0 s.x0 && eqb r.x1 s.x1)
adjoins Horizontal r s = eqb r.x1 s.x0 && (eqb r.y0 s.y0 && eqb r.y1 s.y1)

-- What was seen of a chain and what comes after it each fit, and adjoin.
abbrev pub fits_together : Orientation → Placed → Placed → Bool
fits_together o a b = a.fits && (b.fits && adjoins o a.at b.at)

abbrev pub out_of_slots : Placed
out_of_slots = record { ended = false; fits = false; at = no_rect; stored = false; left = 0 }

abbrev pub nothing_yet : ℕ → Placed
nothing_yet left = record { ended = false; fits = false; at = no_rect; stored = false; left = left }

abbrev pub own_place : Rectangle → ℕ → Placed
own_place r left = record { ended = true; fits = not (empty_rect r); at = r; stored = true; left = left - 1 }

-- A Container's place, with whether its stored rectangle is that.
abbrev pub stored_as : Placed → Rectangle → Placed
stored_as p r = record { ended = p.ended; fits = p.fits; at = p.at; stored = same_rect p.at r; left = p.left }

-- Two places one after the other, as one.
unfoldable pub together : Orientation → Placed → Placed → Placed
together o a b =
    pick b.ended (record { ended = true; fits = fits_together o a b; at = join a.at b.at; stored = b.stored; left = b.left }) b

-- One member more of a chain: the first has no prev.
unfoldable pub added : Orientation → AllocIndex → Placed → Placed → Placed
added o prev a b = pick (is_none prev) b (together o a b)
