-- The laws by which it is worked out how far a sheet grows, from its two setups.
-- Assumes nothing.
use Rattle.std.specs.Prelude.{◌≡◌, ℕ, ◌-◌, ◌≤◌}
use Rattle.geometry.specs.Rectangles.{flip}
use Rattle.geometry.specs.Sides.{natural, setup_of}
use Rattle.geometry.specs.declared.AllocatorOptions.{AllocatorOptions}
use Rattle.geometry.specs.declared.Orientation.{Orientation}
use Rattle.geometry.specs.declared.Rectangle.{Rectangle}
use Rattle.geometry.specs.declared.Setup.{Setup}
use Rattle.geometry.specs.declared.Size.{Size}
use Rattle.strips.specs.Strips.{along, strip_rect}
use Rattle.grows.specs.Grows.{growth}
use Rattle.ways.specs.Ways.{ways_of}
use Rattle.ways.specs.declared.Ways.{Ways}

module _ (p q : Setup) (old new : Size) (options : AllocatorOptions) (before : p ≡ setup_of old options) (after : q ≡ setup_of new options) where
  -- The sides of the old sheet can be taken from those of the new one,
  pub sides_grow : (natural old.width ≤ natural new.width) × (natural old.height ≤ natural new.height)
      → (p.sheet.width ≤ q.sheet.width) × (p.sheet.height ≤ q.sheet.height)
  unfolding setup_of
  sides_grow h = rw (before, after) h

  -- and what is left, each way, is how far it grows.
  pub ways_done : (o over : Orientation) (a b : ℕ) (r : Rectangle) → over ≡ flip o
      → a ≡ along o (record { width = q.sheet.width - p.sheet.width; height = q.sheet.height - p.sheet.height })
      → b ≡ along over (record { width = q.sheet.width - p.sheet.width; height = q.sheet.height - p.sheet.height })
      → r ≡ strip_rect over p.sheet q.sheet
      → ◌≡◌ {A = Ways} (record { along = a; across = b; strip = r }) (ways_of o old new)
  unfolding ways_of growth setup_of
  ways_done o over a b r f ea eb er = rw (er, ea, eb, before, after, f)
