-- Turning an orientation twice. Assumes nothing.
use Rattle.std.specs.Prelude.{◌≡◌, refl}
use Rattle.geometry.specs.Rectangles.{flip}
use Rattle.geometry.specs.declared.Orientation.{Orientation}
use Rattle.geometry.specs.declared.Orientation.TheVariants.{Vertical, Horizontal}

pub flip_flip : (o : Orientation) → flip (flip o) ≡ o
flip_flip Vertical = refl
flip_flip Horizontal = refl
