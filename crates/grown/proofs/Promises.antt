-- THE PROMISES of grow, for sound tables whose lengths are in range and a size to which a grow is due.
-- Assumes nothing but that.
use Rattle.std.specs.Prelude.{ℕ, ◌<◌, ◌≡◌}
use Rattle.std.proofs.Math.Path.{sym, ap}
use Rattle.std.proofs.Common.{◌∙◌, arith}
use Rattle.geometry.specs.Sides.{natural}
use Rattle.geometry.specs.declared.Extent.{Extent}
use Rattle.geometry.specs.declared.Size.{Size}
use Rattle.tickets.specs.Tickets.{slot_of}
use Rattle.steps.specs.State.{State}
use Rattle.sound.specs.View.{seen, in_use}
use Rattle.sound.specs.Sound.{Sound, sheet_of}
use Rattle.lent.specs.Lent.{LentOf}
use Rattle.cover.proofs.Points.{point_has_one_slot}
use Rattle.cover.specs.Sums.{LeafAt, rect_at, InRect}
use Rattle.granted.specs.Terms.{Roomy}
use Rattle.grows.specs.Grows.{grown}
use Rattle.grown.specs.Fills.{fills_sound}
use Rattle.grown.specs.Terms.{GrowDue, Grows}
use Rattle.grown.proofs.Whole.{grown_steps}

module _ (s : State) (new : Size) (L : LentOf s) (S : Sound s) (G : GrowDue s new) where
  -- SOUND. After the grow the tables are sound, and their lengths in range.
  pub grown_keeps_sound : Sound (grown s new) × LentOf (grown s new)
  grown_keeps_sound = let z = grown_steps s new L S G in (fills_sound z.0 (ap sheet_of (sym z.1.sheet)), z.1.lent)

  -- TICKETS. The sheet has the new size and the options stay; every live ticket stays live with its rectangle, and none becomes live;
  -- every live slot keeps its generation, and as many fewer slots are spare as were asked for.
  pub grown_keeps_tickets : Grows s new (grown s new)
  unfolding seen
  grown_keeps_tickets =
      let c = (grown_steps s new L S G).1 in
      record {
        sheet = c.sheet;
        options = c.options;
        stays = λ t v. let j = (slot_of t).0 in
            let a = c.allocs j v.below v.alloc in
            (record { below = (c.lives j (v.below, ap in_use v.alloc)).0; present = c.generations j (v.below, ap in_use v.alloc) ∙ v.present; alloc = a.0 }, a.1);
        only = λ t v. let j = (slot_of t).0 in
            let a = c.only j v.below v.alloc in
            record { below = a.0; present = sym (c.generations j (a.0, ap in_use a.1)) ∙ v.present; alloc = a.1 };
        lives = c.lives;
        generations = c.generations;
        spares = c.spares;
      }

  -- ROOM. A Free slot that took a request takes it still.
  pub grown_roomy : (e : Extent) (x : ℕ) → Roomy s e x → Roomy (grown s new) e x
  unfolding seen
  grown_roomy e x (b, z) =
      let c = (grown_steps s new L S G).1 in
      let f = c.frees x b z.free in
      ((c.lives x (b, ap in_use z.free)).0, record { free = f.0; wide = omega (arith, z.wide, f.1.0); tall = omega (arith, z.tall, f.1.1) })

  -- COVERED ONCE. Each point of the new sheet lies in the rectangle of an Alloc or Free slot, and of no other one.
  pub grown_covers_once : (x y : ℕ) → x < natural new.width → y < natural new.height
      → (i : ℕ) × LeafAt (grown s new) i × InRect x y (rect_at (grown s new) i) × ((j : ℕ) → LeafAt (grown s new) j → InRect x y (rect_at (grown s new) j) → j ≡ i)
  grown_covers_once x y h k =
      let e = grown_keeps_tickets.sheet in
      point_has_one_slot grown_keeps_sound.0 x y (rw e h) (rw e k)
