-- What a step of a grow changes in the slot table keeps the tables sound, but for what the top chain fills.
-- Assumes nothing.
use Rattle.std.specs.Prelude.{ℕ, ◌-◌, ◌≡◌, ◌⊎◌, List, length}
use Rattle.geometry.specs.declared.Rectangle.{Rectangle}
use Rattle.slots.specs.declared.NodeKind.TheVariants.{Container, Alloc, Free}
use Rattle.sound.specs.View.{seen, Dead}
use Rattle.sound.specs.Rules.{it}
use Rattle.sound.specs.Sound.{Merged}
use Rattle.forest.specs.Pigeon.{In}
use Rattle.changes.specs.Stretches.{Grown}
use Rattle.grown.specs.Fills.{NoSmaller}

-- What a step makes of a slot table w, with n slots after it and a new place of the top chain: the new slots are Containers or Free, every
-- other slot keeps its kind, an Unused one its next and an Alloc one its rectangle, and no Free one gets smaller.
pub record Change (w w' : List ℕ) (n root : ℕ) (new : List ℕ) (all : Rectangle) : Type 0 where
  pub grown : Grown (seen w') n root all
  pub merged : Merged (seen w') n
  pub words : length w' ≡ length w
  pub new_kind : (j : ℕ) → In j new → ((seen w' j).kind ≡ Container) ⊎ ((seen w' j).kind ≡ Free)
  pub kind : (j : ℕ) → (In j new → ⊥) → (seen w' j).kind ≡ (seen w j).kind
  pub next : (j : ℕ) → Dead (seen w) n j → (In j new → ⊥) → (seen w' j).next ≡ (seen w j).next
  pub rect : (j : ℕ) → (In j new → ⊥) → (seen w j).kind ≡ Alloc → (seen w' j).rect ≡ (seen w j).rect
  pub wider : (j : ℕ) → (In j new → ⊥) → (seen w j).kind ≡ Free → NoSmaller (seen w j).rect (seen w' j).rect
