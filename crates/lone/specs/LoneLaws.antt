-- What the test of a single Free root says, as the rules speak of a slot, and the rectangle of a Free slot that is alone.
-- Assumes nothing.
use Rattle.std.specs.Prelude.{◌≡◌, refl, List, ℕ}
use Rattle.std.proofs.Common.{sym, ◌∙◌, arith}
use Rattle.geometry.specs.declared.Rectangle.{Rectangle}
use Rattle.slots.specs.declared.AllocIndex.{AllocIndex}
use Rattle.slots.specs.declared.NodeKind.TheVariants.{Container, Free}
use Rattle.table.specs.Table.{node_at}
use Rattle.slots.specs.declared.NodeKind.{NodeKind}
use Rattle.sound.specs.View.{none, Seen, seen}
use Rattle.sound.specs.Rules.{PlaceSlot, own, children, PlaceChain, last, more}
use Rattle.sound.specs.ViewLaws.{no_link}
use Rattle.links.specs.LinkLaws.{link_none}
use Rattle.links.specs.TestLaws.{Says, both_say, kind_says}
use Rattle.lone.specs.Lone.{lone_free}

pub lone_says : (w : List ℕ) (root : AllocIndex) → Says (lone_free w root) (((seen w root.0).kind ≡ Free) × ((seen w root.0).next ≡ none))
unfolding lone_free seen
lone_says w root = both_say (kind_says (node_at w root).kind Free) (link_none (node_at w root).next)

-- A Free slot alone in its chain has the chain's place for its rectangle.
pub lone_rect : {get : ℕ → Seen} {n i : ℕ} {r : Rectangle} → PlaceChain get n i r → (get i).kind ≡ Free → (get i).next ≡ none → (get i).rect ≡ r
lone_rect (last x p) k e = own_rect p k
  where
    no_box : {k : NodeKind} {G : Type 0} → k ≡ Free → k ≡ Container → G
    no_box e d = absurd (let z : ◌≡◌ {A = ℕ} 0 1 = cc in omega arith)

    own_rect : {get : ℕ → Seen} {n i : ℕ} {r : Rectangle} → PlaceSlot get n i r → (get i).kind ≡ Free → (get i).rect ≡ r
    own_rect (own l q) k = refl
    own_rect (children c f p) k = no_box k c
lone_rect (more x p q a) k e = absurd (no_link (sym e ∙ x))
