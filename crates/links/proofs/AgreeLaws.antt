-- What the test of a slot's links says of the slot: rule 3, but for the sentences that follow links to their end.
-- Assumes nothing.
use Rattle.std.specs.Prelude.{◌≡◌, false, List, ◌↔◌, ℕ, ◌<◌}
use Rattle.std.proofs.Common.{arith}
use Rattle.std.proofs.Math.ListN.{get_or}
use Rattle.geometry.specs.Rectangles.{flip}
use Rattle.slots.specs.Slots.{slot, is_none}
use Rattle.table.specs.Table.{node_at}
use Rattle.slots.specs.declared.NodeKind.TheVariants.{Container}
use Rattle.sound.specs.View.{none, to, seen, Live}
use Rattle.links.specs.Links.{Table, next_agrees, prev_agrees, parent_agrees, child_agrees, first_agrees, root_agrees, links_sane, siblings_agree, family_agrees, links_at}
use Rattle.links.specs.TestLaws.{Says, both_say, where_says, pick_says, says_as, not_says, equal_says, kind_says, orientation_says}
use Rattle.links.specs.LinkLaws.{link_none, same_link_says, link_to_says, link_says, live_is, link_is}
use Rattle.links.specs.AgreeLaws.{LinksHere}

module _ (w fs : List ℕ) (n root : ℕ) (t : Table w n) (i : ℕ) (b : i < n) where
  small : i < 4096
  small = omega (arith, t.few)

  sane_says : Says (links_sane w n (node_at w (slot i)))
      (((j : ℕ) → (seen w i).parent ≡ to j → Live (seen w) n j) × (((j : ℕ) → (seen w i).next ≡ to j → Live (seen w) n j) × ((j : ℕ) → (seen w i).prev ≡ to j → Live (seen w) n j)))
  unfolding links_sane seen
  sane_says =
      let m = node_at w (slot i) in
      both_say (link_is w n m.parent) (both_say (link_is w n m.next) (link_is w n m.prev))

  next_says : Says (next_agrees w i (node_at w (slot i)))
      ((j : ℕ) → (seen w i).next ≡ to j → ((seen w j).prev ≡ to i) × (((seen w j).parent ≡ (seen w i).parent) × ((seen w j).orientation ≡ (seen w i).orientation)))
  unfolding next_agrees seen
  next_says =
      let m = node_at w (slot i) in
      let o = node_at w m.next in
      link_says m.next (λ j. ((seen w j).prev ≡ to i) × (((seen w j).parent ≡ (seen w i).parent) × ((seen w j).orientation ≡ (seen w i).orientation)))
      (both_say (link_to_says o.prev i small) (both_say (same_link_says o.parent m.parent) (orientation_says o.orientation m.orientation)))

  prev_says : Says (prev_agrees w i (node_at w (slot i))) ((j : ℕ) → (seen w i).prev ≡ to j → (seen w j).next ≡ to i)
  unfolding prev_agrees seen
  prev_says =
      let m = node_at w (slot i) in
      link_says m.prev (λ j. (seen w j).next ≡ to i) (link_to_says (node_at w m.prev).next i small)

  parent_says : Says (parent_agrees w (node_at w (slot i)))
      ((j : ℕ) → (seen w i).parent ≡ to j → ((seen w j).kind ≡ Container) × ((seen w j).orientation ≡ flip (seen w i).orientation))
  unfolding parent_agrees seen
  parent_says =
      let m = node_at w (slot i) in
      let o = node_at w m.parent in
      link_says m.parent (λ j. ((seen w j).kind ≡ Container) × ((seen w j).orientation ≡ flip (seen w i).orientation))
      (both_say (kind_says o.kind Container) (orientation_says o.orientation (flip m.orientation)))

  child_says : Says (child_agrees fs i (node_at w (slot i))) ((seen w i).kind ≡ Container → is_none (slot (get_or fs i 0)) ≡ false)
  unfolding child_agrees seen
  child_says = where_says (kind_says (node_at w (slot i)).kind Container) (λ k. not_says (is_none (slot (get_or fs i 0))))

  first_says : Says (first_agrees fs i (node_at w (slot i))) ((seen w i).prev ≡ none → (j : ℕ) → (seen w i).parent ≡ to j → get_or fs j 0 ≡ i)
  unfolding first_agrees seen
  first_says =
      let m = node_at w (slot i) in
      where_says (link_none m.prev) (λ v. link_says m.parent (λ j. get_or fs j 0 ≡ i) (equal_says (get_or fs m.parent.0 0) i))

  root_says : Says (root_agrees root i (node_at w (slot i))) ((((seen w i).parent ≡ none) × ((seen w i).prev ≡ none)) ↔ (i ≡ root))
  unfolding root_agrees seen
  root_says =
      let m = node_at w (slot i) in
      pick_says (both_say (link_none m.parent) (link_none m.prev)) (equal_says i root)

  -- EXACT: the test of slot i is rule 3 of the slot, if it is live.
  pub links_at_is : Says (links_at w fs n root i) (Live (seen w) n i → LinksHere (seen w) fs n root i)
  unfolding links_at siblings_agree family_agrees
  links_at_is =
      where_says (live_is w n i)
      (λ lv. says_as (both_say sane_says (both_say (both_say next_says prev_says) (both_say parent_says (both_say child_says (both_say first_says root_says))))) (
        λ s. record {
          parent_live = s.0.0;
          next_live = s.0.1.0;
          prev_live = s.0.1.1;
          next = s.1.0.0;
          prev = s.1.0.1;
          parent = s.1.1.0;
          child = s.1.1.1.0;
          first = s.1.1.1.1.0;
          top = s.1.1.1.1.1;
        },
        λ h. ((h.parent_live, (h.next_live, h.prev_live)), ((h.next, h.prev), (h.parent, (h.child, (h.first, h.top))))),
      ))
