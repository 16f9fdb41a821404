-- The laws by which growing across is proved, from what each call ensures.
-- Assumes nothing.
use Rattle.std.specs.Prelude.{◌≡◌, List, [], ◌∷◌, ℕ, ◌≤◌}
use Rattle.std.proofs.Math.Path.{refl, ap}
use Rattle.std.proofs.Common.{◌∙◌, inl, inr, arith}
use Rattle.std.proofs.Math.ListN.{length}
use Rattle.geometry.specs.Rectangles.{flip, no_rect}
use Rattle.geometry.specs.Sides.{setup_of}
use Rattle.geometry.specs.declared.Orientation.{Orientation}
use Rattle.geometry.specs.declared.Rectangle.{Rectangle}
use Rattle.geometry.specs.declared.Setup.{Setup}
use Rattle.slots.specs.Slots.{none}
use Rattle.slots.specs.declared.AllocIndex.{AllocIndex}
use Rattle.slots.specs.declared.Node.{Node}
use Rattle.slots.specs.declared.NodeKind.TheVariants.{Container}
use Rattle.table.specs.Table.{node_at, HasSlot}
use Rattle.buckets.specs.FreeLists.{Lists, lists}
use Rattle.steps.specs.State.{State, state, lists_of}
use Rattle.steps.specs.declared.Head.{Head}
use Rattle.sound.specs.View.{link_of, Seen}
use Rattle.entries.specs.Entries.{entered, Enterable}
use Rattle.entries.specs.EntryLaws.{ready_enterable, ready_words}
use Rattle.grants.specs.Carves.{pair_under}
use Rattle.grants.specs.Grants.{with_lists}
use Rattle.pairs.specs.Pairs.{Pair, two_nodes, CanTake}
use Rattle.granted.specs.NewSlots.{Taking, start_taking, slot_taken, new_has_slot}
use Rattle.granted.specs.SoundFacts.{lists_ready}
use Rattle.granted.specs.Takes.{can_take}
use Rattle.granted.specs.Writes.{pair_writes, length_pair}
use Rattle.grows.specs.Grows.{with_root, reparented, grown_across}
use Rattle.grown.specs.Reparents.{length_reparented}
use Rattle.stretches.specs.Chains.{ChainHas}
use Rattle.growing.specs.TopLaws.{top_kept}
use Rattle.across.specs.Ready.{crossed, RootReady, AcrossReady}

module _ {w g : List ℕ} {h : Head} (R : RootReady w g h) where
  -- The root is in the table, and two slots can be taken.
  pub root_has : HasSlot w h.root
  root_has = omega (arith, R.links.near.root_live.0, R.fits, R.eight)

  none_yet : Taking w g h [] g h
  none_yet = start_taking w g h R.chain R.fits

  pub two_can : CanTake 2 w g h
  two_can = can_take 2 R.few (omega (arith, R.eight)) none_yet (omega (arith, R.spare))

  module _ {p : Pair} (takes : p ≡ two_nodes w g h) where
    -- They are new slots of the table,
    new_ones_lem : Taking w g h (p.second.0 ∷ p.first.0 ∷ []) p.generations p.head
    unfolding two_nodes
    new_ones_lem =
        rw takes
        (slot_taken R.few (slot_taken R.few none_yet _ refl (omega (arith, R.spare))) _ refl (omega (arith, R.spare)))

    pub pair_has : HasSlot w p.second × HasSlot w p.first
    pair_has =
        let has = new_has_slot R.few new_ones_lem (omega (arith, R.eight)) in
        (has p.second.0 (inl refl), has p.first.0 (inr (inl refl)))

    -- and where they are written the top chain keeps its links onwards.
    pub chain_kept : {u : List ℕ} (o : Orientation) (z r : Rectangle) → u ≡ pair_under w none o p.second Container z p.first r → ChainHas h.count u h.root
    unfolding link_of
    chain_kept o z r e =
        let P = pair_writes w (omega (arith, R.eight, R.few)) none o p.second Container z p.first r refl pair_has.0 pair_has.1 (λ q. new_ones_lem.distinct.0 (inl q)) in
        rw e
        (top_kept w (pair_under w none o p.second Container z p.first r) h.count h.root.0 R.links
        (rw (length_pair w none o p.second Container z p.first r) (omega (arith, R.fits, R.eight)))
        (λ j v. ap (λ (m : Seen). m.next) (P.other j (λ x. new_ones_lem.taken.idle j x v))) h.count h.root refl)

-- What the stores leave.
pub crossed_done : (w : List ℕ) (h : Head) (t f : AllocIndex) (r : Rectangle) (m : Node) (o : Orientation) (z : Rectangle) (u v : List ℕ)
    → m ≡ node_at w h.root → o ≡ flip m.orientation → z ≡ no_rect → u ≡ pair_under w none o t Container z f r
    → v ≡ reparented h.count u t h.root → v ≡ crossed w h t f r
unfolding crossed
crossed_done w h t f r m o z u v em eo ez eu ev = rw (ev, eu, ez, eo, em)

module _ {s : State} {r : Rectangle} (R : AcrossReady s r) where
  -- Tables that are ready for the whole are for the new root,
  pub root_ready : RootReady s.words s.generations s.head
  root_ready = record {
    few = R.lent.few;
    eight = R.lent.eight;
    fits = R.fills.rule1.fits;
    chain = R.fills.rule2;
    links = R.fills.rule3;
    spare = R.spare;
  }

  -- and the Free slot can be entered after it.
  pub free_enters : {p : Pair} {u : List ℕ} → p ≡ two_nodes s.words s.generations s.head → u ≡ crossed s.words s.head p.second p.first r
      → Enterable u p.first.0 (lists_of s) × (r.x0 ≤ r.x1) × (r.y0 ≤ r.y1)
  unfolding crossed
  free_enters {p} {u} ep eu =
      let same : length u ≡ length s.words =
      ap length eu ∙ (length_reparented s.head.count _ p.second s.head.root ∙ length_pair s.words none _ p.second Container no_rect p.first r) in (
        ready_enterable u p.first.0 (lists_of s) (ready_words s.words u (lists_of s) same (lists_ready s R.lent R.fills.rule1))
            (omega (arith, same, (pair_has root_ready ep).1)),
        R.wide,
        R.tall,
      )

-- That is growing across.
pub across_done : (h : Head) (w g a b c : List ℕ) (r : Rectangle) (p : Pair) (u : List ℕ) (t : Setup) (l : Lists)
    → p ≡ two_nodes w g h → u ≡ crossed w h p.second p.first r → t ≡ setup_of h.sheet h.options
    → l ≡ entered u t p.first r (lists h.lengths a b c) → with_lists (with_root p.head p.second) u p.generations l ≡ grown_across (state h w g a b c) r
unfolding grown_across crossed two_nodes
across_done h w g a b c r p u t l ep eu et el = rw (el, et, eu, ep)
