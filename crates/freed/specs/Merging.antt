-- What each write of the climb leaves, as the rules see the table.
-- Assumes nothing.
use Rattle.std.specs.Prelude.{ℕ, ◌≤◌, ◌≡◌, false, List, length}
use Rattle.std.proofs.Common.{sym, ◌∙◌, inl, inr}
use Rattle.std.proofs.Math.Path.{ap}
use Rattle.std.proofs.Math.Bool.{true}
use Rattle.geometry.specs.Choice.{pick_elim}
use Rattle.geometry.specs.declared.Rectangle.{Rectangle}
use Rattle.slots.specs.Slots.{is_none}
use Rattle.table.specs.Table.{node_at, HasSlot}
use Rattle.stores.specs.Stores.{stored, toNext, toPrev, to_kind, to_rect}
use Rattle.stores.proofs.StoreLaws.{length_stored, has_stored, node_at_stored_same, node_at_stored_other}
use Rattle.slots.specs.declared.AllocIndex.{AllocIndex}
use Rattle.slots.specs.declared.NodeKind.TheVariants.{Free}
use Rattle.steps.specs.Spares.{marked_unused}
use Rattle.sound.specs.View.{to, link_of, Seen, seen}
use Rattle.sound.specs.Rules.{join}
use Rattle.sound.specs.ViewLaws.{to_inj, no_link}
use Rattle.links.specs.LinkLaws.{link_none, link_some}
use Rattle.changes.specs.Stands.{cell}
use Rattle.changes.specs.Merges.{Absorb, GiveUp}
use Rattle.grants.specs.Carves.{answered_by}
use Rattle.frees.specs.Climbs.{Level, level, absorbed, given_up}
use Rattle.granted.specs.Writes.{seen_same, seen_other, slot_link, NextApart}
use Rattle.freed.specs.Marks.{marked_gone, marked_other, length_marked}

-- Slot a absorbs b.
module _ (w : List ℕ) (few : length w ≤ 32768) (spare a b : AllocIndex) (ha : HasSlot w a) (hb : HasSlot w b) (ne : b.0 ≡ a.0 → ⊥)
    (free : (seen w a.0).kind ≡ Free) where
  r : Rectangle
  r = join (node_at w a).rect (node_at w b).rect

  x : AllocIndex
  x = (node_at w b).next

  -- The table with the joined rectangle and the link past b.
  two : List ℕ
  two = stored (stored w a (to_rect r)) a (toNext x)

  two_has : (j : AllocIndex) → HasSlot w j → HasSlot two j
  unfolding two
  two_has j h = has_stored (stored w a (to_rect r)) a j (toNext x) (has_stored w a j (to_rect r) h)

  two_taker : seen two a.0
      ≡ cell (seen w a.0).parent (seen w b.0).next (seen w a.0).prev Free (seen w a.0).orientation (join (seen w a.0).rect (seen w b.0).rect)
  unfolding seen two r x
  two_taker =
      seen_same (stored w a (to_rect r)) a (toNext x) (has_stored w a a (to_rect r) ha) ∙ rw (node_at_stored_same w a (to_rect r) ha, free)

  two_other : (j : ℕ) → (j ≡ a.0 → ⊥) → seen two j ≡ seen w j
  unfolding two
  two_other j n = seen_other (stored w a (to_rect r)) a (toNext x) j n ∙ seen_other w a (to_rect r) j n

  abbrev Absorbs : List ℕ → Type 0
  Absorbs u = Absorb (seen w) (seen (marked_unused u spare b)) a.0 b.0 × ((seen (marked_unused u spare b) b.0).next ≡ link_of spare)

  pub absorb_writes : NextApart w b.0 a.0 → Absorb (seen w) (seen (absorbed w spare a b).words) a.0 b.0 × ((seen (absorbed w spare a b).words b.0).next ≡ link_of spare)
  unfolding absorbed answered_by two r x seen
  absorb_writes next = pick_elim Absorbs (is_none x) two (stored two x (toPrev a)) last more
    where
      last : is_none x ≡ true → Absorbs two
      last e =
          let gone = marked_gone two spare b (two_has b hb) in (
            record {
              taker = marked_other two spare b a.0 (λ q. ne (sym q)) ∙ two_taker;
              gone = ap (λ (m : Seen). m.kind) gone;
              rest = record {
                moved = λ j q. absurd (no_link (sym ((link_none x).0 e) ∙ q));
                other = λ j m q. marked_other two spare b j (λ y. m (inr (inl y))) ∙ two_other j (λ y. m (inl y));
              };
            },
            ap (λ (m : Seen). m.next) gone,
          )

      more : is_none x ≡ false → Absorbs (stored two x (toPrev a))
      more e =
          let u = stored two x (toPrev a) in
          let to-x = link_some x e in
          let f = next x.0 to-x in
          let gone = marked_gone u spare b (has_stored two x b (toPrev a) (two_has b hb)) in (
            record {
              taker = marked_other u spare b a.0 (λ q. ne (sym q)) ∙ (seen_other two x (toPrev a) a.0 (λ q. f.2 (sym q)) ∙ two_taker);
              gone = ap (λ (m : Seen). m.kind) gone;
              rest = record {
                moved = λ j q. let y : x.0 ≡ j = to_inj (sym to-x ∙ q) in
                    rw (← y) (marked_other u spare b x.0 f.1
                    ∙ (seen_same two x (toPrev a) (two_has x f.0)
                    ∙ rw (node_at_stored_other (stored w a (to_rect r)) a x (toNext x) f.2, node_at_stored_other w a x (to_rect r) f.2, slot_link w few a ha)));
                other = λ j m q. marked_other u spare b j (λ y. m (inr (inl y)))
                    ∙ (seen_other two x (toPrev a) j (λ y. q (to-x ∙ ap to (sym y))) ∙ two_other j (λ y. m (inl y)));
              };
            },
            ap (λ (m : Seen). m.next) gone,
          )

pub length_absorbed : (w : List ℕ) (spare a b : AllocIndex) → length (absorbed w spare a b).words ≡ length w
unfolding absorbed answered_by
length_absorbed w spare a b =
    length_marked _ spare b ∙ pick_elim (λ (u : List ℕ). length u ≡ length w) (is_none (node_at w b).next) _ _ (λ _. simp length_stored) (λ _. simp length_stored)

-- An only child c gives its rectangle up to its parent p.
module _ (w : List ℕ) (spare c p : AllocIndex) (hc : HasSlot w c) (hp : HasSlot w p) (ne : c.0 ≡ p.0 → ⊥) where
  pub give_writes : (node_at w c).parent ≡ p
      → GiveUp (seen w) (seen (given_up (level w spare c)).words) p.0 c.0 × ((seen (given_up (level w spare c)).words c.0).next ≡ link_of spare)
  unfolding given_up seen
  give_writes e =
      let r = (node_at w c).rect in
      let one = stored w p (to_rect r) in
      let two = stored one p (to_kind Free) in
      let has : HasSlot two c = has_stored one p c (to_kind Free) (has_stored w p c (to_rect r) hc) in
      let gone = marked_gone two spare c has in
      rw e (
        record {
          taker = marked_other two spare c p.0 (λ q. ne (sym q))
              ∙ (seen_same one p (to_kind Free) (has_stored w p p (to_rect r) hp) ∙ rw (node_at_stored_same w p (to_rect r) hp));
          gone = ap (λ (m : Seen). m.kind) gone;
          other = λ j m. marked_other two spare c j (λ y. m (inr (inl y)))
              ∙ (seen_other one p (to_kind Free) j (λ y. m (inl y)) ∙ seen_other w p (to_rect r) j (λ y. m (inl y)));
        },
        ap (λ (m : Seen). m.next) gone,
      )

pub length_given : (l : Level) → length (given_up l).words ≡ length l.words
unfolding given_up
length_given l = length_marked _ l.spare l.at ∙ simp length_stored
