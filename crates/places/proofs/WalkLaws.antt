-- One step of the walk: what each function's answer follows from, that the count falls, and that the next call may be made.
-- Assumes nothing.
use Rattle.std.specs.Prelude.{◌≡◌, ◌↔◌, Bool, ◌&&◌, not, List, ℕ, ◌-◌, ◌≤◌, ◌<◌, length, get_or}
use Rattle.std.proofs.Math.Path.{refl, ap}
use Rattle.std.proofs.Common.{sym, ◌∙◌, arith, eq-eqb, ne_eqb}
use Rattle.std.proofs.Math.Bool.{true, false}
use Rattle.std.proofs.lemmas.Bool.{false≢true, eqb-false}
use Rattle.geometry.specs.Choice.{pick}
use Rattle.geometry.specs.Rectangles.{flip, empty_rect}
use Rattle.geometry.specs.TestLaws.{and_true_each}
use Rattle.geometry.specs.declared.Orientation.{Orientation}
use Rattle.geometry.specs.declared.Orientation.TheVariants.{Vertical, Horizontal}
use Rattle.geometry.specs.declared.Rectangle.{Rectangle}
use Rattle.slots.specs.Slots as slots
use Rattle.slots.specs.Slots.{is_none, same_kind}
use Rattle.table.specs.Table.{node_at}
use Rattle.slots.specs.declared.AllocIndex.{AllocIndex}
use Rattle.slots.specs.declared.Node.{Node}
use Rattle.slots.specs.declared.NodeKind.{NodeKind}
use Rattle.slots.specs.declared.NodeKind.TheVariants.{Container, Alloc, Free, Unused}
use Rattle.sound.specs.View.{Link, none, to, link_of, Seen, seen, in_use}
use Rattle.sound.specs.Rules.{Adjoin, join}
use Rattle.sound.specs.ViewLaws.{to_inj, no_link}
use Rattle.forest.specs.Forest.{Forest, empty, slot, head, Shape, shape_live}
use Rattle.forest.specs.Follows.{size, down}
use Rattle.forest.specs.Place.{SlotAt, PlaceF}
use Rattle.links.specs.LinkLaws.{link_none, link_some, link_of_slot, same_link_says, in_use_says}
use Rattle.links.specs.TestLaws.{Says, fails, both_say, says_as, less_says, kind_says, orientation_says}
use Rattle.joins.specs.Joins.{adjoins, out_of_slots, nothing_yet, own_place, stored_as, together, added}
use Rattle.standing.specs.Standing.{stands_as, is_lone, lone_at, held_by}
use Rattle.places.specs.Places.{kids_at, next_at, Ready, Held, Fitting, Standing, StoredAt, AtLast, StoredF, Chained, Contained, Slotted, Lined}
use Rattle.places.proofs.PlaceLaws.{clash, adjoins_true, true_adjoins, follows_one, slot_one, place_one, own_fits, last_fits, chain_fits, same_rect_says}
use Rattle.joins.specs.declared.Placed.{Placed}

-- A link that the test says is not none.
pub some_slot : {b : Bool} {l : AllocIndex} → b ≡ is_none l → b ≡ false → l.0 ≡ 4294967295 → ⊥
some_slot {l = l} e h = eqb-false l.0 4294967295 (sym e ∙ h)

-- The contents m of slot i, as the code read them.
module _ (w : List ℕ) (i : ℕ) {m : Node} (e : m ≡ node_at w (slots.slot i)) where
  kind_seen : (seen w i).kind ≡ m.kind
  unfolding seen
  kind_seen = ap (λ (n : Node). n.kind) (sym e)

  rect_seen : (seen w i).rect ≡ m.rect
  unfolding seen
  rect_seen = ap (λ (n : Node). n.rect) (sym e)

  orientation_seen : (seen w i).orientation ≡ m.orientation
  unfolding seen
  orientation_seen = ap (λ (n : Node). n.orientation) (sym e)

  parent_seen : (seen w i).parent ≡ link_of m.parent
  unfolding seen
  parent_seen = ap (λ (n : Node). link_of n.parent) (sym e)

  prev_seen : (seen w i).prev ≡ link_of m.prev
  unfolding seen
  prev_seen = ap (λ (n : Node). link_of n.prev) (sym e)

  next_seen : next_at w i ≡ link_of m.next
  unfolding seen next_at
  next_seen = ap (λ (n : Node). link_of n.next) (sym e)

-- What the tests say.
held_says : (n i left : ℕ) → Says (held_by n i left) ((i < n) × (0 < left))
unfolding held_by
held_says n i left = both_say (less_says i n) (less_says 0 left)

stands_says : (m : Node) (p v : AllocIndex) (o : Orientation)
    → Says (stands_as m p v o) ((link_of m.parent ≡ link_of p) × ((link_of m.prev ≡ link_of v) × ((m.orientation ≡ o) × (in_use m.kind ≡ true))))
unfolding stands_as
stands_says m p v o =
    both_say (same_link_says m.parent p) (both_say (same_link_says m.prev v) (both_say (orientation_says m.orientation o) (in_use_says m.kind)))

lone_says : (w : List ℕ) (n : ℕ) (i p : AllocIndex) (o : Orientation)
    → Says (lone_at w n i p o) ((i.0 < n) × (((node_at w i).kind ≡ Container) × ((is_none (node_at w i).next ≡ true) × (stands_as (node_at w i) p (slots.slot 4294967295) o ≡ true))))
unfolding lone_at is_lone
lone_says w n i p o = both_say (less_says i.0 n) (both_say (kind_says (node_at w i).kind Container) (both_say (λ e. e, λ e. e) (λ e. e, λ e. e)))

pub held_first : (n i left : ℕ) → held_by n i left ≡ true → (i < n) × (0 < left)
held_first n i left e = (held_says n i left).0 e

pub held_slot : (w fs : List ℕ) (i left : ℕ) (m : Node) (p v : AllocIndex) (o : Orientation) → held_by (length fs) i left ≡ true
    → m ≡ node_at w (slots.slot i) → stands_as m p v o ≡ true → Held w fs i m left
held_slot w fs i left m p v o h e s =
    let b = (held_says (length fs) i left).0 h in
    record { below = b.0; is = e; used = ((stands_says m p v o).0 s).1.1.1; some = b.1 }

-- What a slot in use leads down to is of its kind's shape.
shape_of : (k : NodeKind) (l : ℕ) (C : Forest) → in_use k ≡ true → down k (to l) ≡ head C → Shape k C
shape_of Container l empty u e = absurd (no_link (sym e))
shape_of Container l (slot a B S) u e = tt
shape_of Alloc l empty u e = tt
shape_of Alloc l (slot a B S) u e = absurd (no_link e)
shape_of Free l empty u e = tt
shape_of Free l (slot a B S) u e = absurd (no_link e)
shape_of Unused l C u e = absurd (false≢true u)

leaf_slot : (k : NodeKind) (mine : Rectangle) (P : Rectangle → Type 0) (l : Link) → in_use k ≡ true → same_kind k Container ≡ false
    → (down k l ≡ none) × Fitting (not (empty_rect mine)) (SlotAt k mine P) mine
leaf_slot Container mine P l u h = absurd (clash refl h)
leaf_slot Alloc mine P l u h = (refl, own_fits mine)
leaf_slot Free mine P l u h = (refl, own_fits mine)
leaf_slot Unused mine P l u h = absurd (false≢true u)

-- A slot takes one of the count at least.
pub slotted_less : {w fs : List ℕ} {i : ℕ} {o : Orientation} {left : ℕ} {a : Placed} → Slotted w fs i o left a → a.ended ≡ true → a.left < left
slotted_less s e = let g = s.ended e in omega (arith, g.3)

module _ {w fs : List ℕ} {i : ℕ} {m : Node} {left : ℕ} (h : Held w fs i m left) where
  -- An Alloc or Free slot stands alone, with its own rectangle for its place.
  pub slotted_leaf : {o : Orientation} {r : Placed} → same_kind m.kind Container ≡ false → r ≡ own_place m.rect left → Slotted w fs i o left r
  unfolding kids_at size
  slotted_leaf {o} {r} k z =
      record {
        ended = λ _. (
          empty,
          s.0,
          (tt, tt),
          omega (arith, ap (λ (q : Placed). q.left) z, h.some),
          rw (z, ← rect_seen w i h.is) s.1,
          λ _. (λ _ c. absurd (fails (kind_says m.kind Container) k (sym (kind_seen w i h.is) ∙ c)), λ _. ap (λ (q : Placed). q.stored) z),
        );
        out = λ e. absurd (clash (ap (λ (q : Placed). q.ended) z) e);
      }
    where
      s : (down (seen w i).kind (to (get_or fs i 0)) ≡ none)
          × Fitting (not (empty_rect (seen w i).rect)) (SlotAt (seen w i).kind (seen w i).rect (PlaceF (seen w) empty)) (seen w i).rect
      s =
          leaf_slot (seen w i).kind (seen w i).rect (PlaceF (seen w) empty) (to (get_or fs i 0)) (rw (kind_seen w i h.is) h.used)
          (rw (kind_seen w i h.is) k)

  -- A Container has its children's place, and takes one slot more than they do.
  pub slotted_children : {o : Orientation} {q r : Placed} → same_kind m.kind Container ≡ true → Contained w fs i (flip o) (left - 1) q
      → r ≡ stored_as q m.rect → Slotted w fs i o left r
  unfolding kids_at
  slotted_children {o} {q} {r} k c z =
      rw z
      (record {
        ended = λ e. let g = c.ended e in
            (g.0, rw is g.1, g.2, omega (arith, g.3, h.some), rw is g.4, λ f. (λ s _. rw (rect_seen w i h.is, ← (same_rect_says q.at m.rect).0 s) (rw f at g.4), λ s. (same_rect_says q.at m.rect).1 (place_one (seen w) g.0 q.at m.rect (rw f at g.4) (rw (← rect_seen w i h.is) (s is)))));
        out = λ e C d f l. c.out e C (rw is at d) f (omega (arith, h.some));
      })
    where
      is : (seen w i).kind ≡ Container
      is = kind_seen w i h.is ∙ (kind_says m.kind Container).0 k

stored_later : (get : ℕ → Seen) (x : Bool) (here : Type 0) (D : Forest) {j : ℕ} → head D ≡ to j → Says x (StoredF get D) → Says x (AtLast D here (StoredF get D))
stored_later get x here empty e s = absurd (no_link e)
stored_later get x here (slot j B T) e s = s

-- Slot i stands under p, after v, along o.
module _ {w fs : List ℕ} {i : ℕ} {m : Node} {left : ℕ} (h : Held w fs i m left) (p v : AllocIndex) (o : Orientation) (st : stands_as m p v o ≡ true) where
  stood : (link_of m.parent ≡ link_of p) × ((link_of m.prev ≡ link_of v) × ((m.orientation ≡ o) × (in_use m.kind ≡ true)))
  stood = (stands_says m p v o).0 st

  along : (seen w i).orientation ≡ o
  along = orientation_seen w i h.is ∙ stood.1.1.0

  -- With the chain C below it and the chain S after it, it is a chain.
  standing : (C S : Forest) → kids_at w fs i ≡ head C → next_at w i ≡ head S → Standing w fs (to i) none (flip o) C → Standing w fs (link_of p) (to i) o S
      → Standing w fs (link_of p) (link_of v) o (slot i C S)
  unfolding kids_at next_at
  standing C S kids next c s = (
    (kids, next, c.0, s.0),
    (
      record {
        below = h.below;
        parent = parent_seen w i h.is ∙ stood.0;
        prev = prev_seen w i h.is ∙ stood.1.0;
        orientation = along;
        next = next;
        shape = shape_of (seen w i).kind (get_or fs i 0) C (ap in_use (kind_seen w i h.is) ∙ h.used) kids;
      },
      c.1,
      s.1,
    ),
  )

  -- The last slot of a chain is a chain of one.
  pub chained_last : {r : Placed} → Slotted w fs i o left r → r.ended ≡ true → is_none m.next ≡ true → Chained w fs i (link_of p) (link_of v) o left r
  unfolding size
  chained_last {r} s e n =
      let g = s.ended e in
      record {
        ended = λ _. (
          slot i g.0 empty,
          refl,
          standing g.0 empty g.1 (next_seen w i h.is ∙ (link_none m.next).0 n) g.2 (tt, tt),
          omega (arith, g.3),
          last_fits r.fits (SlotAt (seen w i).kind (seen w i).rect (PlaceF (seen w) g.0)) r.at g.4,
          g.5,
        );
        out = λ x. absurd (clash e x);
      }

  -- Another chain is a slot and the chain that starts at its next.
  pub chained_more : {a b : Placed} → Slotted w fs i o left a → a.ended ≡ true → is_none m.next ≡ false
      → Chained w fs m.next.0 (link_of p) (to i) o a.left b → Chained w fs i (link_of p) (link_of v) o left (together o a b)
  unfolding size together
  chained_more {a} {b} s e n c = go b.ended refl
    where
      next : next_at w i ≡ to m.next.0
      next = next_seen w i h.is ∙ link_some m.next n

      both : Placed
      both = record { ended = true; fits = a.fits && (b.fits && adjoins o a.at b.at); at = join a.at b.at; stored = b.stored; left = b.left }

      out : b.ended ≡ false → (F : Forest) → head F ≡ to i → Standing w fs (link_of p) (link_of v) o F → size F ≤ left → ⊥
      out x empty hd f l = no_link hd
      out x (slot j C S) hd f l =
          let q = to_inj hd in
          let g = s.ended e in
          let same : g.0 ≡ C = follows_one (kids_at w fs) (next_at w) g.0 C g.2.0 f.0.2 (sym g.1 ∙ (ap (kids_at w fs) (sym q) ∙ f.0.0)) in
          c.out x S (sym f.0.1 ∙ (ap (next_at w) q ∙ next)) (f.0.3, rw q at f.1.2) (omega (arith, g.3, ap size same))

      go : (x : Bool) → b.ended ≡ x → Chained w fs i (link_of p) (link_of v) o left (pick x both b)
      go true y =
          let g = s.ended e in
          let d = c.ended y in
          record {
            ended = λ _. (
              slot i g.0 d.0,
              refl,
              standing g.0 d.0 g.1 (next ∙ sym d.1) g.2 d.2,
              omega (arith, g.3, d.3),
              rw (← along)
                  (chain_fits (seen w i).orientation d.0 m.next.0 d.1
                  (SlotAt (seen w i).kind (seen w i).rect (PlaceF (seen w) g.0)) (PlaceF (seen w) d.0)
                  (slot_one (seen w i).kind (seen w i).rect (PlaceF (seen w) g.0) (place_one (seen w) g.0)) (place_one (seen w) d.0)
                  a.fits b.fits a.at b.at g.4 d.4),
              λ f. stored_later (seen w) b.stored (StoredAt (seen w) i g.0) d.0 d.1
                  (d.5 (and_true_each b.fits _ (and_true_each a.fits _ f).1).0),
            );
            out = λ z. absurd (clash refl z);
          }
      go false y = record { ended = λ z. absurd (clash z y); out = λ _. out y }

  -- A chain whose first slot has more below it than the count allows, or no tree, has too.
  pub chained_out : {r : Placed} → Slotted w fs i o left r → r.ended ≡ false → Chained w fs i (link_of p) (link_of v) o left r
  unfolding size
  chained_out {r} s e = record { ended = λ x. absurd (clash x e); out = λ _. out }
    where
      out : (F : Forest) → head F ≡ to i → Standing w fs (link_of p) (link_of v) o F → size F ≤ left → ⊥
      out empty hd f l = no_link hd
      out (slot j C S) hd f l = let q = to_inj hd in s.out e C (rw (← q) f.0.0) (f.0.2, rw q at f.1.1) (omega arith)

-- No chain starts at a slot that is not one of the table's, or for which none of the count is left,
pub chained_not_held : (w fs : List ℕ) (i : ℕ) (p v : Link) (o : Orientation) (left : ℕ) → held_by (length fs) i left ≡ false
    → Chained w fs i p v o left out_of_slots
unfolding size
chained_not_held w fs i p v o left e = record { ended = λ x. absurd (false≢true x); out = λ _. out }
  where
    out : (F : Forest) → head F ≡ to i → Standing w fs p v o F → size F ≤ left → ⊥
    out empty hd f l = no_link hd
    out (slot j C S) hd f l = fails (held_says (length fs) i left) e (rw (← to_inj hd) f.1.0.below, omega arith)

-- nor at one that does not stand where it was found.
pub chained_astray : (w fs : List ℕ) (i : ℕ) (m : Node) (p v : AllocIndex) (o : Orientation) (left : ℕ) → m ≡ node_at w (slots.slot i)
    → stands_as m p v o ≡ false → Chained w fs i (link_of p) (link_of v) o left out_of_slots
chained_astray w fs i m p v o left is e = record { ended = λ x. absurd (false≢true x); out = λ _. out }
  where
    out : (F : Forest) → head F ≡ to i → Standing w fs (link_of p) (link_of v) o F → size F ≤ left → ⊥
    out empty hd f l = no_link hd
    out (slot j C S) hd f l =
        let q = to_inj hd in
        let here = f.1.0 in
        fails (stands_says m p v o) e (
          sym (parent_seen w i is) ∙ rw (← q) here.parent,
          (
            sym (prev_seen w i is) ∙ rw (← q) here.prev,
            (sym (orientation_seen w i is) ∙ rw (← q) here.orientation, ap in_use (sym (kind_seen w i is)) ∙ rw (← q) (shape_live (seen w j).kind C here.shape)),
          ),
        )

-- The chain of a Container's children is what it contains.
pub contained_chain : (w fs : List ℕ) (t : Ready w fs) (j i : AllocIndex) (o : Orientation) (left : ℕ) {r : Placed} → i.0 < length fs
    → j.0 ≡ get_or fs i.0 0 → Chained w fs j.0 (link_of i) none o left r → Contained w fs i.0 o left r
contained_chain w fs t j i o left {r} b q c =
    record {
      ended = λ e. let g = d.ended e in (g.0, ap to (sym q) ∙ sym g.1, g.2, g.3, g.4);
      out = λ e C h f l. d.out e C (sym h ∙ ap to (sym q)) f l;
    }
  where
    d : Chained w fs j.0 (to i.0) none o left r
    d = rw (link_of_slot i.0 (omega (arith, t.few))) at c

-- The line of Containers that starts at i, one slot longer.
pub lined_start : (w fs : List ℕ) (i : ℕ) (o : Orientation) (left : ℕ) → i < length fs → Lined w fs i o left i o left
lined_start w fs i o left b = record { below = b; less = omega arith; same = λ r c. c }

pub lined_on : (w fs : List ℕ) (t : Ready w fs) (i : ℕ) (o : Orientation) (left : ℕ) (j c : AllocIndex) (d : Orientation) (rest : ℕ)
    → Lined w fs i o left j.0 d rest → 0 < rest → c.0 ≡ get_or fs j.0 0 → lone_at w (length fs) c j d ≡ true
    → Lined w fs i o left c.0 (flip d) (rest - 1)
unfolding link_of
lined_on w fs t i o left j c d rest L b q e =
    record {
      below = said.0;
      less = omega (arith, L.less);
      same = λ r x. L.same r (again r (contained_chain w fs t c j d rest L.below q (one r x)));
    }
  where
    said : (c.0 < length fs) × (((node_at w c).kind ≡ Container) × ((is_none (node_at w c).next ≡ true) × (stands_as (node_at w c) j (slots.slot 4294967295) d ≡ true)))
    said = (lone_says w (length fs) c j d).0 e

    held : Held w fs c.0 (node_at w c) rest
    held = record { below = said.0; is = refl; used = ap in_use said.1.0; some = b }

    one : (r : Placed) → Contained w fs c.0 (flip d) (rest - 1) r → Chained w fs c.0 (link_of j) none d rest (stored_as r (node_at w c).rect)
    one r x = go r.ended refl
      where
        s : Slotted w fs c.0 d rest (stored_as r (node_at w c).rect)
        s = slotted_children held ((kind_says (node_at w c).kind Container).1 said.1.0) x refl

        go : (y : Bool) → r.ended ≡ y → Chained w fs c.0 (link_of j) none d rest (stored_as r (node_at w c).rect)
        go true y = chained_last held j (slots.slot 4294967295) d said.1.1.1 s y said.1.1.0
        go false y = chained_out held j (slots.slot 4294967295) d said.1.1.1 s y

    again : (r : Placed) → Contained w fs j.0 d rest (stored_as r (node_at w c).rect) → Contained w fs j.0 d rest r
    again r x = record { ended = x.ended; out = x.out }

-- THE LOOP OVER A CHAIN. Two tests of the same are one.
says_same : {a b : Bool} {P : Type 0} → Says a P → Says b P → a ≡ b
says_same {a = true} {b = true} s t = refl
says_same {a = true} {b = false} s t = sym (t.1 (s.0 refl))
says_same {a = false} {b = true} s t = s.1 (t.0 refl)
says_same {a = false} {b = false} s t = refl

adjoins_says : (o : Orientation) (r s : Rectangle) → Says (adjoins o r s) (Adjoin o r s)
adjoins_says o r s = (adjoins_true o r s, true_adjoins o r s)

-- Joining is one, from whichever side.
adjoin_join : (o : Orientation) (r s t : Rectangle) → (Adjoin o s t × Adjoin o r (join s t)) ↔ (Adjoin o r s × Adjoin o (join r s) t)
adjoin_join Vertical r s t = (
  λ h. ((h.1.0, h.1.1, h.1.2 ∙ sym h.0.2), (h.0.0, h.1.1 ∙ h.0.1, h.0.2)),
  λ h. ((h.1.0, sym h.0.1 ∙ h.1.1, h.1.2), (h.0.0, h.0.1, h.0.2 ∙ h.1.2)),
)
adjoin_join Horizontal r s t = (
  λ h. ((h.1.0, h.1.1, h.1.2 ∙ sym h.0.2), (h.0.0, h.1.1 ∙ h.0.1, h.0.2)),
  λ h. ((h.1.0, sym h.0.1 ∙ h.1.1, h.1.2), (h.0.0, h.0.1, h.0.2 ∙ h.1.2)),
)

and-false : (a : Bool) → a && false ≡ false
and-false true = refl
and-false false = refl

fits_join : (o : Orientation) (r s t : Rectangle) (f g h : Bool)
    → f && ((g && (h && adjoins o s t)) && adjoins o r (join s t)) ≡ (f && (g && adjoins o r s)) && (h && adjoins o (join r s) t)
fits_join o r s t false g h = refl
fits_join o r s t true false h = refl
fits_join o r s t true true false = sym (and-false (adjoins o r s))
fits_join o r s t true true true =
    says_same (says_as (both_say (adjoins_says o s t) (adjoins_says o r (join s t))) (adjoin_join o r s t))
    (both_say (adjoins_says o r s) (adjoins_says o (join r s) t))

together_join : (o : Orientation) (s a q : Placed) → a.ended ≡ true → together o s (together o a q) ≡ together o (together o s a) q
unfolding together
together_join o s a q e = go q.ended refl
  where
    go : (x : Bool) → q.ended ≡ x → together o s (together o a q) ≡ together o (together o s a) q
    go true x =
        rw (x, e)
        (ap (λ f. record { ended = true; fits = f; at = join s.at (join a.at q.at); stored = q.stored; left = q.left })
        (fits_join o s.at a.at q.at s.fits a.fits q.fits))
    go false x = rw x

-- What did not end ends the whole.
added_unended : (o : Orientation) (v : AllocIndex) (s q : Placed) → q.ended ≡ false → added o v s q ≡ q
unfolding added together
added_unended o v s q e = go (is_none v)
  where
    go : (b : Bool) → pick b q (together o s q) ≡ q
    go true = refl
    go false = rw e

-- With `sum` seen and the slot at `at` to come, after v: what comes is to be added, and if nothing comes the chain is seen.
pub record Going (w fs : List ℕ) (first : ℕ) (p : AllocIndex) (o : Orientation) (left : ℕ) (at : ℕ) (v : AllocIndex) (sum : Placed) : Type 0 where
  pub less : sum.left ≤ left
  pub more : (at ≡ 4294967295 → ⊥) → (q : Placed) → Chained w fs at (link_of p) (link_of v) o sum.left q → Chained w fs first (link_of p) none o left (added o v sum q)
  pub done : at ≡ 4294967295 → Chained w fs first (link_of p) none o left sum

pub going_start : (w fs : List ℕ) (t : Ready w fs) (first : ℕ) (p : AllocIndex) (o : Orientation) (left : ℕ) {s : Placed} → s ≡ nothing_yet left
    → Going w fs first p o left first (slots.slot 4294967295) s
unfolding added link_of size
going_start w fs t first p o left {s} z =
    rw z (record { less = omega arith; more = λ _ q c. c; done = λ e. record { ended = λ x. absurd (false≢true x); out = λ _. out e } })
  where
    out : first ≡ 4294967295 → (F : Forest) → head F ≡ to first → Standing w fs (link_of p) none o F → size F ≤ left → ⊥
    out e empty hd f l = no_link hd
    out e (slot j C S) hd f l = omega (arith, f.1.0.below, to_inj hd, t.few)

module _ {w fs : List ℕ} {first : ℕ} {p : AllocIndex} {o : Orientation} {left at : ℕ} {v : AllocIndex} {sum : Placed}
    (G : Going w fs first p o left at v sum) (some : at ≡ 4294967295 → ⊥) where
  -- What comes does not end.
  pub going_out : {r : Placed} → r.ended ≡ false → Chained w fs at (link_of p) (link_of v) o sum.left r → Chained w fs first (link_of p) none o left r
  going_out {r} e c = rw (added_unended o v sum r e) at (G.more some r c)

  module _ {m : Node} (h : Held w fs at m sum.left) (st : stands_as m p v o ≡ true) {a : Placed} (s : Slotted w fs at m.orientation sum.left a) where
    slotted : Slotted w fs at o sum.left a
    slotted = rw ((stands_says m p v o).0 st).1.1.0 at s

    pub going_unended : a.ended ≡ false → Chained w fs first (link_of p) none o left a
    going_unended e = going_out e (chained_out h p v o st slotted e)

    -- A slot more is seen.
    pub going_on : {s' : Placed} → a.ended ≡ true → s' ≡ added o v sum a → at < 4096 → Going w fs first p o left m.next.0 (slots.slot at) s'
    unfolding added together
    going_on {s'} e z small = rw z (record {
      less = omega (arith, left_is (is_none v), slotted_less slotted e, G.less);
      more = λ ne q c. rw (not_none) (rw (joined q) at (G.more some (together o a q) (chained_more h p v o st slotted e (ne_eqb m.next.0 4294967295 ne) (rw (link_of_slot at small, left_is (is_none v)) at c))));
      done = λ ne. G.more some a (chained_last h p v o st slotted e (eq-eqb m.next.0 4294967295 ne));
    })
      where
        left_is : (b : Bool) → (pick b a (together o sum a)).left ≡ a.left
        left_is true = refl
        left_is false = rw e

        not_none : is_none (slots.slot at) ≡ false
        not_none = ne_eqb at 4294967295 (λ x. omega arith)

        joined : (q : Placed) → pick (is_none v) (together o a q) (together o sum (together o a q)) ≡ together o (pick (is_none v) a (together o sum a)) q
        joined q = go (is_none v)
          where
            go : (b : Bool) → pick b (together o a q) (together o sum (together o a q)) ≡ together o (pick b a (together o sum a)) q
            go true = refl
            go false = together_join o sum a q e

  pub going_less : {d : Orientation} {a : Placed} → Slotted w fs at d sum.left a → a.ended ≡ true → (added o v sum a).left < sum.left
  unfolding added together
  going_less {d} {a} s e = go (is_none v)
    where
      go : (b : Bool) → (pick b a (together o sum a)).left < sum.left
      go true = slotted_less s e
      go false = rw e (slotted_less s e)
