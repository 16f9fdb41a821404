-- The laws of places: what the tests say, that a link has one forest and a forest one place, and what the answer for a chain tells.
-- Assumes nothing.
use Rattle.std.specs.Prelude.{◌≡◌, refl, Bool, true, false, ◌&&◌, not, List, ℕ, ◌+◌, ◌≤◌, eqb, leb}
use Rattle.std.proofs.Common.{sym, ◌∙◌, ap, true≢false, ⊎_elim, arith, eqb-true, eq-eqb, leb-true, leb-false}
use Rattle.geometry.specs.Rectangles.{empty_rect}
use Rattle.geometry.specs.TestLaws.{and_true_each, or_true_one, or_false_each}
use Rattle.geometry.specs.declared.Orientation.{Orientation}
use Rattle.geometry.specs.declared.Orientation.TheVariants.{Vertical, Horizontal}
use Rattle.geometry.specs.declared.Rectangle.{Rectangle}
use Rattle.slots.specs.declared.NodeKind.{NodeKind}
use Rattle.slots.specs.declared.NodeKind.TheVariants.{Container, Alloc, Free, Unused}
use Rattle.sound.specs.View.{Link, to, Seen, seen}
use Rattle.sound.specs.Rules.{NotEmpty, Adjoin, join}
use Rattle.sound.specs.ViewLaws.{to_inj, no_link}
use Rattle.forest.specs.Forest.{Forest, empty, slot, head}
use Rattle.forest.specs.Follows.{Follows, size}
use Rattle.forest.specs.Place.{SlotAt, Then, PlaceF}
use Rattle.links.specs.TestLaws.{Says, both_say, says_as, equal_says}
use Rattle.joins.specs.Joins.{same_rect, adjoins}
use Rattle.places.specs.Places.{kids_at, next_at, Fitting, Standing, StoredF, Chained}
use Rattle.joins.specs.declared.Placed.{Placed}

pub clash : {b : Bool} → b ≡ true → b ≡ false → ⊥
clash p q = true≢false (sym p ∙ q)

three_true : (a b c d e f : ℕ) → (eqb a b && (eqb c d && eqb e f)) ≡ true → (a ≡ b) × (c ≡ d) × (e ≡ f)
three_true a b c d e f h =
    let x = and_true_each (eqb a b) (eqb c d && eqb e f) h in
    let y = and_true_each (eqb c d) (eqb e f) x.1 in
    (eqb-true a b x.0, eqb-true c d y.0, eqb-true e f y.1)

true_three : (a b c d e f : ℕ) → (a ≡ b) × (c ≡ d) × (e ≡ f) → (eqb a b && (eqb c d && eqb e f)) ≡ true
true_three a b c d e f h = rw (eq-eqb a b h.0, eq-eqb c d h.1, eq-eqb e f h.2) refl

rect_from : (r s : Rectangle) → r.x0 ≡ s.x0 → r.y0 ≡ s.y0 → r.x1 ≡ s.x1 → r.y1 ≡ s.y1 → r ≡ s
rect_from r s a b c d =
    ap (λ x. record { x0 = x; y0 = r.y0; x1 = r.x1; y1 = r.y1 }) a
    ∙ (ap (λ x. record { x0 = s.x0; y0 = x; x1 = r.x1; y1 = r.y1 }) b
    ∙ (ap (λ x. record { x0 = s.x0; y0 = s.y0; x1 = x; y1 = r.y1 }) c ∙ ap (λ x. record { x0 = s.x0; y0 = s.y0; x1 = s.x1; y1 = x }) d))

-- Two rectangles are the same exactly where the test says so.
pub same_rect_says : (r s : Rectangle) → Says (same_rect r s) (r ≡ s)
unfolding same_rect
same_rect_says r s =
    says_as (both_say (equal_says r.x0 s.x0) (both_say (equal_says r.y0 s.y0) (both_say (equal_says r.x1 s.x1) (equal_says r.y1 s.y1)))) (
      λ e. rect_from r s e.0 e.1.0 e.1.1.0 e.1.1.1,
      λ e. (ap (λ (q : Rectangle). q.x0) e, (ap (λ (q : Rectangle). q.y0) e, (ap (λ (q : Rectangle). q.x1) e, ap (λ (q : Rectangle). q.y1) e))),
    )

-- Where the test says yes, the second adjoins the first.
pub adjoins_true : (o : Orientation) (r s : Rectangle) → adjoins o r s ≡ true → Adjoin o r s
unfolding adjoins
adjoins_true Vertical r s h = three_true r.y1 s.y0 r.x0 s.x0 r.x1 s.x1 h
adjoins_true Horizontal r s h = three_true r.x1 s.x0 r.y0 s.y0 r.y1 s.y1 h

-- Where the second adjoins the first, the test says yes.
pub true_adjoins : (o : Orientation) (r s : Rectangle) → Adjoin o r s → adjoins o r s ≡ true
unfolding adjoins
true_adjoins Vertical r s h = true_three r.y1 s.y0 r.x0 s.x0 r.x1 s.x1 h
true_adjoins Horizontal r s h = true_three r.x1 s.x0 r.y0 s.y0 r.y1 s.y1 h

-- One forest follows from a link.
pub follows_one : (kids next : ℕ → Link) (F G : Forest) → Follows kids next F → Follows kids next G → head F ≡ head G → F ≡ G
follows_one kids next empty empty f g e = refl
follows_one kids next empty (slot j D T) f g e = absurd (no_link e)
follows_one kids next (slot i C S) empty f g e = absurd (no_link (sym e))
follows_one kids next (slot i C S) (slot j D T) f g e =
    let q = to_inj e in
    let c = follows_one kids next C D f.2 g.2 (sym f.0 ∙ (ap kids q ∙ g.0)) in
    let s = follows_one kids next S T f.3 g.3 (sym f.1 ∙ (ap next q ∙ g.1)) in
    cc

-- What holds of one rectangle at most.
abbrev pub One : (Rectangle → Type 0) → Type 0
One P = (q r : Rectangle) → P q → P r → q ≡ r

-- A slot has one place, where its children have.
pub slot_one : (k : NodeKind) (mine : Rectangle) (P : Rectangle → Type 0) → One P → One (SlotAt k mine P)
slot_one Container mine P h q r a b = h q r a b
slot_one Alloc mine P h q r a b = a.1 ∙ sym b.1
slot_one Free mine P h q r a b = a.1 ∙ sym b.1
slot_one Unused mine P h q r a b = absurd a

then_one : (S : Forest) (o : Orientation) (x y : Rectangle) → x ≡ y → (P : Rectangle → Type 0) → One P
    → (q r : Rectangle) → Then S o x P q → Then S o y P r → q ≡ r
then_one empty o x y e P h q r a b = a ∙ (e ∙ sym b)
then_one (slot j B T) o x y e P h q r a b = let z = h a.0 b.0 a.1 b.1 in a.3 ∙ (rw (e, z) refl ∙ sym b.3)

-- A forest has one place.
pub place_one : (get : ℕ → Seen) (F : Forest) (q r : Rectangle) → PlaceF get F q → PlaceF get F r → q ≡ r
place_one get empty q r a b = absurd a
place_one get (slot i C S) q r a b =
    then_one S (get i).orientation a.0 b.0
    (slot_one (get i).kind (get i).rect (PlaceF get C) (place_one get C) a.0 b.0 a.1 b.1)
    (PlaceF get S) (place_one get S) q r a.2 b.2

-- A verdict on what has one place names that place, and no other.
pub fitting_is : (b : Bool) (P : Rectangle → Type 0) → One P → (r s : Rectangle) → Fitting b P r → P s → (b ≡ true) × (r ≡ s)
fitting_is true P one r s f h = (refl, one r s f h)
fitting_is false P one r s f h = absurd (f s h)

-- An Alloc or Free slot fits just where its rectangle is not empty, and its place is that rectangle.
pub own_fits : (r : Rectangle) → Fitting (not (empty_rect r)) (λ q. NotEmpty r × (q ≡ r)) r
unfolding empty_rect
own_fits r = go (empty_rect r) refl
  where
    go : (b : Bool) → empty_rect r ≡ b → Fitting (not b) (λ q. NotEmpty r × (q ≡ r)) r
    go true e =
        λ q h. ⊎_elim (λ x. omega (arith, leb-true r.x1 r.x0 x)) (λ y. omega (arith, leb-true r.y1 r.y0 y))
        (or_true_one (leb r.x1 r.x0) (leb r.y1 r.y0) e)
    go false e =
        let z = or_false_each (leb r.x1 r.x0) (leb r.y1 r.y0) e in
        ((leb-false r.x1 r.x0 z.0, leb-false r.y1 r.y0 z.1), refl)

-- A chain of one slot has that slot's place.
pub last_fits : (b : Bool) (P : Rectangle → Type 0) (r : Rectangle) → Fitting b P r → Fitting b (λ t. (q : Rectangle) × P q × (t ≡ q)) r
last_fits true P r f = (r, f, refl)
last_fits false P r f = λ t h. f h.0 h.1

-- A chain fits just where its first slot fits, the rest fits, and they adjoin.
pub chain_fits : (o : Orientation) (S : Forest) (j : ℕ) → head S ≡ to j → (P Q : Rectangle → Type 0) → One P → One Q
    → (x y : Bool) (r s : Rectangle) → Fitting x P r → Fitting y Q s
    → Fitting (x && (y && adjoins o r s)) (λ t. (q : Rectangle) × P q × Then S o q Q t) (join r s)
chain_fits o empty j e P Q oneP oneQ x y r s f g = absurd (no_link e)
chain_fits o (slot a B T) j e P Q oneP oneQ false y r s f g = λ t h. f h.0 h.1
chain_fits o (slot a B T) j e P Q oneP oneQ true false r s f g = λ t h. g h.2.0 h.2.1
chain_fits o (slot a B T) j e P Q oneP oneQ true true r s f g = go (adjoins o r s) refl
  where
    go : (b : Bool) → adjoins o r s ≡ b → Fitting b (λ t. (q : Rectangle) × P q × Then (slot a B T) o q Q t) (join r s)
    go true z = (r, f, (s, g, adjoins_true o r s z, refl))
    go false z =
        λ t h. let p = oneP r h.0 f h.1 in
        let q = oneQ s h.2.0 g h.2.1 in
        clash (true_adjoins o r s (rw (p, q) h.2.2)) z

-- The answer r for the chain that starts at slot i, with k slots to spend, of which a forest F stands in the tables.
module _ {w fs : List ℕ} {i : ℕ} {p v : Link} {o : Orientation} {k : ℕ} {r : Placed} (c : Chained w fs i p v o k r)
    (F : Forest) (h : head F ≡ to i) (f : Standing w fs p v o F) (l : size F ≤ k) where
  -- It ended, and leaves what the forest does not take.
  pub standing_ended : (r.ended ≡ true) × (size F + r.left ≡ k) × Fitting r.fits (PlaceF (seen w) F) r.at
      × (r.fits ≡ true → Says r.stored (StoredF (seen w) F))
  standing_ended = go r.ended refl
    where
      go : (b : Bool) → r.ended ≡ b
          → (r.ended ≡ true) × (size F + r.left ≡ k) × Fitting r.fits (PlaceF (seen w) F) r.at × (r.fits ≡ true → Says r.stored (StoredF (seen w) F))
      go true e =
          let g = c.ended e in
          let z : g.0 ≡ F = follows_one (kids_at w fs) (next_at w) g.0 F g.2.0 f.0 (g.1 ∙ sym h) in
          (e, rw z at g.3, rw z at g.4, rw z at g.5)
      go false e = absurd (c.out e F h f l)

  -- Where it fits, the forest has the place r .at, and the verdict on its last slot is right.
  pub fits_placed : r.fits ≡ true → PlaceF (seen w) F r.at
  fits_placed e = rw e at standing_ended.2

  pub fits_stored : r.fits ≡ true → Says r.stored (StoredF (seen w) F)
  fits_stored e = standing_ended.3 e

  -- Where the forest has a place, it fits, and r.at is that place.
  pub placed_fits : (q : Rectangle) → PlaceF (seen w) F q → (r.fits ≡ true) × (r.at ≡ q)
  placed_fits q h = fitting_is r.fits (PlaceF (seen w) F) (place_one (seen w) F) r.at q standing_ended.2 h
