-- A step at one slot: the part of the forest that starts there is swapped for another, and rules 3, 5 and 7 are kept.
-- Assumes nothing.
use Rattle.std.specs.Prelude.{ℕ, ◌≤◌, ◌<◌, ◌≡◌, refl, ◌⊎◌, List, [], ◌++◌}
use Rattle.std.proofs.Common.{sym, ◌∙◌, ap, inl, inr, ⊎_elim, arith}
use Rattle.geometry.specs.Rectangles.{flip}
use Rattle.geometry.specs.declared.Orientation.{Orientation}
use Rattle.geometry.specs.declared.Rectangle.{Rectangle}
use Rattle.sound.specs.View.{Link, none, to, Seen, Live, in_use}
use Rattle.sound.specs.Rules.{PlaceChain}
use Rattle.sound.specs.Sound.{Linked, LastTrue}
use Rattle.sound.specs.ViewLaws.{to_inj, no_link}
use Rattle.forest.specs.Pigeon.{In, Distinct, In-dec}
use Rattle.forest.specs.Forest.{Forest, empty, slot, head, slots, Rep, Represents, in_left, in_right, in_cases, in_children, in_after, rep_distinct}
use Rattle.forest.specs.Bridge.{forest}
use Rattle.forest.specs.Back.{by_place, in_live, linked}
use Rattle.forest.specs.Place.{PlaceF}
use Rattle.changes.specs.Gaps.{Gap, plug, rim, parent_at, prev_at, orientation_at, locate, in_plug, rim_in, rim_apart, distinct_fill, rep_fill}
use Rattle.changes.specs.Frame.{SameBody, same_body, rep_same, place_fill, placed_chain, frame, frame_placed}
use Rattle.changes.specs.Lasts.{LastF, last_replace, last_forest, forest_last}

-- WHAT A STEP WRITES

-- A slot with another prev.
abbrev pub with_prev : Seen → Link → Seen
with_prev m v = record { parent = m.parent; next = m.next; prev = v; kind = m.kind; orientation = m.orientation; rect = m.rect }

-- What became of the slots that a step did not write: the slot `after` got the prev `v`, and no other changed.
pub record Elsewhere (get get' : ℕ → Seen) (written : List ℕ) (after v : Link) : Type 0 where
  pub moved : (j : ℕ) → after ≡ to j → get' j ≡ with_prev (get j) v
  pub other : (j : ℕ) → (In j written → ⊥) → (after ≡ to j → ⊥) → get' j ≡ get j

-- The slots that a step took into use: none of them was live, and every slot counted now was counted before or is one.
pub record Taken (get : ℕ → Seen) (n n' : ℕ) (new : List ℕ) : Type 0 where
  pub grow : n ≤ n'
  pub below : (j : ℕ) → In j new → j < n'
  pub idle : (j : ℕ) → In j new → Live get n j → ⊥
  pub counted : (j : ℕ) → j < n' → (In j new → ⊥) → j < n

-- A step that takes no slot.
pub none_taken : (get : ℕ → Seen) (n : ℕ) → Taken get n n []
none_taken get n = record { grow = omega arith; below = λ j m. absurd m; idle = λ j m l. m; counted = λ j l m. l }

-- A chain that a step did not write, but for the prev of its first slot.
pub record Carried (get get' : ℕ → Seen) (v : Link) (S : Forest) : Type 0 where
  pub first : (j : ℕ) → head S ≡ to j → get' j ≡ with_prev (get j) v
  pub other : (j : ℕ) → In j (slots S) → (head S ≡ to j → ⊥) → get' j ≡ get j

-- Such is the chain that starts at the slot with another prev,
pub moved_carried : {get get' : ℕ → Seen} {written : List ℕ} {after v : Link} (S : Forest) → Elsewhere get get' written after v
    → after ≡ head S → ((j : ℕ) → In j (slots S) → In j written → ⊥) → Carried get get' v S
moved_carried S E e h = record { first = λ j q. E.moved j (e ∙ q); other = λ j m q. E.other j (h j m) (λ x. q (sym e ∙ x)) }

-- and a chain none of whose slots changed.
pub same_carried : (get get' : ℕ → Seen) (n : ℕ) (p v : Link) (o : Orientation) (S : Forest) → Rep get n p v o S
    → ((j : ℕ) → In j (slots S) → get' j ≡ get j) → Carried get get' v S
same_carried get get' n p v o empty r h = record { first = λ j e. absurd (no_link e); other = λ j m e. absurd m }
same_carried get get' n p v o (slot a C S) r h =
    record { first = λ j e. rw (← to_inj e) (h a (inl refl) ∙ rw (← r.0.prev) refl); other = λ j m e. h j m }

module _ (get get' : ℕ → Seen) (v' : Link) where
  -- It is held after its new prev,
  pub carried_rep : (n n' : ℕ) → n ≤ n' → (p v : Link) (o : Orientation) (S : Forest) → Distinct (slots S) → Carried get get' v' S
      → Rep get n p v o S → Rep get' n' p v' o S
  carried_rep n n' grow p v o empty D c r = tt
  carried_rep n n' grow p v o (slot j C S) D c r = (
    rw (c.first j refl)
        (record {
          below = omega (arith, r.0.below);
          parent = r.0.parent;
          prev = refl;
          orientation = r.0.orientation;
          next = r.0.next;
          shape = r.0.shape;
        }),
    rep_same get get' n n' grow (to j) none (flip o) C
        (λ x m. c.other x (in_children x j C S m) (λ e. D.0 (in_left (slots C) (slots S) j (rw (← to_inj e) at m)))) r.1,
    rep_same get get' n n' grow p (to j) o S
        (λ x m. c.other x (in_after x j C S m) (λ e. D.0 (in_right (slots C) (slots S) j (rw (← to_inj e) at m)))) r.2,
  )

  -- and its slots have the bodies that they had.
  pub carried_body : (S : Forest) → Distinct (slots S) → Carried get get' v' S → (x : ℕ) → In x (slots S) → SameBody (get x) (get' x)
  carried_body empty D c x m = absurd m
  carried_body (slot j C S) D c x m =
      by_place {G = SameBody (get x) (get' x)} x j C S
      (λ e. rw (c.first x (ap to (sym e))) (record { kind = refl; orientation = refl; rect = refl }))
      (λ h. same_body (c.other x m (λ e. D.0 (in_left (slots C) (slots S) j (rw (← to_inj e) at h)))))
      (λ h. same_body (c.other x m (λ e. D.0 (in_right (slots C) (slots S) j (rw (← to_inj e) at h))))) m

-- THE SWAP

-- The table has the chain `T'` where it had `T`, at parent p, prev v and orientation o: it starts at the same slot; no other
-- live slot changed, and a slot live now is in T' or was live outside T.
pub record Swap (get get' : ℕ → Seen) (n n' : ℕ) (p v : Link) (o : Orientation) (T T' : Forest) : Type 0 where
  pub starts : head T' ≡ head T
  pub holds : Rep get' n' p v o T'
  pub others : (j : ℕ) → Live get n j → (In j (slots T) → ⊥) → get' j ≡ get j
  pub all : (j : ℕ) → Live get' n' j → In j (slots T') ⊎ (Live get n j × (In j (slots T) → ⊥))

-- A fair swap: T' has the place that T had, and obeys rule 7 if T did.
pub record Fair (get get' : ℕ → Seen) (T T' : Forest) : Type 0 where
  pub places : (r : Rectangle) → PlaceF get T r → PlaceF get' T' r
  pub lasts : LastF get T → LastF get' T'

-- A step that writes slots `old` of T and takes the slots `new`.
module _ {get get' : ℕ → Seen} {n n' : ℕ} {after v : Link} (old new : List ℕ) (W : Taken get n n' new) (E : Elsewhere get get' (old ++ new) after v)
    (T T' : Forest) (old-in : (j : ℕ) → In j old → In j (slots T)) (after-in : (j : ℕ) → after ≡ to j → In j (slots T)) where
  -- No other live slot changed,
  pub swap_others : (j : ℕ) → Live get n j → (In j (slots T) → ⊥) → get' j ≡ get j
  swap_others j l m =
      E.other j (λ w. ⊎_elim (λ x. m (old-in j x)) (λ x. W.idle j x l) (in_cases old new j w)) (λ e. m (after-in j e))

  -- and a slot live now is in T' or was live outside T.
  pub swap_all : ((j : ℕ) → In j new → In j (slots T')) → ((j : ℕ) → In j (slots T) → Live get' n' j → In j (slots T'))
      → (j : ℕ) → Live get' n' j → In j (slots T') ⊎ (Live get n j × (In j (slots T) → ⊥))
  swap_all new_in stays j l = go (In-dec j (slots T)) (In-dec j new)
    where
      go : Dec (In j (slots T)) → Dec (In j new) → In j (slots T') ⊎ (Live get n j × (In j (slots T) → ⊥))
      go (yes t) d = inl (stays j t l)
      go (no t) (yes d) = inl (new_in j d)
      go (no t) (no d) =
          let e : get' j ≡ get j = E.other j (λ w. ⊎_elim (λ x. t (old-in j x)) d (in_cases old new j w)) (λ q. t (after-in j q)) in
          inr ((W.counted j l.0 d, ap (λ m. in_use m.kind) (sym e) ∙ l.1), t)

-- What a step keeps: rule 3, every place that the top chain had, and rule 7.
pub record Kept (get get' : ℕ → Seen) (n n' root : ℕ) : Type 0 where
  pub links : Linked get' n' root
  pub places : (r : Rectangle) → PlaceChain get n root r → PlaceChain get' n' root r
  pub lasts : LastTrue get n → LastTrue get' n'

module _ (get get' : ℕ → Seen) (n n' root : ℕ) (grow : n ≤ n') (K : Gap) (T T' : Forest) (R : Represents get n root (plug K T))
    (s : Swap get get' n n' (parent_at K none) (prev_at K none) (orientation_at K (get root).orientation) T T') where
  -- No slot round the gap changed.
  pub round : (j : ℕ) → In j (rim K) → get' j ≡ get j
  round j m =
      s.others j (in_live get n none none (get root).orientation (plug K T) R.along j (rim_in K T j m))
      (rim_apart K T (rep_distinct get n none none (get root).orientation (plug K T) R.along 0 refl) j m)

  all : (j : ℕ) → Live get' n' j → In j (rim K) ⊎ In j (slots T')
  all j l =
      ⊎_elim {C = In j (rim K) ⊎ In j (slots T')} inr
      (λ w. ⊎_elim {C = In j (rim K) ⊎ In j (slots T')} inl (λ m. absurd (w.1 m)) (in_plug K T j (R.all j w.0))) (s.all j l)

  -- The table after a swap is the forest with its part swapped.
  pub swap_represents : Represents get' n' root (plug K T')
  swap_represents = frame get get' n n' root grow K T T' R s.starts round s.holds all

  -- A fair swap keeps the rules.
  pub swap_keeps : Fair get get' T T' → Kept get get' n n' root
  swap_keeps f = record {
    links = linked get' n' root (plug K T') swap_represents;
    places = frame_placed get get' n n' root grow K T T' R s.starts round s.holds all f.places;
    lasts = λ l. forest_last get' n' root (plug K T') swap_represents
        (last_replace get get' K T T' s.starts (λ j m. same_body (round j m)) f.places f.lasts (last_forest get n root (plug K T) R l));
  }

-- Where a slot stands in the forest of a table, and the place of the chain that starts at it.
pub record At (get : ℕ → Seen) (n root i : ℕ) : Type 0 where
  pub gap : Gap
  pub below : Forest
  pub after : Forest
  pub whole : Represents get n root (plug gap (slot i below after))
  pub place : Rectangle
  pub placed : PlaceF get (slot i below after) place

-- Each live slot stands somewhere in the forest.
pub at_in : (get : ℕ → Seen) (n root i : ℕ) (F : Forest) → Represents get n root F → (r : Rectangle) → PlaceChain get n root r → Live get n i
    → (a : At get n root i) × (F ≡ plug a.gap (slot i a.below a.after))
at_in get n root i F h r P lv =
    let c = locate F i (h.all i lv) in
    let T = slot i c.1 c.2 in
    let R : Represents get n root (plug c.0 T) = rw c.3 at h in
    let w = place_fill get n c.0 T i (inl refl) none none (get root).orientation R.along r (placed_chain get n root (plug c.0 T) R r P) in
    (record { gap = c.0; below = c.1; after = c.2; whole = R; place = w.0; placed = w.1 }, c.3)

pub at_slot : (get : ℕ → Seen) (n root i : ℕ) → Linked get n root → (r : Rectangle) → PlaceChain get n root r → Live get n i → At get n root i
at_slot get n root i L r P lv = let F = forest get n root L in (at_in get n root i F.0 F.1 r P lv).0

-- Wherever the chain T hangs, it is swapped fairly for T'.
abbrev pub Swapped : (ℕ → Seen) → (ℕ → Seen) → ℕ → ℕ → Forest → Forest → Type 0
Swapped get get' n n' T T' = (p v : Link) (o : Orientation) → Rep get n p v o T → Distinct (slots T) → (w : Rectangle) → PlaceF get T w
    → Swap get get' n n' p v o T T' × Fair get get' T T'

module _ (get get' : ℕ → Seen) (n n' root i : ℕ) (grow : n ≤ n') where
  -- So it is where it hangs,
  pub swap_at : (a : At get n root i) (T' : Forest) → Swapped get get' n n' (slot i a.below a.after) T'
      → Swap get get' n n' (parent_at a.gap none) (prev_at a.gap none) (orientation_at a.gap (get root).orientation) (slot i a.below a.after) T'
      × Fair get get' (slot i a.below a.after) T'
  swap_at a T' s =
      let T = slot i a.below a.after in
      let D = rep_distinct get n none none (get root).orientation (plug a.gap T) a.whole.along 0 refl in
      s _ _ _ (rep_fill get n a.gap T none none (get root).orientation a.whole.along) (distinct_fill a.gap T D) a.place a.placed

  -- the table is the forest with T' for T,
  pub step_represents : (a : At get n root i) (T' : Forest) → Swapped get get' n n' (slot i a.below a.after) T' → Represents get' n' root (plug a.gap T')
  step_represents a T' s = swap_represents get get' n n' root grow a.gap (slot i a.below a.after) T' a.whole (swap_at a T' s).0

  -- and the rules are kept.
  pub step_keeps : Linked get n root → (r : Rectangle) → PlaceChain get n root r → Live get n i
      → ((C S : Forest) → (T' : Forest) × Swapped get get' n n' (slot i C S) T') → Kept get get' n n' root
  step_keeps L r P lv f =
      let a = at_slot get n root i L r P lv in
      let s = f a.below a.after in
      let w = swap_at a s.0 s.1 in
      swap_keeps get get' n n' root grow a.gap (slot i a.below a.after) s.0 a.whole w.0 w.1
