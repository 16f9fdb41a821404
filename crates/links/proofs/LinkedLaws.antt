-- RULE 3, EXACT: the tests of all slots, and a forest of all live slots that follows from a live root, are rule 3.
-- Assumes nothing.
use Rattle.std.proofs.lemmas.Bool.{false≢true}
use Rattle.std.specs.Prelude.{◌≡◌, refl, true, false, List, ℕ, ◌-◌, ◌<◌, get_or, take}
use Rattle.std.proofs.Common.{ap, ◌∙◌, get_or-take}
use Rattle.std.proofs.Math.Path.{sym}
use Rattle.slots.specs.declared.NodeKind.TheVariants.{Container}
use Rattle.sound.specs.View.{to, seen, Live}
use Rattle.sound.specs.Rules.{FirstChild}
use Rattle.sound.specs.Sound.{Neighbours, Linked}
use Rattle.forest.specs.Follows.{kids_of, next_of, live, linked_follows, follows_linked}
use Rattle.links.specs.Links.{Table, links_at}
use Rattle.links.specs.AgreeLaws.{LinksHere}
use Rattle.links.proofs.AgreeLaws.{links_at_is}
use Rattle.links.specs.FirstLaws.{Firsts}
use Rattle.links.proofs.SpareLaws.{live_count}
use Rattle.links.specs.LinkedLaws.{LinksPass, LinksHold}

module _ (w fs : List ℕ) (n root : ℕ) (t : Table w n) (f : Firsts w fs n) where
  module _ (p : LinksPass w fs n root) where
    here : (i : ℕ) → Live (seen w) n i → LinksHere (seen w) fs n root i
    here i lv = (links_at_is w fs n root t i lv.0).0 (p i lv.0) lv

    -- A first child is the one that was entered at its parent.
    pub links_entered : (i c : ℕ) → FirstChild (seen w) n i c → get_or fs i 0 ≡ c
    links_entered i c h = (here c h.live).first h.prev i h.parent

    pub links_child : (i : ℕ) → Live (seen w) n i → (seen w i).kind ≡ Container → FirstChild (seen w) n i (get_or fs i 0)
    links_child i lv k = f.is_first_lem i lv.0 ((here i lv).child k)

    -- What the place functions ask: next and first child of a live slot are live.
    pub links_next_live : (i j : ℕ) → Live (seen w) n i → (seen w i).next ≡ to j → Live (seen w) n j
    links_next_live i j lv e = (here i lv).next_live j e

    pub links_first_live : (i : ℕ) → Live (seen w) n i → (seen w i).kind ≡ Container → Live (seen w) n (get_or fs i 0)
    links_first_live i lv k = (links_child i lv k).live

    -- Rule 3, but for the sentences that follow links to their end.
    pub links_at_yes : Live (seen w) n root → Neighbours (seen w) n root
    links_at_yes r =
        record {
          parent_live = λ i j lv e. (here i lv).parent_live j e;
          next_live = links_next_live;
          prev_live = λ i j lv e. (here i lv).prev_live j e;
          next_prev = λ i j lv e. ((here i lv).next j e).0;
          prev_next = λ i j lv e. (here i lv).prev j e;
          same_parent = λ i j lv e. ((here i lv).next j e).1.0;
          same_orientation_lem = λ i j lv e. ((here i lv).next j e).1.1;
          parent_kind = λ i j lv e. ((here i lv).parent j e).0;
          parent_orientation = λ i j lv e. ((here i lv).parent j e).1;
          child = λ i lv k. (get_or fs i 0, links_child i lv k);
          one_child = λ i c d a b. sym (links_entered i c a) ∙ links_entered i d b;
          root_live = r;
          root_parent = ((here root r).top.1 refl).0;
          root_prev = ((here root r).top.1 refl).1;
          root_only = λ i lv a b. (here i lv).top.0 (a, b);
        }

    -- The table says of each Container its one first child: what the walk over the forest goes by.
    pub links_table : (i c : ℕ) → Live (seen w) n i → (seen w i).kind ≡ Container → FirstChild (seen w) n i c → to (get_or fs i 0) ≡ to c
    links_table i c lv k h = ap to (links_entered i c h)

  -- Where slots and their neighbours obey rule 3, every slot passes the test.
  pub links_at_no : Neighbours (seen w) n root → LinksPass w fs n root
  links_at_no L i b =
      (links_at_is w fs n root t i b).1
      (λ lv. record {
        parent_live = λ j e. L.parent_live i j lv e;
        next_live = λ j e. L.next_live i j lv e;
        prev_live = λ j e. L.prev_live i j lv e;
        next = λ j e. (L.next_prev i j lv e, (L.same_parent i j lv e, L.same_orientation_lem i j lv e));
        prev = λ j e. L.prev_next i j lv e;
        parent = λ j e. (L.parent_kind i j lv e, L.parent_orientation i j lv e);
        child = λ k. let c = L.child i lv k in f.some i c.0 lv.0 c.1;
        first = λ v j e. only j i (record { live = lv; parent = e; prev = v });
        top = (λ a. L.root_only i lv a.0 a.1, λ e. rw e (L.root_parent, L.root_prev));
      })
    where
      only : (j c : ℕ) → FirstChild (seen w) n j c → get_or fs j 0 ≡ c
      only j c h =
          let b = (L.parent_live c j h.live h.parent).0 in
          L.one_child j (get_or fs j 0) c (f.is_first_lem j b (f.some j c b h)) h

  -- The front of the table of first children serves as well.
  pub links_pass_front : LinksPass w fs n root → LinksPass w (take n fs) n root
  links_pass_front p i b =
      (links_at_is w (take n fs) n root t i b).1
      (λ lv. let h = here p i lv in
      record {
        parent_live = h.parent_live;
        next_live = h.next_live;
        prev_live = h.prev_live;
        next = h.next;
        prev = h.prev;
        parent = h.parent;
        child = λ k. rw (get_or-take n fs i 0 b) (h.child k);
        first = λ v j e. get_or-take n fs j 0 (h.parent_live j e).0 ∙ h.first v j e;
        top = h.top;
      })

  -- A slot that fails breaks rule 3.
  pub links_at_breaks : (i : ℕ) → i < n → links_at w fs n root i ≡ false → Linked (seen w) n root → ⊥
  links_at_breaks i b e L = false≢true (sym e ∙ links_at_no L.near i b)

  -- The two together.
  pub links_say_linked : LinksHold w fs n root → Linked (seen w) n root
  unfolding kids_of next_of live
  links_say_linked h =
      follows_linked (seen w) n root (λ i. to (get_or fs i 0)) (links_at_yes h.passes h.root_live) (links_table h.passes)
      h.forest h.from_root h.follows (h.whole ∙ sym (live_count w n))

  pub linked_says_links : Linked (seen w) n root → LinksHold w fs n root
  unfolding kids_of next_of live
  linked_says_links L =
      let p = links_at_no L.near in
      let F = linked_follows (seen w) n root (λ i. to (get_or fs i 0)) L.near (links_table p) L in
      record { passes = p; root_live = L.near.root_live; forest = F.0; from_root = F.1; follows = F.2; whole = F.3 ∙ live_count w n }
