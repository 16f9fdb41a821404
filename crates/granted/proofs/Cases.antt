-- Allocate by its three answers, and what is known of each on sound tables.
-- Assumes nothing.
use Rattle.std.specs.Prelude.{ℕ, Option, Some, None, ◌≤◌, ◌<◌, ◌≡◌, ◌↔◌, [], leb}
use Rattle.std.proofs.Math.Path.{refl}
use Rattle.std.proofs.Common.{ap, arith, leb-true, leb-false}
use Rattle.geometry.specs.Choice.{pick_elim}
use Rattle.cuts.specs.Cuts.{at_corner}
use Rattle.geometry.specs.declared.Bucket.{Bucket}
use Rattle.geometry.specs.declared.Extent.{Extent}
use Rattle.geometry.specs.declared.Rectangle.{Rectangle}
use Rattle.table.specs.Table.{node_at}
use Rattle.slots.specs.declared.AllocIndex.{AllocIndex}
use Rattle.search.proofs.FindLaws.{search_thins, search_nothing_means_none, search_none_means_nothing}
use Rattle.choices.specs.Choices.{chosen_at, Searched}
use Rattle.search.specs.Search.{find_suitable}
use Rattle.choices.specs.declared.Chosen.{Chosen}
use Rattle.steps.specs.State.{State, lists_of}
use Rattle.sound.specs.View.{seen}
use Rattle.sound.specs.Sound.{Sound}
use Rattle.lent.specs.Lent.{LentOf}
use Rattle.grants.specs.Carves.{news_of}
use Rattle.grants.specs.Grants.{Grant, refused, with_lists, taken, cut_for, grant_of, granted}
use Rattle.granted.specs.News.{new_ones}
use Rattle.granted.specs.CutShapes.{cut_shape}
use Rattle.granted.specs.TableCut.{pieces_of}
use Rattle.granted.specs.SoundFacts.{setup_at, Picked, sound_searchable, search_picks}
use Rattle.granted.specs.Stocked.{Stocked, sound_stocked, search_stocks}
use Rattle.granted.specs.Outcomes.{outcome_lent, refusal_sound}
use Rattle.granted.specs.Given.{Given, cut_given}
use Rattle.granted.specs.Terms.{Roomy, ChoosesAt, cut_at, shape_at, needed_at, spare_at, Refuses, GivesOut}
use Rattle.granted.proofs.TicketLaws.{gives_out}

-- What the search answers, and the lists as it left them.
abbrev pub search_of : State → Extent → Searched
search_of s e = find_suitable s.words (setup_at s) e (lists_of s)

-- The request at the corner of slot i.
abbrev pub corner_at : State → Extent → AllocIndex → Rectangle
corner_at s e i = at_corner (node_at s.words i).rect e.width e.height

-- A refusal with a number, and the cut of slot i carried out.
abbrev pub refused_with : ℕ → State → Extent → Grant
refused_with r s e = refused r (with_lists s.head s.words s.generations (search_of s e).lists)

abbrev pub cut_from : State → Extent → AllocIndex → Bucket → ℕ → Grant
cut_from s e i b k = taken (shape_at s e i) s (setup_at s) (search_of s e).lists i b k (corner_at s e i) (cut_at s e i)

-- A search that chose one slot chose no other, and did not choose nothing.
pub one_chosen : {c : Option Chosen} {i j : AllocIndex} {a b : Bucket} {k m : ℕ} → c ≡ chosen_at i a k → c ≡ chosen_at j b m → i ≡ j
one_chosen {i = i} {j = j} {a = a} {b = b} {k = k} {m = m} p q =
    let e : ◌≡◌ {A = Chosen} (record { slot = i; bucket = a; place = k }) (record { slot = j; bucket = b; place = m }) = cc in
    ap (λ (x : Chosen). x.slot) e

pub not_nothing : {c : Option Chosen} {i : AllocIndex} {b : Bucket} {k : ℕ} → c ≡ chosen_at i b k → c ≡ None → ⊥
not_nothing p q = let z : ◌≡◌ {A = ℕ} 0 1 = cc in omega arith

-- 6 where nothing is chosen, 7 where fewer slots are spare than the cut needs, else the cut.
pub grant_cases : (s : State) (e : Extent) (P : Grant → Type 0)
    → ((search_of s e).chosen ≡ None → P (refused_with 6 s e))
    → ((i : AllocIndex) (b : Bucket) (k : ℕ) → ChoosesAt s e i b k → spare_at s < needed_at s e i → P (refused_with 7 s e))
    → ((i : AllocIndex) (b : Bucket) (k : ℕ) → ChoosesAt s e i b k → needed_at s e i ≤ spare_at s → P (cut_from s e i b k))
    → P (granted s e)
unfolding granted grant_of cut_for
grant_cases s e P none few enough = go (search_of s e).chosen refl
  where
    go : (c : Option Chosen) → (search_of s e).chosen ≡ c → P (grant_of s (setup_at s) e (search_of s e).lists c)
    go None q = none q
    go (Some c) q =
        pick_elim P (leb (needed_at s e c.slot) (spare_at s)) _ _
        (λ t. enough c.slot c.bucket c.place q (leb-true _ _ t)) (λ t. few c.slot c.bucket c.place q (leb-false _ _ t))

module _ (s : State) (e : Extent) (L : LentOf s) (S : Sound s) where
  -- The lists as the search left them still hold an entry of each Free slot.
  searched_stocked : Stocked s.words s.head.count (setup_at s) (lists_of s) (search_of s e).lists []
  searched_stocked = search_stocks (sound_stocked S) (sound_searchable s L S) e (search_of s e) refl

  pub chosen_picked : (i : AllocIndex) (b : Bucket) (k : ℕ) → ChoosesAt s e i b k → Picked s e (search_of s e).lists i b k
  chosen_picked = search_picks s L S e (search_of s e) refl

  -- Nothing is chosen exactly where no Free rectangle is as wide and as tall as the request.
  pub nothing_when : ((search_of s e).chosen ≡ None) ↔ ((x : ℕ) → Roomy s e x → ⊥)
  unfolding seen
  nothing_when = (
    λ c x r. search_nothing_means_none s.words (setup_at s) e (lists_of s) (search_of s e) refl (sound_searchable s L S) s.head.count
        (λ y l f. (sound_stocked S).listed y l f (λ m. m)) c x r.0 r.1,
    λ n. search_none_means_nothing s.words (setup_at s) e (lists_of s) (search_of s e) refl (sound_searchable s L S) s.head.count
        S.rule1.entries (λ x l r. n x (l, r)),
  )

  -- A refusal leaves sound tables, and all but the lists as it was.
  pub refused_sound : (r : ℕ) → Sound (refused_with r s e).after
  refused_sound r = refusal_sound S searched_stocked

  pub refused_lent : (r : ℕ) → LentOf (refused_with r s e).after
  refused_lent r = outcome_lent s s.head s.words s.generations (search_of s e).lists L refl refl searched_stocked.filed.tables

  pub refused_refuses : (r : ℕ) → Refuses s e (refused_with r s e)
  refused_refuses r = record {
    ticket = refl;
    rect = refl;
    head = refl;
    words = refl;
    generations = refl;
    searched = refl;
    thinned = search_thins s.words (setup_at s) e (lists_of s) (search_of s e) refl (sound_searchable s L S);
    still = λ i b k c. let p = chosen_picked i b k c in (p.place, p.entry);
  }

  -- A cut is carried out as Given says, and a ticket is given out.
  module _ (x : 0 < e.width) (y : 0 < e.height) (i : AllocIndex) (b : Bucket) (k : ℕ) (c : ChoosesAt s e i b k) (enough : needed_at s e i ≤ spare_at s) where
    pub cut_leaves : let n = news_of (shape_at s e i) s.words s.generations s.head i in
        Given s i.0 n.slots.alloc.0 (new_ones (shape_at s e i) n.slots) (pieces_of (shape_at s e i) n.slots (cut_at s e i)) (cut_from s e i b k)
    cut_leaves =
        let p = chosen_picked i b k c in
        cut_given s L S e (search_of s e).lists searched_stocked i b k p (shape_at s e i) (corner_at s e i) (cut_at s e i) (omega arith, omega arith)
        (cut_shape p.fits x y (node_at s.words i).orientation) enough

    pub cut_gives_out : GivesOut s e (cut_from s e i b k)
    unfolding taken
    cut_gives_out = gives_out s S e (search_of s e).lists i b k (chosen_picked i b k c) _ _ _ (cut_from s e i b k) cut_leaves refl
