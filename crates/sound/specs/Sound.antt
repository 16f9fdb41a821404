-- SOUND TABLES: the paper's rules 1 to 7, sentence by sentence, over the head and the lent tables as they arrive.
-- Only slots below n count, and only the entries below a list's length; what stands elsewhere is arbitrary.
-- Assumes nothing.
use Rattle.std.specs.Prelude.{◌≡◌, true, ℕ, ◌*◌, ◌≤◌, ◌<◌, length, get_or}
use Rattle.geometry.specs.Sides.{natural, valid_setup, setup_of}
use Rattle.geometry.specs.Buckets.{bucket_of}
use Rattle.geometry.specs.Rectangles.{flip, width_of, height_of}
use Rattle.geometry.specs.declared.Bucket.{Bucket}
use Rattle.geometry.specs.declared.Rectangle.{Rectangle}
use Rattle.geometry.specs.declared.Size.{Size}
use Rattle.slots.specs.declared.NodeKind.TheVariants.{Container, Alloc, Free, Unused}
use Rattle.lists.specs.Lists.{Bag, Each}
use Rattle.buckets.specs.FreeLists.{Lists, list_of, Within}
use Rattle.steps.specs.State.{State, lists_of}
use Rattle.sound.specs.View.{Link, none, to, link_of, Seen, seen, Live, Dead}
use Rattle.sound.specs.Rules.{Ends, Visits, FirstChild, Leaf, PlaceSlot, PlaceChain}

-- RULE 1. 1 ≤ n ≤ N; setup valid; list lengths within their tables; root and every list entry below n.
pub record Counted (s : State) : Type 0 where
  pub some : 1 ≤ s.head.count
  pub fits : s.head.count ≤ length s.generations
  pub valid : valid_setup s.head.sheet s.head.options ≡ true
  pub within : Within (lists_of s)
  pub root : s.head.root.0 < s.head.count
  pub entries : (b : Bucket) → Each (λ x. x < s.head.count) (list_of b (lists_of s))

-- RULE 2. The spare chain visits each Unused slot below n once, visits nothing else, and ends.
-- (A chain that ends visits no slot twice: `chain_visits_once`.)
pub record SpareChain (get : ℕ → Seen) (n : ℕ) (spare : Link) : Type 0 where
  pub each : (i : ℕ) → Dead get n i → Visits (λ j. (get j).next) i spare
  pub only : (i : ℕ) → Visits (λ j. (get j).next) i spare → Dead get n i
  pub ends : Ends (λ j. (get j).next) spare

-- RULE 3, as far as it speaks of a slot and its neighbours: links live, agreeing, siblings alike, parents Containers, first children, root.
-- (That following links ends stands below, in `Linked`.)
pub record Neighbours (get : ℕ → Seen) (n root : ℕ) : Type 0 where
  -- A live slot's link is none or names a live slot.
  pub parent_live : (i j : ℕ) → Live get n i → (get i).parent ≡ to j → Live get n j
  pub next_live : (i j : ℕ) → Live get n i → (get i).next ≡ to j → Live get n j
  pub prev_live : (i j : ℕ) → Live get n i → (get i).prev ≡ to j → Live get n j
  -- Next and prev agree both ways.
  pub next_prev : (i j : ℕ) → Live get n i → (get i).next ≡ to j → (get j).prev ≡ to i
  pub prev_next : (i j : ℕ) → Live get n i → (get i).prev ≡ to j → (get j).next ≡ to i
  -- Siblings share parent and orientation.
  pub same_parent : (i j : ℕ) → Live get n i → (get i).next ≡ to j → (get j).parent ≡ (get i).parent
  pub same_orientation_lem : (i j : ℕ) → Live get n i → (get i).next ≡ to j → (get j).orientation ≡ (get i).orientation
  -- A parent is a Container of the other orientation,
  pub parent_kind : (i j : ℕ) → Live get n i → (get i).parent ≡ to j → (get j).kind ≡ Container
  pub parent_orientation : (i j : ℕ) → Live get n i → (get i).parent ≡ to j → (get j).orientation ≡ flip (get i).orientation
  -- and every Container has exactly one child without prev.
  pub child : (i : ℕ) → Live get n i → (get i).kind ≡ Container → (c : ℕ) × FirstChild get n i c
  pub one_child : (i c d : ℕ) → FirstChild get n i c → FirstChild get n i d → c ≡ d
  -- Root is the only live slot with neither parent nor prev.
  pub root_live : Live get n root
  pub root_parent : (get root).parent ≡ none
  pub root_prev : (get root).prev ≡ none
  pub root_only : (i : ℕ) → Live get n i → (get i).parent ≡ none → (get i).prev ≡ none → i ≡ root

-- RULE 3, whole.
pub record Linked (get : ℕ → Seen) (n root : ℕ) : Type 0 where
  pub near : Neighbours get n root
  -- Following parents ends, and so does following next.
  pub parents_end : (i : ℕ) → Live get n i → Ends (λ j. (get j).parent) (to i)
  pub nexts_end : (i : ℕ) → Live get n i → Ends (λ j. (get j).next) (to i)

-- RULE 4.
pub record Merged (get : ℕ → Seen) (n : ℕ) : Type 0 where
  -- No two linked siblings are both Free.
  pub apart : (i j : ℕ) → Live get n i → (get i).next ≡ to j → (get i).kind ≡ Free → (get j).kind ≡ Free → ⊥
  -- No Free slot with a parent lacks a sibling.
  pub sibling : (i j : ℕ) → Live get n i → (get i).kind ≡ Free → (get i).parent ≡ to j → (get i).next ≡ none → (get i).prev ≡ none → ⊥

-- RULE 5, by places (Rules.antt). The top chain fills (0,0) to the sheet size.
abbrev pub sheet_of : Size → Rectangle
sheet_of size = record { x0 = 0; y0 = 0; x1 = natural size.width; y1 = natural size.height }

abbrev pub Placed : (ℕ → Seen) → ℕ → ℕ → Size → Type 0
Placed get n root size = PlaceChain get n root (sheet_of size)

-- RULE 6. Each Free slot has an entry in its own bucket's list.
abbrev pub HasEntry : ℕ → Bag → Type 0
HasEntry i b = (k : ℕ) × (k < b.len) × (get_or b.table k 0 ≡ i)

abbrev pub own_bucket : State → Rectangle → Bucket
own_bucket s r = bucket_of (setup_of s.head.sheet s.head.options).small (setup_of s.head.sheet s.head.options).large (width_of r) (height_of r)

abbrev pub Listed : State → Type 0
Listed s = (i : ℕ) → i < s.head.count → (seen s.words i).kind ≡ Free → HasEntry i (list_of (own_bucket s (seen s.words i).rect) (lists_of s))

-- RULE 7. If the last slot of the top chain is a Container, its stored rectangle is its place.
abbrev pub LastTrue : (ℕ → Seen) → ℕ → Type 0
LastTrue get n = (i : ℕ) → Live get n i → (get i).parent ≡ none → (get i).next ≡ none → (get i).kind ≡ Container → PlaceSlot get n i (get i).rect

-- Sound tables.
pub record Sound (s : State) : Type 0 where
  pub rule1 : Counted s
  pub rule2 : SpareChain (seen s.words) s.head.count (link_of s.head.spare)
  pub rule3 : Linked (seen s.words) s.head.count s.head.root.0
  pub rule4 : Merged (seen s.words) s.head.count
  pub rule5 : Placed (seen s.words) s.head.count s.head.root.0 s.head.sheet
  pub rule6 : Listed s
  pub rule7 : LastTrue (seen s.words) s.head.count
