-- The new slots of each shape, from the slots taken one after the other.
-- Assumes nothing.
use Rattle.std.specs.Prelude.{◌≡◌, List, ℕ}
use Rattle.slots.specs.Slots.{none}
use Rattle.slots.specs.declared.AllocIndex.{AllocIndex}
use Rattle.steps.specs.Spares.{Fresh, new_node}
use Rattle.steps.specs.declared.Head.{Head}
use Rattle.grants.specs.Carves.{cut_slots, news, news_of}
use Rattle.grants.specs.declared.Shape.TheVariants.{Along, AlongLeft, Across, AcrossLeft}
use Rattle.pairs.specs.Pairs.{Pair, two_nodes}

module _ (w g : List ℕ) (h : Head) (i : AllocIndex) where
  pub along_news : (s : Fresh) → s ≡ new_node w g h → news (cut_slots s.taken none i none) s.head s.generations ≡ news_of Along w g h i
  unfolding news_of
  along_news s e = rw e

  pub along_left_news : (s : Fresh) (t : Pair) → s ≡ new_node w g h → t ≡ two_nodes w s.generations s.head
      → news (cut_slots s.taken none t.first t.second) t.head t.generations ≡ news_of AlongLeft w g h i
  unfolding news_of two_nodes
  along_left_news s t es et = rw (et, es)

  pub across_news : (t : Pair) → t ≡ two_nodes w g h → news (cut_slots t.first none t.second none) t.head t.generations ≡ news_of Across w g h i
  unfolding news_of two_nodes
  across_news t et = rw et

  pub across_left_news : (t u : Pair) → t ≡ two_nodes w g h → u ≡ two_nodes w t.generations t.head
      → news (cut_slots t.first t.second u.first u.second) u.head u.generations ≡ news_of AcrossLeft w g h i
  unfolding news_of two_nodes
  across_left_news t u et eu = rw (eu, et)
