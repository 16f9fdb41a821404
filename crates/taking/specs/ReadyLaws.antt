-- The laws by which allocate's steps are proved.
-- Assumes nothing.
use Rattle.std.specs.Prelude.{◌≡◌, true, List, ℕ, ◌*◌, ◌≤◌, ◌<◌, length, get_or}
use Rattle.std.proofs.Math.Path.{refl}
use Rattle.std.proofs.Common.{ap, ◌∙◌, arith}
use Rattle.std.proofs.lemmas.Bool.{false≢true}
use Rattle.geometry.specs.declared.Bucket.{Bucket}
use Rattle.cuts.specs.declared.Cut.{Cut}
use Rattle.geometry.specs.declared.Rectangle.{Rectangle}
use Rattle.geometry.specs.declared.Setup.{Setup}
use Rattle.table.specs.Table.{HasSlot}
use Rattle.tickets.specs.Tickets.{ticket_of}
use Rattle.tickets.specs.declared.AllocId.{AllocId}
use Rattle.slots.specs.declared.AllocIndex.{AllocIndex}
use Rattle.buckets.specs.FreeLists.{Lists, Within, removed_from}
use Rattle.steps.specs.State.{State}
use Rattle.steps.specs.declared.Head.{Head}
use Rattle.entries.specs.EntryLaws.{ready_words, ready_removed}
use Rattle.grants.specs.Carves.{News, news_of, carved}
use Rattle.grants.specs.Grants.{grant, with_lists, taken}
use Rattle.grants.specs.Shapes.{slots_needed}
use Rattle.grants.specs.declared.CutSlots.{CutSlots}
use Rattle.grants.specs.declared.Shape.{Shape}
use Rattle.grants.specs.declared.Shape.TheVariants.{Exact, Along, AlongLeft, Across, AcrossLeft}
use Rattle.pairs.specs.Pairs.{CanTake}
use Rattle.carves.specs.Room.{HasNew, Carvable}
use Rattle.granted.specs.TableCut.{length_carved}
use Rattle.granted.specs.Takes.{fresh_below}
use Rattle.pieces.specs.Pieces.{has_split, has_left, pieces_of, PiecesReady}
use Rattle.taking.specs.Ready.{TakeReady}
use Rattle.pieces.specs.PieceLaws.{pieces_entered_lem}

-- What the new slots of a shape are: slots of the table.
pub record NewsReady (shape : Shape) (w g : List ℕ) (n : News) : Type 0 where
  pub has : HasNew shape w n.slots
  pub alloc : n.slots.alloc.0 < length g
  pub bytes : length n.generations ≡ length g

module _ (w g : List ℕ) (h : Head) (i : AllocIndex) (slots : length g * 8 ≤ length w) (chosen : i.0 < length g) where
  pub news_ready : (shape : Shape) (n : News) → CanTake (slots_needed shape) w g h → n ≡ news_of shape w g h i → NewsReady shape w g n
  unfolding news_of
  news_ready Exact n can e = rw e (record { has = tt; alloc = chosen; bytes = refl })
  news_ready Along n can e =
      let s = fresh_below w g h _ can.0 refl in
      rw e (record { has = omega (arith, s.0); alloc = chosen; bytes = s.1 })
  news_ready AlongLeft n can e =
      let s = fresh_below w g h _ can.0 refl in
      let a = fresh_below w _ _ _ can.1.0 refl in
      let l = fresh_below w _ _ _ can.1.1.0 refl in
      rw e (record {
        has = (omega (arith, s.0), omega (arith, a.0, s.1), omega (arith, l.0, a.1, s.1));
        alloc = omega (arith, a.0, s.1);
        bytes = l.1 ∙ (a.1 ∙ s.1);
      })
  news_ready Across n can e =
      let s = fresh_below w g h _ can.0 refl in
      let a = fresh_below w _ _ _ can.1.0 refl in
      rw e (record { has = (omega (arith, s.0), omega (arith, a.0, s.1)); alloc = omega (arith, a.0, s.1); bytes = a.1 ∙ s.1 })
  news_ready AcrossLeft n can e =
      let s = fresh_below w g h _ can.0 refl in
      let c = fresh_below w _ _ _ can.1.0 refl in
      let a = fresh_below w _ _ _ can.1.1.0 refl in
      let l = fresh_below w _ _ _ can.1.1.1.0 refl in
      rw e (record {
        has = (omega (arith, s.0), omega (arith, c.0, s.1), omega (arith, a.0, c.1, s.1), omega (arith, l.0, a.1, c.1, s.1));
        alloc = omega (arith, a.0, c.1, s.1);
        bytes = l.1 ∙ (a.1 ∙ (c.1 ∙ s.1));
      })

split_has : (shape : Shape) (w : List ℕ) (m : CutSlots) → HasNew shape w m → has_split shape ≡ true → HasSlot w m.split
split_has Exact w m n e = absurd (false≢true e)
split_has Along w m n e = n
split_has AlongLeft w m n e = n.0
split_has Across w m n e = n.0
split_has AcrossLeft w m n e = n.0

left_has : (shape : Shape) (w : List ℕ) (m : CutSlots) → HasNew shape w m → has_left shape ≡ true → HasSlot w m.left
left_has Exact w m n e = absurd (false≢true e)
left_has Along w m n e = absurd (false≢true e)
left_has AlongLeft w m n e = n.2
left_has Across w m n e = absurd (false≢true e)
left_has AcrossLeft w m n e = n.3

-- Every list is within its table.
pub taken_within : {shape : Shape} {w g : List ℕ} {h : Head} {l : Lists} {i : AllocIndex} {b : Bucket} {k : ℕ} {c : Cut} → TakeReady shape w g h l i b k c → Within l
taken_within r b = (r.lists b).entries.within

-- The chosen slot's cut, from what each call ensures.
module _ (shape : Shape) (w g : List ℕ) (h : Head) (l : Lists) (i : AllocIndex) (b : Bucket) (k : ℕ) (c : Cut) (q : Rectangle)
    (n : News) (ready : TakeReady shape w g h l i b k c) (en : n ≡ news_of shape w g h i) where
  pub taken_news : NewsReady shape w g n
  taken_news = news_ready w g h i ready.slots ready.chosen shape n ready.can en

  pub taken_carvable : Carvable shape w i n.slots
  taken_carvable = record { chosen = omega (arith, ready.slots, ready.chosen); next = ready.next; new = taken_news.has }

  module _ (w' : List ℕ) (ew : w' ≡ carved shape w i n.slots q c)
      (l' : Lists) (el : l' ≡ removed_from b k l) where
    same_words : length w' ≡ length w
    same_words = ap length ew ∙ length_carved shape w i _ q c

    pub taken_pieces : PiecesReady shape w' l' n.slots.split n.slots.left c
    taken_pieces = record {
      lists = rw el (ready_words w w' (removed_from b k l) same_words (ready_removed w b k l ready.place ready.lists));
      split = λ e. (omega (arith, split_has shape w n.slots taken_news.has e, same_words), ready.split e);
      left = λ e. (omega (arith, left_has shape w n.slots taken_news.has e, same_words), ready.left e);
    }

    pub taken_done : (s : State) (setup : Setup) (l'' : Lists) (t : AllocId) → s.words ≡ w → s.generations ≡ g → s.head ≡ h
        → l'' ≡ pieces_of shape w' setup n.slots.split n.slots.left c l' → t ≡ ticket_of n.slots.alloc (get_or n.generations n.slots.alloc.0 0)
        → grant 0 t q (with_lists n.head w' n.generations l'') ≡ taken shape s setup l i b k q c
    unfolding taken
    taken_done s setup l'' t es eg eh ep et =
        rw (es, eg, eh, ← en, et, ep, pieces_entered_lem shape w' setup n.slots c l', el, ew)
