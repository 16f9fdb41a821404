-- The laws of a scan: what a look does, and that as many looks as there are entries are enough.
-- Each takes the outcome as a variable with its equation, so that a proof hands over what a call ensures.
-- Assumes nothing.
use Rattle.std.specs.Prelude.{◌≡◌, refl, Bool, true, false, List, ℕ, zero, suc, ◌+◌, ◌-◌, ◌<◌, ◌≤◌, length, eqb, ltb, leb}
use Rattle.std.proofs.Common.{sym, arith}
use borrow.Author.Tests.{leb-true, leb-false, le-leb, lt-leb, ltb-true, ltb-false, le-ltb, lt-ltb, ne_eqb}
use Rattle.geometry.specs.Choice.{pick, pick_elim, lesser}
use Rattle.geometry.specs.Rectangles.{width_of, height_of}
use Rattle.geometry.specs.declared.Rectangle.{Rectangle}
use Rattle.slots.specs.Slots.{slot, same_kind}
use Rattle.table.specs.Table.{node_at}
use Rattle.slots.specs.SlotLaws.{same_kind_equal}
use Rattle.slots.specs.declared.Node.{Node}
use Rattle.slots.specs.declared.NodeKind.TheVariants.{Free}
use Rattle.lists.specs.Lists.{Bag, removed, free_entry}
use Rattle.fits.specs.declared.Scan.{Scan}
use Rattle.fits.specs.declared.Best.{Best}
use Rattle.fits.specs.declared.Best.TheVariants.{Found, Nothing}
use Rattle.fits.specs.declared.Query.{Query}
use Rattle.fits.specs.Scans.{better, score_of, shift, shifted_score, passed, kept, ended, scored, weighed, beats, opening, Open, Scanned, scanned, entry_at, dropped, look, looking, Lookable, Ready}
use Rattle.fits.specs.Suits.{Suits}
use Rattle.fits.specs.Thinned.{Thinned, thinned_itself, thinned_twice, each_thinned, dead_removed}
use Rattle.fits.specs.ScanLaws.{list_in, left}

-- A candidate is beaten or stays; where there is none, any is better.
better_than_none : (b : Best) (score new : ℕ) (worst : Bool) → better b score new worst ≡ false → b ≡ Nothing → ⊥
unfolding better
better_than_none b score new worst e n = let z : ◌≡◌ {A = ℕ} 0 1 = cc in omega arith

-- What a Free rectangle does to a scan, by cases: it goes on where that is too small or there is a candidate, ends, or keeps it.
weighed_cases : (P : Scan → Type 0) (s : Scan) (r : Rectangle) (q : Query)
    → ((q.width ≤ width_of r → q.height ≤ height_of r → s.best ≡ Nothing → ⊥) → P (passed s))
    → (q.width ≤ width_of r → q.height ≤ height_of r → P (ended s))
    → (q.width ≤ width_of r → q.height ≤ height_of r → P (kept s (score_of r q)))
    → P (weighed s r q)
unfolding weighed
weighed_cases P s r q pass end keep =
    pick_elim P (ltb (width_of r) q.width) _ _
    (λ n. pass (λ a b e. let z = ltb-true (width_of r) q.width n in omega arith))
    (λ n. let a = ltb-false (width_of r) q.width n in
    pick_elim P (ltb (height_of r) q.height) _ _
    (λ m. pass (λ c b e. let z = ltb-true (height_of r) q.height m in omega arith))
    (λ m. let b = ltb-false (height_of r) q.height m in
    pick_elim P (eqb (score_of r q) 0) _ _ (λ z. end a b)
    (λ z. pick_elim P (better s.best s.score (score_of r q) q.worst) _ _ (λ t. keep a b)
    (λ t. pass (λ c d. better_than_none s.best s.score (score_of r q) q.worst t)))))

-- A score that isn't exact is better exactly where it is held against the best so far and wins, since any beats what a scan opens with.
open_better : (b : Best) (score new : ℕ) (worst : Bool) → (b ≡ Nothing → score ≡ opening worst) → new < shift → (new ≡ 0 → ⊥)
    → better b score new worst ≡ pick worst (ltb score new) (ltb new score)
unfolding better opening
open_better Found score new true o l d = refl
open_better Found score new false o l d = refl
open_better Nothing score new true o l d = rw (o refl, lt-ltb 0 new (omega (arith, d)))
open_better Nothing score new false o l d = rw (o refl, lt-ltb new shift l)

-- What beats the best fits.
pub beats_enough : (score n : ℕ) (worst : Bool) → beats score n worst ≡ true → shift ≤ n
unfolding beats
beats_enough score n worst =
    pick_elim (λ (b : Bool). b ≡ true → shift ≤ n) (ltb n shift) _ _ (λ t e. let z : ◌≡◌ {A = ℕ} 0 1 = cc in omega arith) (λ t e. ltb-false n shift t)

-- Two spare sides, shifted up: where the lesser is below the shift one side is too short, and else both are enough.
lesser_short : (w h a b : ℕ) → lesser (w + shift - a) (h + shift - b) < shift → a ≤ w → h < b
unfolding lesser
lesser_short w h a b =
    pick_elim (λ (n : ℕ). n < shift → a ≤ w → h < b) (leb (w + shift - a) (h + shift - b)) _ _ (λ t l e. omega arith) (λ t l e. omega arith)

lesser_enough : (w h a b : ℕ) → shift ≤ lesser (w + shift - a) (h + shift - b)
    → (a ≤ w) × (b ≤ h) × (lesser (w + shift - a) (h + shift - b) - shift ≡ lesser (w - a) (h - b))
unfolding lesser
lesser_enough w h a b =
    pick_elim (λ (n : ℕ). shift ≤ n → (a ≤ w) × (b ≤ h) × (n - shift ≡ lesser (w - a) (h - b))) (leb (w + shift - a) (h + shift - b)) _ _
    (λ t l. let z = leb-true (w + shift - a) (h + shift - b) t in (omega arith, omega arith, rw (le-leb (w - a) (h - b) (omega arith)) (omega arith)))
    (λ t l. let z = leb-false (w + shift - a) (h + shift - b) t in (omega arith, omega arith, rw (lt-leb (w - a) (h - b) (omega arith)) (omega arith)))

-- One test of the shifted score asks of both sides.
module _ (s : Scan) (r : Rectangle) (q : Query) (n : ℕ) (e : n ≡ shifted_score r q) where
  pub short_passes : n < shift → weighed s r q ≡ passed s
  unfolding weighed shifted_score
  short_passes h =
      let f = lesser_short (width_of r) (height_of r) q.width q.height (rw e at h) in
      pick_elim (λ (t : Scan). t ≡ passed s) (ltb (width_of r) q.width) _ _ (λ t. refl)
      (λ t. rw (lt-ltb (height_of r) q.height (f (ltb-false (width_of r) q.width t))))

  enough_scores : shift ≤ n → weighed s r q ≡ scored s q (n - shift)
  unfolding weighed shifted_score
  enough_scores h =
      let f = lesser_enough (width_of r) (height_of r) q.width q.height (rw e at h) in
      rw (le-ltb (width_of r) q.width f.0, le-ltb (height_of r) q.height f.1, e, f.2)

  -- A score of nothing ends the scan.
  pub exact_ends : n ≡ shift → ended s ≡ weighed s r q
  exact_ends h = rw (enough_scores (omega arith), h)

  -- Any other is kept exactly where it beats the best so far.
  module _ (o : Open s q) (l : n < 8589934592) (d : n ≡ shift → ⊥) where
    weighs : weighed s r q ≡ pick (beats s.score n q.worst) (kept s (n - shift)) (passed s)
    unfolding beats
    weighs =
        pick_elim (λ (b : Bool). weighed s r q ≡ pick b (kept s (n - shift)) (passed s)) (ltb n shift) _ _ (λ t. short_passes (ltb-true n shift t))
        (λ t.
        let m = ltb-false n shift t in
        rw (
          enough_scores m,
          ne_eqb (n - shift) 0 (λ z. d (omega arith)),
          open_better s.best s.score (n - shift) q.worst o (omega arith) (λ z. d (omega arith)),
        ))

    pub beaten_kept : beats s.score n q.worst ≡ true → kept s (n - shift) ≡ weighed s r q
    beaten_kept t = rw (weighs, t)

    pub unbeaten_passed : beats s.score n q.worst ≡ false → passed s ≡ weighed s r q
    unbeaten_passed t = rw (weighs, t)

-- A thinned list is as ready to be scanned as it was.
pub ready_thinned : {w : List ℕ} {l m : Bag} → Thinned w l m → Ready w l → Ready w m
ready_thinned {w} t r = record { within = omega (arith, t.table); entries = each_thinned (Lookable w) t r.entries }

-- The outcome p of a look at a place that is left.
module _ (w : List ℕ) (q : Query) (o p : Scanned) (h : o.scan.at < o.scan.len) (e : p ≡ look w q o) where
  -- It goes on, past an entry that doesn't suit or with a candidate in hand; it ends, or keeps the entry, where that suits; or it drops the entry.
  pub look_cases : (P : Scanned → Type 0)
      → ((Suits w q.width q.height (entry_at o) → o.scan.best ≡ Nothing → ⊥) → P (scanned (passed o.scan) o.table))
      → (Suits w q.width q.height (entry_at o) → P (scanned (ended o.scan) o.table))
      → (Suits w q.width q.height (entry_at o) → (score : ℕ) → P (scanned (kept o.scan score) o.table))
      → (free_entry w (entry_at o) ≡ false → P (dropped o)) → P p
  unfolding look
  look_cases P pass end keep drop =
      rw e
      (pick_elim P (free_entry w (entry_at o)) _ _
      (λ f.
      let free = same_kind_equal _ _ f in
      weighed_cases (λ (s : Scan). P (scanned s o.table)) o.scan (node_at w (slot (entry_at o))).rect q
      (λ n. pass (λ z. n z.wide z.tall))
      (λ a b. end (record { free = free; wide = a; tall = b }))
      (λ a b. keep (record { free = free; wide = a; tall = b }) _)) drop)

  -- A look leaves fewer places.
  pub look_left : left p < left o
  look_left = look_cases (λ (p : Scanned). left p < left o) (λ n. omega arith) (λ z. omega arith) (λ z k. omega arith) (λ d. omega arith)

  -- A look thins the list.
  pub look_thins : o.scan.len ≤ length o.table → Thinned w (list_in o) (list_in p)
  look_thins b =
      look_cases (λ (p : Scanned). Thinned w (list_in o) (list_in p)) (λ n. thinned_itself) (λ z. thinned_itself) (λ z k. thinned_itself)
      (dead_removed w (list_in o) o.scan.at h b)

  -- A look leaves the list ready to be scanned.
  pub look_ready : Ready w (list_in o) → Ready w (list_in p)
  look_ready r = ready_thinned (look_thins r.within) r

  -- A look that leaves no candidate leaves the score that the scan opened with.
  pub look_open : Open o.scan q → Open p.scan q
  look_open f =
      look_cases (λ (p : Scanned). Open p.scan q) (λ n. f) (λ z e. let z : ◌≡◌ {A = ℕ} 0 1 = cc in omega arith)
      (λ z k e. let z : ◌≡◌ {A = ℕ} 0 1 = cc in omega arith) (λ d. f)

-- Looks past the last place change nothing.
pub looking_past : (w : List ℕ) (q : Query) (k : ℕ) (o : Scanned) → o.scan.len ≤ o.scan.at → looking w q k o ≡ o
unfolding looking
looking_past w q zero o h = refl
looking_past w q (suc k) o h = rw (le-ltb _ _ h)

-- More looks than places left change nothing.
pub looking_enough : (w : List ℕ) (q : Query) (j k : ℕ) (o : Scanned) → left o ≤ j → left o ≤ k → looking w q j o ≡ looking w q k o
unfolding looking
looking_enough w q zero k o h g = sym (looking_past w q k o (omega arith))
looking_enough w q (suc j) zero o h g = looking_past w q (suc j) o (omega arith)
looking_enough w q (suc j) (suc k) o h g =
    pick_elim (λ (p : Scanned). p ≡ looking w q (suc k) o) (ltb o.scan.at o.scan.len) _ _
    (λ t. let m = look_left w q o (look w q o) (ltb-true _ _ t) refl in rw t (looking_enough w q j k (look w q o) (omega arith) (omega arith)))
    (λ t. rw t)

-- One turn of the scan's loop: the looks that are left lead where they led before it.
pub looking_on : (w : List ℕ) (q : Query) (o p : Scanned) → o.scan.at < o.scan.len → p ≡ look w q o
    → looking w q (left p) p ≡ looking w q (left o) o
unfolding looking
looking_on w q o p h e = turn (left o - 1) (left o) (omega arith) refl
  where
    turn : (j k : ℕ) → k ≡ suc j → k ≡ left o → looking w q (left p) p ≡ looking w q k o
    turn j k s z = rw (s, lt-ltb _ _ h, ← e) (looking_enough w q (left p) j p (omega arith) (omega (arith, look_left w q o p h e)))

-- What every look keeps, the whole scan does.
pub looking_keeps : (w : List ℕ) (q : Query) (P : Scanned → Type 0) → ((o : Scanned) → o.scan.at < o.scan.len → P o → P (look w q o))
    → (k : ℕ) (o : Scanned) → P o → P (looking w q k o)
unfolding looking
looking_keeps w q P f zero o p = p
looking_keeps w q P f (suc k) o p =
    pick_elim P (ltb o.scan.at o.scan.len) _ _ (λ t. looking_keeps w q P f k (look w q o) (f o (ltb-true _ _ t) p)) (λ t. p)

-- As many looks as there are places left come to the last place.
pub looking_ends : (w : List ℕ) (q : Query) (k : ℕ) (o : Scanned) → left o ≤ k → (looking w q k o).scan.len ≤ (looking w q k o).scan.at
unfolding looking
looking_ends w q zero o h = omega arith
looking_ends w q (suc k) o h =
    pick_elim (λ (p : Scanned). p.scan.len ≤ p.scan.at) (ltb o.scan.at o.scan.len) _ _
    (λ t. looking_ends w q k (look w q o) (omega (arith, look_left w q o (look w q o) (ltb-true _ _ t) refl)))
    (λ t. ltb-false _ _ t)

-- A scan thins the list.
pub looking_thins : (w : List ℕ) (q : Query) (k : ℕ) (o : Scanned) → o.scan.len ≤ length o.table → Thinned w (list_in o) (list_in (looking w q k o))
looking_thins w q k o b =
    looking_keeps w q (λ (p : Scanned). Thinned w (list_in o) (list_in p))
    (λ p h t. thinned_twice t (look_thins w q p (look w q p) h refl (omega (arith, t.table, t.shorter)))) k o thinned_itself

-- The corners of a Free entry are in order.
pub entry_corners : (w : List ℕ) (x : ℕ) (n : Node) → n ≡ node_at w (slot x) → Lookable w x → same_kind n.kind Free ≡ true
    → (n.rect.x0 ≤ n.rect.x1) × (n.rect.y0 ≤ n.rect.y1)
entry_corners w x n en l f = let e = same_kind_equal _ _ (rw en at f) in (rw en (l.wide e), rw en (l.tall e))

-- One look, by what its calls ensure: of the entry's node, and of the weighing or the removal.
module _ (w : List ℕ) (q : Query) (o : Scanned) (n : Node) (en : n ≡ node_at w (slot (entry_at o))) where
  pub look_free : (s : Scan) → same_kind n.kind Free ≡ true → s ≡ weighed o.scan n.rect q → scanned s o.table ≡ look w q o
  unfolding look
  look_free s f e = rw (← en, f, e)

  pub look_dead : (b : Bag) → same_kind n.kind Free ≡ false → b ≡ removed (list_in o) o.scan.at
      → scanned (record { len = b.len; at = o.scan.at; best = o.scan.best; place = o.scan.place; score = o.scan.score }) b.table ≡ look w q o
  unfolding look
  look_dead b f e = rw (← en, f, e)
