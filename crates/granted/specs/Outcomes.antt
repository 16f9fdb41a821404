-- The tables that an allocate leaves are sound, and their lengths in range: those of a refusal, and those of a cut.
-- Assumes nothing.
use Rattle.std.specs.Prelude.{ℕ, ◌≡◌, true, List, [], length}
use Rattle.std.proofs.Common.{sym, subst, ◌∙◌, ap, inl, inr, ⊎_elim, arith}
use Rattle.std.proofs.lemmas.Bool.{false≢true}
use Rattle.std.proofs.Math.Decide.{ℕ_discrete}
use Rattle.geometry.specs.declared.Bucket.{Bucket}
use Rattle.geometry.specs.declared.Bucket.TheVariants.{Small, Medium, Large}
use Rattle.geometry.specs.declared.Rectangle.{Rectangle}
use Rattle.buckets.specs.FreeLists.{Lists, list_of}
use Rattle.steps.specs.State.{State, lists_of}
use Rattle.steps.specs.declared.Head.{Head}
use Rattle.sound.specs.View.{link_of, seen, in_use, Live}
use Rattle.sound.specs.Sound.{Sound, SpareChain, sheet_of}
use Rattle.forest.specs.Pigeon.{In}
use Rattle.lent.specs.Lent.{LentOf}
use Rattle.grants.specs.Grants.{with_lists}
use Rattle.granted.specs.NewSlots.{Taking, spare_again}
use Rattle.granted.specs.Carved.{Piece, Carving, written_used}
use Rattle.granted.specs.SoundFacts.{setup_at}
use Rattle.granted.specs.Stocked.{Stocked, stocked_entry}

-- Tables as long as those of a state, with its lists' tables as long as they were.
pub outcome_lent : (s : State) (h : Head) (w g : List ℕ) (l : Lists) → LentOf s → length w ≡ length s.words → length g ≡ length s.generations
    → ((b : Bucket) → length (list_of b l).table ≡ length (list_of b (lists_of s)).table) → LentOf (with_lists h w g l)
outcome_lent s h w g l L a b t = rw (a, b, t Small, t Medium, t Large) L

-- A refusal leaves all but the lists.
pub refusal_sound : {s : State} {l : Lists} → Sound s → Stocked s.words s.head.count (setup_at s) (lists_of s) l []
    → Sound (with_lists s.head s.words s.generations l)
refusal_sound {s} S K = record {
  rule1 = record {
    some = S.rule1.some;
    fits = S.rule1.fits;
    valid = S.rule1.valid;
    within = K.filed.within;
    root = S.rule1.root;
    entries = K.filed.entries;
  };
  rule2 = S.rule2;
  rule3 = S.rule3;
  rule4 = S.rule4;
  rule5 = S.rule5;
  rule6 = stocked_entry K;
  rule7 = S.rule7;
}

module _ {s : State} (w' : List ℕ) {g' new : List ℕ} {h' : Head} {i a : ℕ} {pieces : List Piece} {q : Rectangle} (S : Sound s)
    (T : Taking s.words s.generations s.head new g' h') (lv : Live (seen s.words) s.head.count i)
    (C : Carving (seen s.words) (seen w') s.head.count h'.count s.head.root.0 i a new pieces q) where
  -- RULE 2.
  chain_after : SpareChain (seen w') h'.count (link_of h'.spare)
  chain_after =
      spare_again (seen s.words) (seen w') h'.count (link_of h'.spare) new T.spare (λ j m. written_used C j (inr m)) (λ j m. same j m (ℕ_discrete j i))
      (λ j d m. ap (λ z. z.next) (C.others j (⊎_elim (λ e. false≢true (sym d.1 ∙ subst (λ x. in_use (seen s.words x).kind ≡ true) (sym e) lv.1)) m)))
    where
      same : (j : ℕ) → (In j new → ⊥) → Dec (j ≡ i) → in_use (seen w' j).kind ≡ in_use (seen s.words j).kind
      same j m (yes e) = written_used C j (inl e) ∙ sym (subst (λ x. in_use (seen s.words x).kind ≡ true) (sym e) lv.1)
      same j m (no e) = ap (λ z. in_use z.kind) (C.others j (⊎_elim e m))

  -- A cut, with its lists, leaves sound tables.
  pub cut_sound : {l : Lists} → Stocked w' h'.count (setup_at s) (lists_of s) l [] → Sound (with_lists h' w' g' l)
  cut_sound {l} K =
      let sheet : h'.sheet ≡ s.head.sheet = ap (λ (z : Head). z.sheet) T.head in
      let options : h'.options ≡ s.head.options = ap (λ (z : Head). z.options) T.head in
      let root : h'.root ≡ s.head.root = ap (λ (z : Head). z.root) T.head in
      record {
        rule1 = record {
          some = omega (arith, S.rule1.some, T.taken.grow);
          fits = rw T.bytes T.fits;
          valid = rw (sheet, options) S.rule1.valid;
          within = K.filed.within;
          root = rw root (omega (arith, S.rule1.root, T.taken.grow));
          entries = K.filed.entries;
        };
        rule2 = chain_after;
        rule3 = rw root C.kept.links;
        rule4 = C.merged;
        rule5 = rw (root, sheet) (C.kept.places (sheet_of s.head.sheet) S.rule5);
        rule6 = rw (sheet, options) (stocked_entry K);
        rule7 = C.kept.lasts S.rule7;
      }
