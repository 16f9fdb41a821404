-- The free lists through a step of a grow.
-- Assumes nothing.
use Rattle.std.specs.Prelude.{ℕ, ◌≤◌, ◌<◌, ◌≡◌, List, [], ◌∷◌}
use Rattle.std.proofs.Common.{sym, ◌∙◌, ap, inl}
use Rattle.geometry.specs.declared.Setup.{Setup}
use Rattle.slots.specs.declared.NodeKind.TheVariants.{Free}
use Rattle.buckets.specs.FreeLists.{Lists, forgotten}
use Rattle.buckets.specs.ForgetLaws.{forgotten_others, forgotten_within, forgotten_length, each_forgotten}
use Rattle.sound.specs.View.{Seen, seen}
use Rattle.forest.specs.Pigeon.{In}
use Rattle.granted.specs.Filed.{filed_more}
use Rattle.granted.specs.Stocked.{Stocked, bucket_at}

-- FORGETTING slot i, which alone changes: it is still to be pushed.
pub forget_stocks : {w w' : List ℕ} {n : ℕ} {s : Setup} {was l : Lists} (i : ℕ) → Stocked w n s was l []
    → ((x : ℕ) → (In x (i ∷ []) → ⊥) → seen w' x ≡ seen w x) → Stocked w' n s was (forgotten i l) (i ∷ [])
forget_stocks {w} {w'} {n} {s} {was} {l} i K same = record {
  filed = record {
    within = forgotten_within i l K.filed.within;
    tables = λ b. forgotten_length i l K.filed.within b ∙ K.filed.tables b;
    entries = each_forgotten i l K.filed.within (λ x. x < n) K.filed.entries;
  };
  listed = λ x h f m. let e = same x m in
      rw (e, forgotten_others i l K.filed.within x (λ q. m (inl q)) (bucket_at w s x)) (K.listed x h (sym (ap (λ (z : Seen). z.kind) e) ∙ f) (λ z. z));
}

-- NEW SLOTS: each slot Free now is still to be pushed, or was Free with its rectangle.
pub more_stocks : {w w' : List ℕ} {n n' : ℕ} {s : Setup} {was l : Lists} (still : List ℕ) → Stocked w n s was l [] → n ≤ n'
    → ((x : ℕ) → x < n' → (seen w' x).kind ≡ Free → (In x still → ⊥) → (x < n) × ((seen w x).kind ≡ Free) × ((seen w' x).rect ≡ (seen w x).rect))
    → Stocked w' n' s was l still
more_stocks {w} {w'} {n} {n'} {s} {was} {l} still K g old = record {
  filed = filed_more g K.filed;
  listed = λ x h f m. let o = old x h f m in rw o.2 (K.listed x o.0 o.1 (λ z. z));
}
