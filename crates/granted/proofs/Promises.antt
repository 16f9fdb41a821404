-- THE PROMISES of allocate, for a rounded request with sides above 0 on sound tables whose lengths are in range.
-- Assumes nothing but that.
use Rattle.std.specs.Prelude.{ℕ, Option, Some, None, ◌<◌, ◌≡◌, refl, ◌↔◌}
use Rattle.std.proofs.Common.{arith}
use Rattle.geometry.specs.declared.Extent.{Extent}
use Rattle.slots.specs.declared.AllocIndex.{AllocIndex}
use Rattle.choices.specs.declared.Chosen.{Chosen}
use Rattle.steps.specs.State.{State}
use Rattle.sound.specs.Sound.{Sound}
use Rattle.lent.specs.Lent.{LentOf}
use Rattle.grants.specs.Grants.{taken, granted}
use Rattle.granted.specs.Terms.{Roomy, Chooses, TooFew, Enough, Refuses, GivesOut}
use Rattle.granted.proofs.Cases.{search_of, one_chosen, not_nothing, grant_cases, chosen_picked, nothing_when, refused_sound, refused_lent, refused_refuses, cut_leaves, cut_gives_out}

module _ (s : State) (e : Extent) (L : LentOf s) (S : Sound s) (w : 0 < e.width) (h : 0 < e.height) where
  -- SOUND. Whatever the answer, the tables are sound after it, and their lengths in range.
  pub grant_keeps_sound : Sound (granted s e).after × LentOf (granted s e).after
  grant_keeps_sound =
      grant_cases s e (λ g. Sound g.after × LentOf g.after)
      (λ c. (refused_sound s e L S 6, refused_lent s e L S 6)) (λ i b k c n. (refused_sound s e L S 7, refused_lent s e L S 7))
      (λ i b k c n. let G = cut_leaves s e L S w h i b k c n in (G.sound, G.lent))

  -- THE SEARCH IS EXACT. It chooses a slot exactly where some Free rectangle is as wide and as tall as the request, and that of
  -- the chosen slot is.
  pub chosen_is_roomy : (i : AllocIndex) → Chooses s e i → Roomy s e i.0
  chosen_is_roomy i (b, k, c) =
      let p = chosen_picked s e L S i b k c in
      let f = p.fits in
      (p.live.0, record { free = p.free; wide = omega arith; tall = omega arith })

  pub roomy_is_chosen : (x : ℕ) → Roomy s e x → (i : AllocIndex) × Chooses s e i
  roomy_is_chosen x r = go (search_of s e).chosen refl
    where
      go : (c : Option Chosen) → (search_of s e).chosen ≡ c → (i : AllocIndex) × Chooses s e i
      go None q = absurd ((nothing_when s e L S).0 q x r)
      go (Some c) q = (c.slot, (c.bucket, c.place, q))

  -- 6: no Free rectangle is as wide and as tall as the request.
  pub grant_gives_6 : ((granted s e).answer ≡ 6) ↔ ((x : ℕ) → Roomy s e x → ⊥)
  unfolding taken
  grant_gives_6 =
      grant_cases s e (λ g. (g.answer ≡ 6) ↔ ((x : ℕ) → Roomy s e x → ⊥)) (λ c. (λ _. (nothing_when s e L S).0 c, λ _. refl))
      (λ i b k c n. (λ q. absurd (omega arith), λ r. absurd (not_nothing c ((nothing_when s e L S).1 r))))
      (λ i b k c n. (λ q. absurd (omega arith), λ r. absurd (not_nothing c ((nothing_when s e L S).1 r))))

  -- 7: some Free rectangle is, and fewer slots are spare than the cut of the chosen one needs.
  pub grant_gives_7 : ((granted s e).answer ≡ 7) ↔ ((i : AllocIndex) × Chooses s e i × TooFew s e i)
  unfolding taken
  grant_gives_7 =
      grant_cases s e (λ g. (g.answer ≡ 7) ↔ ((i : AllocIndex) × Chooses s e i × TooFew s e i))
      (λ c. (λ q. absurd (omega arith), λ r. absurd (not_nothing r.1.2 c)))
      (λ i b k c n. (λ _. (i, (b, k, c), omega arith), λ _. refl))
      (λ i b k c n. (λ q. absurd (omega arith), λ r. absurd (let z = rw (one_chosen r.1.2 c) at r.2 in omega arith)))

  -- 0: some Free rectangle is, and enough slots are spare.
  pub grant_gives_0 : ((granted s e).answer ≡ 0) ↔ ((i : AllocIndex) × Chooses s e i × Enough s e i)
  unfolding taken
  grant_gives_0 =
      grant_cases s e (λ g. (g.answer ≡ 0) ↔ ((i : AllocIndex) × Chooses s e i × Enough s e i))
      (λ c. (λ q. absurd (omega arith), λ r. absurd (not_nothing r.1.2 c)))
      (λ i b k c n. (λ q. absurd (omega arith), λ r. absurd (let z = rw (one_chosen r.1.2 c) at r.2 in omega arith)))
      (λ i b k c n. (λ _. (i, (b, k, c), omega arith), λ _. refl))

  -- 6 and 7 leave the lists as the search left them, with the chosen entry still in, and change nothing else.
  pub refusal_changes_lists_alone : ((granted s e).answer ≡ 0 → ⊥) → Refuses s e (granted s e)
  unfolding taken
  refusal_changes_lists_alone =
      grant_cases s e (λ g. (g.answer ≡ 0 → ⊥) → Refuses s e g) (λ c _. refused_refuses s e L S 6) (λ i b k c n _. refused_refuses s e L S 7)
      (λ i b k c n q. absurd (q refl))

  -- 0 gives out a ticket that was not live, for a rectangle of the request's size inside a Free one and apart from every Alloc one;
  -- every other live ticket stays live with its rectangle, and no other becomes live.
  pub grant_gives_out : (granted s e).answer ≡ 0 → GivesOut s e (granted s e)
  grant_gives_out =
      grant_cases s e (λ g. g.answer ≡ 0 → GivesOut s e g) (λ c q. absurd (omega arith)) (λ i b k c n q. absurd (omega arith))
      (λ i b k c n _. cut_gives_out s e L S w h i b k c n)
