-- LARGER SHEETS (request P6). Start, clear, reset and grow don't give 3 for a size whose sides are above 0, however long: of the sides that arrive, each below
-- 2^31, only 0 and below are refused. Grow, which comes to 3 only past 11, never gives it.
-- Assumes nothing.
use Rattle.std.specs.Prelude.{◌≡◌, true, false, ◌↔◌, ℕ, ◌<◌, ◌^◌}
use Rattle.std.proofs.Common.{sym, ◌∙◌, true≢false, inl, inr, arith}
use Rattle.std.specs.Int.Signed.{le_z}
use Rattle.std.proofs.lemmas.Bool.{not-true}
use Rattle.geometry.specs.Sides.{natural, valid_setup}
use Rattle.geometry.specs.SideLaws.{sheet_side_lem, any_side}
use Rattle.geometry.specs.TestLaws.{and_true_each, above_zero}
use Rattle.geometry.specs.declared.AllocatorOptions.{AllocatorOptions}
use Rattle.geometry.specs.declared.Size.{Size}
use Rattle.steps.specs.State.{State}
use Rattle.sound.specs.Sound.{Sound}
use Rattle.grow.specs.Grow.{Smaller}
use Rattle.grow.specs.GrowWhen.{grow_gives_3}
use Rattle.promises.specs.Calls.{Grow, Leaves}

-- Both sides are numbers of 32 bits, as they arrive.
abbrev pub Arrives : Size → Type 0
Arrives z = (natural z.width < 2 ^ 31) × (natural z.height < 2 ^ 31)

-- Options that no sheet is refused for: alignment sides above 0, and the large threshold not below the small one.
pub record GoodOptions (o : AllocatorOptions) : Type 0 where
  pub align_width : 0 < natural o.alignment.width
  pub align_height : 0 < natural o.alignment.height
  pub thresholds : le_z o.small o.large ≡ true

-- ONLY 0 AND BELOW. A setup is valid, so that start, clear and reset don't give 3, exactly where both sides of the sheet are above 0 and the options are good.
pub valid_exactly : (z : Size) (o : AllocatorOptions) → Arrives z → (valid_setup z o ≡ true) ↔ ((0 < natural z.width) × (0 < natural z.height) × GoodOptions o)
unfolding valid_setup
valid_exactly z o (w, t) = (
  λ h.
      let a = and_true_each _ _ h in
      let b = and_true_each _ _ a.1 in
      let c = and_true_each _ _ b.1 in
      let d = and_true_each _ _ c.1 in (
        (any_side _ w).0 a.0,
        (any_side _ t).0 b.0,
        record { align_width = (above_zero _).0 (not-true _ c.0); align_height = (above_zero _).0 (not-true _ d.0); thresholds = d.1 },
      ),
  λ h. rw ((any_side _ w).1 h.0, (any_side _ t).1 h.1, (above_zero _).1 h.2.align_width, (above_zero _).1 h.2.align_height, h.2.thresholds),
)

-- GROW NEVER GIVES 3.
pub grow_never_3 : (z : Size) (s : State) (k : ℕ) (t : State) → Arrives z → Leaves (Grow z) s k t → k ≡ 3 → ⊥
unfolding valid_setup
grow_never_3 z s k t a call q =
    let (_, S, (large, bad)) = (grow_gives_3 s z call).0 q in
    true≢false (sym (good S large) ∙ bad)
  where
    -- The sheet is no smaller than one that is valid, and the options are the same.
    good : Sound s → (Smaller s z → ⊥) → valid_setup z s.head.options ≡ true
    good S large =
        let b = and_true_each _ _ S.rule1.valid in
        let c = and_true_each _ _ b.1 in
        let w = ((sheet_side_lem _).0 b.0).0 in
        let h = ((sheet_side_lem _).0 c.0).0 in
        rw (
          (any_side _ a.0).1 (higher (natural s.head.sheet.width) (natural z.width) w (λ l. large (inl l))),
          (any_side _ a.1).1 (higher (natural s.head.sheet.height) (natural z.height) h (λ l. large (inr l))),
        ) c.1
      where
        higher : (m n : ℕ) → 0 < m → (n < m → ⊥) → 0 < n
        higher m n p q = omega (arith, q)
