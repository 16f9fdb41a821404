-- The laws by which allocate is proved.
-- Assumes nothing.
use Rattle.std.specs.Prelude.{◌≡◌, refl, Result, Ok, Err, ℕ, ◌<◌, ◌^◌}
use Rattle.std.proofs.Common.{ap}
use Rattle.geometry.specs.Sides.{setup_of, ValidSetup}
use Rattle.geometry.specs.SideLaws.{valid_setup_lem}
use Rattle.geometry.specs.declared.Extent.{Extent}
use Rattle.geometry.specs.declared.Setup.{Setup}
use Rattle.geometry.specs.declared.Size.{Size}
use Rattle.rounding.specs.Rounding.{request_of}
use Rattle.refusals.specs.Refusals.{number_of, answer_of}
use Rattle.refusals.specs.declared.Refusal.{Refusal}
use Rattle.refusals.specs.declared.Refusal.TheVariants.{NotPositive, TooLarge}
use Rattle.steps.specs.State.{State}
use Rattle.sound.specs.Sound.{Sound}
use Rattle.outcomes.specs.Given.{given}
use Rattle.audit.specs.Answers.{Answers}
use Rattle.audit.specs.Audited.{Checked}
use Rattle.audit.proofs.AnswerLaws.{answers_done}
use Rattle.grants.specs.Grants.{Grant, refused, granted}
use Rattle.taking.specs.Allocations.{grant_by}
use Rattle.taking.specs.declared.Allocation.{Allocation}
use Rattle.allocate.specs.Allocate.{no_crop, crop_of, allocated_for, allocated, leaves, AllocateCall}

-- What an outcome leaves is what its grant does.
left_by : (a : Result Allocation Refusal) (u : State) → given (answer_of a) (crop_of a) u ≡ leaves (grant_by a u)
left_by (Ok a) u = refl
left_by (Err e) u = refl

-- Sound tables have a valid setup.
pub sound_setup : (s : State) (t : Setup) → Sound s
    → (t ≡ setup_of s.head.sheet s.head.options) × (t.alignment.width < 2 ^ 31) × (t.alignment.height < 2 ^ 31) → ValidSetup t
unfolding setup_of
sound_setup s t S (e, w, h) = rw e (valid_setup_lem s.head.sheet s.head.options S.rule1.valid (rw e at w) (rw e at h))

module _ {s : State} {k : ℕ} (c : Checked s k) (z : k ≡ 0) (size : Size) (t : Setup) (r : Result Extent Refusal) (told : t ≡ setup_of s.head.sheet s.head.options)
    (asked : r ≡ request_of t size) where
  -- What each kind of request leaves.
  goes : (g : Grant) → g ≡ allocated_for s r → AllocateCall size s (leaves g)
  unfolding allocated
  goes g e = answers_done c z (ap leaves (rw (← told, ← asked) e))

  pub leaves_refused : (e : Refusal) → r ≡ Err e → AllocateCall size s (given (number_of e) no_crop s)
  unfolding allocated_for
  leaves_refused e q = goes (refused (number_of e) s) (rw q)

  pub leaves_4 : r ≡ Err NotPositive → AllocateCall size s (given 4 no_crop s)
  leaves_4 q = leaves_refused NotPositive q

  pub leaves_5 : r ≡ Err TooLarge → AllocateCall size s (given 5 no_crop s)
  leaves_5 q = leaves_refused TooLarge q

  pub leaves_rest : (e : Extent) → r ≡ Ok e → (g : Grant) → g ≡ granted s e → AllocateCall size s (leaves g)
  unfolding allocated_for
  leaves_rest e q g h = goes g (rw q h)

  pub leaves_outcome : (e : Extent) → r ≡ Ok e → (a : Result Allocation Refusal) (u : State) → grant_by a u ≡ granted s e
      → AllocateCall size s (given (answer_of a) (crop_of a) u)
  leaves_outcome e q a u h = rw (left_by a u) (leaves_rest e q (grant_by a u) h)
