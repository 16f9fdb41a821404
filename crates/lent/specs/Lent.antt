-- The lengths of the lent tables: answer 1 is given exactly when one is out of range.
-- Assumes nothing.
use Rattle.std.specs.Prelude.{◌≡◌, Bool, ◌&&◌, not, ℕ, ◌*◌, ◌≤◌, ◌<◌, length, eqb, leb}
use Rattle.steps.specs.State.{State}

-- A free list has a lent table of at least N and at most 16,384 entries.
unfoldable pub list_length : ℕ → ℕ → Bool
list_length slots entries = leb slots entries && leb entries 16384

-- N slots, 1 to 4,096, live in a table of eight words each; the generation table has N bytes.
unfoldable pub lent_lengths : ℕ → ℕ → ℕ → ℕ → ℕ → Bool
lent_lengths words slots small medium large =
    not (eqb slots 0) &&
    (leb slots 4096 &&
    (eqb words (slots * 8) && (list_length slots small && (list_length slots medium && list_length slots large))))

-- The tables of a state have lengths in range.
abbrev pub lent : State → Bool
lent s = lent_lengths (length s.words) (length s.generations) (length s.small) (length s.medium) (length s.large)

-- The same in words: a list table of at least N and at most 16,384 entries,
pub record ListLent (slots entries : ℕ) : Type 0 where
  pub enough : slots ≤ entries
  pub few : entries ≤ 16384

-- and N slots, 1 to 4,096, in tables of such lengths (`lent_yes`, `yes_lent`).
pub record Lent (w g a b c : ℕ) : Type 0 where
  pub some : 0 < g
  pub few : g ≤ 4096
  pub eight : w ≡ g * 8
  pub small : ListLent g a
  pub medium : ListLent g b
  pub large : ListLent g c

-- The same of the tables of a state.
abbrev pub LentOf : State → Type 0
LentOf s = Lent (length s.words) (length s.generations) (length s.small) (length s.medium) (length s.large)
